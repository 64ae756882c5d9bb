use Rattle.std.proofs.Common.{◌≡◌, ◌<◌, ◌≤◌, false, List, length, Some, sym, ap, ◌∙◌, arith}
use Rattle.refusal.specs.Told.{Told}
use Rattle.sheet.specs.Checks.{plain}
use Rattle.shelf.specs.Listed.{listed}
use Rattle.shelf.specs.Slots.{numbers_of}
use Rattle.sink.specs.Held.{no_room_of}
use Rattle.sink.specs.Items.{cost_of, insts_in, marks_in}
use Rattle.sink.specs.declared.item.Item.{Item}
use Rattle.sink.specs.declared.sink.Counts.{Counts}
use Rattle.plainbook.specs.Plain.{priced, fun, items_of, is_full}
use Rattle.plainbook.proofs.Adding.{why_taken, why_full, why_dear, why_none, full_count, full_insts, full_notes, not_full, entry_is}
use Rattle.plainbook.proofs.Pieces.{price_is, marks_fun}
use Rattle.book.proofs.book.Book.admit.Goals as goal

pub returns-in-Some : goal.returns-in-Some
returns-in-Some g c = (
  why_taken (priced g.S.InstPrice.Price.units g.S.NotePrice.Price.units) _ _ (fun (plain c.args.sheet) c.args.body.now) c.in-Some.slot c.in-Some.ensures
      ∙ ap (λ (t : Told). Some t) (sym c.refusal.ensures),
  tt,
)

pub returns-then-len-ge-FUNCTION_COUNT : goal.returns-then-len-ge-FUNCTION_COUNT
returns-then-len-ge-FUNCTION_COUNT g c = (
  why_full (priced g.S.InstPrice.Price.units g.S.NotePrice.Price.units) (g.S.Sink.held c.args.self.now.sink) (numbers_of (listed c.args.self.now.shelf)) (fun (plain c.args.sheet) c.args.body.now) c.in_default.ensures
      (full_count (g.S.Sink.held c.args.self.now.sink) (listed c.args.self.now.shelf) (fun (plain c.args.sheet) c.args.body.now) c.len.result c.len.ensures c.if-len-ge-FUNCTION_COUNT.true)
      ∙ ap (λ (t : Told). Some t) (sym c.refusal-then-len-ge-FUNCTION_COUNT.ensures),
  tt,
)

pub returns-then-past : goal.returns-then-past
returns-then-past g c = (
  why_full (priced g.S.InstPrice.Price.units g.S.NotePrice.Price.units) (g.S.Sink.held c.args.self.now.sink) (numbers_of (listed c.args.self.now.shelf)) (fun (plain c.args.sheet) c.args.body.now) c.in_default.ensures
      (full_insts (g.S.Sink.held c.args.self.now.sink) (numbers_of (listed c.args.self.now.shelf)) (plain c.args.sheet) c.args.body.now
      c.counts-held.result.insts c.count_items-opening.result.insts c.count_items-closing.result.insts
      (ap (λ (x : Counts). x.insts) c.counts-held.ensures)
      (c.count_items-opening.ensures.insts ∙ ap (λ (xs : List Item). length (insts_in xs)) c.requires.prologue_value)
      (c.count_items-closing.ensures.insts ∙ ap (λ (xs : List Item). length (insts_in xs)) c.requires.epilogue_value)
      (sym c.past.ensures ∙ c.if-past.true))
      ∙ ap (λ (t : Told). Some t) (sym c.refusal-then-past.ensures),
  tt,
)

pub returns-then-past-2 : goal.returns-then-past-2
returns-then-past-2 g c = (
  why_full (priced g.S.InstPrice.Price.units g.S.NotePrice.Price.units) (g.S.Sink.held c.args.self.now.sink) (numbers_of (listed c.args.self.now.shelf)) (fun (plain c.args.sheet) c.args.body.now) c.in_default.ensures
      (full_notes (g.S.Sink.held c.args.self.now.sink) (numbers_of (listed c.args.self.now.shelf)) (plain c.args.sheet) c.args.body.now
      c.counts-held.result.notes c.count_items-opening.result.notes c.count_items-closing.result.notes
      (ap (λ (x : Counts). x.notes) c.counts-held.ensures)
      (c.count_items-opening.ensures.notes ∙ ap marks_in c.requires.prologue_value)
      (c.count_items-closing.ensures.notes ∙ ap marks_in c.requires.epilogue_value)
      (sym c.past-2.ensures ∙ c.if-past-2.true))
      ∙ ap (λ (t : Told). Some t) (sym c.refusal-then-past-2.ensures),
  tt,
)

pub returns-then-price-held : goal.returns-then-price-held
returns-then-price-held g c =
    let ai = c.count_items-opening.ensures.insts ∙ ap (λ (xs : List Item). length (insts_in xs)) c.requires.prologue_value in
    let bi = c.count_items-closing.ensures.insts ∙ ap (λ (xs : List Item). length (insts_in xs)) c.requires.epilogue_value in
    let an = c.count_items-opening.ensures.notes ∙ ap marks_in c.requires.prologue_value in
    let bn = c.count_items-closing.ensures.notes ∙ ap marks_in c.requires.epilogue_value in
    let full : is_full (g.S.Sink.held c.args.self.now.sink) (numbers_of (listed c.args.self.now.shelf)) (fun (plain c.args.sheet) c.args.body.now) ≡ false =
    not_full (g.S.Sink.held c.args.self.now.sink) (listed c.args.self.now.shelf) (plain c.args.sheet) c.args.body.now c.len.result
    c.counts-held.result.insts c.count_items-opening.result.insts c.count_items-closing.result.insts
    c.counts-held.result.notes c.count_items-opening.result.notes c.count_items-closing.result.notes
    c.len.ensures c.if-len-ge-FUNCTION_COUNT.false
    (ap (λ (x : Counts). x.insts) c.counts-held.ensures) ai bi (sym c.past.ensures ∙ c.if-past.false)
    (ap (λ (x : Counts). x.notes) c.counts-held.ensures) an bn (sym c.past-2.ensures ∙ c.if-past-2.false) in
    let room = ap (λ (x : Counts). x.room) c.counts-held.ensures in
    let price = price_is (priced g.S.InstPrice.Price.units g.S.NotePrice.Price.units) (plain c.args.sheet) c.args.body.now c.value.result c.value-2.result _ _ _ _ c.value.ensures.0 c.value-2.ensures.0 ai bi an bn in
    let t = c.if-price-held.true in
    let lt : (g.S.Sink.held c.args.self.now.sink).room < cost_of (priced g.S.InstPrice.Price.units g.S.NotePrice.Price.units) (items_of (fun (plain c.args.sheet) c.args.body.now)) = omega arith in (
      why_dear (priced g.S.InstPrice.Price.units g.S.NotePrice.Price.units) (g.S.Sink.held c.args.self.now.sink) (numbers_of (listed c.args.self.now.shelf)) (fun (plain c.args.sheet) c.args.body.now) c.in_default.ensures full lt
          ∙ ap (λ (t : Told). Some t) (sym (c.no_room.ensures ∙ ap no_room_of room)),
      tt,
    )

pub returns : goal.returns
returns g c =
    let ai = c.count_items-opening.ensures.insts ∙ ap (λ (xs : List Item). length (insts_in xs)) c.requires.prologue_value in
    let bi = c.count_items-closing.ensures.insts ∙ ap (λ (xs : List Item). length (insts_in xs)) c.requires.epilogue_value in
    let an = c.count_items-opening.ensures.notes ∙ ap marks_in c.requires.prologue_value in
    let bn = c.count_items-closing.ensures.notes ∙ ap marks_in c.requires.epilogue_value in
    let full : is_full (g.S.Sink.held c.args.self.now.sink) (numbers_of (listed c.args.self.now.shelf)) (fun (plain c.args.sheet) c.args.body.now) ≡ false =
    not_full (g.S.Sink.held c.args.self.now.sink) (listed c.args.self.now.shelf) (plain c.args.sheet) c.args.body.now c.len.result
    c.counts-held.result.insts c.count_items-opening.result.insts c.count_items-closing.result.insts
    c.counts-held.result.notes c.count_items-opening.result.notes c.count_items-closing.result.notes
    c.len.ensures c.if-len-ge-FUNCTION_COUNT.false
    (ap (λ (x : Counts). x.insts) c.counts-held.ensures) ai bi (sym c.past.ensures ∙ c.if-past.false)
    (ap (λ (x : Counts). x.notes) c.counts-held.ensures) an bn (sym c.past-2.ensures ∙ c.if-past-2.false) in
    let room = ap (λ (x : Counts). x.room) c.counts-held.ensures in
    let price = price_is (priced g.S.InstPrice.Price.units g.S.NotePrice.Price.units) (plain c.args.sheet) c.args.body.now c.value.result c.value-2.result _ _ _ _ c.value.ensures.0 c.value-2.ensures.0 ai bi an bn in
    let t = c.if-price-held.false in
    let le : cost_of (priced g.S.InstPrice.Price.units g.S.NotePrice.Price.units) (items_of (fun (plain c.args.sheet) c.args.body.now)) ≤ (g.S.Sink.held c.args.self.now.sink).room = omega arith in (
      why_none (priced g.S.InstPrice.Price.units g.S.NotePrice.Price.units) (g.S.Sink.held c.args.self.now.sink) (numbers_of (listed c.args.self.now.shelf)) (fun (plain c.args.sheet) c.args.body.now) c.in_default.ensures full le,
      entry_is (plain c.args.sheet) c.args.body.now c.counts-held.result.insts c.counts-held.result.notes _ _ c.count_items-opening.result.insts c.count_items-closing.result.insts _
          (ap (λ (x : Counts). x.insts) c.counts-held.ensures) (ap (λ (x : Counts). x.notes) c.counts-held.ensures) ai bi (omega (arith, marks_fun (plain c.args.sheet) c.args.body.now)),
    )
