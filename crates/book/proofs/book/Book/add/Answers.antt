use Rattle.std.proofs.Common.{ap, ◌∙◌}
use Rattle.std.proofs.lemmas.Result.{err_from_is_err_and}
use Rattle.frame.specs.Pieces.{prologue, epilogue}
use Rattle.sheet.specs.Checks.{plain}
use Rattle.sheet.specs.declared.checked.CheckedSheet.{CheckedSheet}
use Rattle.plainbook.specs.Plain.{priced, fun}
use Rattle.plainbook.proofs.Adding.{add_bad_as, add_refused_as, add_done, none_fits}
use Rattle.plainbook.proofs.Claiming.{claimed}
use Rattle.plainbook.proofs.Pieces.{fits_by}
use Rattle.book.proofs.book.Book.add.Goals as goal

pub returns-in_err-checked-clause-moves : goal.returns-in_err-checked-clause-moves
returns-in_err-checked-clause-moves g c =
    let e = err_from_is_err_and c.from_residual.result c.from_residual.ensures.1 in
    λ r fs s. add_bad_as (priced g.S.InstPrice.Price.units g.S.NotePrice.Price.units) r _ _ fs c.args.sheet c.args.body.now c.from_residual.result e.0 _ e.1 e.2 s c.in_err-checked.ensures.0

pub returns-in_err-checked-clause-claims : goal.returns-in_err-checked-clause-claims
returns-in_err-checked-clause-claims g c = λ k fs s. claimed (priced g.S.InstPrice.Price.units g.S.NotePrice.Price.units) k _ _ fs s

pub returns-in_err-entry-clause-moves : goal.returns-in_err-entry-clause-moves
returns-in_err-entry-clause-moves g c =
    let e = err_from_is_err_and c.from_residual-in_err-entry.result c.from_residual-in_err-entry.ensures.1 in
    let k = c.in_ok-checked.ensures in
    λ r fs s. add_refused_as (priced g.S.InstPrice.Price.units g.S.NotePrice.Price.units) r _ _ fs c.args.sheet (plain c.in_ok-checked.checked) c.args.body.now c.from_residual-in_err-entry.result e.0 _ e.1 e.2 s k.0 k.1.0 c.in_err-entry.ensures.0

pub returns-in_err-entry-clause-claims : goal.returns-in_err-entry-clause-claims
returns-in_err-entry-clause-claims g c = λ k fs s. claimed (priced g.S.InstPrice.Price.units g.S.NotePrice.Price.units) k _ _ fs s

pub put_function-requires : goal.put_function-requires
put_function-requires g c =
    let same = c.compute_frame_layout-layout.ensures.sheet in
    let a = c.as_slice-3.ensures ∙ c.items_of-prologue.ensures.items in
    let b = c.as_slice-4.ensures ∙ c.items_of-epilogue.ensures.items in
    fits_by (priced g.S.InstPrice.Price.units g.S.NotePrice.Price.units) _ (plain c.in_ok-checked.checked) c.args.body.now _ _
    (a ∙ ap (λ (x : CheckedSheet). prologue (plain x)) same) (b ∙ ap (λ (x : CheckedSheet). epilogue (plain x)) same)
    (none_fits (priced g.S.InstPrice.Price.units g.S.NotePrice.Price.units) (g.S.Sink.held c.args.self.now.sink) _ (fun (plain c.in_ok-checked.checked) c.args.body.now) c.in_ok-entry.ensures.0)

pub returns-clause-moves : goal.returns-clause-moves
returns-clause-moves g c =
    let same = c.compute_frame_layout-layout.ensures.sheet in
    let a = c.as_slice-3.ensures ∙ c.items_of-prologue.ensures.items in
    let b = c.as_slice-4.ensures ∙ c.items_of-epilogue.ensures.items in
    let k = c.in_ok-checked.ensures in
    let e = c.in_ok-entry.ensures in
    λ r fs s.
    add_done (priced g.S.InstPrice.Price.units g.S.NotePrice.Price.units) r (g.S.Sink.held c.args.self.now.sink) _ _ _ fs c.args.sheet (plain c.in_ok-checked.checked) c.args.body.now c.in_ok-entry.entry c.len-slot.result _ _
    s k.0 k.1.0 k.1.1 e.0
    (a ∙ ap (λ (x : CheckedSheet). prologue (plain x)) same) (b ∙ ap (λ (x : CheckedSheet). epilogue (plain x)) same)
    c.in_ok-put_function.ensures e.1 c.push.ensures.list c.len-slot.ensures

pub returns-clause-claims : goal.returns-clause-claims
returns-clause-claims g c = λ k fs s. claimed (priced g.S.InstPrice.Price.units g.S.NotePrice.Price.units) k _ _ fs s
