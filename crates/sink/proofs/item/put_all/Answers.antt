use Rattle.std.proofs.Common.{ap, ◌∙◌, arith}
use mathlib.Core.Logic.{∥∥₁_elim}
use mathlib.Core.HLevel.{⊥_prop}
use Rattle.sink.proofs.Items.{read_at, not_refused, inst_fits, note_fits, inst_put, note_put}
use Rattle.sink.specs.Held.{Prices}
use Rattle.sink.proofs.item.put_all.Goals as goal
use Rattle.sink.proofs.item.put_all.Goals.{in-Inst+in_ok-put_inst-in-Inst, in-Note+in_ok-put_note-in-Note}

pub returns-in_err-put_inst-in-Inst : goal.returns-in_err-put_inst-in-Inst
returns-in_err-put_inst-in-Inst g c =
    let p : Prices = record { inst = g.S.InstPrice.Price.units; note = g.S.NotePrice.Price.units } in
    let f = inst_fits p _ _ c.args.items.now c.loop-item.item-index _ c.in-Inst.x c.loop-item-test.true c.in-Inst.is c.requires.bound c.loop-item.invariant in
    absurd (∥∥₁_elim c.requires.read ⊥_prop (λ a. not_refused c.in-Inst.x _ _ _ (read_at c.args.items.now c.loop-item.item-index _ c.in-Inst.x c.loop-item-test.true c.in-Inst.is a) f c.in_err-put_inst-in-Inst.ensures.1))

pub returns-in_err-put_note-in-Note : goal.returns-in_err-put_note-in-Note
returns-in_err-put_note-in-Note g c =
    let p : Prices = record { inst = g.S.InstPrice.Price.units; note = g.S.NotePrice.Price.units } in
    let f = note_fits p _ _ c.args.items.now c.loop-item.item-index _ c.in-Note.x c.loop-item-test.true c.in-Note.is c.requires.bound c.loop-item.invariant in
    let l = c.in_err-put_note-in-Note.ensures.0 in
    absurd (omega arith)

pub loop-item-preserved : goal.loop-item-preserved
loop-item-preserved g c =
    let p : Prices = record { inst = g.S.InstPrice.Price.units; note = g.S.NotePrice.Price.units } in
    elim c.match-item.branch [
      | in-Inst+in_ok-put_inst-in-Inst w ↦
          ap g.S.Sink.held w.sink-is ∙ inst_put p _ _ _ c.args.items.now c.loop-item.item-index _ w.in-Inst.x c.loop-item-test.true w.in-Inst.is c.loop-item.invariant w.in_ok-put_inst-in-Inst.ensures.2
      | in-Note+in_ok-put_note-in-Note w ↦
          ap g.S.Sink.held w.sink-is ∙ note_put p _ _ _ c.args.items.now c.loop-item.item-index _ w.in-Note.x c.loop-item-test.true w.in-Note.is c.loop-item.invariant w.in_ok-put_note-in-Note.ensures.1
    ]
