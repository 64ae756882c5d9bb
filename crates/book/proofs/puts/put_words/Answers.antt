use Rattle.sink.proofs.Items.{not_refused}
use Rattle.plainbook.specs.Plain.{priced}
use Rattle.plainbook.proofs.Pieces.{word_more, word_fits}
use Rattle.book.proofs.puts.put_words.Goals as goal

pub returns-in_err-put_inst : goal.returns-in_err-put_inst
returns-in_err-put_inst g c =
    let f = word_fits (priced g.S.InstPrice.Price.units g.S.NotePrice.Price.units) _ _ c.args.words.now c.loop-w.w-index c.loop-w-test.true c.loop-w.invariant c.requires in
    absurd (not_refused c.decode.result _ _ _ (_, c.decode.ensures.reads) f c.in_err-put_inst.ensures.1)

pub loop-w-preserved : goal.loop-w-preserved
loop-w-preserved g c =
    word_more (priced g.S.InstPrice.Price.units g.S.NotePrice.Price.units) _ _ _ c.args.words.now c.loop-w.w-index _ c.decode.result c.loop-w-test.true c.loop-w.invariant c.decode.ensures.reading c.in_ok-put_inst.ensures.2
