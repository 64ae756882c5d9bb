use Rattle.std.proofs.Common.{arith}
use Rattle.plainbook.specs.Plain.{body_of, priced}
use Rattle.plainbook.proofs.Pieces.{first_fits, second_fits, third_fits, three_put}
use Rattle.book.proofs.puts.put_function.Goals as goal

pub returns-in_err-put_readable : goal.returns-in_err-put_readable
returns-in_err-put_readable g c =
    let f = first_fits (priced g.S.InstPrice.Price.units g.S.NotePrice.Price.units) _ c.args.prologue.items.now (body_of c.args.body.now) c.args.epilogue.items.now c.requires in
    let l = c.in_err-put_readable.ensures.0 in
    absurd (omega arith)

pub put_words-requires : goal.put_words-requires
put_words-requires g c =
    second_fits (priced g.S.InstPrice.Price.units g.S.NotePrice.Price.units) _ _ c.args.prologue.items.now (body_of c.args.body.now) c.args.epilogue.items.now c.requires c.in_ok-put_readable.ensures.1

pub returns-in_err-put_readable-2 : goal.returns-in_err-put_readable-2
returns-in_err-put_readable-2 g c =
    let f = third_fits (priced g.S.InstPrice.Price.units g.S.NotePrice.Price.units) _ _ _ c.args.prologue.items.now (body_of c.args.body.now) c.args.epilogue.items.now c.requires c.in_ok-put_readable.ensures.1 c.in_ok-put_words.ensures in
    let l = c.in_err-put_readable-2.ensures.0 in
    absurd (omega arith)

pub returns : goal.returns
returns g c =
    three_put (priced g.S.InstPrice.Price.units g.S.NotePrice.Price.units) _ _ _ _ c.args.prologue.items.now (body_of c.args.body.now) c.args.epilogue.items.now c.in_ok-put_readable.ensures.1 c.in_ok-put_words.ensures c.in_ok-put_readable-2.ensures.1
