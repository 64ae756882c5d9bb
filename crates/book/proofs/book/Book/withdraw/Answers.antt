use Rattle.std.proofs.Common.{◌≡◌, ℕ, arith}
use Rattle.plainbook.specs.Plain.{priced}
use Rattle.plainbook.proofs.Claiming.{claimed}
use Rattle.plainbook.proofs.Standing.{rewinds, withdrew}
use Rattle.book.proofs.book.Book.withdraw.Goals as goal

pub returns-in_default-clause-claims : goal.returns-in_default-clause-claims
returns-in_default-clause-claims g c = λ k fs s. claimed (priced g.S.InstPrice.Price.units g.S.NotePrice.Price.units) k _ _ fs s

pub returns-in_err-rewind-clause-moves : goal.returns-in_err-rewind-clause-moves
returns-in_err-rewind-clause-moves g c = λ r fs s.
    let n = rewinds (priced g.S.InstPrice.Price.units g.S.NotePrice.Price.units) r _ _ fs c.in-Some.last s c.in-Some.ensures in
    let e = c.in_err-rewind.ensures.0 in
    let z : ◌≡◌ {A = ℕ} 0 1 = cc in
    absurd (omega arith)

pub returns-in_err-rewind-clause-claims : goal.returns-in_err-rewind-clause-claims
returns-in_err-rewind-clause-claims g c = λ k fs s. claimed (priced g.S.InstPrice.Price.units g.S.NotePrice.Price.units) k _ _ fs s

pub returns-clause-moves : goal.returns-clause-moves
returns-clause-moves g c = λ r fs s. withdrew (priced g.S.InstPrice.Price.units g.S.NotePrice.Price.units) r _ _ _ _ fs c.in-Some.last s c.in-Some.ensures c.in_ok-rewind.ensures.1 c.cut_last.ensures

pub returns-clause-claims : goal.returns-clause-claims
returns-clause-claims g c = λ k fs s. claimed (priced g.S.InstPrice.Price.units g.S.NotePrice.Price.units) k _ _ fs s
