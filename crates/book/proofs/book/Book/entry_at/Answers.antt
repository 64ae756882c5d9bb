use Rattle.plainbook.specs.Plain.{priced}
use Rattle.plainbook.proofs.Claiming.{shown}
use Rattle.book.proofs.book.Book.entry_at.Goals as goal

pub returns : goal.returns
returns g c = λ k fs s. shown (priced g.S.InstPrice.Price.units g.S.NotePrice.Price.units) k _ _ fs c.args.slot c.entry_at.result s c.entry_at.ensures
