use Rattle.returns.proofs.Counts.{one_note_each}
use Rattle.returns.proofs.Framed.{frame_noted}
use Rattle.returns.proofs.Notes.{each_notes_hold}
use Rattle.theorems.proofs.notes_hold.Goals as goal

pub returns : goal.returns
returns c = record { hold = each_notes_hold; once = one_note_each; frame = frame_noted }
