-- What the plain book answers to each call, and to a list of calls.
use Rattle.std.specs.Prelude.{ℕ, List, [], ◌∷◌, Option, Result}
use Rattle.a64.specs.declared.inst.Inst.{Inst}
use Rattle.refusal.specs.Told.{Told}
use Rattle.sheet.specs.Plain.{plain_of}
use Rattle.sheet.specs.Refused.{refused}
use Rattle.sheet.specs.declared.types.Sheet.{Sheet}
use Rattle.sink.specs.Held.{Prices, counts_of}
use Rattle.notes.specs.declared.Note.{Note}
use Rattle.sink.specs.declared.sink.Counts.{Counts}
use Rattle.plainbook.specs.Refusals.{said}
use Rattle.plainbook.specs.Plain.{Fun, fun, meant, plain_add, grown, plain_withdraw, withdrawn, plain_look_up, read_at}
use Rattle.plainbook.specs.declared.calls.Call.{Call}
use Rattle.plainbook.specs.declared.calls.Answer.{Answer}

-- An answer with its refusal in numbers.
pub data PlainAnswer : Type 0 where
  added : Result ℕ Told → PlainAnswer
  withdrew : Result ℕ Told → PlainAnswer
  found : Option ℕ → PlainAnswer
  inst : Result Inst Told → PlainAnswer
  note : Result Note Told → PlainAnswer
  counted : Counts → PlainAnswer

-- What an answer says.
abbrev pub said_by : Answer → PlainAnswer
said_by (Answer.Added r) = added (said r)
said_by (Answer.Withdrew r) = withdrew (said r)
said_by (Answer.Found o) = found o
said_by (Answer.Inst r) = inst (said r)
said_by (Answer.Note r) = note (said r)
said_by (Answer.Counted c) = counted c

-- The refusal of a sheet by its own rows, or none.
unfoldable pub sheet_refusal : Sheet → Option Told
sheet_refusal s = refused s

-- What a plain book answers to a call.
abbrev pub answer : Prices → ℕ → List Fun → Call → PlainAnswer
answer p r fs (Call.Add s ws) = added (plain_add p r fs (sheet_refusal s) (fun (plain_of s) ws.now))
answer p r fs Call.Withdraw = withdrew (plain_withdraw fs)
answer p r fs (Call.LookUp n) = found (plain_look_up fs n)
answer p r fs (Call.InstAt i) = inst (read_at (meant p r fs).insts i)
answer p r fs (Call.NoteAt i) = note (read_at (meant p r fs).notes i)
answer p r fs Call.Counts = counted (counts_of (meant p r fs))

-- The functions held after a call.
abbrev pub after : Prices → ℕ → List Fun → Call → List Fun
after p r fs (Call.Add s ws) = grown fs (fun (plain_of s) ws.now) (plain_add p r fs (sheet_refusal s) (fun (plain_of s) ws.now))
after p r fs Call.Withdraw = withdrawn fs
after p r fs (Call.LookUp n) = fs
after p r fs (Call.InstAt i) = fs
after p r fs (Call.NoteAt i) = fs
after p r fs Call.Counts = fs

-- The functions held after a list of calls.
abbrev pub final_of : Prices → ℕ → List Fun → List Call → List Fun
final_of p r fs [] = fs
final_of p r fs (c ∷ cs) = final_of p r (after p r fs c) cs

-- The answers to a list of calls.
abbrev pub answers_of : Prices → ℕ → List Fun → List Call → List PlainAnswer
answers_of p r fs [] = []
answers_of p r fs (c ∷ cs) = answer p r fs c ∷ answers_of p r (after p r fs c) cs
