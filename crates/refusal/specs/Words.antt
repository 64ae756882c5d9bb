-- Each cause in words.
use Rattle.std.specs.Prelude.{ℕ, List, codes}
use Rattle.refusal.specs.declared.Cause.{Cause}

abbrev pub words_of : Cause → List ℕ
words_of Cause.OutOfRange = codes "convention, call kind or flag out of range"
words_of Cause.DynamicVector = codes "dynamic-vector parameter"
words_of Cause.CodeNotAllowed = codes "clobber code not allowed"
words_of Cause.CodeRepeated = codes "clobber code seen before"
words_of Cause.Sizes = codes "a size is no multiple of 16, or the sizes are too large together"
words_of Cause.TailSize = codes "tail size does not go with the incoming size"
words_of Cause.WinchSeal = codes "Winch with incoming arguments and a signed return address"
words_of Cause.CompactPinned = codes "compact unwinding together with a pinned register"
words_of Cause.Guard = codes "guard size cannot serve the probes"
words_of Cause.NumberHeld = codes "function number held already"
words_of Cause.TooMany = codes "too many functions, instructions or notes"
words_of Cause.NoReading = codes "instruction that is no word's reading"
words_of Cause.NoRoom = codes "price above the room"
words_of Cause.NotHeld = codes "read or rewind beyond what is held"
words_of Cause.EmptyBook = codes "withdraw from an empty book"
