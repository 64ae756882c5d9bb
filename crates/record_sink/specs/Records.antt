-- What a record sink means: its items as they are.
use Rattle.std.specs.Prelude.{ℕ, vec_items}
use Rattle.sink.specs.Held.{Held}
use Rattle.record_sink.specs.declared.Records.{Records}

abbrev pub record_held : {inst note : ℕ} → Records inst note → Held
record_held s = record { insts = vec_items s.insts; notes = vec_items s.notes; room = s.room }
