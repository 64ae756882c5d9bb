-- Instructions as items.
use Rattle.std.specs.Prelude.{List, map}
use Rattle.a64.specs.declared.inst.Inst.{Inst}
use Rattle.sink.specs.declared.item.Item.{Item}

-- Instructions without notes.
abbrev pub code : List Inst → List Item
code = map Item.Inst
