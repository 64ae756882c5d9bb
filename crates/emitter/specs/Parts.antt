-- What an emitter puts.
use Rattle.std.specs.Prelude.{List, Result}
use Rattle.refusal.specs.declared.Refusal.{Refusal}
use Rattle.sink.specs.Held.{Held, Prices}
use Rattle.sink.specs.Items.{PutItems, PutPiece}
use Rattle.sink.specs.declared.item.Item.{Item}
use Rattle.item_list.specs.Items.{code}
use Rattle.steps.specs.Adjust.{gen_sp_reg_adjust_of, load_constant_of}
use Rattle.steps.specs.Probes.{gen_inline_probestack_of}
use Rattle.sheet.specs.Checks.{plain}
use Rattle.frame.specs.Named.{piece_of}
use Rattle.emitter.specs.declared.part.Part.{Part}

-- The items of each part.
abbrev pub part_of : Part → List Item
part_of (Part.Frame piece layout) = piece_of piece (plain layout.now.sheet)
part_of (Part.Constant rd value) = code (load_constant_of rd value)
part_of (Part.SpBy amount) = code (gen_sp_reg_adjust_of amount)
part_of (Part.Probes size guard) = code (gen_inline_probestack_of size guard)

-- A constant may be for no register; all other parts can be read.
abbrev pub PutPart : Prices → Held → Part → Held → Result Unit Refusal → Type 0
PutPart p old (Part.Constant rd value) new r = PutItems p old (part_of (Part.Constant rd value)) new r
PutPart p old (Part.Frame piece layout) new r = PutPiece p old (part_of (Part.Frame piece layout)) new r
PutPart p old (Part.SpBy amount) new r = PutPiece p old (part_of (Part.SpBy amount)) new r
PutPart p old (Part.Probes size guard) new r = PutPiece p old (part_of (Part.Probes size guard)) new r
