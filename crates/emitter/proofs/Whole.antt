-- A list of a piece's items, put on a sink.
use Rattle.std.proofs.Common.{◌≡◌, ℕ, ◌≤◌, List, [], length, Result, refl, ◌∙◌, arith}
use Rattle.refusal.specs.declared.Refusal.{Refusal}
use Rattle.sink.specs.Held.{Held, Prices}
use Rattle.sink.specs.Items.{PutItems, PutPiece}
use Rattle.sink.specs.declared.item.Item.{Item}
use Rattle.item_list.specs.Limits.{cell_count}
use Rattle.item_list.specs.Lists.{listed, Puts}
use Rattle.item_list.specs.declared.ItemList.{ItemList}
use Rattle.item_list.proofs.Joins.{whole}
use Rattle.a64.specs.declared.inst.Reg.{Reg}
use Rattle.sheet.specs.Checks.{plain}
use Rattle.sheet.specs.Plain.{PlainSheet}
use Rattle.frame.specs.Named.{piece_of}
use Rattle.frame.specs.declared.piece.Piece.{Piece}
use Rattle.emitter.specs.Parts.{PutPart, part_of}
use Rattle.emitter.specs.declared.part.Part.{Part}
use Rattle.emitter.proofs.Good.{Good, more, adjust_good, probes_good, constant_short, setup_good, save_all_good, restore_good, frame_restore_good, return_good, prologue_good, epilogue_good}

-- A slice of a list that was filled from empty is what was filled in.
pub filled : (x y : ItemList) (xs piece : List Item) → length piece ≤ cell_count → listed x ≡ [] → Puts x y piece → xs ≡ listed y → xs ≡ piece
filled x y xs piece le e f g = g ∙ whole x y piece e f le

-- Every piece is good.
pub piece_good : (k : Piece) (h : PlainSheet) → Good cell_count (piece_of k h)
piece_good Piece.PrologueFrameSetup h = more 6 cell_count _ (omega arith) (setup_good h)
piece_good Piece.ClobberSave h = more 121 cell_count _ (omega arith) (save_all_good h)
piece_good Piece.ClobberRestore h = more 104 cell_count _ (omega arith) (restore_good h)
piece_good Piece.EpilogueFrameRestore h = more 7 cell_count _ (omega arith) (frame_restore_good h)
piece_good Piece.Return h = more 2 cell_count _ (omega arith) (return_good h)
piece_good Piece.Prologue h = more 154 cell_count _ (omega arith) (prologue_good h)
piece_good Piece.Epilogue h = more 113 cell_count _ (omega arith) (epilogue_good h)

-- So is every part but a constant, whose register's number may be too large.
pub part_good : (k : Part) → ((rd : Reg) (value : ℕ) → k ≡ Part.Constant rd value → ⊥) → Good cell_count (part_of k)
part_good (Part.Frame piece layout) h = piece_good piece (plain layout.now.sheet)
part_good (Part.Constant rd value) h = absurd (h rd value refl)
part_good (Part.SpBy amount) h = more 6 cell_count _ (omega arith) (adjust_good amount)
part_good (Part.Probes size guard) h = more 27 cell_count _ (omega arith) (probes_good size guard)

-- A constant fits too.
pub constant_fits : (k : Part) (rd : Reg) (value : ℕ) → k ≡ Part.Constant rd value → length (part_of k) ≤ cell_count
constant_fits k rd value e = let s = constant_short rd value in rw e (omega arith)

-- What putting a part says, for a constant and for the others.
pub put_constant : (p : Prices) (old new : Held) (r : Result Unit Refusal) (k : Part) (rd : Reg) (value : ℕ) → k ≡ Part.Constant rd value →
    PutItems p old (part_of k) new r → PutPart p old k new r
put_constant p old new r (Part.Constant x y) rd value e put = put
put_constant p old new r (Part.Frame x y) rd value e put = cc
put_constant p old new r (Part.SpBy x) rd value e put = cc
put_constant p old new r (Part.Probes x y) rd value e put = cc

pub put_other : (p : Prices) (old new : Held) (r : Result Unit Refusal) (k : Part) → ((rd : Reg) (value : ℕ) → k ≡ Part.Constant rd value → ⊥) →
    PutPiece p old (part_of k) new r → PutPart p old k new r
put_other p old new r (Part.Frame x y) h put = put
put_other p old new r (Part.Constant x y) h put = absurd (h x y refl)
put_other p old new r (Part.SpBy x) h put = put
put_other p old new r (Part.Probes x y) h put = put
