-- A new list in which a piece was put.
use Rattle.std.proofs.Common.{◌≡◌, []}
use Rattle.sheet.specs.Plain.{PlainSheet}
use Rattle.frame.specs.Named.{piece_of}
use Rattle.frame.specs.declared.piece.Piece.{Piece}
use Rattle.sink.specs.Items.{AllRead}
use Rattle.item_list.specs.Lists.{listed, Puts}
use Rattle.item_list.specs.declared.ItemList.{ItemList}
use Rattle.item_list.proofs.Joins.{whole}
use Rattle.emitter.proofs.Whole.{piece_good}

pub filled : (x y : ItemList) (k : Piece) (h : PlainSheet) → listed x ≡ [] → Puts x y (piece_of k h) → listed y ≡ piece_of k h
filled x y k h e p = whole x y (piece_of k h) e p ((piece_good k h).short)

pub filled_read : (k : Piece) (h : PlainSheet) → AllRead (piece_of k h)
filled_read k h = (piece_good k h).read
