-- Putting items behind a list, piece by piece.
use Rattle.std.proofs.Common.{◌≡◌, ℕ, ◌≤◌, List, [], ◌∷◌, ◌++◌, length, take, sym, ap, ◌∙◌, append_assoc, append-nil, arith}
use Rattle.std.proofs.lemmas.Grind.{common_steps}
use Rattle.std.proofs.lemmas.List.{map-append, take_all}
use Rattle.fixed_list.proofs.Short.{items_short}
use Rattle.a64.specs.declared.inst.Inst.{Inst}
use Rattle.item_list.specs.Items.{code}
use Rattle.item_list.specs.Limits.{cell_count}
use Rattle.item_list.specs.Lists.{listed, joined, Puts}
use Rattle.sink.specs.declared.item.Item.{Item}
use Rattle.item_list.specs.declared.ItemList.{ItemList}

take_front : {X : Type 0} (n : ℕ) (xs ys : List X) → take n (take n xs ++ ys) ≡ take n (xs ++ ys)
take_front n xs ys = grind (arith, common_steps)

pub joined_joined : (xs a b : List Item) → joined (joined xs a) b ≡ joined xs (a ++ b)
unfolding joined
joined_joined xs a b = take_front cell_count (xs ++ a) b ∙ ap (take cell_count) (append_assoc xs a b)

pub joined_none : (l : ItemList) → joined (listed l) [] ≡ listed l
unfolding joined
joined_none l = ap (take cell_count) (append-nil (listed l)) ∙ take_all cell_count (listed l) (items_short l.items)

-- Nothing is put.
pub none : (x : ItemList) → Puts x x []
none x = sym (joined_none x)

-- One piece, then another.
pub then : (x y z : ItemList) (a b : List Item) → Puts x y a → Puts y z b → Puts x z (a ++ b)
then x y z a b p q = q ∙ ap (λ (r : List Item). joined r b) p ∙ joined_joined (listed x) a b

-- A new list holds what is put, where it is no longer than the cells.
pub whole : (x y : ItemList) (a : List Item) → listed x ≡ [] → Puts x y a → length a ≤ cell_count → listed y ≡ a
unfolding joined
whole x y a e p le = p ∙ ap (λ (r : List Item). joined r a) e ∙ take_all cell_count a le

pub code_append : (a b : List Inst) → code (a ++ b) ≡ code a ++ code b
code_append a b = map-append Item.Inst a b

-- The same for instructions.
pub then_code : (x y z : ItemList) (a b : List Inst) → Puts x y (code a) → Puts y z (code b) → Puts x z (code (a ++ b))
then_code x y z a b p q = then x y z (code a) (code b) p q ∙ ap (joined (listed x)) (sym (code_append a b))

-- What is put after a piece stands behind that piece.
pub onward : (x y : ItemList) (a b : List Item) → Puts x y a → joined (listed y) b ≡ joined (listed x) (a ++ b)
onward x y a b p = ap (λ (r : List Item). joined r b) p ∙ joined_joined (listed x) a b

-- The same items under another name.
pub renamed : (x y : ItemList) (a b : List Item) → a ≡ b → Puts x y a → Puts x y b
renamed x y a b e p = p ∙ ap (joined (listed x)) e

-- Nothing is put, and nothing was to be.
pub nothing : (x : ItemList) (b : List Item) → [] ≡ b → Puts x x b
nothing x b e = renamed x x [] b e (none x)

-- One instruction under another name.
pub same_inst : (x y : ItemList) (i j : Inst) → i ≡ j → Puts x y (Item.Inst i ∷ []) → Puts x y (Item.Inst j ∷ [])
same_inst x y i j e p = renamed x y (Item.Inst i ∷ []) (Item.Inst j ∷ []) (ap (λ (k : Inst). Item.Inst k ∷ []) e) p
