-- A constant, part by part.
use Rattle.std.proofs.Common.{◌≡◌, ℕ, suc, ◌+◌, ◌-◌, ◌<◌, List, [], ◌∷◌, sym, refl, ap, ◌∙◌, arith, ne_eqb}
use Rattle.a64.specs.declared.inst.MoveWideOp.{MoveWideOp}
use Rattle.a64.specs.declared.inst.MoveWideOp.TheVariants.{MovZ, MovK}
use Rattle.a64.specs.declared.inst.Reg.{Reg}
use Rattle.a64.specs.declared.inst.Inst.TheVariants.{MovWide}
use Rattle.item_list.specs.Items.{code}
use Rattle.item_list.specs.Lists.{listed, joined, Puts}
use Rattle.steps.specs.Adjust.{part, keep_parts, load_parts, load_constant_of}
use Rattle.sink.specs.declared.item.Item.{Item}
use Rattle.item_list.specs.declared.ItemList.{ItemList}
use Rattle.item_list.proofs.Joins.{onward, joined_none}

-- The move of the part h.
abbrev pub move : MoveWideOp → Reg → ℕ → ℕ → Item
move op rd bits h = Item.Inst (MovWide op rd (record { bits = bits; shift = h }))

-- What is still to be put from part h on: MOVZ where nothing was put yet.
unfoldable pub rest : MoveWideOp → Reg → ℕ → ℕ → List Item
rest MovZ rd n h = code (load_parts rd n h (4 - h))
rest MovK rd n h = code (keep_parts rd n h (4 - h))

pub rest_start : (rd : Reg) (n : ℕ) → rest MovZ rd n 0 ≡ code (load_constant_of rd n)
unfolding rest load_constant_of
rest_start rd n = refl

less : (h : ℕ) → h < 4 → 4 - h ≡ suc (4 - (h + 1))
less h lt = omega arith

pub rest_skip : (op : MoveWideOp) (rd : Reg) (n h : ℕ) → h < 4 → part n h ≡ 0 → rest op rd n h ≡ rest op rd n (h + 1)
unfolding rest
rest_skip MovZ rd n h lt e = rw (less h lt, e) refl
rest_skip MovK rd n h lt e = rw (less h lt, e) refl

pub rest_put : (op : MoveWideOp) (rd : Reg) (n h : ℕ) → h < 4 → (part n h ≡ 0 → ⊥) →
    rest op rd n h ≡ move op rd (part n h) h ∷ rest MovK rd n (h + 1)
unfolding rest
rest_put MovZ rd n h lt ne = rw (less h lt, ne_eqb (part n h) 0 ne) refl
rest_put MovK rd n h lt ne = rw (less h lt, ne_eqb (part n h) 0 ne) refl

-- A turn that puts a part.
pub part_put : (x y : ItemList) (g : List Item) (op : MoveWideOp) (rd : Reg) (n h v : ℕ) → h < 4 → v ≡ part n h → (v ≡ 0 → ⊥) →
    joined (listed x) (rest op rd n h) ≡ g → Puts x y (move op rd v h ∷ []) → joined (listed y) (rest MovK rd n (h + 1)) ≡ g
part_put x y g op rd n h v lt e ne inv p =
    onward x y (move op rd v h ∷ []) (rest MovK rd n (h + 1)) p
    ∙ ap (λ (w : ℕ). joined (listed x) (move op rd w h ∷ rest MovK rd n (h + 1))) e
    ∙ ap (joined (listed x)) (sym (rest_put op rd n h lt (λ z. ne (e ∙ z))))
    ∙ inv

rest_zero : (op : MoveWideOp) (rd : Reg) (n h : ℕ) → op ≡ MovZ → h ≡ 4 → rest op rd n h ≡ move op rd 0 0 ∷ []
unfolding rest
rest_zero op rd n h e f = rw (e, f) refl

rest_none : (op : MoveWideOp) (rd : Reg) (n h : ℕ) → (op ≡ MovZ → ⊥) → h ≡ 4 → rest op rd n h ≡ []
unfolding rest
rest_none MovZ rd n h ne f = absurd (ne refl)
rest_none MovK rd n h ne f = rw f refl

-- The end, where no part was put.
pub last_put : (x y : ItemList) (g : List Item) (op : MoveWideOp) (rd : Reg) (n h : ℕ) → op ≡ MovZ → h ≡ 4 →
    joined (listed x) (rest op rd n h) ≡ g → Puts x y (move op rd 0 0 ∷ []) → listed y ≡ g
last_put x y g op rd n h e f inv p = p ∙ ap (joined (listed x)) (sym (rest_zero op rd n h e f)) ∙ inv

-- The end, where a part was put.
pub last_none : (x : ItemList) (g : List Item) (op : MoveWideOp) (rd : Reg) (n h : ℕ) → (op ≡ MovZ → ⊥) → h ≡ 4 →
    joined (listed x) (rest op rd n h) ≡ g → listed x ≡ g
last_none x g op rd n h ne f inv = sym (joined_none x) ∙ ap (joined (listed x)) (sym (rest_none op rd n h ne f)) ∙ inv
