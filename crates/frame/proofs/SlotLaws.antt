-- The slots of the save area, one by one.
use Rattle.std.proofs.Common.{◌≡◌, ℕ, zero, suc, ◌+◌, ◌-◌, ◌*◌, ◌/◌, ◌%◌, ◌<◌, ◌≤◌, Bool, true, false, cond, List, [], ◌∷◌, ◌++◌, map, length, get_or, take, drop, filter, refl, ap, ◌∙◌, arith}
use Rattle.std.specs.Int.{div_ceil}
use Rattle.std.proofs.lemmas.Simd.{map-map}
use Rattle.std.proofs.lemmas.List.{length-append, drop_more}
use Rattle.a64.specs.declared.inst.Inst.{Inst}
use Rattle.a64.specs.declared.inst.PairClass.{PairClass}
use Rattle.sheet.specs.Plain.{PlainSheet, same}
use Rattle.sheet.specs.Checks.{plain}
use Rattle.sheet.specs.Saved.{pairing, saved_ints_of, saved_vecs_of, saves}
use Rattle.sheet.specs.Walk.{ints}
use Rattle.sheet.specs.declared.types.CallConv.TheVariants.{PreserveAll}
use Rattle.layout.specs.Slots.{Slot, one_x, one_q, twos_x, each_q, slots_of}
use Rattle.layout.specs.declared.frame_layout.FrameLayout.{FrameLayout}
use Rattle.layout.proofs.Areas.{slots_size}
use Rattle.sink.specs.declared.item.Item.{Item}
use Rattle.frame.specs.Codes.{class_of, numbers, twos, vector_slots_of}
use Rattle.frame.specs.Pieces.{pop, push, restore_slots, save_slots, slot_notes}
use Rattle.frame.specs.Steps.{as_slot}
use Rattle.frame.specs.declared.slots.SaveSlot.TheVariants.{Pair, One}
use Rattle.frame.specs.declared.slots.saved.Saved.{Saved}

-- ---- registers by twos

skip : (c : PairClass) (a b : ℕ) (rs : List ℕ) (k : ℕ) → get_or (twos c rs) k (one_x 0) ≡ get_or (twos c (a ∷ b ∷ rs)) (suc k) (one_x 0)
skip PairClass.X a b rs k = refl
skip PairClass.D a b rs k = refl

pub pair_at : (c : PairClass) (xs : List ℕ) (k : ℕ) (a b : Saved) → 2 * k + 1 < length xs → a.number ≡ get_or xs (2 * k) 0 % 64 → b.number ≡ get_or xs (2 * k + 1) 0 % 64 →
    as_slot (Pair c a b) ≡ get_or (twos c (numbers xs)) k (one_x 0)
pair_at c [] k a b h p q = absurd (omega arith)
pair_at c (x ∷ []) k a b h p q = absurd (omega arith)
pair_at PairClass.X (x ∷ y ∷ rs) zero a b h p q = cc
pair_at PairClass.D (x ∷ y ∷ rs) zero a b h p q = cc
pair_at c (x ∷ y ∷ rs) (suc k) a b h p q =
    let e : 2 * suc k ≡ suc (suc (2 * k)) = omega arith in
    let f : 2 * suc k + 1 ≡ suc (suc (2 * k + 1)) = omega arith in
    pair_at c rs k a b (omega arith) (rw e at p) (rw f at q) ∙ skip c (x % 64) (y % 64) (numbers rs) k

pub one_at : (c : PairClass) (xs : List ℕ) (k : ℕ) (a : Saved) → 2 * k < length xs → length xs ≤ 2 * k + 1 → a.number ≡ get_or xs (2 * k) 0 % 64 →
    as_slot (One (class_of c) a) ≡ get_or (twos c (numbers xs)) k (one_x 0)
one_at c [] k a h g p = absurd (omega arith)
one_at PairClass.X (x ∷ []) zero a h g p = cc
one_at PairClass.D (x ∷ []) zero a h g p = cc
one_at c (x ∷ []) (suc k) a h g p = absurd (omega arith)
one_at c (x ∷ y ∷ rs) zero a h g p = absurd (omega arith)
one_at c (x ∷ y ∷ rs) (suc k) a h g p =
    let e : 2 * suc k ≡ suc (suc (2 * k)) = omega arith in
    one_at c rs k a (omega arith) (omega arith) (rw e at p) ∙ skip c (x % 64) (y % 64) (numbers rs) k

twos_count : (c : PairClass) (xs : List ℕ) → length (twos c (numbers xs)) ≡ div_ceil (length xs) 2
twos_count PairClass.X [] = refl
twos_count PairClass.D [] = refl
twos_count PairClass.X (x ∷ []) = refl
twos_count PairClass.D (x ∷ []) = refl
twos_count PairClass.X (x ∷ y ∷ rs) = omega (arith, twos_count PairClass.X rs)
twos_count PairClass.D (x ∷ y ∷ rs) = omega (arith, twos_count PairClass.D rs)

-- ---- vectors

pub vectors_count : (whole : Bool) (xs : List ℕ) → length (vector_slots_of whole (numbers xs)) ≡ cond whole (length xs) (div_ceil (length xs) 2)
vectors_count true [] = refl
vectors_count true (x ∷ xs) = ap suc (vectors_count true xs)
vectors_count false xs = twos_count PairClass.D xs

pub whole_at : (xs : List ℕ) (k : ℕ) (a : Saved) → k < length xs → a.number ≡ get_or xs k 0 % 64 → one_q a.number ≡ get_or (each_q (numbers xs)) k (one_x 0)
whole_at [] k a h p = absurd (omega arith)
whole_at (x ∷ xs) zero a h p = ap one_q p
whole_at (x ∷ xs) (suc k) a h p = whole_at xs k a (omega arith) p

-- ---- all slots

kept_same : (f : ℕ → ℕ) (t : ℕ → Bool) (w : List ℕ) → map f w ≡ w → map f (filter t w) ≡ filter t w
kept_same f t [] e = refl
kept_same f t (x ∷ xs) e = go (t x) (kept_same f t xs cc)
  where
    go : (b : Bool) → map f (filter t xs) ≡ filter t xs → map f (cond b (x ∷ filter t xs) (filter t xs)) ≡ cond b (x ∷ filter t xs) (filter t xs)
    go true h = let d : f x ≡ x = cc in cc
    go false h = h

int_numbers : (d : Bool) (t : ℕ → Bool) → numbers (filter t (ints d)) ≡ filter t (ints d)
unfolding ints
int_numbers true t = kept_same (λ c. c % 64) t (ints true) refl
int_numbers false t = kept_same (λ c. c % 64) t (ints false) refl

vec_numbers : (d : Bool) (t : ℕ → Bool) → numbers (map (λ n. 64 + n) (filter t (ints d))) ≡ filter t (ints d)
unfolding ints
vec_numbers true t = simp map-map (kept_same (λ n. (64 + n) % 64) t (ints true) refl)
vec_numbers false t = simp map-map (kept_same (λ n. (64 + n) % 64) t (ints false) refl)

-- The slots of the vectors' codes, then those of the integers' codes.
pub slots_split : (h : PlainSheet) (whole : Bool) (is vs : List ℕ) → whole ≡ same h.conv PreserveAll → is ≡ saved_ints_of h → vs ≡ map (λ n. 64 + n) (saved_vecs_of h) →
    slots_of h ≡ vector_slots_of whole (numbers vs) ++ twos_x (numbers is)
unfolding slots_of
slots_split h whole is vs e f g = rw (e, f, g, vec_numbers (pairing h) (λ r. saves h (64 + r)), int_numbers (pairing h) (saves h))

pub int_there : (front all : List Slot) (xs : List ℕ) (k n : ℕ) → all ≡ front ++ twos_x (numbers xs) → n ≡ length front → k < length all → n ≤ k → 2 * (k - n) < length xs
int_there front all xs k n e f h g =
    let l : length all ≡ length front + length (twos_x (numbers xs)) = ap length e ∙ length-append front (twos_x (numbers xs)) in
    omega (arith, twos_count PairClass.X xs)

-- ---- walking over the slots

pub slot_count : (l : FrameLayout) → l.clobber_size / 16 ≡ length (slots_of (plain l.sheet))
slot_count l =
    let a = l.clobber_rule in
    let b = slots_size (plain l.sheet) in
    omega arith

-- The slots from j on, saved, are those behind slot j, and then slot j.
pub saved_more : (h : PlainSheet) (ss : List Slot) (j : ℕ) → j < length ss →
    save_slots h (drop j ss) (16 * j) ≡ save_slots h (drop (j + 1) ss) (16 * (j + 1)) ++ (Item.Inst (push (get_or ss j (one_x 0))) ∷ slot_notes h (get_or ss j (one_x 0)) (16 * j))
saved_more h ss j lt =
    let e : 16 * j + 16 ≡ 16 * (j + 1) = omega arith in
    rw (drop_more ss j (one_x 0) lt, e)

-- One slot more, restored.
pub restored_more : (ss : List Slot) (k : ℕ) → k < length ss → restore_slots (take (k + 1) ss) ≡ restore_slots (take k ss) ++ pop (get_or ss k (one_x 0)) ∷ []
restored_more [] k lt = absurd (omega arith)
restored_more (s ∷ ss) zero lt = refl
restored_more (s ∷ ss) (suc k) lt =
    let e : suc k + 1 ≡ suc (k + 1) = omega arith in
    rw e (ap (λ (is : List Inst). pop s ∷ is) (restored_more ss k (omega arith)))
