-- Laws of the ordered keys.
use Rattle.std.proofs.Common.{◌≡◌, ℕ, zero, suc, ◌+◌, ◌<◌, ◌≤◌, Bool, true, false, not, cond, eqb, ltb, List, [], ◌∷◌, ◌++◌, length, get_or, take, drop, Some, None, Option, Less, Equal, Greater, sym, refl, ap, ◌∙◌, subst, append_assoc, append-nil, arith}
use Rattle.std.specs.List.{remove, position, position_or_len, AllByRecursion}
use Rattle.std.specs.List.Sorted.{IsNonDecreasingBy}
use Rattle.std.specs.Ordering.{is_lt}
use Rattle.std.proofs.ByRecursion.{All-weaker}
use Rattle.std.proofs.lemmas.List.{drop_more, drop_all, take_all, length_push, length-map, length-take-le, map_push, take_at}
use Rattle.std.proofs.lemmas.Bool.{ltb-true, ltb-false, cond-true, cond-false, eq-eqb, ne_eqb, eqb-true}
use Rattle.order.specs.Placed.{below, placed, InOrder}
use Rattle.order.proofs.Stays.{stays, length_placed}
use Rattle.shelf.specs.Index.{key_order, insert_key_of, cut_slot, look_in, key_at, index_from, index_of}
use Rattle.shelf.specs.Slots.{slot_from, slot_for, numbers_of}
use Rattle.shelf.specs.declared.entry.Entry.{Entry}
use Rattle.shelf.specs.declared.key.Key.{Key}

-- ---- the order of numbers

lt_by : (a b : Bool) → is_lt (cond a Less (cond b Equal Greater)) ≡ a
lt_by true b = refl
lt_by false true = refl
lt_by false false = refl

pub below_ltb : (x y : Key) → below key_order x y ≡ ltb x.number y.number
below_ltb x y = lt_by (ltb x.number y.number) (eqb x.number y.number)

-- ---- slots below a bound

abbrev Below : ℕ → List Key → Type 0
Below m [] = Unit {0}
Below m (y ∷ ys) = (y.slot < m) × Below m ys

below_more : (m : ℕ) (ks : List Key) → Below m ks → Below (m + 1) ks
below_more m [] b = tt
below_more m (y ∷ ys) b = (let h = b.0 in omega arith, below_more m ys b.1)

below_insert : (m : ℕ) (ks : List Key) (x : Key) → Below m ks → x.slot < m → Below m (insert_key_of ks x)
below_insert m [] x b lt = (lt, tt)
below_insert m (y ∷ ys) x b lt =
    elim (below key_order x y) as (λ (c : Bool). Below m (cond c (x ∷ y ∷ ys) (y ∷ insert_key_of ys x))) [
      | true ↦ (lt, (b.0, b.1))
      | false ↦ (b.0, below_insert m ys x b.1 lt)
    ]

cut_insert : (ks : List Key) (x : Key) → Below x.slot ks → cut_slot x.slot (insert_key_of ks x) ≡ ks
cut_insert [] x b = cond-true _ _ _ (eq-eqb x.slot x.slot refl)
cut_insert (y ∷ ys) x b =
    let h : y.slot < x.slot = b.0 in
    let ne : y.slot ≡ x.slot → ⊥ = λ e. omega arith in
    elim (below key_order x y) as (λ (c : Bool). cut_slot x.slot (cond c (x ∷ y ∷ ys) (y ∷ insert_key_of ys x)) ≡ y ∷ ys) [
      | true ↦ cond-true _ _ _ (eq-eqb x.slot x.slot refl)
      | false ↦ cond-false _ _ _ (ne_eqb y.slot x.slot ne) ∙ ap (λ (zs : List Key). y ∷ zs) (cut_insert ys x b.1)
    ]

-- ---- one more number

index_snoc : (k : ℕ) (ks : List Key) (ns : List ℕ) (n : ℕ) →
    index_from k ks (ns ++ n ∷ []) ≡ insert_key_of (index_from k ks ns) (key_at (k + length ns) n)
index_snoc k ks [] n = ap (λ (i : ℕ). insert_key_of ks (key_at i n)) (let e : k ≡ k + 0 = omega arith in e)
index_snoc k ks (m ∷ ns) n =
    index_snoc (k + 1) (insert_key_of ks (key_at k m)) ns n
    ∙ ap (λ (i : ℕ). insert_key_of (index_from (k + 1) (insert_key_of ks (key_at k m)) ns) (key_at i n)) (let e : k + 1 + length ns ≡ k + suc (length ns) = omega arith in e)

pub index_push : (ns : List ℕ) (n s : ℕ) → s ≡ length ns → insert_key_of (index_of ns) (key_at s n) ≡ index_of (ns ++ n ∷ [])
index_push ns n s e =
    ap (λ (i : ℕ). insert_key_of (index_of ns) (key_at i n)) (let z : s ≡ 0 + length ns = omega arith in z) ∙ sym (index_snoc 0 [] ns n)

below_index : (k : ℕ) (ks : List Key) (ns : List ℕ) → Below k ks → Below (k + length ns) (index_from k ks ns)
below_index k ks [] b = subst (λ (i : ℕ). Below i ks) (let e : k ≡ k + 0 = omega arith in e) b
below_index k ks (n ∷ ns) b =
    subst (λ (i : ℕ). Below i (index_from (k + 1) (insert_key_of ks (key_at k n)) ns)) (let e : k + 1 + length ns ≡ k + suc (length ns) = omega arith in e)
    (below_index (k + 1) (insert_key_of ks (key_at k n)) ns (below_insert (k + 1) ks (key_at k n) (below_more k ks b) (omega arith)))

length_index_on : (k : ℕ) (ks : List Key) (ns : List ℕ) → length (index_from k ks ns) ≡ length ks + length ns
length_index_on k ks [] = omega arith
length_index_on k ks (n ∷ ns) =
    let a = length_index_on (k + 1) (insert_key_of ks (key_at k n)) ns in
    let b = length_placed (below key_order) (key_at k n) ks in
    omega arith

pub length_index : (ns : List ℕ) → length (index_of ns) ≡ length ns
length_index ns = length_index_on 0 [] ns ∙ (let e : 0 + length ns ≡ length ns = omega arith in e)

-- cutting the last slot undoes the last insertion
pub index_cut : (ns : List ℕ) (n s : ℕ) → s ≡ length ns → cut_slot s (index_of (ns ++ n ∷ [])) ≡ index_of ns
index_cut ns n s e =
    let z : 0 + length ns ≡ s = omega arith in
    ap (cut_slot s) (index_snoc 0 [] ns n)
    ∙ ap (λ (i : ℕ). cut_slot s (insert_key_of (index_from 0 [] ns) (key_at i n))) z
    ∙ cut_insert (index_from 0 [] ns) (key_at s n) (subst (λ (i : ℕ). Below i (index_from 0 [] ns)) z (below_index 0 [] ns tt))

in_order_on : (k : ℕ) (ks : List Key) (ns : List ℕ) → InOrder (below key_order) ks → InOrder (below key_order) (index_from k ks ns)
in_order_on k ks [] h = h
in_order_on k ks (n ∷ ns) h = in_order_on (k + 1) (insert_key_of ks (key_at k n)) ns (stays key_order (key_at k n) ks h)

-- the keys are in order at every moment
pub in_order : (ns : List ℕ) → InOrder (below key_order) (index_of ns)
in_order ns = in_order_on 0 [] ns tt

-- ---- looking up

-- nothing is found where every number is above
look_above : (n : ℕ) (ks : List Key) → AllByRecursion (λ (y : Key). n < y.number) ks → look_in n ks ≡ None
look_above n [] h = refl
look_above n (y ∷ ys) h = cond-false _ _ _ (ne_eqb y.number n (λ e. let l = h.0 in omega arith)) ∙ look_above n ys h.1

above : (n : ℕ) (x : Key) (ks : List Key) → n < x.number → AllByRecursion (λ (y : Key). below key_order y x ≡ false) ks → AllByRecursion (λ (y : Key). n < y.number) ks
above n x ks lt h =
    All-weaker (λ (y : Key). below key_order y x ≡ false) (λ (y : Key). n < y.number)
    (λ y e. let l : x.number ≤ y.number = ltb-false y.number x.number (sym (below_ltb y x) ∙ e) in omega arith) ks h

look_first : (n : ℕ) (x : Key) (ks : List Key) → InOrder (below key_order) (x ∷ ks) → n < x.number → look_in n (x ∷ ks) ≡ None
look_first n x ks h lt = look_above n (x ∷ ks) (lt, above n x ks lt h.0)

-- the first of two
abbrev or_else : Option ℕ → Option ℕ → Option ℕ
or_else None o = o
or_else (Some k) o = Some k

or_none : (o : Option ℕ) → or_else o None ≡ o
or_none None = refl
or_none (Some k) = refl

or_cond : (b : Bool) (k : ℕ) (o q : Option ℕ) → cond b (Some k) (or_else o q) ≡ or_else (cond b (Some k) o) q
or_cond true k o q = refl
or_cond false k o q = refl

look_insert : (n : ℕ) (ks : List Key) (x : Key) → InOrder (below key_order) ks →
    look_in n (insert_key_of ks x) ≡ or_else (look_in n ks) (look_in n (x ∷ []))
look_insert n [] x h = refl
look_insert n (y ∷ ys) x h = go (below key_order x y) refl (look_insert n ys x h.1)
  where
    before : (c : Bool) → eqb x.number n ≡ c → x.number < y.number →
        cond c (Some x.slot) (look_in n (y ∷ ys)) ≡ or_else (look_in n (y ∷ ys)) (cond c (Some x.slot) None)
    before true e lt =
        let q : x.number ≡ n = eqb-true x.number n e in
        let l : n < y.number = omega arith in
        sym (ap (λ (o : Option ℕ). or_else o (Some x.slot)) (look_first n y ys h l))
    before false e lt = sym (or_none (look_in n (y ∷ ys)))

    go : (b : Bool) → below key_order x y ≡ b → look_in n (insert_key_of ys x) ≡ or_else (look_in n ys) (look_in n (x ∷ [])) →
        look_in n (cond b (x ∷ y ∷ ys) (y ∷ insert_key_of ys x)) ≡ or_else (look_in n (y ∷ ys)) (look_in n (x ∷ []))
    go true e ih = before (eqb x.number n) refl (ltb-true x.number y.number (sym (below_ltb x y) ∙ e))
    go false e ih =
        ap (λ (o : Option ℕ). cond (eqb y.number n) (Some y.slot) o) ih
        ∙ or_cond (eqb y.number n) y.slot (look_in n ys) (look_in n (x ∷ []))

slot_snoc : (n k : ℕ) (ms : List ℕ) (m : ℕ) →
    slot_from n k (ms ++ m ∷ []) ≡ or_else (slot_from n k ms) (cond (eqb m n) (Some (k + length ms)) None)
slot_snoc n k [] m = ap (λ (i : ℕ). cond (eqb m n) (Some i) None) (let z : k ≡ k + 0 = omega arith in z)
slot_snoc n k (l ∷ ms) m =
    ap (λ (o : Option ℕ). cond (eqb l n) (Some k) o)
    (slot_snoc n (k + 1) ms m
    ∙ ap (λ (i : ℕ). or_else (slot_from n (k + 1) ms) (cond (eqb m n) (Some i) None)) (let z : k + 1 + length ms ≡ k + suc (length ms) = omega arith in z))
    ∙ or_cond (eqb l n) k (slot_from n (k + 1) ms) (cond (eqb m n) (Some (k + suc (length ms))) None)

looks_on : (k : ℕ) (ks : List Key) (seen ns : List ℕ) → k ≡ length seen → InOrder (below key_order) ks → ((n : ℕ) → look_in n ks ≡ slot_for n seen) →
    (n : ℕ) → look_in n (index_from k ks ns) ≡ slot_for n (seen ++ ns)
looks_on k ks seen [] ke s h n = h n ∙ ap (slot_for n) (sym (append-nil seen))
looks_on k ks seen (m ∷ ns) ke s h n =
    looks_on (k + 1) (insert_key_of ks (key_at k m)) (seen ++ m ∷ []) ns
    (let l = length_push seen m in omega arith)
    (stays key_order (key_at k m) ks s)
    (λ i.
    look_insert i ks (key_at k m) s
    ∙ ap (λ (o : Option ℕ). or_else o (cond (eqb m i) (Some k) None)) (h i)
    ∙ ap (λ (j : ℕ). or_else (slot_for i seen) (cond (eqb m i) (Some j) None)) (let z : k ≡ 0 + length seen = omega arith in z)
    ∙ sym (slot_snoc i 0 seen m))
    n
    ∙ ap (slot_for n) (append_assoc seen (m ∷ []) ns)

-- the ordered keys find the first slot of a number
pub looks : (ns : List ℕ) (n : ℕ) → look_in n (index_of ns) ≡ slot_for n ns
looks ns n = looks_on 0 [] [] ns refl tt (λ m. refl) n

-- ---- the place of a number among the keys

at : (P : Key → Type 0) (ks : List Key) (k : ℕ) (d : Key) → AllByRecursion P ks → k < length ks → P (get_or ks k d)
at P [] k d a lt = absurd (omega arith)
at P (y ∷ ys) zero d a lt = a.0
at P (y ∷ ys) (suc k) d a lt = at P ys k d a.1 (omega arith)

-- the numbers rise
pub rising : (ks : List Key) → InOrder (below key_order) ks → IsNonDecreasingBy (λ (y : Key). y.number) ks
rising [] h i j d le lt = absurd (omega arith)
rising (y ∷ ys) h zero zero d le lt = omega arith
rising (y ∷ ys) h zero (suc j) d le lt =
    ltb-false _ _ (sym (below_ltb (get_or ys j d) y) ∙ at _ ys j d h.0 (omega arith))
rising (y ∷ ys) h (suc i) zero d le lt = absurd (omega arith)
rising (y ∷ ys) h (suc i) (suc j) d le lt = rising ys h.1 i j d (omega arith) (omega arith)

-- smaller numbers are passed over
pub look_past : (n i : ℕ) (ks : List Key) → ((k : ℕ) (d : Key) → k < i → ltb (get_or ks k d).number n ≡ true) → look_in n ks ≡ look_in n (drop i ks)
look_past n zero ks h = refl
look_past n (suc i) [] h = refl
look_past n (suc i) (y ∷ ys) h =
    let l : y.number < n = ltb-true _ _ (h 0 y (omega arith)) in
    cond-false _ _ _ (ne_eqb y.number n (λ e. omega arith)) ∙ look_past n i ys (λ k d lt. h (suc k) d (omega arith))

pub look_here : (n k : ℕ) (ks : List Key) (d : Key) → k < length ks → (get_or ks k d).number ≡ n → look_in n (drop k ks) ≡ Some (get_or ks k d).slot
look_here n k ks d lt h = ap (look_in n) (drop_more ks k d lt) ∙ cond-true _ _ _ (eq-eqb _ _ h)

pub look_end : (n k : ℕ) (ks : List Key) → length ks ≤ k → look_in n (drop k ks) ≡ None
look_end n k ks le = ap (look_in n) (drop_all k ks le)

order_drop : (k : ℕ) (ks : List Key) → InOrder (below key_order) ks → InOrder (below key_order) (drop k ks)
order_drop zero ks h = h
order_drop (suc k) [] h = tt
order_drop (suc k) (y ∷ ks) h = order_drop k ks h.1

-- behind a greater number there is nothing to find
pub look_stop : (n k : ℕ) (ks : List Key) (d : Key) → k < length ks → n < (get_or ks k d).number → InOrder (below key_order) ks → look_in n (drop k ks) ≡ None
look_stop n k ks d lt l h =
    let q : drop k ks ≡ get_or ks k d ∷ drop (k + 1) ks = drop_more ks k d lt in
    ap (look_in n) q ∙ look_first n (get_or ks k d) (drop (k + 1) ks) (subst (InOrder (below key_order)) q (order_drop k ks h)) l

remove_past : (ks : List Key) (k : ℕ) → length ks ≤ k → remove ks k ≡ ks
remove_past [] zero le = refl
remove_past [] (suc k) le = refl
remove_past (y ∷ ys) zero le = absurd (omega arith)
remove_past (y ∷ ys) (suc k) le = ap (λ (zs : List Key). y ∷ zs) (remove_past ys k (omega arith))

-- taking out the first key of a slot
cut_place : (s : ℕ) (ks : List Key) → remove ks (position_or_len (λ (y : Key). eqb y.slot s) ks) ≡ cut_slot s ks
cut_place s [] = refl
cut_place s (y ∷ ys) =
    elim (eqb y.slot s) as (λ (b : Bool). remove (y ∷ ys) (cond (not b) (1 + position_or_len (λ (k : Key). eqb k.slot s) ys) 0) ≡ cond b ys (y ∷ cut_slot s ys)) [
      | true ↦ refl
      | false ↦
          let n = position_or_len (λ (k : Key). eqb k.slot s) ys in
          ap (remove (y ∷ ys)) (let e : 1 + n ≡ suc n = omega arith in e) ∙ ap (λ (zs : List Key). y ∷ zs) (cut_place s ys)
    ]

place_some : (b : Bool) (p i : ℕ) → cond b (Some p) None ≡ Some i → p ≡ i
place_some true p i e = cc
place_some false p i e = absurd cc

place_none : (b : Bool) (p : ℕ) → cond b (Some p) None ≡ None → b ≡ false
place_none true p e = absurd cc
place_none false p e = refl

pub cut_found : (s i : ℕ) (ks : List Key) → position (λ (y : Key). eqb y.slot s) ks ≡ Some i → remove ks i ≡ cut_slot s ks
cut_found s i ks e = subst (λ (k : ℕ). remove ks k ≡ cut_slot s ks) (place_some _ _ i e) (cut_place s ks)

pub cut_none : (s : ℕ) (ks : List Key) → position (λ (y : Key). eqb y.slot s) ks ≡ None → ks ≡ cut_slot s ks
cut_none s ks e =
    let le = ltb-false _ _ (place_none _ _ e) in
    sym (remove_past ks _ le) ∙ cut_place s ks

-- ---- a shelf after one more entry, and after one less

-- what an insertion behind the keys makes of them
pub inserted_key : (ks old new : List Key) (x : Key) (n : ℕ) → old ≡ ks ++ x ∷ [] → n ≡ length ks → length new ≡ length old →
    take (n + 1) new ≡ placed (below key_order) x (take n old) → new ≡ insert_key_of ks x
inserted_key ks old new x n e ne len h =
    let lp = length_push ks x in
    let lo : length old ≡ length (ks ++ x ∷ []) = ap length e in
    let t : take n old ≡ ks = ap (take n) e ∙ take_at ks (x ∷ []) n (sym ne) in
    sym (take_all (n + 1) new (omega arith)) ∙ h ∙ ap (placed (below key_order) x) t

-- a shelf has as many keys as entries
pub keys_many : (ks : List Key) (es : List Entry) → ks ≡ index_of (numbers_of es) → length ks ≡ length es
keys_many ks es e = ap length e ∙ length_index (numbers_of es) ∙ length-map es (λ (x : Entry). x.sheet.number)

pub keys_push : (ks new : List Key) (es more : List Entry) (e : Entry) (n : ℕ) → ks ≡ index_of (numbers_of es) → n ≡ length es → more ≡ es ++ e ∷ [] →
    new ≡ insert_key_of ks (key_at n e.sheet.number) → new ≡ index_of (numbers_of more)
keys_push ks new es more e n ke ne me q =
    let l : n ≡ length (numbers_of es) = ne ∙ sym (length-map es (λ (x : Entry). x.sheet.number)) in
    q ∙ ap (λ (zs : List Key). insert_key_of zs (key_at n e.sheet.number)) ke ∙ index_push (numbers_of es) e.sheet.number n l
    ∙ ap index_of (sym (map_push (λ (x : Entry). x.sheet.number) es e)) ∙ ap (λ (zs : List Entry). index_of (numbers_of zs)) (sym me)

-- the last entry of a list that has one
last_split : (es : List Entry) (n : ℕ) → suc n ≡ length es → (e : Entry) × (es ≡ take n es ++ e ∷ [])
last_split [] n l = absurd (omega arith)
last_split (x ∷ []) zero l = (x, refl)
last_split (x ∷ []) (suc n) l = absurd (omega arith)
last_split (x ∷ y ∷ es) zero l = absurd (omega arith)
last_split (x ∷ y ∷ es) (suc n) l =
    let r = last_split (y ∷ es) n (omega arith) in
    (r.0, ap (λ (zs : List Entry). x ∷ zs) r.1)

pub keys_cut : (ks new : List Key) (es less : List Entry) (n : ℕ) → ks ≡ index_of (numbers_of es) → n + 1 ≡ length es → less ≡ take n es →
    new ≡ cut_slot n ks → new ≡ index_of (numbers_of less)
keys_cut ks new es less n ke ne le q =
    let r = last_split es n (omega arith) in
    let num : Entry → ℕ = λ (x : Entry). x.sheet.number in
    let lt : length (take n es) ≡ n = length-take-le n es (omega arith) in
    let l : n ≡ length (numbers_of (take n es)) = sym lt ∙ sym (length-map (take n es) (λ (x : Entry). x.sheet.number)) in
    q ∙ ap (cut_slot n) (ke ∙ ap (λ (zs : List Entry). index_of (numbers_of zs)) r.1 ∙ ap index_of (map_push (λ (x : Entry). x.sheet.number) (take n es) r.0))
    ∙ index_cut (numbers_of (take n es)) r.0.sheet.number n l
    ∙ ap (λ (zs : List Entry). index_of (numbers_of zs)) (sym le)
