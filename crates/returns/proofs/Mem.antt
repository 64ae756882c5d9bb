-- Memory by bytes: what a load reads after a store, at the same place and elsewhere.
use Rattle.std.proofs.Common.{◌≡◌, ℕ, zero, suc, ◌+◌, ◌*◌, ◌/◌, ◌%◌, ◌^◌, ◌<◌, ◌≤◌, Bool, true, false, cond, ◌&&◌, eqb, ◌≢◌, ◌⊎◌, sym, refl, ap, ◌∙◌, ap₂, inl, inr, pow-suc, arith}
use Rattle.std.proofs.Math.Nat.{mod-one}
use Rattle.std.proofs.Math.Arith.{mod-mul}
use Rattle.std.proofs.lemmas.Bool.Decides.{nat_tests, eqb_tells}
use Rattle.machine.specs.Machine.{Mem, put, load, store, all_mapped}

pub put_same : (k v : ℕ) (f : ℕ → ℕ) → put k v f k ≡ v
unfolding put
put_same k v f = grind (arith, nat_tests)

pub put_other : (k v : ℕ) (f : ℕ → ℕ) (j : ℕ) → j ≢ k → put k v f j ≡ f j
unfolding put
put_other k v f j ne = grind (arith, nat_tests)

pub put_keep : (k v : ℕ) (f g : ℕ → ℕ) (r : ℕ) → v ≡ g k → f r ≡ g r → put k v f r ≡ g r
unfolding put
put_keep k v f g r e h = go (eqb_tells r k)
  where
    go : ((eqb r k ≡ true) × (r ≡ k)) ⊎ ((eqb r k ≡ false) × (r ≡ k → ⊥)) → put k v f r ≡ g r
    go (inl t) = ap (λ b. cond b v (f r)) t.0 ∙ e ∙ ap g (sym t.1)
    go (inr t) = ap (λ b. cond b v (f r)) t.0 ∙ h

pub put_set : (k v : ℕ) (f g : ℕ → ℕ) (r : ℕ) → v ≡ g k → r ≡ k → put k v f r ≡ g r
put_set k v f g r e h = ap (put k v f) h ∙ put_same k v f ∙ e ∙ ap g (sym h)

-- a byte outside what is stored stays
pub store_below : (n a v : ℕ) (m : Mem) (b : ℕ) → b < a → store n a v m b ≡ m b
unfolding store
store_below zero a v m b h = refl
store_below (suc n) a v m b h =
    put_other a (v % 256) (store n (suc a) (v / 256) m) b (omega arith) ∙ store_below n (suc a) (v / 256) m b (omega arith)

pub store_above : (n a v : ℕ) (m : Mem) (b : ℕ) → a + n ≤ b → store n a v m b ≡ m b
unfolding store
store_above zero a v m b h = refl
store_above (suc n) a v m b h =
    put_other a (v % 256) (store n (suc a) (v / 256) m) b (omega arith) ∙ store_above n (suc a) (v / 256) m b (omega arith)

-- a load sees only its own bytes
pub load_agree : (n a : ℕ) (m m' : Mem) → ((b : ℕ) → a ≤ b → b < a + n → m b ≡ m' b) → load n a m ≡ load n a m'
unfolding load
load_agree zero a m m' h = refl
load_agree (suc n) a m m' h =
    ap₂ (λ u w. u + 256 * w) (h a (omega arith) (omega arith))
    (load_agree n (suc a) m m' (λ b l u. h b (omega arith) (omega arith)))

pow256_pos : (n : ℕ) → 0 < 256 ^ n
pow256_pos zero = omega arith
pow256_pos (suc n) = let h = pow256_pos n in omega (arith, pow-suc 256 n)

-- the lowest byte and the rest
digits : (n v : ℕ) → v % 256 + 256 * (v / 256 % 256 ^ n) ≡ v % 256 ^ suc n
digits n v =
    let e = mod-mul v {m = 256 ^ n} {c = 256} (pow256_pos n) (omega arith) in
    let p = pow-suc 256 n in
    omega (arith, e, ap (λ u. v % u) p)

pub load_same : (n a v : ℕ) (m : Mem) → load n a (store n a v m) ≡ v % 256 ^ n
unfolding load store
load_same zero a v m = sym (mod-one v)
load_same (suc n) a v m =
    ap₂ (λ u w. u + 256 * w) (put_same a (v % 256) (store n (suc a) (v / 256) m))
    (load_agree n (suc a) _ (store n (suc a) (v / 256) m) (λ b l u. put_other a (v % 256) _ b (omega arith)) ∙ load_same n (suc a) (v / 256) m)
    ∙ digits n v

pub load_disjoint : (n a : ℕ) (k b v : ℕ) (m : Mem) → (a + n ≤ b) ⊎ (b + k ≤ a) → load n a (store k b v m) ≡ load n a m
load_disjoint n a k b v m (inl h) = load_agree n a _ m (λ c l u. store_below k b v m c (omega arith))
load_disjoint n a k b v m (inr h) = load_agree n a _ m (λ c l u. store_above k b v m c (omega arith))

pub mapped_all : (n a : ℕ) (p : ℕ → Bool) → ((b : ℕ) → a ≤ b → b < a + n → p b ≡ true) → all_mapped n a p ≡ true
unfolding all_mapped
mapped_all zero a p h = refl
mapped_all (suc n) a p h =
    ap₂ (λ u w. u && w) (h a (omega arith) (omega arith)) (mapped_all n (suc a) p (λ b l u. h b (omega arith) (omega arith)))
