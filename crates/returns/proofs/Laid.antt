-- What the layout of an accepted sheet gives: a sound frame, and every kept register that is clobbered in a slot.
use Rattle.std.proofs.Common.{◌≡◌, ℕ, ◌+◌, ◌*◌, ◌%◌, ◌^◌, ◌<◌, ◌≤◌, Bool, true, false, cond, ◌&&◌, ◌||◌, eqb, ltb, leb, ◌⊎◌, List, [], ◌∷◌, ◌++◌, length, Some, None, filter, Option, sym, refl, ap, ◌∙◌, inl, inr, arith}
use Rattle.std.proofs.lemmas.Bool.Decides.{nat_tests, eqb_tells}
use Rattle.a64.specs.declared.inst.ApiKey.{ApiKey}
use Rattle.a64.specs.declared.inst.Key.{Key}
use Rattle.a64.specs.declared.inst.Modifier.{Modifier}
use Rattle.layout.specs.Slots.{Slot, twos_x, twos_d, each_q, slots_of}
use Rattle.layout.proofs.Areas.{slots_size}
use Rattle.sheet.proofs.Walks.{below_all, kept_few}
use Rattle.sheet.specs.Accepted.{Accepted}
use Rattle.sheet.specs.Codes.{has, within}
use Rattle.sheet.specs.Plain.{PlainSheet, same, alike}
use Rattle.sheet.specs.Saved.{pairing, callee_saved, partner, saves, saved_ints_of, saved_vecs_of, clobber_size_of, sets_up}
use Rattle.sheet.specs.Walk.{ints, ups, downs}
use Rattle.sheet.specs.declared.types.CallConv.TheVariants.{Tail, Winch, PreserveAll}
use Rattle.sheet.specs.declared.types.FunctionCalls.{FunctionCalls}
use Rattle.frame.specs.Pieces.{with_sp, select_api_key_of, incoming_args_diff_of, stack_size_of, probe_size_of}
use Rattle.returns.specs.Premises.{keeps_x, keeps_lo, keeps_hi, clobbers_x, clobbers_v, given_back}
use Rattle.returns.proofs.Frames.{bytes, Frame}
use Rattle.returns.proofs.Owed.{InX, InLo, InHi, Any, AllWide, Savable, GoodAll, Sound, Guarded, Keyed}
use Rattle.returns.proofs.Adjust.{tf, ft}
use Rattle.returns.proofs.Whole.{any_front, any_back, wide-++}

-- The frame that a sheet describes.
abbrev pub frame_of : PlainSheet → Frame
frame_of h =
    record {
      setup = sets_up h;
      seal = select_api_key_of h;
      bti = h.flags.use_bti;
      pauth = h.flags.has_pauth;
      size = probe_size_of h;
      guard = cond h.flags.inline_probes h.sizes.guard 0;
      grow = incoming_args_diff_of h;
      slots = slots_of h;
      area = stack_size_of h;
      given = given_back h;
    }

abbrev pub In : ℕ → List ℕ → Type 0
In r [] = ⊥
In r (a ∷ rs) = (r ≡ a) ⊎ In r rs

-- what passes, of what stands in a list
pub kept_in : (t : ℕ → Bool) (w : List ℕ) (r : ℕ) → has w r ≡ true → t r ≡ true → In r (filter t w)
kept_in t [] r i p = absurd (ft i)
kept_in t (x ∷ xs) r i p = go (t x) refl (eqb_tells r x) i (λ j. kept_in t xs r j p)
  where
    go : (b : Bool) → t x ≡ b → ((eqb r x ≡ true) × (r ≡ x)) ⊎ ((eqb r x ≡ false) × (r ≡ x → ⊥)) → eqb r x || has xs r ≡ true
        → (has xs r ≡ true → In r (filter t xs)) → In r (cond b (x ∷ filter t xs) (filter t xs))
    go true q (inl e) j rest = inl e.1
    go false q (inl e) j rest = absurd (tf (sym p ∙ ap t e.1 ∙ q))
    go true q (inr e) j rest = inr (rest (sym (ap (λ z. z || has xs r) e.0) ∙ j))
    go false q (inr e) j rest = rest (sym (ap (λ z. z || has xs r) e.0) ∙ j)

pub kept_of : (t : ℕ → Bool) (w : List ℕ) (r : ℕ) → In r (filter t w) → (t r ≡ true) × In r w
kept_of t [] r i = absurd i
kept_of t (x ∷ xs) r i = go (t x) refl i (kept_of t xs r)
  where
    go : (b : Bool) → t x ≡ b → In r (cond b (x ∷ filter t xs) (filter t xs)) → (In r (filter t xs) → (t r ≡ true) × In r xs) → (t r ≡ true) × In r (x ∷ xs)
    go true q (inl e) rest = (ap t e ∙ q, inl e)
    go true q (inr e) rest = let z = rest e in (z.0, inr z.1)
    go false q e rest = let z = rest e in (z.0, inr z.1)

abbrev passes : (ℕ → Bool) → List ℕ → Bool
passes t [] = true
passes t (x ∷ xs) = t x && passes t xs

and_left : (a b : Bool) → a && b ≡ true → a ≡ true
and_left true b h = refl
and_left false b h = absurd (ft h)

and_right : (a b : Bool) → a && b ≡ true → b ≡ true
and_right true b h = h
and_right false b h = absurd (ft h)

passed : (t : ℕ → Bool) (w : List ℕ) (r : ℕ) → passes t w ≡ true → In r w → t r ≡ true
passed t [] r p i = absurd i
passed t (x ∷ xs) r p (inl e) = ap t e ∙ and_left (t x) (passes t xs) p
passed t (x ∷ xs) r p (inr e) = passed t xs r (and_right (t x) (passes t xs) p) e

lt_32 : (r : ℕ) → ltb r 32 ≡ true → r < 32
lt_32 r h = grind (arith, nat_tests)

pub ints_lt : (d : Bool) (r : ℕ) → In r (ints d) → r < 32
unfolding ints
ints_lt true r i = lt_32 r (passed (λ k. ltb k 32) (downs 32) r refl i)
ints_lt false r i = lt_32 r (passed (λ k. ltb k 32) (ups 32) r refl i)

pub ints_has : (d : Bool) (r : ℕ) → r < 32 → has (ints d) r ≡ true
unfolding ints
ints_has true r l = below_all (λ k. has (downs 32) k) 32 refl r l
ints_has false r l = below_all (λ k. has (ups 32) k) 32 refl r l

ints_long : (d : Bool) → length (ints d) ≡ 32
unfolding ints
ints_long true = refl
ints_long false = refl

kept_32 : (t : ℕ → Bool) (d : Bool) → length (filter t (ints d)) ≤ 32
kept_32 t d = let a = kept_few t (ints d) in let b = ints_long d in omega arith

twos_x_any : (rs : List ℕ) (r : ℕ) → In r rs → Any InX (twos_x rs) r
twos_x_any [] r h = absurd h
twos_x_any (a ∷ []) r (inl h) = inl h
twos_x_any (a ∷ []) r (inr h) = absurd h
twos_x_any (a ∷ b ∷ rs) r (inl h) = inl (inl h)
twos_x_any (a ∷ b ∷ rs) r (inr (inl h)) = inl (inr h)
twos_x_any (a ∷ b ∷ rs) r (inr (inr h)) = inr (twos_x_any rs r h)

twos_d_any : (rs : List ℕ) (r : ℕ) → In r rs → Any InLo (twos_d rs) r
twos_d_any [] r h = absurd h
twos_d_any (a ∷ []) r (inl h) = inl h
twos_d_any (a ∷ []) r (inr h) = absurd h
twos_d_any (a ∷ b ∷ rs) r (inl h) = inl (inl h)
twos_d_any (a ∷ b ∷ rs) r (inr (inl h)) = inl (inr h)
twos_d_any (a ∷ b ∷ rs) r (inr (inr h)) = inr (twos_d_any rs r h)

each_q_lo : (rs : List ℕ) (r : ℕ) → In r rs → Any InLo (each_q rs) r
each_q_lo [] r h = absurd h
each_q_lo (a ∷ rs) r (inl h) = inl h
each_q_lo (a ∷ rs) r (inr h) = inr (each_q_lo rs r h)

each_q_hi : (rs : List ℕ) (r : ℕ) → In r rs → Any InHi (each_q rs) r
each_q_hi [] r h = absurd h
each_q_hi (a ∷ rs) r (inl h) = inl h
each_q_hi (a ∷ rs) r (inr h) = inr (each_q_hi rs r h)

twos_x_good : (rs : List ℕ) → ((r : ℕ) → In r rs → Savable r) → GoodAll (twos_x rs)
twos_x_good [] h = tt
twos_x_good (a ∷ []) h = (h a (inl refl), tt)
twos_x_good (a ∷ b ∷ rs) h = ((h a (inl refl), h b (inr (inl refl))), twos_x_good rs (λ r i. h r (inr (inr i))))

twos_d_good : (rs : List ℕ) → ((r : ℕ) → In r rs → r < 32) → GoodAll (twos_d rs)
twos_d_good [] h = tt
twos_d_good (a ∷ []) h = (h a (inl refl), tt)
twos_d_good (a ∷ b ∷ rs) h = ((h a (inl refl), h b (inr (inl refl))), twos_d_good rs (λ r i. h r (inr (inr i))))

each_q_good : (rs : List ℕ) → ((r : ℕ) → In r rs → r < 32) → GoodAll (each_q rs)
each_q_good [] h = tt
each_q_good (a ∷ rs) h = (h a (inl refl), each_q_good rs (λ r i. h r (inr i)))

twos_x_wide : (rs : List ℕ) → AllWide (twos_x rs)
twos_x_wide [] = tt
twos_x_wide (a ∷ []) = (tt, tt)
twos_x_wide (a ∷ b ∷ rs) = (tt, twos_x_wide rs)

each_q_wide : (rs : List ℕ) → AllWide (each_q rs)
each_q_wide [] = tt
each_q_wide (a ∷ rs) = (tt, each_q_wide rs)

good-++ : (R S : List Slot) → GoodAll R → GoodAll S → GoodAll (R ++ S)
good-++ [] S h k = k
good-++ (σ ∷ R) S h k = (h.0, good-++ R S h.1 k)

within_of : (a b r : ℕ) → within a b r ≡ true → (a ≤ r) × (r ≤ b)
within_of a b r h = grind (arith, nat_tests)

callee_x : (r : ℕ) → r < 32 → callee_saved r ≡ true → (19 ≤ r) × (r ≤ 28)
callee_x r l h = grind (arith, nat_tests)

x_callee : (r : ℕ) → within 19 28 r ≡ true → callee_saved r ≡ true
x_callee r h = ap (λ z. z || within 72 79 r) h

v_callee : (r : ℕ) → within 8 15 r ≡ true → callee_saved (64 + r) ≡ true
v_callee r h = grind (arith, nat_tests)

x_savable : (h : PlainSheet) → Accepted h → (r : ℕ) → In r (saved_ints_of h) → Savable r
x_savable h ok r i = go (same h.conv PreserveAll) kept.0
  where
    kept : (saves h r ≡ true) × In r (ints (pairing h))
    kept = kept_of (saves h) (ints (pairing h)) r i

    low : r < 32
    low = ints_lt (pairing h) r kept.1

    codes : (r ≤ 15) ⊎ (((19 ≤ r) × (r ≤ 28)) ⊎ ((64 ≤ r) × (r ≤ 95))) → Savable r
    codes (inl c) = (omega arith, omega arith, omega arith)
    codes (inr (inl c)) = (omega arith, omega arith, omega arith)
    codes (inr (inr c)) = absurd (omega (arith, low))

    go : (b : Bool) → cond b (has h.clobbers r) (callee_saved r && (has h.clobbers r || (pairing h && has h.clobbers (partner r)))) ≡ true → Savable r
    go true q = codes (ok.codes r q)
    go false q = let w = callee_x r low (and_left (callee_saved r) _ q) in (omega arith, omega arith, omega arith)

slots_good : (h : PlainSheet) → Accepted h → GoodAll (slots_of h)
unfolding slots_of
slots_good h ok = good-++ _ (twos_x (saved_ints_of h)) (go (same h.conv PreserveAll)) (twos_x_good (saved_ints_of h) (x_savable h ok))
  where
    low : (r : ℕ) → In r (saved_vecs_of h) → r < 32
    low r i = ints_lt (pairing h) r (kept_of (λ n. saves h (64 + n)) (ints (pairing h)) r i).1

    go : (b : Bool) → GoodAll (cond b (each_q (saved_vecs_of h)) (twos_d (saved_vecs_of h)))
    go true = each_q_good (saved_vecs_of h) low
    go false = twos_d_good (saved_vecs_of h) low

or_left : (a b : Bool) → a ≡ true → a || b ≡ true
or_left true b h = refl
or_left false b h = absurd (ft h)

and_both : (a b : Bool) → a ≡ true → b ≡ true → a && b ≡ true
and_both true b h k = k
and_both false b h k = absurd (ft h)

-- a clobber of the callee's registers is saved, and under PreserveAll every clobber
clobber_saved : (h : PlainSheet) (c : ℕ) → has h.clobbers c ≡ true → (same h.conv PreserveAll ≡ true) ⊎ (callee_saved c ≡ true) → saves h c ≡ true
clobber_saved h c i w = go (same h.conv PreserveAll) w
  where
    go : (b : Bool) → (b ≡ true) ⊎ (callee_saved c ≡ true)
        → cond b (has h.clobbers c) (callee_saved c && (has h.clobbers c || (pairing h && has h.clobbers (partner c)))) ≡ true
    go true z = i
    go false (inl z) = absurd (ft z)
    go false (inr z) = and_both (callee_saved c) _ z (or_left (has h.clobbers c) _ i)

pub kept_low : (h : PlainSheet) (r : ℕ) → keeps_x h r ≡ true → Savable r
kept_low h r k = go (within 19 28 r) refl _ (same h.conv PreserveAll) k
  where
    go : (w : Bool) → within 19 28 r ≡ w → (n a : Bool) → (w && n) || (a && leb r 15) ≡ true → Savable r
    go true e n a q = let w = within_of 19 28 r e in (omega arith, omega arith, omega arith)
    go false e n true q = let l : r ≤ 15 = grind (arith, nat_tests) in (omega arith, omega arith, omega arith)
    go false e n false q = absurd (ft q)

kept_x : (h : PlainSheet) (r : ℕ) → keeps_x h r ≡ true → (same h.conv PreserveAll ≡ true) ⊎ (callee_saved r ≡ true)
kept_x h r k = go (within 19 28 r) refl _ (same h.conv PreserveAll) k
  where
    go : (w : Bool) → within 19 28 r ≡ w → (n a : Bool) → (w && n) || (a && leb r 15) ≡ true → (a ≡ true) ⊎ (callee_saved r ≡ true)
    go true e n a q = inr (x_callee r e)
    go false e n true q = inl refl
    go false e n false q = absurd (ft q)

kept_v : (h : PlainSheet) (r : ℕ) → keeps_lo h r ≡ true → (same h.conv PreserveAll ≡ true) ⊎ (callee_saved (64 + r) ≡ true)
kept_v h r k = go (within 8 15 r) refl (same h.conv PreserveAll) k
  where
    go : (w : Bool) → within 8 15 r ≡ w → (a : Bool) → w || (a && leb r 31) ≡ true → (a ≡ true) ⊎ (callee_saved (64 + r) ≡ true)
    go true e a q = inr (v_callee r e)
    go false e true q = inl refl
    go false e false q = absurd (ft q)

vec_low : (h : PlainSheet) → Accepted h → (r : ℕ) → clobbers_v h r ≡ true → r < 32
vec_low h ok r c = low (ok.codes (64 + r) c)
  where
    low : (64 + r ≤ 15) ⊎ (((19 ≤ 64 + r) × (64 + r ≤ 28)) ⊎ ((64 ≤ 64 + r) × (64 + r ≤ 95))) → r < 32
    low (inl z) = omega arith
    low (inr (inl z)) = omega arith
    low (inr (inr z)) = omega arith

pub laid_x : (h : PlainSheet) → Accepted h → (r : ℕ) → keeps_x h r ≡ true → clobbers_x h r ≡ true → Any InX (slots_of h) r
unfolding slots_of
laid_x h ok r k c =
    let s = kept_low h r k in
    any_back InX _ (twos_x (saved_ints_of h)) r
    (twos_x_any (saved_ints_of h) r
    (kept_in (saves h) (ints (pairing h)) r (ints_has (pairing h) r (omega (arith, s.0))) (clobber_saved h r c (kept_x h r k))))

vec_in : (h : PlainSheet) → Accepted h → (r : ℕ) → clobbers_v h r ≡ true → (same h.conv PreserveAll ≡ true) ⊎ (callee_saved (64 + r) ≡ true) → In r (saved_vecs_of h)
vec_in h ok r c w =
    kept_in (λ n. saves h (64 + n)) (ints (pairing h)) r (ints_has (pairing h) r (vec_low h ok r c)) (clobber_saved h (64 + r) c w)

pub laid_lo : (h : PlainSheet) → Accepted h → (r : ℕ) → keeps_lo h r ≡ true → clobbers_v h r ≡ true → Any InLo (slots_of h) r
unfolding slots_of
laid_lo h ok r k c = any_front InLo _ _ r (go (same h.conv PreserveAll) (vec_in h ok r c (kept_v h r k)))
  where
    go : (b : Bool) → In r (saved_vecs_of h) → Any InLo (cond b (each_q (saved_vecs_of h)) (twos_d (saved_vecs_of h))) r
    go true i = each_q_lo (saved_vecs_of h) r i
    go false i = twos_d_any (saved_vecs_of h) r i

pub laid_wide : (h : PlainSheet) (r : ℕ) → keeps_hi h r ≡ true → AllWide (slots_of h)
unfolding slots_of
laid_wide h r k = wide-++ _ (twos_x (saved_ints_of h)) (go (same h.conv PreserveAll) (and_left (same h.conv PreserveAll) (leb r 31) k)) (twos_x_wide (saved_ints_of h))
  where
    go : (b : Bool) → b ≡ true → AllWide (cond b (each_q (saved_vecs_of h)) (twos_d (saved_vecs_of h)))
    go true q = each_q_wide (saved_vecs_of h)
    go false q = absurd (ft q)

pub laid_hi : (h : PlainSheet) → Accepted h → (r : ℕ) → keeps_hi h r ≡ true → clobbers_v h r ≡ true → Any InHi (slots_of h) r
unfolding slots_of
laid_hi h ok r k c = any_front InHi _ _ r (go (same h.conv PreserveAll) all (vec_in h ok r c (inl all)))
  where
    all : same h.conv PreserveAll ≡ true
    all = and_left (same h.conv PreserveAll) (leb r 31) k

    go : (b : Bool) → b ≡ true → In r (saved_vecs_of h) → Any InHi (cond b (each_q (saved_vecs_of h)) (twos_d (saved_vecs_of h))) r
    go true q i = each_q_hi (saved_vecs_of h) r i
    go false q i = absurd (ft q)

-- sizes
bytes_long : (R : List Slot) → bytes R ≡ 16 * length R
bytes_long [] = refl
bytes_long (σ ∷ R) = let h = bytes_long R in omega arith

pub slots_bytes : (h : PlainSheet) → bytes (slots_of h) ≡ clobber_size_of h
slots_bytes h = bytes_long (slots_of h) ∙ sym (slots_size h)

pub slots_few : (h : PlainSheet) → bytes (slots_of h) < 2 ^ 12
slots_few h = let e = slots_bytes h in let s : clobber_size_of h < 2 ^ 12 = go (same h.conv PreserveAll) in omega arith
  where
    go : (b : Bool)
        → 8 * (length (saved_ints_of h) + length (saved_ints_of h) % 2)
        + cond b (16 * length (saved_vecs_of h)) (8 * (length (saved_vecs_of h) + length (saved_vecs_of h) % 2)) < 2 ^ 12
    go true = let x = kept_32 (saves h) (pairing h) in let v = kept_32 (λ r. saves h (64 + r)) (pairing h) in omega arith
    go false = let x = kept_32 (saves h) (pairing h) in let v = kept_32 (λ r. saves h (64 + r)) (pairing h) in omega arith

-- ---- the whole
no_bytes : (R : List Slot) → bytes R ≡ 0 → R ≡ []
no_bytes [] h = refl
no_bytes (σ ∷ R) h = absurd (omega arith)

or_none : (a b : Bool) → a || b ≡ false → (a ≡ false) × (b ≡ false)
or_none true b h = absurd (tf h)
or_none false b h = (refl, h)

not_pos : (n : ℕ) → ltb 0 n ≡ false → n ≡ 0
not_pos n h = grind (arith, nat_tests)

-- no setup: nothing of a frame
pub record Bare (h : PlainSheet) : Type 0 where
  pub slots : slots_of h ≡ []
  pub incoming : h.sizes.incoming ≡ 0
  pub tail : h.sizes.tail ≡ 0
  pub regular : alike h.calls FunctionCalls.Regular ≡ false

pub bare_sheet : (h : PlainSheet) → sets_up h ≡ false → Bare h
bare_sheet h q =
    let a = or_none h.flags.preserve_frame_pointers _ q in
    let b = or_none (alike h.calls FunctionCalls.Regular) _ a.1 in
    let c = or_none (ltb 0 h.sizes.incoming) _ b.1 in
    let d = or_none (ltb 0 h.sizes.tail) _ c.1 in
    let e = or_none (ltb 0 (clobber_size_of h)) _ d.1 in
    record {
      slots = no_bytes (slots_of h) (slots_bytes h ∙ not_pos (clobber_size_of h) e.0);
      incoming = not_pos h.sizes.incoming c.0;
      tail = not_pos h.sizes.tail d.0;
      regular = b.0;
    }

pub regular_sets : (h : PlainSheet) → alike h.calls FunctionCalls.Regular ≡ true → sets_up h ≡ true
regular_sets h q = go (sets_up h) refl
  where
    go : (b : Bool) → sets_up h ≡ b → b ≡ true
    go true e = refl
    go false e = absurd (tf (sym q ∙ (bare_sheet h e).regular))

pub given_cases : (b : Bool) (n : ℕ) → n % 16 ≡ 0 → (cond b n 0 % 16 ≡ 0) × (cond b n 0 ≤ n)
given_cases true n h = (h, omega arith)
given_cases false n h = (omega arith, omega arith)

setup_le : (a b : Bool) → cond a 0 (cond b 16 0) ≤ 16
setup_le true b = omega arith
setup_le false true = omega arith
setup_le false false = omega arith

guard_sheet : (h : PlainSheet) → Accepted h → Guarded (frame_of h)
guard_sheet h ok = go h.flags.inline_probes refl
  where
    go : (b : Bool) → h.flags.inline_probes ≡ b
        → (cond b h.sizes.guard 0 ≡ 0)
        ⊎ ((16 ≤ cond b h.sizes.guard 0) × (cond b h.sizes.guard 0 % 16 ≡ 0) × (cond b h.sizes.guard 0 < 2 ^ 24) × ((cond b h.sizes.guard 0 < 4096) ⊎ (cond b h.sizes.guard 0 % 4096 ≡ 0))
        × (probe_size_of h ≤ 16 + incoming_args_diff_of h + bytes (slots_of h) + stack_size_of h))
    go true q =
        let g = ok.guarded q in
        let z = slots_bytes h in
        let w = setup_le (alike h.calls FunctionCalls.None) (sets_up h) in
        inr (g.0, g.1, g.2, g.3, omega arith)
    go false q = inl refl

abbrev key_for : PlainSheet → ApiKey
key_for h =
    record {
      key = cond h.flags.sign_return_address_with_bkey Key.B Key.A;
      modifier = cond (same h.conv Tail) Modifier.Zero Modifier.Sp;
    }

key_sheet : (h : PlainSheet) → Accepted h → Keyed (select_api_key_of h) (given_back h)
key_sheet h ok = go (h.flags.sign_return_address && (sets_up h || h.flags.sign_return_address_all)) refl
  where
    given : (t w : Bool) → same h.conv Winch ≡ w → (same h.conv Winch ≡ true → 0 < h.sizes.incoming → ⊥)
        → with_sp (cond t Modifier.Zero Modifier.Sp) ≡ true → cond (t || w) h.sizes.incoming 0 ≡ 0
    given true w p n z = absurd (ft z)
    given false true p n z = zero? (eqb_tells h.sizes.incoming 0)
      where
        zero? : ((eqb h.sizes.incoming 0 ≡ true) × (h.sizes.incoming ≡ 0)) ⊎ ((eqb h.sizes.incoming 0 ≡ false) × (h.sizes.incoming ≡ 0 → ⊥)) → h.sizes.incoming ≡ 0
        zero? (inl z) = z.1
        zero? (inr z) = absurd (n p (omega (arith, z.1)))
    given false false p n z = refl

    go : (b : Bool) → h.flags.sign_return_address && (sets_up h || h.flags.sign_return_address_all) ≡ b → Keyed (cond b (Some (key_for h)) None) (given_back h)
    go true e = given (same h.conv Tail) (same h.conv Winch) refl (λ w i. differ (sym (ap (λ b. cond b (Some (key_for h)) None) e) ∙ ok.winch w i))
      where
        differ : ◌≡◌ {A = Option ApiKey} (Some (key_for h)) None → ⊥
        differ e = let z : ◌≡◌ {A = ℕ} 0 1 = cc in omega arith
    go false e = tt

pub laid_sound : (h : PlainSheet) → Accepted h → Sound (frame_of h)
laid_sound h ok =
    let g = given_cases (same h.conv Tail || same h.conv Winch) h.sizes.incoming ok.incoming16 in
    record {
      good = slots_good h ok;
      few = slots_few h;
      grow16 = omega (arith, ok.tail16, ok.incoming16, ok.larger);
      area16 = omega (arith, ok.fixed16, ok.outgoing16);
      given16 = g.0;
      sum = omega (arith, g.1, ok.sum, ok.larger);
      bare = λ q. let z = bare_sheet h q in (z.slots, omega (arith, z.tail));
      guarded = guard_sheet h ok;
      keyed = key_sheet h ok;
    }
