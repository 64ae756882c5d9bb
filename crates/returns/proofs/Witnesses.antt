-- Entry states and bodies exist.
use Rattle.std.proofs.Common.{◌≡◌, ℕ, ◌+◌, ◌^◌, ◌≤◌, Bool, true, false, cond, eqb, ◌≢◌, ◌⊎◌, refl, inl, inr, arith}
use Rattle.std.proofs.lemmas.Bool.Decides.{nat_tests}
use Rattle.machine.specs.Machine.{State}
use Rattle.sheet.specs.Accepted.{Accepted}
use Rattle.sheet.specs.Plain.{PlainSheet}
use Rattle.sheet.specs.Saved.{sets_up}
use Rattle.returns.specs.Premises.{clobbers_x, clobbers_v, need}
use Rattle.returns.specs.Witnesses.{Enterable, Clobberable}
use Rattle.returns.proofs.Adjust.{tf, ft}
use Rattle.returns.proofs.Laid.{slots_bytes, slots_few}

-- a state with all memory mapped and SP in the middle of it
start : State
start =
    record {
      x = λ r. 0;
      sp = 2 ^ 47;
      lo = λ r. 0;
      hi = λ r. 0;
      flags = record { n = false; z = false; c = false; v = false };
      mem = λ a. 0;
      mapped = λ a. true;
    }

small_need : (h : PlainSheet) → Accepted h → need h ≤ 2 ^ 32
small_need h ok =
    let a = slots_bytes h in
    let b = slots_few h in
    let c = ok.sum in
    let d = set (sets_up h) in
    let e = guard h.flags.inline_probes refl in
    omega arith
  where
    set : (b : Bool) → cond b 16 0 ≤ 16
    set true = omega arith
    set false = omega arith

    guard : (b : Bool) → h.flags.inline_probes ≡ b → cond b (16 + h.sizes.guard) 0 ≤ 16 + 2 ^ 24
    guard true q = omega (arith, (ok.guarded q).2)
    guard false q = omega arith

pub enterable : Enterable
unfolding start
enterable k h ok pauth = (
  start,
  record {
    words = record { x = λ r l. omega arith; lo = λ r l. omega arith; hi = λ r l. omega arith };
    aligned = refl;
    enough = let n = small_need h ok in omega arith;
    below = let n = ok.sum in omega arith;
    link = omega arith;
    mapped = λ b l u. refl;
    returns = pauth;
  },
)

-- another number
flip : ℕ → ℕ
flip v = cond (eqb v 0) 1 0

flips : (v : ℕ) → flip v ≢ v
unfolding flip
flips v e = zero_one v (eqb v 0) refl e
  where
    zero_one : (v : ℕ) (b : Bool) → eqb v 0 ≡ b → cond b 1 0 ≡ v → ⊥
    zero_one v b q e = grind (arith, nat_tests)

changed : PlainSheet → State → State
changed h s =
    record {
      x = λ r. cond (clobbers_x h r) (flip (s.x r)) (s.x r);
      sp = s.sp;
      lo = λ r. cond (clobbers_v h r) (flip (s.lo r)) (s.lo r);
      hi = λ r. cond (clobbers_v h r) (flip (s.hi r)) (s.hi r);
      flags = s.flags;
      mem = s.mem;
      mapped = s.mapped;
    }

-- no clobber is FP or LR
unclobbered : (h : PlainSheet) → Accepted h → (r : ℕ) → 29 ≤ r → r ≤ 30 → clobbers_x h r ≡ false
unclobbered h ok r l u = go (clobbers_x h r) refl
  where
    no : (r ≤ 15) ⊎ (((19 ≤ r) × (r ≤ 28)) ⊎ ((64 ≤ r) × (r ≤ 95))) → ⊥
    no (inl z) = omega arith
    no (inr (inl z)) = omega (arith, z.1)
    no (inr (inr z)) = omega (arith, z.0)

    go : (b : Bool) → clobbers_x h r ≡ b → b ≡ false
    go true e = absurd (no (ok.codes r e))
    go false e = refl

stays : (b : Bool) (v : ℕ) → b ≡ false → cond b (flip v) v ≡ v
stays true v e = absurd (tf e)
stays false v e = refl

moves : (b : Bool) (v : ℕ) → b ≡ true → cond b (flip v) v ≢ v
moves true v e = flips v
moves false v e = absurd (ft e)

pub clobberable : Clobberable
unfolding changed
clobberable h s ok = (
  changed h s,
  record {
    lawful = (
      record {
        sp = refl;
        fp = stays (clobbers_x h 29) (s.x 29) (unclobbered h ok 29 (omega arith) (omega arith));
        lr = λ _. stays (clobbers_x h 30) (s.x 30) (unclobbered h ok 30 (omega arith) (omega arith));
        mapped = refl;
        bytes = λ b _ _. refl;
      },
      tt,
    );
    leaves =
        record {
          x = λ r k c. stays (clobbers_x h r) (s.x r) c;
          lo = λ r k c. stays (clobbers_v h r) (s.lo r) c;
          hi = λ r k c. stays (clobbers_v h r) (s.hi r) c;
        };
  },
  λ r c. moves (clobbers_x h r) (s.x r) c,
  λ r c. (moves (clobbers_v h r) (s.lo r) c, moves (clobbers_v h r) (s.hi r) c),
)
