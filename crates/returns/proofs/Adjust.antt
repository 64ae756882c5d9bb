-- Constants in a register, and SP by any amount.
use Rattle.std.proofs.Common.{◌≡◌, ℕ, zero, suc, ◌+◌, ◌-◌, ◌*◌, ◌/◌, ◌%◌, ◌^◌, ◌<◌, ◌≤◌, Bool, true, false, cond, ◌&&◌, eqb, ltb, ◌≢◌, ◌⊎◌, List, [], ◌∷◌, ◌++◌, Some, None, Option, sym, refl, ap, ◌∙◌, subst, ap₂, inl, inr, mod-lt, mod-eq_of_lt, arith, pow_pos, pow-add}
use Rattle.std.proofs.Math.Nat.{div-eq_of_lt}
use Rattle.std.proofs.Math.Arith.{mod-mul}
use Rattle.std.proofs.lemmas.Bool.{false≢true, true≢false}
use Rattle.std.proofs.lemmas.Bool.Decides.{nat_tests, eqb_tells}
use Rattle.a64.specs.Operands.{imm12_of, imm12_value}
use Rattle.a64.specs.declared.imm.Imm12.{Imm12}
use Rattle.a64.specs.declared.inst.AddSub.{AddSub}
use Rattle.a64.specs.declared.inst.MoveWideOp.{MoveWideOp}
use Rattle.a64.specs.declared.inst.Inst.{Inst}
use Rattle.a64.specs.declared.inst.Inst.TheVariants.{AddSubImm, AddSubExt}
use Rattle.machine.specs.Machine.{State, Core, add_sub, move_wide, read_z, with_sp, write_z, next, step}
use Rattle.steps.specs.Forms.{reg, sp, spilltmp, movz, movk}
use Rattle.steps.specs.Adjust.{part, keep_parts, load_parts, load_constant_of, sp_by_imm, sp_by_of}
use Rattle.returns.proofs.Frames.{constant, lower, raise}
use Rattle.returns.proofs.Mem.{put_same, put_other}
use Rattle.returns.proofs.Line.{Line, line-++, line_one, Goes, line_goes, goes_one, goes_none}
use Rattle.returns.proofs.Slots.{minus_exact, plus_exact, read_z_x}

-- Only x d changed, to v.
pub record Set (d v : ℕ) (s t : State) : Type 0 where
  pub here : t.x d ≡ v
  pub there : (r : ℕ) → r ≢ d → t.x r ≡ s.x r
  pub sp : t.sp ≡ s.sp
  pub lo : t.lo ≡ s.lo
  pub hi : t.hi ≡ s.hi
  pub mem : t.mem ≡ s.mem
  pub mapped : t.mapped ≡ s.mapped

set_to : (d v w : ℕ) (s t : State) → v ≡ w → Set d v s t → Set d w s t
set_to d v w s t e p =
    record { here = p.here ∙ e; there = p.there; sp = p.sp; lo = p.lo; hi = p.hi; mem = p.mem; mapped = p.mapped }

set_after : (d u v : ℕ) (s t : State) → Set d v (write_z d u s) t → Set d v s t
set_after d u v s t p =
    record {
      here = p.here;
      there = λ r n. p.there r n ∙ put_other d u s.x r n;
      sp = p.sp;
      lo = p.lo;
      hi = p.hi;
      mem = p.mem;
      mapped = p.mapped;
    }

pub tf : true ≡ false → ⊥
tf e = true≢false e

pub ft : false ≡ true → ⊥
ft e = false≢true e

abbrev pub Const : Core → ℕ → ℕ → State → List Inst → Type 0
Const k d n s is = (t : State) × Line k is s t × Set d n s t

-- the place of part h
abbrev place : ℕ → ℕ
place h = 2 ^ (16 * h)

place_pos : (h : ℕ) → 0 < place h
place_pos h = pow_pos (16 * h)

place_next : (h : ℕ) → place (h + 1) ≡ 65536 * place h
place_next h =
    let a : 16 * (h + 1) ≡ 16 + 16 * h = omega arith in
    ap (λ i. 2 ^ i) a ∙ pow-add 2 16 (16 * h)

-- one more part
more_parts : (n h : ℕ) → n % place (h + 1) ≡ part n h * place h + n % place h
more_parts n h = ap (λ z. n % z) (place_next h) ∙ mod-mul n {m = 65536} {c = place h} (omega arith) (place_pos h)

zero_part : (n h : ℕ) → part n h ≡ 0 → n % place (h + 1) ≡ n % place h
zero_part n h e = more_parts n h ∙ ap (λ z. z * place h + n % place h) e ∙ omega arith

kept_part : (n h v : ℕ) → v ≡ n % place h → move_wide MoveWideOp.MovK v h (part n h) ≡ n % place (h + 1)
kept_part n h v e =
    let small : v < place h = subst (λ z. z < place h) (sym e) (mod-lt n (place_pos h)) in
    ap (λ q. v - (q % 65536) * place h + part n h * place h) (div-eq_of_lt small)
    ∙ flat (part n h * place h) (place h)
    ∙ sym (more_parts n h)
  where
    flat : (a p : ℕ) → v - 0 % 65536 * p + a ≡ a + n % place h
    flat a p = let z : 0 % 65536 * p ≡ 0 = omega arith in ap (λ q. v - q + a) z ∙ ap (λ w. w - 0 + a) e ∙ omega arith

abbrev Told : ℕ → Bool → Type 0
Told x b = ((b ≡ true) × (x ≡ 0)) ⊎ ((b ≡ false) × (x ≡ 0 → ⊥))

keeps_set : (k : Core) (d n h c : ℕ) (s : State) → d < 31 → s.x d ≡ n % place h → Const k d (n % place (h + c)) s (keep_parts (reg d) n h c)
unfolding step
keeps_set k d n h zero s l e =
    let z : h ≡ h + 0 = omega arith in
    (s, refl, record { here = e ∙ ap (λ i. n % place i) z; there = λ r _. refl; sp = refl; lo = refl; hi = refl; mem = refl; mapped = refl })
keeps_set k d n h (suc c) s l e =
    go (eqb (part n h) 0) (eqb_tells (part n h) 0)
    (λ p. keeps_set k d n (h + 1) c s l (e ∙ sym (zero_part n h p)))
    (keeps_set k d n (h + 1) c m l (put_same d w s.x ∙ kept_part n h (read_z s d) (read_z_x s d l ∙ e)))
  where
    w : ℕ
    w = move_wide MoveWideOp.MovK (read_z s d) h (part n h)

    m : State
    m = write_z d w s

    far : h + 1 + c ≡ h + suc c
    far = omega arith

    go : (b : Bool) → Told (part n h) b → (part n h ≡ 0 → Const k d (n % place (h + 1 + c)) s (keep_parts (reg d) n (h + 1) c))
        → Const k d (n % place (h + 1 + c)) m (keep_parts (reg d) n (h + 1) c)
        → Const k d (n % place (h + suc c)) s (cond b (keep_parts (reg d) n (h + 1) c) (movk (reg d) (part n h) h ∷ keep_parts (reg d) n (h + 1) c))
    go true (inl t) none one = let r = none t.1 in (r.0, r.1, set_to d _ _ s r.0 (ap (λ i. n % place i) far) r.2)
    go true (inr t) none one = absurd (tf t.0)
    go false t none one = (one.0, (m, refl, one.1), set_after d w _ s one.0 (set_to d _ _ m one.0 (ap (λ i. n % place i) far) one.2))

loads_set : (k : Core) (d n h c : ℕ) (s : State) → d < 31 → n % place h ≡ 0 → Const k d (n % place (h + c)) s (load_parts (reg d) n h c)
unfolding step
loads_set k d n h zero s l e =
    let z : h ≡ h + 0 = omega arith in
    let w : ℕ = move_wide MoveWideOp.MovZ (read_z s d) 0 0 in
    (write_z d w s, (write_z d w s, refl, refl), set_to d w _ s (write_z d w s) (sym e ∙ ap (λ i. n % place i) z) (set_write d w s))
  where
    set_write : (d v : ℕ) (s : State) → Set d v s (write_z d v s)
    set_write d v s =
        record { here = put_same d v s.x; there = λ r n. put_other d v s.x r n; sp = refl; lo = refl; hi = refl; mem = refl; mapped = refl }
loads_set k d n h (suc c) s l e =
    go (eqb (part n h) 0) (eqb_tells (part n h) 0)
    (λ p. loads_set k d n (h + 1) c s l (zero_part n h p ∙ e))
    (keeps_set k d n (h + 1) c m l (put_same d w s.x ∙ first))
  where
    w : ℕ
    w = move_wide MoveWideOp.MovZ (read_z s d) h (part n h)

    m : State
    m = write_z d w s

    first : part n h * place h ≡ n % place (h + 1)
    first = sym (more_parts n h ∙ ap (λ z. part n h * place h + z) e ∙ omega arith)

    far : h + 1 + c ≡ h + suc c
    far = omega arith

    go : (b : Bool) → Told (part n h) b → (part n h ≡ 0 → Const k d (n % place (h + 1 + c)) s (load_parts (reg d) n (h + 1) c))
        → Const k d (n % place (h + 1 + c)) m (keep_parts (reg d) n (h + 1) c)
        → Const k d (n % place (h + suc c)) s (cond b (load_parts (reg d) n (h + 1) c) (movz (reg d) (part n h) h ∷ keep_parts (reg d) n (h + 1) c))
    go true (inl t) none one = let r = none t.1 in (r.0, r.1, set_to d _ _ s r.0 (ap (λ i. n % place i) far) r.2)
    go true (inr t) none one = absurd (tf t.0)
    go false t none one = (one.0, (m, refl, one.1), set_after d w _ s one.0 (set_to d _ _ m one.0 (ap (λ i. n % place i) far) one.2))

pub constant_set : (k : Core) (d n : ℕ) (s : State) → d < 31 → n < 2 ^ 64 → Const k d n s (constant d n)
unfolding load_constant_of
constant_set k d n s l h =
    let r = loads_set k d n 0 4 s l (omega arith) in
    (r.0, r.1, set_to d (n % 2 ^ 64) n s r.0 (mod-eq_of_lt h) r.2)

-- From s to t only SP, x16, x17, the flags and memory may change.
pub record Kept (s t : State) : Type 0 where
  pub x : (r : ℕ) → r < 31 → r ≢ 16 → r ≢ 17 → t.x r ≡ s.x r
  pub lo : t.lo ≡ s.lo
  pub hi : t.hi ≡ s.hi
  pub mapped : t.mapped ≡ s.mapped

pub kept_refl : (s : State) → Kept s s
kept_refl s = record { x = λ r _ _ _. refl; lo = refl; hi = refl; mapped = refl }

pub kept_trans : (s t u : State) → Kept s t → Kept t u → Kept s u
kept_trans s t u a b =
    record { x = λ r h p q. b.x r h p q ∙ a.x r h p q; lo = b.lo ∙ a.lo; hi = b.hi ∙ a.hi; mapped = b.mapped ∙ a.mapped }

abbrev pub At : Core → List Inst → ℕ → State → Type 0
At k is v s = (t : State) × Goes k is s t × (t.sp ≡ v) × Kept s t × (t.mem ≡ s.mem)

at_sp : (s : State) (v : ℕ) → Kept s (with_sp v s)
at_sp s v = record { x = λ r _ _ _. refl; lo = refl; hi = refl; mapped = refl }

abbrev value_or : ℕ → Option Imm12 → ℕ
value_or n (Some j) = imm12_value j
value_or n None = n

-- The immediate of a number, if it has one, is the number.
pub imm12_value_is : (n : ℕ) (i : Imm12) → imm12_of n ≡ Some i → imm12_value i ≡ n
imm12_value_is n i e = go (ltb n 4096) (eqb (n % 4096) 0 && ltb n (2 ^ 24)) refl e
  where
    whole : eqb (n % 4096) 0 && ltb n (2 ^ 24) ≡ true → n / 4096 * 4096 ≡ n
    whole q = grind (arith, nat_tests)

    go : (a b : Bool) → eqb (n % 4096) 0 && ltb n (2 ^ 24) ≡ b
        → cond a (Some (record { bits = n; shift12 = false })) (cond b (Some (record { bits = n / 4096; shift12 = true })) None) ≡ Some i
        → imm12_value i ≡ n
    go true b q p = sym (ap (value_or n) p)
    go false true q p = sym (ap (value_or n) p) ∙ whole q
    go false false q p = sym (ap (value_or n) p)

-- The one shape of both adjustments: v is SP after it.
by_at : (k : Core) (op : AddSub) (n v : ℕ) (s : State) → n < 2 ^ 32 → (n ≡ 0 → s.sp ≡ v) → add_sub op s.sp n ≡ v → At k (sp_by_of op n) v s
unfolding sp_by_of step
by_at k op n v s h none sum = go (eqb n 0) (eqb_tells n 0) (imm12_of n) refl
  where
    far : At k (constant 16 n ++ (AddSubExt op sp sp spilltmp ∷ [])) v s
    far = let c = constant_set k 16 n s (omega arith) (omega arith) in
        let m : State = c.0 in (
          with_sp v m,
          line_goes k _ s _ (line-++ k (constant 16 n) (AddSubExt op sp sp spilltmp ∷ []) s m (with_sp v m) c.1
              (line_one k (AddSubExt op sp sp spilltmp) m (with_sp v m)
              (ap₂ (λ y z. next (with_sp (add_sub op y z) m)) c.2.sp c.2.here ∙ ap (λ z. next (with_sp z m)) sum))),
          refl,
          record { x = λ r l p q. c.2.there r p; lo = c.2.lo; hi = c.2.hi; mapped = c.2.mapped },
          c.2.mem,
        )

    near : (i : Imm12) → imm12_value i ≡ n → At k (AddSubImm op sp sp i ∷ []) v s
    near i e =
        (with_sp v s, goes_one k (AddSubImm op sp sp i) s (with_sp v s) (ap (λ z. next (with_sp (add_sub op s.sp z) s)) e ∙ ap (λ z. next (with_sp z s)) sum), refl, at_sp s v, refl)

    go : (a : Bool) → Told n a → (o : Option Imm12) → imm12_of n ≡ o → At k (cond a [] (sp_by_imm op n o)) v s
    go true (inl p) o e = (s, goes_none k s, none p.1, kept_refl s, refl)
    go true (inr p) o e = absurd (tf p.0)
    go false p (Some i) e = near i (imm12_value_is n i e)
    go false p None e = far

pub lower_at : (k : Core) (n : ℕ) (s : State) → n < 2 ^ 32 → n ≤ s.sp → s.sp < 2 ^ 64 → At k (lower n) (s.sp - n) s
lower_at k n s h l w = by_at k AddSub.Sub n (s.sp - n) s h (λ e. omega arith) (minus_exact s.sp n l w)

pub raise_at : (k : Core) (n : ℕ) (s : State) → n < 2 ^ 32 → s.sp + n < 2 ^ 64 → At k (raise n) (s.sp + n) s
raise_at k n s h w = by_at k AddSub.Add n (s.sp + n) s h (λ e. omega arith) (plus_exact s.sp n w)
