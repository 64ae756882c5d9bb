-- Stack probes: they write below SP only, and leave SP.
use Rattle.std.proofs.Common.{◌≡◌, ℕ, zero, suc, ◌+◌, ◌-◌, ◌*◌, ◌/◌, ◌%◌, ◌^◌, ◌<◌, ◌≤◌, Bool, true, false, cond, ◌&&◌, eqb, ltb, leb, ◌≢◌, ◌⊎◌, List, [], ◌∷◌, ◌++◌, length, negsuc, Some, None, sym, refl, ap, ◌∙◌, subst, ap₂, inl, inr, append_assoc, arith, length-append}
use Rattle.std.proofs.lemmas.Bool.Decides.{nat_tests, leb_tells}
use Rattle.a64.specs.Operands.{imm12_of, imm12_value}
use Rattle.a64.specs.declared.imm.Imm12.{Imm12}
use Rattle.a64.specs.declared.inst.Inst.{Inst}
use Rattle.a64.specs.declared.inst.Inst.TheVariants.{BGt}
use Rattle.machine.specs.Machine.{State, Core, put, store, plus, minus, with_mem, with_flags, write_z, add_flags, greater, reach, only, next, branch, step, Comes, at, after, stopped, run}
use Rattle.steps.specs.Forms.{probe_sp, step_down, probe_below, compare_end}
use Rattle.steps.specs.Probes.{gen_inline_probestack_of, stack_probe_loop_of}
use Rattle.returns.proofs.Frames.{constant, lower, raise, probe_loop, unrolled, probes}
use Rattle.returns.proofs.Mem.{put_same, put_other, store_below, store_above}
use Rattle.returns.proofs.Line.{Line, Goes, line_goes, goes-++, goes_one, goes_none, one_move, comes_trans}
use Rattle.returns.proofs.Slots.{plus_exact, reach_sp}
use Rattle.returns.proofs.Adjust.{Kept, kept_refl, kept_trans, At, lower_at, raise_at, Const, constant_set, imm12_value_is}

-- x16 is minus d.
abbrev down : ℕ → ℕ
down d = (2 ^ 64 - d) % 2 ^ 64

down_more : (d g : ℕ) → d + g < 2 ^ 34 → minus (down d) g ≡ down (d + g)
unfolding minus
down_more d g h = omega arith

down_at : (a d : ℕ) → d ≤ a → a < 2 ^ 64 → d < 2 ^ 34 → plus a (down d) ≡ a - d
unfolding plus
down_at a d h l w = omega arith

-- a guard that can be an immediate is one
imm_some : (g : ℕ) → g < 2 ^ 24 → (g < 4096) ⊎ (g % 4096 ≡ 0) → (i : Imm12) × (imm12_of g ≡ Some i)
imm_some g h w = go (ltb g 4096) (eqb (g % 4096) 0 && ltb g (2 ^ 24)) refl refl
  where
    never : ltb g 4096 ≡ false → eqb (g % 4096) 0 && ltb g (2 ^ 24) ≡ false → ⊥
    never p q = grind (arith, nat_tests)

    go : (a b : Bool) → ltb g 4096 ≡ a → eqb (g % 4096) 0 && ltb g (2 ^ 24) ≡ b
        → (i : Imm12) × (cond a (Some (record { bits = g; shift12 = false })) (cond b (Some (record { bits = g / 4096; shift12 = true })) None) ≡ Some i)
    go true b p q = (record { bits = g; shift12 = false }, refl)
    go false true p q = (record { bits = g / 4096; shift12 = true }, refl)
    go false false p q = absurd (never p q)

-- the loop goes on exactly while d is below p
again : (d p : ℕ) → 0 < d → d < 2 ^ 34 → p < 2 ^ 32 → d < p → greater (add_flags (down d) p) ≡ true
unfolding plus
again d p h w l lt = grind (arith, nat_tests)

done : (d p : ℕ) → 0 < d → d < 2 ^ 34 → p < 2 ^ 32 → p ≤ d → greater (add_flags (down d) p) ≡ false
unfolding plus
done d p h w l lt = grind (arith, nat_tests)

-- What probes leave: SP, and all memory but n bytes below it.
pub record Probed (n : ℕ) (s t : State) : Type 0 where
  pub sp : t.sp ≡ s.sp
  pub kept : Kept s t
  pub outside : (b : ℕ) → (b + n < s.sp) ⊎ (s.sp ≤ b) → t.mem b ≡ s.mem b

-- n bytes below SP are there to be probed.
pub record Space (s : State) (n : ℕ) : Type 0 where
  pub aligned : s.sp % 16 ≡ 0
  pub enough : n ≤ s.sp
  pub small : s.sp < 2 ^ 64
  pub mapped : (b : ℕ) → s.sp ≤ b + n → b < s.sp → s.mapped b ≡ true

-- the three instructions before the branch
three : Imm12 → List Inst
three i = step_down i ∷ probe_below ∷ compare_end ∷ []

-- the loop with its immediate
abbrev looping : Imm12 → List Inst
looping i = step_down i ∷ probe_below ∷ compare_end ∷ BGt (negsuc 2) ∷ []

-- a state in the loop: x16 is minus d, x17 is p
record Turn (d p n : ℕ) (s t : State) : Type 0 where
  x16 : t.x 16 ≡ down d
  x17 : t.x 17 ≡ p
  probed : Probed n s t

turned : ℕ → ℕ → State → State
turned d p t =
    with_flags (add_flags (down d) p)
    (write_z 31 (plus (down d) p) (with_mem (store 4 (t.sp - d) 0 t.mem) (write_z 16 (down d) t)))

turn_goes : (k : Core) (i : Imm12) (g d p n : ℕ) (s t : State) → 16 ≤ g → imm12_value i ≡ g → d + g < 2 ^ 34 → d + g ≤ n
    → Space s n → Turn d p n s t → Line k (three i) t (turned (d + g) p t)
unfolding step three turned
turn_goes k i g d p n s t g16 gi h hn sp v =
    (m1, e1, (m2, e2, (turned (d + g) p t, e3, refl)))
  where
    m1 : State
    m1 = write_z 16 (down (d + g)) t

    e1 : step k (step_down i) t ≡ next m1
    e1 = ap₂ (λ y z. next (write_z 16 (minus y z) t)) v.x16 gi ∙ ap (λ z. next (write_z 16 z t)) (down_more d g h)

    m2 : State
    m2 = with_mem (store 4 (t.sp - (d + g)) 0 t.mem) m1

    tsp : t.sp ≡ s.sp
    tsp = v.probed.sp

    e2 : step k probe_below m1 ≡ next m2
    e2 = ap (λ z. only (reach m1 31 4 (plus t.sp z)) (next (with_mem (store 4 (plus t.sp z) 0 t.mem) m1))) (put_same 16 (down (d + g)) t.x)
        ∙ ap (λ z. only (reach m1 31 4 z) (next (with_mem (store 4 z 0 t.mem) m1))) (down_at t.sp (d + g) (omega (arith, sp.enough)) (omega (arith, sp.small)) h)
        ∙ ap (λ z. only z (next m2)) (reach_sp m1 4 (t.sp - (d + g)) (omega (arith, sp.aligned, tsp)) (omega (arith, sp.small, sp.enough, tsp)) (λ b l u. ap (λ f. f b) v.probed.kept.mapped ∙ sp.mapped b (omega arith) (omega (arith, sp.enough))))

    e3 : step k compare_end m2 ≡ next (turned (d + g) p t)
    e3 = ap₂ (λ y z. next (with_flags (add_flags y z) (write_z 31 (plus y z) m2))) (put_same 16 (down (d + g)) t.x) (put_other 16 (down (d + g)) t.x 17 (omega arith) ∙ v.x17)

turn_next : (g d p n : ℕ) (s t : State) → 16 ≤ g → d + g ≤ n → n ≤ s.sp → Turn d p n s t → Turn (d + g) p n s (turned (d + g) p t)
unfolding turned
turn_next g d p n s t g16 hn enough v =
    record {
      x16 = put_other 31 _ (put 16 (down (d + g)) t.x) 16 (omega arith) ∙ put_same 16 (down (d + g)) t.x;
      x17 = put_other 31 _ (put 16 (down (d + g)) t.x) 17 (omega arith) ∙ put_other 16 (down (d + g)) t.x 17 (omega arith) ∙ v.x17;
      probed =
          record {
            sp = v.probed.sp;
            kept =
                record {
                  x = other;
                  lo = v.probed.kept.lo;
                  hi = v.probed.kept.hi;
                  mapped = v.probed.kept.mapped;
                };
            outside = outside;
          };
    }
  where
    other : (r : ℕ) → r < 31 → r ≢ 16 → r ≢ 17 → put 31 (plus (down (d + g)) p) (put 16 (down (d + g)) t.x) r ≡ s.x r
    other r l a b = put_other 31 _ (put 16 (down (d + g)) t.x) r (omega arith) ∙ put_other 16 (down (d + g)) t.x r a ∙ v.probed.kept.x r l a b

    outside : (b : ℕ) → (b + n < s.sp) ⊎ (s.sp ≤ b) → store 4 (t.sp - (d + g)) 0 t.mem b ≡ s.mem b
    outside b (inl h) = store_below 4 _ 0 t.mem b (omega (arith, v.probed.sp)) ∙ v.probed.outside b (inl h)
    outside b (inr h) = store_above 4 _ 0 t.mem b (omega (arith, v.probed.sp)) ∙ v.probed.outside b (inr h)

-- the code around the branch
around : (i : Imm12) (pre post : List Inst) → (pre ++ three i) ++ (BGt (negsuc 2) ∷ post) ≡ pre ++ (looping i ++ post)
unfolding three
around i pre post = simp append_assoc

three_long : (i : Imm12) (pre : List Inst) → length (pre ++ three i) ≡ length pre + 3
unfolding three
three_long i pre = simp length-append (omega arith)

abbrev Code : Imm12 → List Inst → List Inst → List Inst
Code i pre post = pre ++ (looping i ++ post)

branch_step : (k : Core) (t : State) (b : Bool) → greater t.flags ≡ b → step k (BGt (negsuc 2)) t ≡ cond b (branch (negsuc 2) t) (next t)
unfolding step
branch_step k t b e = ap (λ z. cond z (branch (negsuc 2) t) (next t)) e

-- one turn: to behind the branch or to the first instruction again
turn_comes : (k : Core) (i : Imm12) (t u : State) (b : Bool) → Goes k (three i) t u → greater u.flags ≡ b → (pre post : List Inst)
    → Comes k (Code i pre post) (at (length pre) t) (cond b (at (length pre) u) (at (length pre + 4) u))
turn_comes k i t u b go e pre post =
    subst (λ code. Comes k code (at (length pre) t) (cond b (at (length pre) u) (at (length pre + 4) u))) (around i pre post)
    (comes_trans k _ _ _ _ firsts (1, last))
  where
    code : List Inst
    code = (pre ++ three i) ++ (BGt (negsuc 2) ∷ post)

    firsts : Comes k code (at (length pre) t) (at (length (pre ++ three i)) u)
    firsts =
        subst (λ c. Comes k c (at (length pre) t) (at (length (pre ++ three i)) u)) (sym (append_assoc pre (three i) (BGt (negsuc 2) ∷ post)))
        (subst (λ n. Comes k (pre ++ (three i ++ (BGt (negsuc 2) ∷ post))) (at (length pre) t) (at n u)) (sym (length-append pre (three i))) (go pre (BGt (negsuc 2) ∷ post)))

    lands : (n p : ℕ) (c : Bool) → n ≡ p + 3 → after n (cond c (branch (negsuc 2) u) (next u)) ≡ cond c (at p u) (at (p + 4) u)
    lands n p true h =
        ap (λ z. cond z (at (n - 3) u) stopped) (le3 n (omega arith)) ∙ ap (λ z. at z u) (omega arith)
      where
        le3 : (m : ℕ) → 3 ≤ m → leb 3 m ≡ true
        le3 m q = grind (arith, nat_tests)
    lands n p false h = ap (λ z. at z u) (omega arith)

    last : run 1 k code (at (length (pre ++ three i)) u) ≡ cond b (at (length pre) u) (at (length pre + 4) u)
    last =
        one_move k (BGt (negsuc 2)) u _ (branch_step k u b e) (pre ++ three i) post
        ∙ lands (length (pre ++ three i)) (length pre) b (three_long i pre)

abbrev Probes : Core → List Inst → ℕ → State → State → Type 0
Probes k is n s t = (u : State) × Goes k is t u × Probed n s u

turned_flags : (d p : ℕ) (t : State) → greater (turned d p t).flags ≡ greater (add_flags (down d) p)
unfolding turned
turned_flags d p t = refl

abbrev Looped : Core → Imm12 → ℕ → ℕ → State → State → Type 0
Looped k i g p s t =
    (u : State) × Probed (p + g) s u × ((pre post : List Inst) → Comes k (Code i pre post) (at (length pre) t) (at (length pre + 4) u))

out : (k : Core) (i : Imm12) (g d p : ℕ) (s t : State) → 16 ≤ g → g < 2 ^ 32 → imm12_value i ≡ g → p < 2 ^ 32 → d ≤ p → p ≤ d + g
    → Space s (p + g) → Turn d p (p + g) s t → Looped k i g p s t
out k i g d p s t g16 gs gi ps dp end space v = (
  u,
  (turn_next g d p (p + g) s t g16 (omega arith) space.enough v).probed,
  λ pre post. turn_comes k i t u false (line_goes k (three i) t u (turn_goes k i g d p (p + g) s t g16 gi (omega arith) (omega arith) space v)) (turned_flags (d + g) p t ∙ done (d + g) p (omega arith) (omega arith) ps end) pre post,
)
  where
    u : State
    u = turned (d + g) p t

more : (k : Core) (i : Imm12) (g d p : ℕ) (s t : State) → 16 ≤ g → g < 2 ^ 32 → imm12_value i ≡ g → p < 2 ^ 32 → d + g < p
    → Space s (p + g) → Turn d p (p + g) s t → (Turn (d + g) p (p + g) s (turned (d + g) p t) → Looped k i g p s (turned (d + g) p t)) → Looped k i g p s t
more k i g d p s t g16 gs gi ps on space v rest =
    let r = rest (turn_next g d p (p + g) s t g16 (omega arith) space.enough v) in (
      r.0,
      r.1,
      λ pre post.
          comes_trans k (Code i pre post) _ _ _
          (turn_comes k i t u true (line_goes k (three i) t u (turn_goes k i g d p (p + g) s t g16 gi (omega arith) (omega arith) space v)) (turned_flags (d + g) p t ∙ again (d + g) p (omega arith) (omega arith) ps on) pre post)
          (r.2 pre post),
    )
  where
    u : State
    u = turned (d + g) p t

-- The loop from any turn: f bounds the turns that are left.
loop : (k : Core) (i : Imm12) (f g d p : ℕ) (s t : State) → 16 ≤ g → g < 2 ^ 32 → imm12_value i ≡ g → p < 2 ^ 32 → d ≤ p → p ≤ d + f
    → Space s (p + g) → Turn d p (p + g) s t → Looped k i g p s t
loop k i zero g d p s t g16 gs gi ps dp pf space v = out k i g d p s t g16 gs gi ps dp (omega arith) space v
loop k i (suc f) g d p s t g16 gs gi ps dp pf space v = go (leb p (d + g)) (leb_tells p (d + g)) (λ l w. loop k i f g (d + g) p s (turned (d + g) p t) g16 gs gi ps (omega arith) (omega arith) space w)
  where
    go : (b : Bool) → ((b ≡ true) × (p ≤ d + g)) ⊎ ((b ≡ false) × (d + g < p))
        → (d + g < p → Turn (d + g) p (p + g) s (turned (d + g) p t) → Looped k i g p s (turned (d + g) p t)) → Looped k i g p s t
    go b (inl h) rest = out k i g d p s t g16 gs gi ps dp h.1 space v
    go b (inr h) rest = more k i g d p s t g16 gs gi ps h.1 space v (rest h.1)

-- From s to t SP went down by d, and memory changed only in n bytes below s's SP.
record Deep (d n : ℕ) (s t : State) : Type 0 where
  sp : t.sp + d ≡ s.sp
  kept : Kept s t
  outside : (b : ℕ) → (b + n < s.sp) ⊎ (s.sp ≤ b) → t.mem b ≡ s.mem b

zero_store : (k : Core) (d n : ℕ) (s t : State) → 16 ≤ d → d ≤ n → d % 16 ≡ 0 → Space s n → Deep d n s t
    → step k probe_sp t ≡ next (with_mem (store 4 t.sp 0 t.mem) t)
unfolding step
zero_store k d n s t d16 dn da space v =
    ap (λ z. only (reach t 31 4 z) (next (with_mem (store 4 z 0 t.mem) t))) (plus_exact t.sp 0 (omega (arith, space.small, v.sp)) ∙ omega arith)
    ∙ ap (λ z. only z (next (with_mem (store 4 t.sp 0 t.mem) t))) (reach_sp t 4 t.sp (omega (arith, space.aligned, v.sp)) (omega (arith, space.small, v.sp)) (λ b l u. ap (λ f. f b) v.kept.mapped ∙ space.mapped b (omega (arith, v.sp)) (omega (arith, v.sp))))

unroll_goes : (k : Core) (c g d n : ℕ) (s t : State) → 16 ≤ g → g < 2 ^ 32 → g % 16 ≡ 0 → d % 16 ≡ 0 → d + g * c ≤ n → Space s n → Deep d n s t
    → (u : State) × Goes k (unrolled g c) t u × Deep (d + g * c) n s u
unroll_goes k zero g d n s t g16 gs ga da dn space v =
    (t, goes_none k t, record { sp = omega (arith, v.sp); kept = v.kept; outside = v.outside })
unroll_goes k (suc c) g d n s t g16 gs ga da dn space v =
    let r = unroll_goes k c g (d + g) n s u g16 gs ga (omega arith) (omega arith) space w in (
      r.0,
      goes-++ k (lower g) (probe_sp ∷ unrolled g c) t m r.0 a.1 (goes-++ k (probe_sp ∷ []) (unrolled g c) m u r.0 (goes_one k probe_sp m u (zero_store k (d + g) n s m (omega arith) (omega arith) (omega arith) space x)) r.1),
      record { sp = omega (arith, r.2.sp); kept = r.2.kept; outside = r.2.outside },
    )
  where
    a : At k (lower g) (t.sp - g) t
    a = lower_at k g t gs (omega (arith, v.sp, space.enough)) (omega (arith, v.sp, space.small))

    m : State
    m = a.0

    u : State
    u = with_mem (store 4 m.sp 0 m.mem) m

    x : Deep (d + g) n s m
    x =
        record {
          sp = omega (arith, a.2, v.sp, space.enough);
          kept = kept_trans s t m v.kept a.3;
          outside = λ b h. ap (λ f. f b) a.4 ∙ v.outside b h;
        }

    w : Deep (d + g) n s u
    w =
        record {
          sp = x.sp;
          kept = record { x = x.kept.x; lo = x.kept.lo; hi = x.kept.hi; mapped = x.kept.mapped };
          outside = o;
        }
      where
        o : (b : ℕ) → (b + n < s.sp) ⊎ (s.sp ≤ b) → store 4 m.sp 0 m.mem b ≡ s.mem b
        o b (inl h) = store_below 4 m.sp 0 m.mem b (omega (arith, x.sp)) ∙ x.outside b (inl h)
        o b (inr h) = store_above 4 m.sp 0 m.mem b (omega (arith, x.sp)) ∙ x.outside b (inr h)

abbrev pub Probing : Core → List Inst → ℕ → State → Type 0
Probing k is n s = (u : State) × Goes k is s u × Probed n s u

loop_goes : (k : Core) (i : Imm12) (p g : ℕ) (s : State) → 16 ≤ g → g < 2 ^ 32 → imm12_value i ≡ g → p < 2 ^ 32 → Space s (p + g)
    → Probing k (constant 16 0 ++ (constant 17 p ++ looping i)) (p + g) s
loop_goes k i p g s g16 gs gi ps space =
    (l.0, goes-++ k (constant 16 0) (constant 17 p ++ looping i) s m l.0 (line_goes k (constant 16 0) s m c.1) (goes-++ k (constant 17 p) (looping i) m t l.0 (line_goes k (constant 17 p) m t e.1) (λ pre post. l.2 pre post)), l.1)
  where
    c : Const k 16 0 s (constant 16 0)
    c = constant_set k 16 0 s (omega arith) (omega arith)

    m : State
    m = c.0

    e : Const k 17 p m (constant 17 p)
    e = constant_set k 17 p m (omega arith) (omega arith)

    t : State
    t = e.0

    v : Turn 0 p (p + g) s t
    v =
        record {
          x16 = e.2.there 16 (omega arith) ∙ c.2.here;
          x17 = e.2.here;
          probed =
              record {
                sp = e.2.sp ∙ c.2.sp;
                kept =
                    record {
                      x = λ r l a b. e.2.there r b ∙ c.2.there r a;
                      lo = e.2.lo ∙ c.2.lo;
                      hi = e.2.hi ∙ c.2.hi;
                      mapped = e.2.mapped ∙ c.2.mapped;
                    };
                outside = λ b h. ap (λ f. f b) (e.2.mem ∙ c.2.mem);
              };
        }

    l : Looped k i g p s t
    l = loop k i p g 0 p s t g16 gs gi ps (omega arith) (omega arith) space v

unrolled_goes : (k : Core) (p g c : ℕ) (s : State) → 16 ≤ g → g < 2 ^ 32 → g % 16 ≡ 0 → g * c ≤ p → p < 2 ^ 32 → Space s (p + g)
    → Probing k (unrolled g c ++ raise (g * c)) (p + g) s
unrolled_goes k p g c s g16 gs ga gc ps space = (
  r.0,
  goes-++ k (unrolled g c) (raise (g * c)) s u r.0 d.1 r.1,
  record {
    sp = omega (arith, r.2, d.2.sp);
    kept = kept_trans s u r.0 d.2.kept r.3;
    outside = λ b h. ap (λ f. f b) r.4 ∙ d.2.outside b h;
  },
)
  where
    d : (u : State) × Goes k (unrolled g c) s u × Deep (0 + g * c) (p + g) s u
    d = unroll_goes k c g 0 (p + g) s s g16 gs ga (omega arith) (omega arith) space (record { sp = omega arith; kept = kept_refl s; outside = λ b h. refl })

    u : State
    u = d.0

    r : At k (raise (g * c)) (u.sp + g * c) u
    r = raise_at k (g * c) u (omega arith) (omega (arith, d.2.sp, space.small))

-- Every probe sequence: SP and all but p + g bytes below it stay.
pub probes_goes : (k : Core) (p g : ℕ) (s : State) → 16 ≤ g → g < 2 ^ 24 → g % 16 ≡ 0 → (g < 4096) ⊎ (g % 4096 ≡ 0) → p < 2 ^ 32 → Space s (p + g)
    → Probing k (probes p g) (p + g) s
unfolding gen_inline_probestack_of
probes_goes k p g s g16 gs ga gi ps space = go (eqb (p / g) 0) (leb (p / g) 3) (imm_some g gs gi)
  where
    le : g * (p / g) ≤ p
    le = omega arith

    far : (i : Imm12) × (imm12_of g ≡ Some i) → Probing k (constant 16 0 ++ (constant 17 p ++ probe_loop g)) (p + g) s
    far w =
        subst (λ o. Probing k (constant 16 0 ++ (constant 17 p ++ stack_probe_loop_of o)) (p + g) s) (sym w.1)
        (loop_goes k w.0 p g s g16 (omega arith) (imm12_value_is g w.0 w.1) ps space)

    go : (a b : Bool) → (i : Imm12) × (imm12_of g ≡ Some i)
        → Probing k (cond a [] (cond b (unrolled g (p / g) ++ raise (g * (p / g))) (constant 16 0 ++ (constant 17 p ++ probe_loop g)))) (p + g) s
    go true b w = (s, goes_none k s, record { sp = refl; kept = kept_refl s; outside = λ b h. refl })
    go false true w = unrolled_goes k p g (p / g) s g16 (omega arith) ga le ps space
    go false false w = far w
