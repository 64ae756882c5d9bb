-- The tree of three functions, computed; and each of its steps keeps the rules.
use Rattle.std.proofs.Common.{◌≡◌, ℕ, ◌+◌, ◌-◌, ◌^◌, ◌<◌, ◌≤◌, Bool, true, false, cond, ◌||◌, eqb, ltb, ◌≢◌, ◌⊎◌, List, [], ◌∷◌, ◌++◌, length, sym, refl, ap, ◌∙◌, inl, inr, append_assoc, append-nil, arith}
use Rattle.std.proofs.lemmas.Bool.Decides.{nat_tests, eqb_tells}
use Rattle.a64.specs.declared.inst.Inst.{Inst}
use Rattle.frame.specs.Pieces.{tail_reload_of, stack_size_of, prologue, epilogue}
use Rattle.steps.specs.Adjust.{load_constant_of, sp_by_of}
use Rattle.steps.specs.Probes.{gen_inline_probestack_of}
use Rattle.layout.specs.Slots.{slots_of}
use Rattle.machine.specs.Cores.{sealing}
use Rattle.machine.specs.Machine.{Point, at, returned, stopped, Comes, put, load, store, all_mapped, plus, minus, step, fetch, move, run}
use Rattle.sheet.proofs.AcceptedSheets.{accepted}
use Rattle.sheet.proofs.Walks.{below_all}
use Rattle.sheet.specs.Accepted.{Accepted}
use Rattle.sheet.specs.Saved.{clobber_size_of, setup_size}
use Rattle.sheet.specs.Walk.{ints}
use Rattle.returns.specs.Premises.{Entry, Lawful, Leaves, need}
use Rattle.returns.specs.Trees.{body_at, Stands, Own, Calls}
use Rattle.returns.specs.Example.{root_sheet, mid_sheet, leaf_sheet, root, mid, leaf, text, start, root_open, root_body, mid_entry, mid_open, mid_body, leaf_entry, leaf_open, leaf_body, leaf_back, mid_back, root_back, low, high, ThreeDeep, RulesKept}
use Rattle.returns.specs.Returns.{opens, closes}
use Rattle.returns.proofs.Adjust.{tf}
use Rattle.returns.proofs.Mem.{put_other, store_below, store_above}

pub three_deep : ThreeDeep
unfolding load_constant_of sp_by_of gen_inline_probestack_of tail_reload_of prologue epilogue slots_of put load store all_mapped plus minus step fetch move run ints root_sheet mid_sheet leaf_sheet root mid leaf text start root_open root_body mid_entry mid_open mid_body leaf_entry leaf_open leaf_body leaf_back mid_back root_back
three_deep = refl

root_ok : Accepted root_sheet
unfolding root_sheet slots_of ints
root_ok = accepted root_sheet refl

mid_ok : Accepted mid_sheet
unfolding mid_sheet slots_of ints
mid_ok = accepted mid_sheet refl

leaf_ok : Accepted leaf_sheet
unfolding leaf_sheet slots_of ints
leaf_ok = accepted leaf_sheet refl

root_stands : Stands text root
unfolding text root
root_stands =
    record {
      before = [];
      behind = opens mid_sheet ++ (closes mid_sheet ++ (opens leaf_sheet ++ closes leaf_sheet));
      place = refl;
      text = refl;
      accepted = root_ok;
    }

mid_stands : Stands text mid
unfolding text mid
mid_stands =
    record {
      before = opens root_sheet ++ closes root_sheet;
      behind = opens leaf_sheet ++ closes leaf_sheet;
      place = refl;
      text = sym (append_assoc (opens root_sheet) (closes root_sheet) (opens mid_sheet ++ (closes mid_sheet ++ (opens leaf_sheet ++ closes leaf_sheet))));
      accepted = mid_ok;
    }

cut : (a b c d e : List Inst) → a ++ (b ++ (c ++ (d ++ e))) ≡ (a ++ (b ++ (c ++ d))) ++ e
cut a b c d e = sym (simp append_assoc)

back_nil : (xs : List Inst) → xs ++ [] ≡ xs
back_nil xs = append-nil xs

leaf_stands : Stands text leaf
unfolding text leaf
leaf_stands =
    record {
      before = opens root_sheet ++ (closes root_sheet ++ (opens mid_sheet ++ closes mid_sheet));
      behind = [];
      place = refl;
      text =
          cut (opens root_sheet) (closes root_sheet) (opens mid_sheet) (closes mid_sheet) (opens leaf_sheet ++ closes leaf_sheet)
          ∙ ap (λ z. (opens root_sheet ++ (closes root_sheet ++ (opens mid_sheet ++ closes mid_sheet))) ++ (opens leaf_sheet ++ z)) (sym (back_nil (closes leaf_sheet)));
      accepted = leaf_ok;
    }

word : (f : ℕ → ℕ) → ((r : ℕ) → r < 31 → ltb (f r) (2 ^ 64) ≡ true) → (r : ℕ) → r < 31 → f r < 2 ^ 64
word f h r l = is (f r) (h r l)
  where
    is : (v : ℕ) → ltb v (2 ^ 64) ≡ true → v < 2 ^ 64
    is v e = grind (arith, nat_tests)

put_word : (k v : ℕ) (f : ℕ → ℕ) → v < 2 ^ 64 → ((r : ℕ) → f r < 2 ^ 64) → (r : ℕ) → put k v f r < 2 ^ 64
unfolding put
put_word k v f h g r = go (eqb r k)
  where
    go : (b : Bool) → cond b v (f r) < 2 ^ 64
    go true = h
    go false = g r

root_enters : Entry sealing root_sheet start
unfolding root_sheet start slots_of ints
root_enters =
    record {
      words = record { x = λ r l. omega arith; lo = λ r l. omega arith; hi = λ r l. omega arith };
      aligned = refl;
      enough = omega arith;
      below = omega arith;
      link = omega arith;
      mapped = λ b l u. refl;
      returns = λ q. refl;
    }

mid_enters : Entry sealing mid_sheet mid_entry
unfolding load_constant_of sp_by_of gen_inline_probestack_of tail_reload_of prologue epilogue slots_of put load store all_mapped plus minus step fetch move run ints root_sheet mid_sheet root text start root_open root_body mid_entry
mid_enters =
    record {
      words =
          record {
            x = word mid_entry.x (below_all (λ r. ltb (mid_entry.x r) (2 ^ 64)) 31 refl);
            lo = λ r l. omega arith;
            hi = λ r l. omega arith;
          };
      aligned = refl;
      enough = omega arith;
      below = omega arith;
      link = omega arith;
      mapped = λ b l u. refl;
      returns = λ q. refl;
    }

leaf_enters : Entry sealing leaf_sheet leaf_entry
unfolding load_constant_of sp_by_of gen_inline_probestack_of tail_reload_of prologue epilogue slots_of put load store all_mapped plus minus step fetch move run ints root_sheet mid_sheet leaf_sheet root mid text start root_open root_body mid_entry mid_open mid_body leaf_entry
leaf_enters =
    record {
      words =
          record {
            x = word leaf_entry.x (below_all (λ r. ltb (leaf_entry.x r) (2 ^ 64)) 31 refl);
            lo = λ r l. put_word 8 99 (λ r. 2008) (omega arith) (λ r. omega arith) r;
            hi = λ r l. omega arith;
          };
      aligned = refl;
      enough = omega arith;
      below = omega arith;
      link = omega arith;
      mapped = λ b l u. refl;
      returns = λ q. refl;
    }

root_opens : Comes sealing text (at root.place start) (at (body_at root) root_open)
unfolding load_constant_of sp_by_of gen_inline_probestack_of tail_reload_of prologue epilogue slots_of put load store all_mapped plus minus step fetch move run ints root_sheet mid_sheet leaf_sheet root text start root_open
root_opens = (length (opens root_sheet), refl)

mid_opens : Comes sealing text (at mid.place mid_entry) (at (body_at mid) mid_open)
unfolding load_constant_of sp_by_of gen_inline_probestack_of tail_reload_of prologue epilogue slots_of put load store all_mapped plus minus step fetch move run ints root_sheet mid_sheet leaf_sheet root mid text start root_open root_body mid_entry mid_open
mid_opens = (length (opens mid_sheet), refl)

leaf_opens : Comes sealing text (at leaf.place leaf_entry) (at (body_at leaf) leaf_open)
unfolding load_constant_of sp_by_of gen_inline_probestack_of tail_reload_of prologue epilogue slots_of put load store all_mapped plus minus step fetch move run ints root_sheet mid_sheet leaf_sheet root mid leaf text start root_open root_body mid_entry mid_open mid_body leaf_entry leaf_open
leaf_opens = (length (opens leaf_sheet), refl)

-- the numbers of the states
record Numbers : Type 0 where
  mid_sp : mid_entry.sp ≡ 1048496
  mid_need : need mid_sheet ≡ 80
  leaf_sp : leaf_entry.sp ≡ 1048416
  leaf_need : need leaf_sheet ≡ 96
  open_sp : leaf_open.sp ≡ 1048320
  open_fp : leaf_open.x 29 ≡ 1048368
  stack : stack_size_of leaf_sheet ≡ 16
  saved : clobber_size_of leaf_sheet + setup_size leaf_sheet ≡ 48
  tail : leaf_sheet.sizes.tail ≡ 48

numbers : Numbers
unfolding load_constant_of sp_by_of gen_inline_probestack_of tail_reload_of prologue epilogue slots_of put load store all_mapped plus minus step fetch move run ints root_sheet mid_sheet leaf_sheet root mid leaf text start root_open root_body mid_entry mid_open mid_body leaf_entry leaf_open
numbers =
    record {
      mid_sp = refl;
      mid_need = refl;
      leaf_sp = refl;
      leaf_need = refl;
      open_sp = refl;
      open_fp = refl;
      stack = refl;
      saved = refl;
      tail = refl;
    }

none_left : (a b : Bool) → a || b ≡ false → a ≡ false
none_left true b h = absurd (tf h)
none_left false b h = refl

none_right : (a b : Bool) → a || b ≡ false → b ≡ false
none_right true b h = absurd (tf h)
none_right false b h = h

differs : (a b : ℕ) → eqb a b ≡ false → a ≢ b
differs a b h e = go (eqb_tells a b)
  where
    go : ((eqb a b ≡ true) × (a ≡ b)) ⊎ ((eqb a b ≡ false) × (a ≡ b → ⊥)) → ⊥
    go (inl t) = tf (sym t.0 ∙ h)
    go (inr t) = t.1 e

root_step : Own low high root_sheet root_open root_open root_body
unfolding root_body root_sheet put
root_step =
    record {
      lawful = record { sp = refl; fp = refl; lr = λ q. refl; mapped = refl; bytes = λ b p q. refl };
      leaves =
          record {
            x = λ r k c. put_other 19 77 root_open.x r (differs r 19 (none_left (eqb r 19) false c));
            lo = λ r k c. refl;
            hi = λ r k c. refl;
          };
      writes = λ c l h p q. refl;
    }

mid_step : Own low high mid_sheet mid_open mid_open mid_body
unfolding mid_body mid_sheet put
mid_step =
    record {
      lawful = record { sp = refl; fp = refl; lr = λ q. refl; mapped = refl; bytes = λ b p q. refl };
      leaves =
          record {
            x = λ r k c. put_other 20 77 mid_open.x r (differs r 20 (none_left (eqb r 20) (eqb r 72 || false) c));
            lo = λ r k c.
                put_other 8 99 mid_open.lo r
                (shifted r (differs (64 + r) 72 (none_left (eqb (64 + r) 72) false (none_right (eqb (64 + r) 20) (eqb (64 + r) 72 || false) c))));
            hi = λ r k c. refl;
          };
      writes = λ c l h p q. refl;
    }
  where
    shifted : (r : ℕ) → 64 + r ≢ 72 → r ≢ 8
    shifted r n e = n (omega arith)

three_other : (f : ℕ → ℕ) (r : ℕ) → r ≢ 21 → r ≢ 22 → r ≢ 23 → put 21 77 (put 22 77 (put 23 77 f)) r ≡ f r
three_other f r a b c =
    put_other 21 77 (put 22 77 (put 23 77 f)) r a ∙ put_other 22 77 (put 23 77 f) r b ∙ put_other 23 77 f r c

leaf_mem : (b : ℕ) → leaf_body.mem b ≡ store 8 1048384 5 leaf_open.mem b
unfolding leaf_body
leaf_mem b = refl

leaf_keeps : Numbers → Lawful leaf_sheet leaf_open leaf_body
unfolding leaf_body put
leaf_keeps n =
    record {
      sp = refl;
      fp = refl;
      lr = λ q. refl;
      mapped = refl;
      bytes = λ b p q. store_below 8 1048384 5 leaf_open.mem b (omega (arith, n.open_sp, n.stack, n.saved));
    }

leaf_left : Leaves leaf_sheet leaf_open leaf_body
unfolding leaf_body leaf_sheet
leaf_left =
    record {
      x = λ r k c.
          let d = none_right (eqb r 21) (eqb r 22 || (eqb r 23 || false)) c in
          let e = none_right (eqb r 22) (eqb r 23 || false) d in
          three_other leaf_open.x r (differs r 21 (none_left (eqb r 21) (eqb r 22 || (eqb r 23 || false)) c))
          (differs r 22 (none_left (eqb r 22) (eqb r 23 || false) d)) (differs r 23 (none_left (eqb r 23) false e));
      lo = λ r k c. refl;
      hi = λ r k c. refl;
    }

leaf_wrote : Numbers → (c : ℕ) → low ≤ c → c < high → (c < leaf_open.sp) ⊎ (leaf_open.sp + stack_size_of leaf_sheet ≤ c)
    → (c < leaf_open.x 29 + 16) ⊎ (leaf_open.x 29 + 16 + leaf_sheet.sizes.tail ≤ c) → leaf_body.mem c ≡ leaf_open.mem c
leaf_wrote n c l h p (inl q) = leaf_mem c ∙ store_below 8 1048384 5 leaf_open.mem c (omega (arith, n.open_fp))
leaf_wrote n c l h p (inr q) = leaf_mem c ∙ store_above 8 1048384 5 leaf_open.mem c (omega (arith, n.open_fp, n.tail))

mid_deep : Numbers → low + need mid_sheet ≤ mid_entry.sp
mid_deep n = omega (arith, n.mid_sp, n.mid_need)

leaf_deep : Numbers → low + need leaf_sheet ≤ leaf_entry.sp
leaf_deep n = omega (arith, n.leaf_sp, n.leaf_need)

leaf_step : Own low high leaf_sheet leaf_open leaf_open leaf_body
leaf_step = record { lawful = leaf_keeps numbers; leaves = leaf_left; writes = leaf_wrote numbers }

mid_call : Calls sealing text low root mid root_body mid_entry
unfolding root mid root_sheet mid_sheet mid_entry
mid_call =
    record {
      stands = mid_stands;
      regular = refl;
      fits = omega arith;
      entry = mid_enters;
      stretch = mid_deep numbers;
      x = λ r n. put_other 30 5000 root_body.x r n;
      sp = refl;
      lo = refl;
      hi = refl;
      mem = refl;
      mapped = refl;
      keeps_x = λ r h c. h;
      keeps_lo = λ r h c. h;
      keeps_hi = λ r h c. h;
    }

leaf_call : Calls sealing text low mid leaf mid_body leaf_entry
unfolding mid leaf mid_sheet leaf_sheet leaf_entry
leaf_call =
    record {
      stands = leaf_stands;
      regular = refl;
      fits = omega arith;
      entry = leaf_enters;
      stretch = leaf_deep numbers;
      x = λ r n. put_other 30 6000 mid_body.x r n;
      sp = refl;
      lo = refl;
      hi = refl;
      mem = refl;
      mapped = refl;
      keeps_x = λ r h c. h;
      keeps_lo = λ r h c. h;
      keeps_hi = λ r h c. h;
    }

pub rules_kept : RulesKept
rules_kept =
    record {
      root_stands = root_stands;
      root_entry = root_enters;
      root_opens = root_opens;
      root_step = root_step;
      mid_call = mid_call;
      mid_opens = mid_opens;
      mid_step = mid_step;
      leaf_call = leaf_call;
      leaf_opens = leaf_opens;
      leaf_step = leaf_step;
    }

-- The probe loop over 16,384 bytes with guard 4,096, computed: four turns, SP as before, a word of zeros at each guard, and x16 at -16,384.
looked : Point → List ℕ
looked (at p s) = p ∷ s.sp ∷ s.x 16 ∷ s.x 17 ∷ load 4 (s.sp - 4096) s.mem ∷ load 4 (s.sp - 16384) s.mem ∷ load 4 (s.sp - 16388) s.mem ∷ []
looked (returned a s) = []
looked stopped = []

probe_loop : looked (run 18 sealing (gen_inline_probestack_of 16384 4096) (at 0 start)) ≡ 6 ∷ 1048576 ∷ 18446744073709535232 ∷ 16384 ∷ 0 ∷ 0 ∷ 117901063 ∷ []
unfolding looked load_constant_of sp_by_of gen_inline_probestack_of put load store all_mapped plus minus step fetch move run start
probe_loop = refl

-- One step fewer, and the branch is still to come.
probe_short : looked (run 17 sealing (gen_inline_probestack_of 16384 4096) (at 0 start)) ≡ 5 ∷ 1048576 ∷ 18446744073709535232 ∷ 16384 ∷ 0 ∷ 0 ∷ 117901063 ∷ []
unfolding looked load_constant_of sp_by_of gen_inline_probestack_of put load store all_mapped plus minus step fetch move run start
probe_short = refl
