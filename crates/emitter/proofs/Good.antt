-- Items whose instructions are all readings, and how many they are at most.
use Rattle.std.proofs.Common.{◌≡◌, ℕ, zero, suc, ◌+◌, ◌*◌, ◌/◌, ◌%◌, ◌^◌, ◌<◌, ◌≤◌, Bool, true, false, cond, not, ◌&&◌, ◌||◌, eqb, ltb, leb, List, [], ◌∷◌, ◌++◌, length, ℤ, pos, negsuc, Some, None, filter, Option, sym, refl, ap, ◌∙◌, subst, inl, mod-lt, arith, lit<, ltb-true, eqb-true, leb-true}
use Rattle.std.proofs.lemmas.List.{length-append}
use Rattle.std.proofs.lemmas.Bool.{and_parts, or_parts, not-true, cond_both}
use Rattle.a64.specs.Operands.{imm12_of, uimm12_of}
use Rattle.a64.specs.Words.{Formed, word}
use Rattle.a64.specs.declared.imm.Imm12.{Imm12}
use Rattle.a64.specs.declared.imm.UImm12Scaled.{UImm12Scaled}
use Rattle.a64.specs.declared.inst.AddSub.{AddSub}
use Rattle.a64.specs.declared.inst.ApiKey.{ApiKey}
use Rattle.a64.specs.declared.inst.Inst.{Inst}
use Rattle.a64.specs.declared.inst.Inst.TheVariants.{AddSubImm, AddSubExt, Paci, Auti, BtiC, Ret, RetAuth, BGt}
use Rattle.a64.specs.declared.inst.PairClass.{PairClass}
use Rattle.a64.specs.declared.inst.Reg.{Reg}
use Rattle.sheet.specs.Codes.{has}
use Rattle.sheet.specs.Plain.{PlainSheet, same}
use Rattle.sheet.specs.Saved.{saves, pairing, saved_ints_of, saved_vecs_of, sets_up, setup_size, clobber_size_of}
use Rattle.sheet.specs.Walk.{ints}
use Rattle.sheet.specs.declared.types.CallConv.{CallConv}
use Rattle.layout.specs.Slots.{Slot, pair_x, one_x, pair_d, one_d, one_q, twos_x, twos_d, each_q, slots_of}
use Rattle.sink.specs.Held.{IsReading}
use Rattle.sink.specs.Items.{AllRead}
use Rattle.sink.specs.declared.item.Item.{Item}
use Rattle.notes.specs.declared.UnwindInst.{UnwindInst}
use Rattle.notes.specs.declared.UnwindInst.TheVariants.{PushFrameRegs, DefineNewFrame, StackAlloc, SaveReg, Aarch64SetPointerAuth}
use Rattle.sink.proofs.Items.{all_append}
use Rattle.frame.specs.Forms.{mov_fp_sp_of, push_pair_of, pop_pair_of, store_fp_lr, load_fp, load_fp_far}
use Rattle.steps.specs.Forms.{sp, spilltmp, tmp2, movz, movk, probe_sp, step_down, probe_below, compare_end}
use Rattle.item_list.specs.Items.{code}
use Rattle.frame.specs.Opens.{allocates, defines, frame_pushed, grows, moved, padded, probes}
use Rattle.frame.specs.Closes.{frame_popped}
use Rattle.frame.specs.Pieces.{noting, sealed, select_api_key_of, gen_prologue_frame_setup_of, tail_reload_by, tail_reload_of, incoming_args_diff_of, resize_incoming_of, push, pop, slot_notes, save_slots, stack_size_of, gen_clobber_save_of, restore_slots, gen_clobber_restore_of, callee_pop_size_of, gen_epilogue_frame_restore_of, return_by, gen_return_of, probe_size_of, prologue, epilogue}
use Rattle.steps.specs.Adjust.{part, keep_parts, load_parts, load_constant_of, sp_by_of, sp_by_imm, gen_sp_reg_adjust_of}
use Rattle.steps.specs.Probes.{probe_each, gen_probestack_unroll_of, stack_probe_loop_of, gen_probestack_loop_of, gen_inline_probestack_of}
use Rattle.item_list.proofs.Joins.{code_append}
use Rattle.frame.proofs.Sizes.{ints_few, vecs_few}

-- At most n items, and every instruction is a reading.
pub record Good (n : ℕ) (xs : List Item) : Type 0 where
  pub read : AllRead xs
  pub short : length xs ≤ n

formed_reads : (i : Inst) → Formed i → IsReading i
formed_reads i f = (word i, inl (f, refl))

none : Good 0 []
none = record { read = tt; short = omega arith }

pub more : (m n : ℕ) (xs : List Item) → m ≤ n → Good m xs → Good n xs
more m n xs le g = let s = g.short in record { read = g.read; short = omega arith }

inst : (i : Inst) (n : ℕ) (xs : List Item) → Formed i → Good n xs → Good (n + 1) (Item.Inst i ∷ xs)
inst i n xs f g = let s = g.short in record { read = (formed_reads i f, g.read); short = omega arith }

note : (u : UnwindInst) → Good 1 (Item.Note u ∷ [])
note u = record { read = tt; short = omega arith }

join : (m n : ℕ) (xs ys : List Item) → Good m xs → Good n ys → Good (m + n) (xs ++ ys)
join m n xs ys g h =
    let a = g.short in
    let b = h.short in
    let l = length-append xs ys in
    record { read = all_append xs ys g.read h.read; short = omega arith }

join_code : (m n : ℕ) (xs ys : List Inst) → Good m (code xs) → Good n (code ys) → Good (m + n) (code (xs ++ ys))
join_code m n xs ys g h = subst (Good (m + n)) (sym (code_append xs ys)) (join m n (code xs) (code ys) g h)

either : (n : ℕ) (b : Bool) (xs ys : List Item) → (b ≡ true → Good n xs) → (b ≡ false → Good n ys) → Good n (cond b xs ys)
either n b xs ys g h = cond_both b xs ys (Good n) g h

either_code : (n : ℕ) (b : Bool) (xs ys : List Inst) → (b ≡ true → Good n (code xs)) → (b ≡ false → Good n (code ys)) → Good n (code (cond b xs ys))
either_code n b xs ys g h = cond_both b xs ys (λ (is : List Inst). Good n (code is)) g h

empty : (n : ℕ) → Good n []
empty n = more 0 n [] (omega arith) none

one : (i : Inst) → Formed i → Good 1 (Item.Inst i ∷ [])
one i f = inst i 0 [] f none

-- ---- constants

part_small : (n h : ℕ) → part n h < 65536
part_small n h = mod-lt (n / 2 ^ (16 * h)) (lit< tt)

keep_good : (rd : Reg) → rd.enc < 32 → (n h c : ℕ) → h + c ≤ 4 → Good c (code (keep_parts rd n h c))
keep_good rd r n h zero le = none
keep_good rd r n h (suc c) le =
    let g = keep_good rd r n (h + 1) c (omega arith) in
    let p = part_small n h in
    let s : h < 4 = omega arith in
    either_code (suc c) (eqb (part n h) 0) (keep_parts rd n (h + 1) c) (movk rd (part n h) h ∷ keep_parts rd n (h + 1) c)
    (λ e. more c (suc c) _ (omega arith) g)
    (λ e. more (c + 1) (suc c) _ (omega arith) (inst (movk rd (part n h) h) c (code (keep_parts rd n (h + 1) c)) (r, s, p) g))

load_good : (rd : Reg) → rd.enc < 32 → (n h c : ℕ) → h + c ≤ 4 → Good (c + 1) (code (load_parts rd n h c))
load_good rd r n h zero le = one (movz rd 0 0) (r, lit< tt, lit< tt)
load_good rd r n h (suc c) le =
    let g = load_good rd r n (h + 1) c (omega arith) in
    let k = keep_good rd r n (h + 1) c (omega arith) in
    let p = part_small n h in
    let s : h < 4 = omega arith in
    either_code (suc c + 1) (eqb (part n h) 0) (load_parts rd n (h + 1) c) (movz rd (part n h) h ∷ keep_parts rd n (h + 1) c)
    (λ e. more (c + 1) (suc c + 1) _ (omega arith) g)
    (λ e. more (c + 1) (suc c + 1) _ (omega arith) (inst (movz rd (part n h) h) c (code (keep_parts rd n (h + 1) c)) (r, s, p) k))

constant_good : (rd : Reg) → rd.enc < 32 → (n : ℕ) → Good 5 (code (load_constant_of rd n))
unfolding load_constant_of
constant_good rd r n = load_good rd r n 0 4 (omega arith)

-- ---- immediates

abbrev Imm12Ok : Option Imm12 → Type 0
Imm12Ok None = Unit {0}
Imm12Ok (Some i) = i.bits < 4096

imm12_ok : (n : ℕ) → Imm12Ok (imm12_of n)
imm12_ok n = go (ltb n 4096) (eqb (n % 4096) 0 && ltb n (2 ^ 24)) (λ e. ltb-true n 4096 e) (λ e. ltb-true n (2 ^ 24) ((and_parts (eqb (n % 4096) 0) (ltb n (2 ^ 24)) e).1))
  where
    go : (a b : Bool) → (a ≡ true → n < 4096) → (b ≡ true → n < 2 ^ 24) →
        Imm12Ok (cond a (Some (record { bits = n; shift12 = false })) (cond b (Some (record { bits = n / 4096; shift12 = true })) None))
    go true b f g = f refl
    go false true f g = let h = g refl in omega arith
    go false false f g = tt

abbrev UImm12Ok : Option UImm12Scaled → Type 0
UImm12Ok None = Unit {0}
UImm12Ok (Some i) = (i.value < 32768) × (i.value % 8 ≡ 0)

uimm12_ok : (n : ℕ) → UImm12Ok (uimm12_of (pos n))
uimm12_ok n =
    go (ltb n 32768 && eqb (n % 8) 0) (λ e. ltb-true n 32768 ((and_parts (ltb n 32768) (eqb (n % 8) 0) e).0)) (λ e. eqb-true (n % 8) 0 ((and_parts (ltb n 32768) (eqb (n % 8) 0) e).1))
  where
    go : (b : Bool) → (b ≡ true → n < 32768) → (b ≡ true → n % 8 ≡ 0) → UImm12Ok (cond b (Some (record { value = n })) None)
    go true f g = (f refl, g refl)
    go false f g = tt

-- ---- SP by an amount

by_imm_good : (op : AddSub) (n : ℕ) (o : Option Imm12) → Imm12Ok o → Good 6 (code (sp_by_imm op n o))
by_imm_good op n (Some i) ok = more 1 6 _ (omega arith) (one (AddSubImm op sp sp i) (lit< tt, lit< tt, ok))
by_imm_good op n None ok =
    join_code 5 1 (load_constant_of spilltmp n) (AddSubExt op sp sp spilltmp ∷ []) (constant_good spilltmp (lit< tt) n) (one (AddSubExt op sp sp spilltmp) (lit< tt, lit< tt, lit< tt))

pub by_good : (op : AddSub) (n : ℕ) → Good 6 (code (sp_by_of op n))
unfolding sp_by_of
by_good op n = either_code 6 (eqb n 0) [] (sp_by_imm op n (imm12_of n)) (λ e. empty 6) (λ e. by_imm_good op n (imm12_of n) (imm12_ok n))

pub adjust_good : (z : ℤ) → Good 6 (code (gen_sp_reg_adjust_of z))
adjust_good (pos n) = by_good AddSub.Add n
adjust_good (negsuc n) = by_good AddSub.Sub (suc n)

-- ---- probes

each_good : (g c : ℕ) → Good (7 * c) (code (probe_each g c))
each_good g zero = none
each_good g (suc c) =
    more (6 + (7 * c + 1)) (7 * suc c) _ (omega arith)
    (join_code 6 (7 * c + 1) (sp_by_of AddSub.Sub g) (probe_sp ∷ probe_each g c) (by_good AddSub.Sub g) (inst probe_sp (7 * c) (code (probe_each g c)) (lit< tt, lit< tt, lit< tt) (each_good g c)))

unroll_good : (g c : ℕ) → c ≤ 3 → Good 27 (code (gen_probestack_unroll_of g c))
unroll_good g c le =
    more (7 * c + 6) 27 _ (omega arith) (join_code (7 * c) 6 (probe_each g c) (sp_by_of AddSub.Add (g * c)) (each_good g c) (by_good AddSub.Add (g * c)))

loop_good : (o : Option Imm12) → Imm12Ok o → Good 4 (code (stack_probe_loop_of o))
loop_good (Some i) ok =
    inst (step_down i) 3 _ (lit< tt, lit< tt, ok)
    (inst probe_below 2 _ (lit< tt, lit< tt, lit< tt) (inst compare_end 1 _ (lit< tt, lit< tt, lit< tt) (one (BGt (negsuc 2)) (lit< tt))))
loop_good None ok = empty 4

pub probes_good : (size guard : ℕ) → Good 27 (code (gen_inline_probestack_of size guard))
unfolding gen_inline_probestack_of
probes_good size guard =
    either_code 27 (eqb (size / guard) 0) [] (cond (leb (size / guard) 3) (gen_probestack_unroll_of guard (size / guard)) (gen_probestack_loop_of size guard)) (λ e. empty 27)
    (λ e. either_code 27 (leb (size / guard) 3) (gen_probestack_unroll_of guard (size / guard)) (gen_probestack_loop_of size guard)
    (λ f. unroll_good guard (size / guard) (leb-true (size / guard) 3 f))
    (λ f. more 14 27 _ (omega arith)
    (join_code 5 9 (load_constant_of spilltmp 0) (load_constant_of tmp2 size ++ stack_probe_loop_of (imm12_of guard)) (constant_good spilltmp (lit< tt) 0)
    (join_code 5 4 (load_constant_of tmp2 size) (stack_probe_loop_of (imm12_of guard)) (constant_good tmp2 (lit< tt) size) (loop_good (imm12_of guard) (imm12_ok guard))))))

-- ---- setup

noting_good : (h : PlainSheet) (u : UnwindInst) → Good 1 (noting h u)
noting_good h u = either 1 h.flags.unwind_info (Item.Note u ∷ []) [] (λ e. note u) (λ e. empty 1)

pad_good : (b : Bool) → Good 1 (padded b)
pad_good b = either_code 1 b (BtiC ∷ []) [] (λ e. one BtiC tt) (λ e. empty 1)

sealed_good : (h : PlainSheet) (o : Option ApiKey) → Good 3 (sealed h o)
sealed_good h (Some key) =
    join 1 2 _ _ (pad_good _) (more 2 2 _ (omega arith) (inst (Paci key.key key.modifier) 1 (noting h (Aarch64SetPointerAuth true)) tt (noting_good h (Aarch64SetPointerAuth true))))
sealed_good h None =
    more 2 3 _ (omega arith)
    (join 1 1 _ _ (pad_good h.flags.use_bti)
    (either 1 (same h.conv CallConv.AppleAarch64) (noting h (Aarch64SetPointerAuth false)) [] (λ e. noting_good h (Aarch64SetPointerAuth false)) (λ e. empty 1)))

mov_good : Good 1 (Item.Inst mov_fp_sp_of ∷ [])
mov_good = one mov_fp_sp_of (lit< tt, lit< tt, lit< tt)

pushed_good : (h : PlainSheet) → Good 3 (frame_pushed h)
pushed_good h =
    either 3 (sets_up h) (Item.Inst (push_pair_of PairClass.X 29 30) ∷ (noting h (PushFrameRegs (setup_size h)) ++ (Item.Inst mov_fp_sp_of ∷ []))) []
    (λ e. inst (push_pair_of PairClass.X 29 30) 2 (noting h (PushFrameRegs (setup_size h)) ++ (Item.Inst mov_fp_sp_of ∷ [])) (lit< tt, lit< tt, lit< tt, lit< tt, refl, refl)
    (join 1 1 (noting h (PushFrameRegs (setup_size h))) (Item.Inst mov_fp_sp_of ∷ []) (noting_good h (PushFrameRegs (setup_size h))) mov_good))
    (λ e. empty 3)

pub setup_good : (h : PlainSheet) → Good 6 (gen_prologue_frame_setup_of h)
setup_good h = join 3 3 (sealed h (select_api_key_of h)) (frame_pushed h) (sealed_good h (select_api_key_of h)) (pushed_good h)

-- ---- slots

-- Registers below 32, and none twice.
abbrev Apart : List ℕ → Type 0
Apart [] = Unit {0}
Apart (x ∷ xs) = (x < 32) × (has xs x ≡ false) × Apart xs

abbrev apart : List ℕ → Bool
apart [] = true
apart (x ∷ xs) = ltb x 32 && (not (has xs x) && apart xs)

apart_is : (xs : List ℕ) → apart xs ≡ true → Apart xs
apart_is [] e = tt
apart_is (x ∷ xs) e =
    let f = and_parts (ltb x 32) (not (has xs x) && apart xs) e in
    let g = and_parts (not (has xs x)) (apart xs) f.1 in
    (ltb-true x 32 f.0, not-true (has xs x) g.0, apart_is xs g.1)

ints_apart : (d : Bool) → Apart (ints d)
unfolding ints
ints_apart true = apart_is (ints true) refl
ints_apart false = apart_is (ints false) refl

kept_has : (t : ℕ → Bool) (x : ℕ) (xs : List ℕ) → has xs x ≡ false → has (filter t xs) x ≡ false
kept_has t x [] e = refl
kept_has t x (y ∷ ys) e = let p = or_parts (eqb x y) (has ys x) e in go (t y) p.0 (kept_has t x ys p.1)
  where
    go : (b : Bool) → eqb x y ≡ false → has (filter t ys) x ≡ false → has (cond b (y ∷ filter t ys) (filter t ys)) x ≡ false
    go true f g = ap (λ (c : Bool). c || has (filter t ys) x) f ∙ g
    go false f g = g

kept_apart : (t : ℕ → Bool) (xs : List ℕ) → Apart xs → Apart (filter t xs)
kept_apart t [] a = tt
kept_apart t (x ∷ xs) a = go (t x) (kept_apart t xs a.2)
  where
    go : (b : Bool) → Apart (filter t xs) → Apart (cond b (x ∷ filter t xs) (filter t xs))
    go true k = (a.0, kept_has t x xs a.1, k)
    go false k = k

-- A slot of registers below 32, a pair of two.
abbrev SlotOk : Slot → Type 0
SlotOk (pair_x a b) = (a < 32) × (b < 32) × (eqb a b ≡ false)
SlotOk (one_x a) = a < 32
SlotOk (pair_d a b) = (a < 32) × (b < 32) × (eqb a b ≡ false)
SlotOk (one_d a) = a < 32
SlotOk (one_q a) = a < 32

abbrev SlotsOk : List Slot → Type 0
SlotsOk [] = Unit {0}
SlotsOk (s ∷ ss) = SlotOk s × SlotsOk ss

twos_x_ok : (xs : List ℕ) → Apart xs → SlotsOk (twos_x xs)
twos_x_ok [] a = tt
twos_x_ok (x ∷ []) a = (a.0, tt)
twos_x_ok (x ∷ y ∷ rs) a = ((a.0, a.2.0, (or_parts (eqb x y) (has rs x) a.1).0), twos_x_ok rs a.2.2)

twos_d_ok : (xs : List ℕ) → Apart xs → SlotsOk (twos_d xs)
twos_d_ok [] a = tt
twos_d_ok (x ∷ []) a = (a.0, tt)
twos_d_ok (x ∷ y ∷ rs) a = ((a.0, a.2.0, (or_parts (eqb x y) (has rs x) a.1).0), twos_d_ok rs a.2.2)

each_q_ok : (xs : List ℕ) → Apart xs → SlotsOk (each_q xs)
each_q_ok [] a = tt
each_q_ok (x ∷ rs) a = (a.0, each_q_ok rs a.2)

ok_append : (a b : List Slot) → SlotsOk a → SlotsOk b → SlotsOk (a ++ b)
ok_append [] b p q = q
ok_append (s ∷ a) b p q = (p.0, ok_append a b p.1 q)

-- How many items a slot's save can be.
abbrev weigh : Slot → ℕ
weigh (pair_x a b) = 3
weigh (one_x a) = 3
weigh (pair_d a b) = 3
weigh (one_d a) = 3
weigh (one_q a) = 1

abbrev weight : List Slot → ℕ
weight [] = 0
weight (s ∷ ss) = weight ss + weigh s

weight_append : (a b : List Slot) → weight (a ++ b) ≡ weight a + weight b
weight_append [] b = omega arith
weight_append (s ∷ a) b = let h = weight_append a b in omega arith

twos_x_weight : (xs : List ℕ) → 2 * weight (twos_x xs) ≤ 3 * length xs + 3
twos_x_weight [] = omega arith
twos_x_weight (a ∷ []) = omega arith
twos_x_weight (a ∷ b ∷ rs) = let h = twos_x_weight rs in omega arith

twos_d_weight : (xs : List ℕ) → 2 * weight (twos_d xs) ≤ 3 * length xs + 3
twos_d_weight [] = omega arith
twos_d_weight (a ∷ []) = omega arith
twos_d_weight (a ∷ b ∷ rs) = let h = twos_d_weight rs in omega arith

each_q_weight : (xs : List ℕ) → weight (each_q xs) ≡ length xs
each_q_weight [] = refl
each_q_weight (a ∷ rs) = let h = each_q_weight rs in omega arith

ints_ok : (h : PlainSheet) → Apart (saved_ints_of h)
ints_ok h = kept_apart (saves h) (ints (pairing h)) (ints_apart (pairing h))

vecs_ok : (h : PlainSheet) → Apart (saved_vecs_of h)
vecs_ok h = kept_apart (λ r. saves h (64 + r)) (ints (pairing h)) (ints_apart (pairing h))

slots_ok : (h : PlainSheet) → SlotsOk (slots_of h)
unfolding slots_of
slots_ok h = go (same h.conv CallConv.PreserveAll)
  where
    go : (b : Bool) → SlotsOk (cond b (each_q (saved_vecs_of h)) (twos_d (saved_vecs_of h)) ++ twos_x (saved_ints_of h))
    go true = ok_append (each_q (saved_vecs_of h)) (twos_x (saved_ints_of h)) (each_q_ok (saved_vecs_of h) (vecs_ok h)) (twos_x_ok (saved_ints_of h) (ints_ok h))
    go false = ok_append (twos_d (saved_vecs_of h)) (twos_x (saved_ints_of h)) (twos_d_ok (saved_vecs_of h) (vecs_ok h)) (twos_x_ok (saved_ints_of h) (ints_ok h))

slots_weight : (h : PlainSheet) → weight (slots_of h) ≤ 98
unfolding slots_of
slots_weight h = go (same h.conv CallConv.PreserveAll)
  where
    go : (b : Bool) → weight (cond b (each_q (saved_vecs_of h)) (twos_d (saved_vecs_of h)) ++ twos_x (saved_ints_of h)) ≤ 98
    go true = omega (arith, weight_append (each_q (saved_vecs_of h)) (twos_x (saved_ints_of h)), each_q_weight (saved_vecs_of h), twos_x_weight (saved_ints_of h), ints_few h, vecs_few h)
    go false = omega (arith, weight_append (twos_d (saved_vecs_of h)) (twos_x (saved_ints_of h)), twos_d_weight (saved_vecs_of h), twos_x_weight (saved_ints_of h), ints_few h, vecs_few h)

slot_good : (h : PlainSheet) (s : Slot) (o : ℕ) → SlotOk s → Good (weigh s) (Item.Inst (push s) ∷ slot_notes h s o)
slot_good h (pair_x a b) o ok =
    inst (push (pair_x a b)) 2 _ (ok.0, ok.1, lit< tt, lit< tt, refl, refl) (join 1 1 _ _ (noting_good h (SaveReg o a)) (noting_good h (SaveReg (o + 8) b)))
slot_good h (one_x a) o ok = more 2 3 _ (omega arith) (inst (push (one_x a)) 1 _ (ok, lit< tt, lit< tt, refl) (noting_good h (SaveReg o a)))
slot_good h (pair_d a b) o ok =
    inst (push (pair_d a b)) 2 _ (ok.0, ok.1, lit< tt, lit< tt, refl, refl) (join 1 1 _ _ (noting_good h (SaveReg o (64 + a))) (noting_good h (SaveReg (o + 8) (64 + b))))
slot_good h (one_d a) o ok = more 2 3 _ (omega arith) (inst (push (one_d a)) 1 _ (ok, lit< tt, lit< tt, refl) (noting_good h (SaveReg o (64 + a))))
slot_good h (one_q a) o ok = one (push (one_q a)) (ok, lit< tt, lit< tt, refl)

save_good : (h : PlainSheet) (ss : List Slot) (o : ℕ) → SlotsOk ss → Good (weight ss) (save_slots h ss o)
save_good h [] o ok = none
save_good h (s ∷ ss) o ok =
    join (weight ss) (weigh s) (save_slots h ss (o + 16)) (Item.Inst (push s) ∷ slot_notes h s o) (save_good h ss (o + 16) ok.1) (slot_good h s o ok.0)

pop_formed : (s : Slot) → SlotOk s → Formed (pop s)
pop_formed (pair_x a b) ok = (ok.0, ok.1, lit< tt, lit< tt, refl, ap (λ (c : Bool). c || false) ok.2)
pop_formed (one_x a) ok = (ok, lit< tt, lit< tt, refl)
pop_formed (pair_d a b) ok = (ok.0, ok.1, lit< tt, lit< tt, refl, ap (λ (c : Bool). c || false) ok.2)
pop_formed (one_d a) ok = (ok, lit< tt, lit< tt, refl)
pop_formed (one_q a) ok = (ok, lit< tt, lit< tt, refl)

weigh_one : (s : Slot) → 1 ≤ weigh s
weigh_one (pair_x a b) = omega arith
weigh_one (one_x a) = omega arith
weigh_one (pair_d a b) = omega arith
weigh_one (one_d a) = omega arith
weigh_one (one_q a) = omega arith

slots_restored : (ss : List Slot) → SlotsOk ss → Good (weight ss) (code (restore_slots ss))
slots_restored [] ok = none
slots_restored (s ∷ ss) ok =
    let w = weigh_one s in
    more (weight ss + 1) (weight ss + weigh s) _ (omega arith) (inst (pop s) (weight ss) (code (restore_slots ss)) (pop_formed s ok.0) (slots_restored ss ok.1))

-- ---- clobber save

reload_by_good : (n : ℕ) (o : Option UImm12Scaled) → UImm12Ok o → Good 6 (code (tail_reload_by n o))
reload_by_good n (Some i) ok = more 1 6 _ (omega arith) (one (load_fp i) (lit< tt, lit< tt, ok.0, ok.1))
reload_by_good n None ok = join_code 5 1 (load_constant_of spilltmp n) (load_fp_far ∷ []) (constant_good spilltmp (lit< tt) n) (one load_fp_far (lit< tt, lit< tt, lit< tt))

reload_good : (n : ℕ) → Good 6 (code (tail_reload_of n))
unfolding tail_reload_of
reload_good n = reload_by_good n (uimm12_of (pos n)) (uimm12_ok n)

moved_good : (h : PlainSheet) (n : ℕ) → Good 8 (moved h n)
moved_good h n =
    either_code 8 (sets_up h) (tail_reload_of n ++ (store_fp_lr ∷ mov_fp_sp_of ∷ [])) []
    (λ e. join_code 6 2 (tail_reload_of n) (store_fp_lr ∷ mov_fp_sp_of ∷ []) (reload_good n) (inst store_fp_lr 1 _ (lit< tt, lit< tt, lit< tt, lit< tt, refl, refl) mov_good))
    (λ e. empty 8)

grows_good : (h : PlainSheet) → Good 15 (grows h)
grows_good h =
    either 15 (eqb (incoming_args_diff_of h) 0) [] (resize_incoming_of h (incoming_args_diff_of h)) (λ e. empty 15)
    (λ e. join 6 9 _ _ (by_good AddSub.Sub (incoming_args_diff_of h)) (join 1 8 _ _ (noting_good h (StackAlloc (incoming_args_diff_of h))) (moved_good h (incoming_args_diff_of h))))

defines_good : (h : PlainSheet) → Good 1 (defines h)
defines_good h = either 1 (sets_up h) _ [] (λ e. noting_good h (DefineNewFrame (setup_size h + incoming_args_diff_of h) (clobber_size_of h))) (λ e. empty 1)

allocates_good : (h : PlainSheet) → Good 7 (allocates h)
allocates_good h =
    either 7 (eqb (stack_size_of h) 0) [] _ (λ e. empty 7) (λ e. join 6 1 _ _ (by_good AddSub.Sub (stack_size_of h)) (noting_good h (StackAlloc (stack_size_of h))))

pub save_all_good : (h : PlainSheet) → Good 121 (gen_clobber_save_of h)
save_all_good h =
    join 15 106 (grows h) (defines h ++ (save_slots h (slots_of h) 0 ++ allocates h)) (grows_good h)
    (join 1 105 (defines h) (save_slots h (slots_of h) 0 ++ allocates h) (defines_good h)
    (join 98 7 (save_slots h (slots_of h) 0) (allocates h) (more (weight (slots_of h)) 98 _ (slots_weight h) (save_good h (slots_of h) 0 (slots_ok h))) (allocates_good h)))

-- ---- the epilogue

pub restore_good : (h : PlainSheet) → Good 104 (code (gen_clobber_restore_of h))
restore_good h =
    join_code 6 98 (sp_by_of AddSub.Add (stack_size_of h)) (restore_slots (slots_of h)) (by_good AddSub.Add (stack_size_of h))
    (more (weight (slots_of h)) 98 _ (slots_weight h) (slots_restored (slots_of h) (slots_ok h)))

popped_good : (h : PlainSheet) → Good 1 (code (frame_popped h))
popped_good h =
    either_code 1 (sets_up h) (pop_pair_of PairClass.X 29 30 ∷ []) [] (λ e. one (pop_pair_of PairClass.X 29 30) (lit< tt, lit< tt, lit< tt, lit< tt, refl, refl)) (λ e. empty 1)

pub frame_restore_good : (h : PlainSheet) → Good 7 (code (gen_epilogue_frame_restore_of h))
frame_restore_good h = join_code 1 6 (frame_popped h) (sp_by_of AddSub.Add (callee_pop_size_of h)) (popped_good h) (by_good AddSub.Add (callee_pop_size_of h))

ret_good : Good 1 (Item.Inst Ret ∷ [])
ret_good = one Ret tt

by_key_good : (h : PlainSheet) (o : Option ApiKey) → Good 2 (code (return_by h o))
by_key_good h (Some key) =
    either_code 2 _ (RetAuth key.key ∷ []) (Auti key.key key.modifier ∷ Ret ∷ [])
    (λ e. more 1 2 _ (omega arith) (one (RetAuth key.key) tt)) (λ e. inst (Auti key.key key.modifier) 1 _ tt ret_good)
by_key_good h None = more 1 2 _ (omega arith) ret_good

pub return_good : (h : PlainSheet) → Good 2 (code (gen_return_of h))
return_good h = by_key_good h (select_api_key_of h)

-- ---- whole

framed_good : (h : PlainSheet) → Good 27 (probes h)
framed_good h = either_code 27 h.flags.inline_probes (gen_inline_probestack_of (probe_size_of h) h.sizes.guard) [] (λ e. probes_good (probe_size_of h) h.sizes.guard) (λ e. empty 27)

pub prologue_good : (h : PlainSheet) → Good 154 (prologue h)
unfolding prologue
prologue_good h =
    join 6 148 (gen_prologue_frame_setup_of h) (probes h ++ gen_clobber_save_of h) (setup_good h) (join 27 121 (probes h) (gen_clobber_save_of h) (framed_good h) (save_all_good h))

pub epilogue_good : (h : PlainSheet) → Good 113 (epilogue h)
unfolding epilogue
epilogue_good h =
    join_code 104 9 (gen_clobber_restore_of h) (gen_epilogue_frame_restore_of h ++ gen_return_of h) (restore_good h)
    (join_code 7 2 (gen_epilogue_frame_restore_of h) (gen_return_of h) (frame_restore_good h) (return_good h))

pub constant_short : (rd : Reg) (n : ℕ) → length (code (load_constant_of rd n)) ≤ 5
unfolding load_constant_of
constant_short rd n = short_load 0 4
  where
    short_keep : (h c : ℕ) → length (code (keep_parts rd n h c)) ≤ c
    short_keep h zero = omega arith
    short_keep h (suc c) = go (eqb (part n h) 0) (short_keep (h + 1) c)
      where
        go : (b : Bool) → length (code (keep_parts rd n (h + 1) c)) ≤ c → length (code (cond b (keep_parts rd n (h + 1) c) (movk rd (part n h) h ∷ keep_parts rd n (h + 1) c))) ≤ suc c
        go true l = omega arith
        go false l = omega arith

    short_load : (h c : ℕ) → length (code (load_parts rd n h c)) ≤ c + 1
    short_load h zero = omega arith
    short_load h (suc c) = go (eqb (part n h) 0) (short_load (h + 1) c) (short_keep (h + 1) c)
      where
        go : (b : Bool) → length (code (load_parts rd n (h + 1) c)) ≤ c + 1 → length (code (keep_parts rd n (h + 1) c)) ≤ c →
            length (code (cond b (load_parts rd n (h + 1) c) (movz rd (part n h) h ∷ keep_parts rd n (h + 1) c))) ≤ suc c + 1
        go true l k = omega arith
        go false l k = omega arith
