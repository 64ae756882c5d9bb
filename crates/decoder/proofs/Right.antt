-- What the reading of a word is: the named instruction with this word, or `Other`.
use Rattle.std.proofs.Common.{◌≡◌, ℕ, zero, suc, ◌*◌, ◌/◌, ◌%◌, ◌^◌, ◌<◌, false, ◌&&◌, eqb, sym, refl, ◌∙◌, subst, arith}
use Rattle.std.proofs.lemmas.Bool.{cond_both, eqb-true, eqb-false, and_parts}
use Rattle.std.proofs.lemmas.Nat.{mod_below, pow_pos}
use Rattle.a64.specs.Signed.{twos, from_twos, Within}
use Rattle.a64.specs.Words.{after, word, Formed, flag, load_bit, key_bit, sp_bit, wide_bit, mode_bits, pair_clash_of, single_clash_of}
use Rattle.decoder.proofs.Rows.{head, rest, same_word, add_sub_imm_head, add_sub_ext_head, pair_head, pair_mode_bit, single_head, mov_head}
use Rattle.decoder.specs.Reading.{field_of, reg_of, dir_of, key_of, modifier_of, add_sub_imm_of, add_sub_ext_of, adds_shifted_of, pair, pair_post_of, pair_pre_of, single, indexed, ldr_reg_of, load_x_of, ldr_u_imm, store_w_of, mov_wide_of, hint, ret, branch, reading}
use Rattle.decoder.proofs.Fields.{joined}
use Rattle.decoder.proofs.Twos.{forth, within}
use Rattle.a64.specs.declared.inst.AddSub.{AddSub}
use Rattle.a64.specs.declared.inst.PairClass.{PairClass}
use Rattle.a64.specs.declared.inst.PairMode.{PairMode}
use Rattle.a64.specs.declared.inst.Class.{Class}
use Rattle.a64.specs.declared.inst.Mode.{Mode}
use Rattle.a64.specs.declared.inst.MoveWideOp.{MoveWideOp}
use Rattle.a64.specs.declared.inst.Inst.{Inst}
use Rattle.a64.specs.declared.inst.Inst.TheVariants.{AddSubImm, AddSubExt, AddsShifted, Pair, Single, LdrUImm, LdrReg, StrWReg, SturW, MovWide, Paci, Auti, BtiC, Ret, RetAuth, BGt, Other}

pub data Right (w : ℕ) : Inst → Type 0 where
  named : {i : Inst} → Formed i → word i ≡ w → Right w i
  other : Right w (Other w)

-- a field fits its width
below : (w at k : ℕ) → field_of w at k < 2 ^ k
below w at k = mod_below (w / 2 ^ at) (2 ^ k) (pow_pos k)

-- a bit is 0 or 1
by_two : (P : ℕ → Type 0) → P 0 → P 1 → (n : ℕ) → n < 2 → P n
by_two P a b zero h = a
by_two P a b (suc zero) h = b
by_two P a b (suc (suc n)) h = absurd (omega arith)

bit_forth : (n : ℕ) → n < 2 → n ≡ flag (eqb n 1)
bit_forth n h = by_two (λ n. n ≡ flag (eqb n 1)) refl refl n h

dir_forth : (n : ℕ) → n < 2 → n ≡ load_bit (dir_of n)
dir_forth n h = by_two (λ n. n ≡ load_bit (dir_of n)) refl refl n h

key_forth : (n : ℕ) → n < 2 → n ≡ key_bit (key_of n)
key_forth n h = by_two (λ n. n ≡ key_bit (key_of n)) refl refl n h

sp_forth : (n : ℕ) → n < 2 → n ≡ sp_bit (modifier_of n)
sp_forth n h = by_two (λ n. n ≡ sp_bit (modifier_of n)) refl refl n h

-- the row of i, in w below its head, makes up w
whole : (w : ℕ) (i : Inst) → w / 2 ^ 24 ≡ head i → after (w / 2 ^ 24) (rest i) ≡ w → word i ≡ w
whole w i k e = same_word i ∙ subst (λ (h : ℕ). after h (rest i) ≡ w) k e

imm : (op : AddSub) (w : ℕ) → w / 2 ^ 24 ≡ add_sub_imm_head op → Right w (add_sub_imm_of op w)
imm op w k =
    cond_both (eqb (field_of w 23 1) 0) _ _ (Right w)
    (λ t.
    let i : Inst = AddSubImm op (reg_of w 0) (reg_of w 5) (record { bits = field_of w 10 12; shift12 = eqb (field_of w 22 1) 1 }) in
    named {i = i} (below w 0 5, below w 5 5, below w 10 12)
    (whole w i k (joined (rest i) w (eqb-true _ _ t, (bit_forth _ (below w 22 1), (refl, (refl, (refl, tt))))))))
    (λ _. other)

ext : (op : AddSub) (w : ℕ) → w / 2 ^ 24 ≡ add_sub_ext_head op → Right w (add_sub_ext_of op w)
ext op w k =
    cond_both (eqb (field_of w 21 3) 1 && eqb (field_of w 10 6) 24) _ _ (Right w)
    (λ t.
    let i : Inst = AddSubExt op (reg_of w 0) (reg_of w 5) (reg_of w 16) in
    let p = and_parts _ _ t in
    named {i = i} (below w 0 5, below w 5 5, below w 16 5)
    (whole w i k (joined (rest i) w (eqb-true _ _ p.0, (refl, (eqb-true _ _ p.1, (refl, (refl, tt))))))))
    (λ _. other)

adds : (w : ℕ) → w / 2 ^ 24 ≡ 0xab → Right w (adds_shifted_of w)
adds w k =
    cond_both (eqb (field_of w 21 3) 0 && eqb (field_of w 10 6) 0) _ _ (Right w)
    (λ t.
    let i : Inst = AddsShifted (reg_of w 0) (reg_of w 5) (reg_of w 16) in
    let p = and_parts _ _ t in
    named {i = i} (below w 0 5, below w 5 5, below w 16 5)
    (whole w i k (joined (rest i) w (eqb-true _ _ p.0, (refl, (eqb-true _ _ p.1, (refl, (refl, tt))))))))
    (λ _. other)

-- an immediate in steps of 8, of ten bits in all
by8 : (n : ℕ) → n < 2 ^ 7 → (Within 10 (from_twos 10 (8 * n))) × (twos 10 (from_twos 10 (8 * n)) % 8 ≡ 0) × (n ≡ twos 10 (from_twos 10 (8 * n)) / 8)
by8 n h =
    let f : twos 10 (from_twos 10 (8 * n)) ≡ 8 * n = forth 10 (8 * n) (omega arith) (omega arith) in
    (within 10 (8 * n) (omega arith) (omega arith), omega arith, omega arith)

pairs : (class : PairClass) (mode : PairMode) (w : ℕ) → w / 2 ^ 24 ≡ pair_head class mode → field_of w 23 1 ≡ pair_mode_bit mode → Right w (pair class mode w)
pairs class mode w k m =
    cond_both (pair_clash_of (dir_of (field_of w 22 1)) class mode (reg_of w 0) (reg_of w 10) (reg_of w 5)) _ _ (Right w)
    (λ _. other)
    (λ f.
    let i : Inst = Pair (dir_of (field_of w 22 1)) class mode (reg_of w 0) (reg_of w 10) (reg_of w 5) (record { value = from_twos 10 (8 * field_of w 15 7) }) in
    let s = by8 (field_of w 15 7) (below w 15 7) in
    named {i = i} (below w 0 5, below w 10 5, below w 5 5, s.0, s.1, f)
    (whole w i k (joined (rest i) w (m, (dir_forth _ (below w 22 1), (s.2, (refl, (refl, (refl, tt)))))))))

post : (class : PairClass) (w : ℕ) → w / 2 ^ 24 ≡ pair_head class PairMode.Post → Right w (pair_post_of class w)
post class w k = cond_both (eqb (field_of w 23 1) 1) _ _ (Right w) (λ t. pairs class PairMode.Post w k (eqb-true _ _ t)) (λ _. other)

bit_zero : (n : ℕ) → n < 2 → eqb n 1 ≡ false → n ≡ 0
bit_zero n h e = omega (arith, eqb-false n 1 e)

pre : (class : PairClass) (w : ℕ) → w / 2 ^ 24 ≡ pair_head class PairMode.Pre → w / 2 ^ 24 ≡ pair_head class PairMode.Offset → Right w (pair_pre_of class w)
pre class w k l =
    cond_both (eqb (field_of w 23 1) 1) _ _ (Right w) (λ t. pairs class PairMode.Pre w k (eqb-true _ _ t))
    (λ t. pairs class PairMode.Offset w l (bit_zero _ (below w 23 1) t))

ind : (class : Class) (mode : Mode) (w : ℕ) → w / 2 ^ 24 ≡ single_head class → field_of w 23 1 ≡ wide_bit class → field_of w 21 1 ≡ 0 → field_of w 10 2 ≡ mode_bits mode → Right w (indexed class mode w)
ind class mode w k a b m =
    cond_both (single_clash_of class (reg_of w 0) (reg_of w 5)) _ _ (Right w)
    (λ _. other)
    (λ f.
    let i : Inst = Single (dir_of (field_of w 22 1)) class mode (reg_of w 0) (reg_of w 5) (record { value = from_twos 9 (field_of w 12 9) }) in
    let v = within 9 (field_of w 12 9) (omega arith) (below w 12 9) in
    let e = sym (forth 9 (field_of w 12 9) (omega arith) (below w 12 9)) in
    named {i = i} (below w 0 5, below w 5 5, v, f)
    (whole w i k (joined (rest i) w (a, (dir_forth _ (below w 22 1), (b, (e, (m, (refl, (refl, tt))))))))))

one : (class : Class) (w : ℕ) → w / 2 ^ 24 ≡ single_head class → Right w (single class w)
one class w k =
    cond_both (eqb (field_of w 23 1) (wide_bit class) && eqb (field_of w 21 1) 0) _ _ (Right w)
    (λ t.
    let p = and_parts _ _ t in
    let a = eqb-true _ _ p.0 in
    let b = eqb-true _ _ p.1 in
    cond_both (eqb (field_of w 10 2) 3) _ _ (Right w) (λ u. ind class Mode.Pre w k a b (eqb-true _ _ u))
    (λ _. cond_both (eqb (field_of w 10 2) 1) _ _ (Right w) (λ u. ind class Mode.Post w k a b (eqb-true _ _ u)) (λ _. other)))
    (λ _. other)

load_reg : (w : ℕ) → w / 2 ^ 24 ≡ 0xf8 → field_of w 21 1 ≡ 1 → Right w (ldr_reg_of w)
load_reg w k b =
    cond_both (eqb (field_of w 22 2) 1 && eqb (field_of w 10 6) 26) _ _ (Right w)
    (λ t.
    let i : Inst = LdrReg (reg_of w 0) (reg_of w 5) (reg_of w 16) in
    let p = and_parts _ _ t in
    named {i = i} (below w 0 5, below w 5 5, below w 16 5)
    (whole w i k (joined (rest i) w (eqb-true _ _ p.0, (b, (refl, (eqb-true _ _ p.1, (refl, (refl, tt)))))))))
    (λ _. other)

load_x : (w : ℕ) → w / 2 ^ 24 ≡ 0xf8 → Right w (load_x_of w)
load_x w k = cond_both (eqb (field_of w 21 1) 1) _ _ (Right w) (λ t. load_reg w k (eqb-true _ _ t)) (λ _. one Class.X w k)

load_uimm : (w : ℕ) → w / 2 ^ 24 ≡ 0xf9 → Right w (ldr_u_imm w)
load_uimm w k =
    cond_both (eqb (field_of w 22 2) 1) _ _ (Right w)
    (λ t.
    let i : Inst = LdrUImm (reg_of w 0) (reg_of w 5) (record { value = 8 * field_of w 10 12 }) in
    let b = below w 10 12 in
    let n : ℕ = field_of w 10 12 in
    named {i = i} (below w 0 5, below w 5 5, omega arith, omega arith)
    (whole w i k (joined (rest i) w (eqb-true _ _ t, (omega arith, (refl, (refl, tt)))))))
    (λ _. other)

store_reg : (w : ℕ) → w / 2 ^ 24 ≡ 0xb8 → field_of w 22 2 ≡ 0 → field_of w 21 1 ≡ 1 → field_of w 10 6 ≡ 26 → Right w (StrWReg (reg_of w 0) (reg_of w 5) (reg_of w 16))
store_reg w k a b c =
    let i : Inst = StrWReg (reg_of w 0) (reg_of w 5) (reg_of w 16) in
    named {i = i} (below w 0 5, below w 5 5, below w 16 5) (whole w i k (joined (rest i) w (a, (b, (refl, (c, (refl, (refl, tt))))))))

store_near : (w : ℕ) → w / 2 ^ 24 ≡ 0xb8 → field_of w 22 2 ≡ 0 → field_of w 21 1 ≡ 0 → field_of w 10 2 ≡ 0 → Right w (SturW (reg_of w 0) (reg_of w 5) (record { value = from_twos 9 (field_of w 12 9) }))
store_near w k a b c =
    let i : Inst = SturW (reg_of w 0) (reg_of w 5) (record { value = from_twos 9 (field_of w 12 9) }) in
    let v = within 9 (field_of w 12 9) (omega arith) (below w 12 9) in
    let e = sym (forth 9 (field_of w 12 9) (omega arith) (below w 12 9)) in
    named {i = i} (below w 0 5, below w 5 5, v) (whole w i k (joined (rest i) w (a, (b, (e, (c, (refl, (refl, tt))))))))

store : (w : ℕ) → w / 2 ^ 24 ≡ 0xb8 → Right w (store_w_of w)
store w k =
    cond_both (eqb (field_of w 22 2) 0) _ _ (Right w)
    (λ t.
    cond_both (eqb (field_of w 21 1) 1) _ _ (Right w)
    (λ u. cond_both (eqb (field_of w 10 6) 26) _ _ (Right w) (λ v. store_reg w k (eqb-true _ _ t) (eqb-true _ _ u) (eqb-true _ _ v)) (λ _. other))
    (λ u. cond_both (eqb (field_of w 10 2) 0) _ _ (Right w) (λ v. store_near w k (eqb-true _ _ t) (bit_zero _ (below w 21 1) u) (eqb-true _ _ v)) (λ _. other)))
    (λ _. other)

mov : (op : MoveWideOp) (w : ℕ) → w / 2 ^ 24 ≡ mov_head op → Right w (mov_wide_of op w)
mov op w k =
    cond_both (eqb (field_of w 23 1) 1) _ _ (Right w)
    (λ t.
    let i : Inst = MovWide op (reg_of w 0) (record { bits = field_of w 5 16; shift = field_of w 21 2 }) in
    named {i = i} (below w 0 5, below w 21 2, below w 5 16)
    (whole w i k (joined (rest i) w (eqb-true _ _ t, (refl, (refl, (refl, tt)))))))
    (λ _. other)

paci : (w : ℕ) → w / 2 ^ 24 ≡ 0xd5 → field_of w 12 12 ≡ 0x032 → field_of w 8 4 ≡ 3 → field_of w 0 5 ≡ 31 → field_of w 7 1 ≡ 0 → Right w (Paci (key_of (field_of w 6 1)) (modifier_of (field_of w 5 1)))
paci w k a b c d =
    let i : Inst = Paci (key_of (field_of w 6 1)) (modifier_of (field_of w 5 1)) in
    named {i = i} tt (whole w i k (joined (rest i) w (a, (b, (d, (key_forth _ (below w 6 1), (sp_forth _ (below w 5 1), (c, tt))))))))

auti : (w : ℕ) → w / 2 ^ 24 ≡ 0xd5 → field_of w 12 12 ≡ 0x032 → field_of w 8 4 ≡ 3 → field_of w 0 5 ≡ 31 → field_of w 7 1 ≡ 1 → Right w (Auti (key_of (field_of w 6 1)) (modifier_of (field_of w 5 1)))
auti w k a b c d =
    let i : Inst = Auti (key_of (field_of w 6 1)) (modifier_of (field_of w 5 1)) in
    named {i = i} tt (whole w i k (joined (rest i) w (a, (b, (d, (key_forth _ (below w 6 1), (sp_forth _ (below w 5 1), (c, tt))))))))

bit_one : (n : ℕ) → n < 2 → eqb n 0 ≡ false → n ≡ 1
bit_one n h e = omega (arith, eqb-false n 0 e)

hints : (w : ℕ) → w / 2 ^ 24 ≡ 0xd5 → Right w (hint w)
hints w k =
    cond_both (eqb (field_of w 0 24) 0x03245f) _ _ (Right w)
    (λ t. named {i = BtiC} tt (whole w BtiC k (joined (rest BtiC) w (eqb-true _ _ t, tt))))
    (λ _.
    cond_both (eqb (field_of w 12 12) 0x032 && eqb (field_of w 8 4) 3 && eqb (field_of w 0 5) 31) _ _ (Right w)
    (λ t.
    let p = and_parts _ _ t in
    let q = and_parts _ _ p.0 in
    let a = eqb-true _ _ q.0 in
    let b = eqb-true _ _ q.1 in
    let c = eqb-true _ _ p.1 in
    cond_both (eqb (field_of w 7 1) 0) _ _ (Right w) (λ u. paci w k a b c (eqb-true _ _ u)) (λ u. auti w k a b c (bit_one _ (below w 7 1) u)))
    (λ _. other))

rets : (w : ℕ) → w / 2 ^ 24 ≡ 0xd6 → Right w (ret w)
rets w k =
    cond_both (eqb (field_of w 0 24) 0x5f03c0) _ _ (Right w)
    (λ t. named {i = Ret} tt (whole w Ret k (joined (rest Ret) w (eqb-true _ _ t, tt))))
    (λ _.
    cond_both (eqb (field_of w 11 13) 0xbe1 && eqb (field_of w 0 10) 0x3ff) _ _ (Right w)
    (λ t.
    let i : Inst = RetAuth (key_of (field_of w 10 1)) in
    let p = and_parts _ _ t in
    named {i = i} tt (whole w i k (joined (rest i) w (eqb-true _ _ p.0, (key_forth _ (below w 10 1), (eqb-true _ _ p.1, tt))))))
    (λ _. other))

branches : (w : ℕ) → w / 2 ^ 24 ≡ 0x54 → Right w (branch w)
branches w k =
    cond_both (eqb (field_of w 0 5) 12) _ _ (Right w)
    (λ t.
    let i : Inst = BGt (from_twos 19 (field_of w 5 19)) in
    let v = within 19 (field_of w 5 19) (omega arith) (below w 5 19) in
    let e = sym (forth 19 (field_of w 5 19) (omega arith) (below w 5 19)) in
    named {i = i} v (whole w i k (joined (rest i) w (e, (eqb-true _ _ t, tt)))))
    (λ _. other)

pub reading_right : (w : ℕ) → Right w (reading w)
reading_right w =
    let h : ℕ = w / 2 ^ 24 in
    cond_both (eqb h 0x91) _ _ (Right w) (λ t. imm AddSub.Add w (eqb-true h 0x91 t)) (λ _.
    cond_both (eqb h 0xd1) _ _ (Right w) (λ t. imm AddSub.Sub w (eqb-true h 0xd1 t)) (λ _.
    cond_both (eqb h 0x8b) _ _ (Right w) (λ t. ext AddSub.Add w (eqb-true h 0x8b t)) (λ _.
    cond_both (eqb h 0xcb) _ _ (Right w) (λ t. ext AddSub.Sub w (eqb-true h 0xcb t)) (λ _.
    cond_both (eqb h 0xab) _ _ (Right w) (λ t. adds w (eqb-true h 0xab t)) (λ _.
    cond_both (eqb h 0xa8) _ _ (Right w) (λ t. post PairClass.X w (eqb-true h 0xa8 t)) (λ _.
    cond_both (eqb h 0xa9) _ _ (Right w) (λ t. pre PairClass.X w (eqb-true h 0xa9 t) (eqb-true h 0xa9 t)) (λ _.
    cond_both (eqb h 0x6c) _ _ (Right w) (λ t. post PairClass.D w (eqb-true h 0x6c t)) (λ _.
    cond_both (eqb h 0x6d) _ _ (Right w) (λ t. pre PairClass.D w (eqb-true h 0x6d t) (eqb-true h 0x6d t)) (λ _.
    cond_both (eqb h 0xf8) _ _ (Right w) (λ t. load_x w (eqb-true h 0xf8 t)) (λ _.
    cond_both (eqb h 0xfc) _ _ (Right w) (λ t. one Class.D w (eqb-true h 0xfc t)) (λ _.
    cond_both (eqb h 0x3c) _ _ (Right w) (λ t. one Class.Q w (eqb-true h 0x3c t)) (λ _.
    cond_both (eqb h 0xf9) _ _ (Right w) (λ t. load_uimm w (eqb-true h 0xf9 t)) (λ _.
    cond_both (eqb h 0xb8) _ _ (Right w) (λ t. store w (eqb-true h 0xb8 t)) (λ _.
    cond_both (eqb h 0xd2) _ _ (Right w) (λ t. mov MoveWideOp.MovZ w (eqb-true h 0xd2 t)) (λ _.
    cond_both (eqb h 0xf2) _ _ (Right w) (λ t. mov MoveWideOp.MovK w (eqb-true h 0xf2 t)) (λ _.
    cond_both (eqb h 0xd5) _ _ (Right w) (λ t. hints w (eqb-true h 0xd5 t)) (λ _.
    cond_both (eqb h 0xd6) _ _ (Right w) (λ t. rets w (eqb-true h 0xd6 t)) (λ _.
    cond_both (eqb h 0x54) _ _ (Right w) (λ t. branches w (eqb-true h 0x54 t)) (λ _.
    other)))))))))))))))))))
