-- Each named instruction is the reading of its word.
use Rattle.std.proofs.Common.{◌≡◌, ℕ, ◌*◌, ◌/◌, ◌^◌, ◌<◌, Bool, true, false, eqb, refl, arith}
use Rattle.a64.specs.Signed.{twos}
use Rattle.a64.specs.Words.{after, word, Formed, flag, load_bit, wide_bit, mode_bits}
use Rattle.decoder.proofs.Rows.{rest, cut_word, same_word, pair_mode_bit}
use Rattle.a64.specs.declared.inst.Reg.{Reg}
use Rattle.decoder.specs.Reading.{dir_of, add_sub_imm_of, add_sub_ext_of, pair, indexed, reading}
use Rattle.decoder.proofs.Fields.{Fit, top, taken}
use Rattle.decoder.proofs.Twos.{back, twos_below}
use Rattle.a64.specs.declared.inst.AddSub.{AddSub}
use Rattle.a64.specs.declared.inst.Dir.{Dir}
use Rattle.a64.specs.declared.inst.PairClass.{PairClass}
use Rattle.a64.specs.declared.inst.PairMode.{PairMode}
use Rattle.a64.specs.declared.inst.Class.{Class}
use Rattle.a64.specs.declared.inst.Mode.{Mode}
use Rattle.a64.specs.declared.inst.MoveWideOp.{MoveWideOp}
use Rattle.a64.specs.declared.inst.Key.{Key}
use Rattle.a64.specs.declared.inst.Modifier.{Modifier}
use Rattle.a64.specs.declared.imm.Imm12.{Imm12}
use Rattle.a64.specs.declared.imm.SImm7Scaled.{SImm7Scaled}
use Rattle.a64.specs.declared.imm.SImm9.{SImm9}
use Rattle.a64.specs.declared.inst.Inst.{Inst}
use Rattle.a64.specs.declared.inst.Inst.TheVariants.{AddSubImm, AddSubExt, AddsShifted, Pair, Single, LdrUImm, LdrReg, StrWReg, SturW, MovWide, Paci, Auti, BtiC, Ret, RetAuth, BGt, Other}

bit_below : (b : Bool) → flag b < 2
bit_below true = omega arith
bit_below false = omega arith

bit_back : (b : Bool) → eqb (flag b) 1 ≡ b
bit_back true = refl
bit_back false = refl

load_below : (d : Dir) → load_bit d < 2
load_below Dir.Store = omega arith
load_below Dir.Load = omega arith

dir_back : (d : Dir) → dir_of (load_bit d) ≡ d
dir_back Dir.Store = refl
dir_back Dir.Load = refl

mode_below : (m : PairMode) → pair_mode_bit m < 2
mode_below PairMode.Post = omega arith
mode_below PairMode.Offset = omega arith
mode_below PairMode.Pre = omega arith

modes_below : (m : Mode) → mode_bits m < 4
modes_below Mode.Post = omega arith
modes_below Mode.Pre = omega arith

wide_below : (c : Class) → wide_bit c < 2
wide_below Class.X = omega arith
wide_below Class.D = omega arith
wide_below Class.Q = omega arith

-- ADD and SUB, immediate
fit_imm : (op : AddSub) (rd rn : Reg) (imm : Imm12) → Formed (AddSubImm op rd rn imm) → Fit (rest (AddSubImm op rd rn imm))
fit_imm op rd rn imm s = let b = bit_below imm.shift12 in omega arith

imm_back : (op : AddSub) (h : ℕ) (rd rn : Reg) (imm : Imm12) → Fit (rest (AddSubImm op rd rn imm)) → add_sub_imm_of op (after h (rest (AddSubImm op rd rn imm))) ≡ AddSubImm op rd rn imm
imm_back op h rd rn imm fit =
    let e = taken h (rest (AddSubImm op rd rn imm)) fit in
    rw (e.0, e.1.0, e.1.1.0, e.1.1.1.0, e.1.1.1.1.0, bit_back) refl

-- ADD and SUB, extended register
ext_back : (op : AddSub) (h : ℕ) (rd rn rm : Reg) → Fit (rest (AddSubExt op rd rn rm)) → add_sub_ext_of op (after h (rest (AddSubExt op rd rn rm))) ≡ AddSubExt op rd rn rm
ext_back op h rd rn rm fit =
    let e = taken h (rest (AddSubExt op rd rn rm)) fit in
    rw (e.0, e.1.0, e.1.1.0, e.1.1.1.0, e.1.1.1.1.0) refl

-- STP and LDP
fit_pair : (dir : Dir) (class : PairClass) (mode : PairMode) (rt rt2 rn : Reg) (offset : SImm7Scaled) → Formed (Pair dir class mode rt rt2 rn offset) → Fit (rest (Pair dir class mode rt rt2 rn offset))
fit_pair dir class mode rt rt2 rn offset s =
    let d = load_below dir in
    let m = mode_below mode in
    let t : twos 10 offset.value < 2 ^ 10 = twos_below 10 offset.value (omega arith) s.3 in
    omega arith

pair_back : (dir : Dir) (class : PairClass) (mode : PairMode) (h : ℕ) (rt rt2 rn : Reg) (offset : SImm7Scaled) → Formed (Pair dir class mode rt rt2 rn offset) → Fit (rest (Pair dir class mode rt rt2 rn offset)) → pair class mode (after h (rest (Pair dir class mode rt rt2 rn offset))) ≡ Pair dir class mode rt rt2 rn offset
pair_back dir class mode h rt rt2 rn offset s fit =
    let e = taken h (rest (Pair dir class mode rt rt2 rn offset)) fit in
    let q : 8 * (twos 10 offset.value / 8) ≡ twos 10 offset.value = omega arith in
    rw (e.1.0, e.1.1.0, e.1.1.1.0, e.1.1.1.1.0, e.1.1.1.1.1.0, dir_back dir, s.5, q, back 10 offset.value (omega arith) s.3) refl

-- STR and LDR, pre- and post-indexed
fit_single : (dir : Dir) (class : Class) (mode : Mode) (rt rn : Reg) (offset : SImm9) → Formed (Single dir class mode rt rn offset) → Fit (rest (Single dir class mode rt rn offset))
fit_single dir class mode rt rn offset s =
    let c = wide_below class in
    let d = load_below dir in
    let m = modes_below mode in
    let t : twos 9 offset.value < 2 ^ 9 = twos_below 9 offset.value (omega arith) s.2 in
    omega arith

indexed_back : (dir : Dir) (class : Class) (mode : Mode) (h : ℕ) (rt rn : Reg) (offset : SImm9) → Formed (Single dir class mode rt rn offset) → Fit (rest (Single dir class mode rt rn offset)) → indexed class mode (after h (rest (Single dir class mode rt rn offset))) ≡ Single dir class mode rt rn offset
indexed_back dir class mode h rt rn offset s fit =
    let e = taken h (rest (Single dir class mode rt rn offset)) fit in
    rw (e.1.0, e.1.1.1.0, e.1.1.1.1.1.0, e.1.1.1.1.1.1.0, dir_back dir, s.3, back 9 offset.value (omega arith) s.2) refl

cut_back : (i : Inst) → Formed i → reading (cut_word i) ≡ i
cut_back (AddSubImm AddSub.Add rd rn imm) s =
    let fit = fit_imm AddSub.Add rd rn imm s in
    rw (top 0x91 (rest (AddSubImm AddSub.Add rd rn imm)) fit) (imm_back AddSub.Add 0x91 rd rn imm fit)
cut_back (AddSubImm AddSub.Sub rd rn imm) s =
    let fit = fit_imm AddSub.Sub rd rn imm s in
    rw (top 0xd1 (rest (AddSubImm AddSub.Sub rd rn imm)) fit) (imm_back AddSub.Sub 0xd1 rd rn imm fit)
cut_back (AddSubExt AddSub.Add rd rn rm) s =
    let fit : Fit (rest (AddSubExt AddSub.Add rd rn rm)) = omega arith in
    rw (top 0x8b (rest (AddSubExt AddSub.Add rd rn rm)) fit) (ext_back AddSub.Add 0x8b rd rn rm fit)
cut_back (AddSubExt AddSub.Sub rd rn rm) s =
    let fit : Fit (rest (AddSubExt AddSub.Sub rd rn rm)) = omega arith in
    rw (top 0xcb (rest (AddSubExt AddSub.Sub rd rn rm)) fit) (ext_back AddSub.Sub 0xcb rd rn rm fit)
cut_back (AddsShifted rd rn rm) s =
    let fit : Fit (rest (AddsShifted rd rn rm)) = omega arith in
    let e = taken 0xab (rest (AddsShifted rd rn rm)) fit in
    rw (top 0xab (rest (AddsShifted rd rn rm)) fit, e.0, e.1.0, e.1.1.0, e.1.1.1.0, e.1.1.1.1.0) refl
cut_back (Pair dir PairClass.X PairMode.Post rt rt2 rn offset) s =
    let fit = fit_pair dir PairClass.X PairMode.Post rt rt2 rn offset s in
    rw (top 0xa8 (rest (Pair dir PairClass.X PairMode.Post rt rt2 rn offset)) fit, (taken 0xa8 (rest (Pair dir PairClass.X PairMode.Post rt rt2 rn offset)) fit).0) (pair_back dir PairClass.X PairMode.Post 0xa8 rt rt2 rn offset s fit)
cut_back (Pair dir PairClass.X PairMode.Pre rt rt2 rn offset) s =
    let fit = fit_pair dir PairClass.X PairMode.Pre rt rt2 rn offset s in
    rw (top 0xa9 (rest (Pair dir PairClass.X PairMode.Pre rt rt2 rn offset)) fit, (taken 0xa9 (rest (Pair dir PairClass.X PairMode.Pre rt rt2 rn offset)) fit).0) (pair_back dir PairClass.X PairMode.Pre 0xa9 rt rt2 rn offset s fit)
cut_back (Pair dir PairClass.X PairMode.Offset rt rt2 rn offset) s =
    let fit = fit_pair dir PairClass.X PairMode.Offset rt rt2 rn offset s in
    rw (top 0xa9 (rest (Pair dir PairClass.X PairMode.Offset rt rt2 rn offset)) fit, (taken 0xa9 (rest (Pair dir PairClass.X PairMode.Offset rt rt2 rn offset)) fit).0) (pair_back dir PairClass.X PairMode.Offset 0xa9 rt rt2 rn offset s fit)
cut_back (Pair dir PairClass.D PairMode.Post rt rt2 rn offset) s =
    let fit = fit_pair dir PairClass.D PairMode.Post rt rt2 rn offset s in
    rw (top 0x6c (rest (Pair dir PairClass.D PairMode.Post rt rt2 rn offset)) fit, (taken 0x6c (rest (Pair dir PairClass.D PairMode.Post rt rt2 rn offset)) fit).0) (pair_back dir PairClass.D PairMode.Post 0x6c rt rt2 rn offset s fit)
cut_back (Pair dir PairClass.D PairMode.Pre rt rt2 rn offset) s =
    let fit = fit_pair dir PairClass.D PairMode.Pre rt rt2 rn offset s in
    rw (top 0x6d (rest (Pair dir PairClass.D PairMode.Pre rt rt2 rn offset)) fit, (taken 0x6d (rest (Pair dir PairClass.D PairMode.Pre rt rt2 rn offset)) fit).0) (pair_back dir PairClass.D PairMode.Pre 0x6d rt rt2 rn offset s fit)
cut_back (Pair dir PairClass.D PairMode.Offset rt rt2 rn offset) s =
    let fit = fit_pair dir PairClass.D PairMode.Offset rt rt2 rn offset s in
    rw (top 0x6d (rest (Pair dir PairClass.D PairMode.Offset rt rt2 rn offset)) fit, (taken 0x6d (rest (Pair dir PairClass.D PairMode.Offset rt rt2 rn offset)) fit).0) (pair_back dir PairClass.D PairMode.Offset 0x6d rt rt2 rn offset s fit)
cut_back (Single dir Class.X Mode.Post rt rn offset) s =
    let fit = fit_single dir Class.X Mode.Post rt rn offset s in
    let e = taken 0xf8 (rest (Single dir Class.X Mode.Post rt rn offset)) fit in
    rw (top 0xf8 (rest (Single dir Class.X Mode.Post rt rn offset)) fit, e.1.1.0, e.0, e.1.1.1.1.0) (indexed_back dir Class.X Mode.Post 0xf8 rt rn offset s fit)
cut_back (Single dir Class.X Mode.Pre rt rn offset) s =
    let fit = fit_single dir Class.X Mode.Pre rt rn offset s in
    let e = taken 0xf8 (rest (Single dir Class.X Mode.Pre rt rn offset)) fit in
    rw (top 0xf8 (rest (Single dir Class.X Mode.Pre rt rn offset)) fit, e.1.1.0, e.0, e.1.1.1.1.0) (indexed_back dir Class.X Mode.Pre 0xf8 rt rn offset s fit)
cut_back (Single dir Class.D Mode.Post rt rn offset) s =
    let fit = fit_single dir Class.D Mode.Post rt rn offset s in
    let e = taken 0xfc (rest (Single dir Class.D Mode.Post rt rn offset)) fit in
    rw (top 0xfc (rest (Single dir Class.D Mode.Post rt rn offset)) fit, e.1.1.0, e.0, e.1.1.1.1.0) (indexed_back dir Class.D Mode.Post 0xfc rt rn offset s fit)
cut_back (Single dir Class.D Mode.Pre rt rn offset) s =
    let fit = fit_single dir Class.D Mode.Pre rt rn offset s in
    let e = taken 0xfc (rest (Single dir Class.D Mode.Pre rt rn offset)) fit in
    rw (top 0xfc (rest (Single dir Class.D Mode.Pre rt rn offset)) fit, e.1.1.0, e.0, e.1.1.1.1.0) (indexed_back dir Class.D Mode.Pre 0xfc rt rn offset s fit)
cut_back (Single dir Class.Q Mode.Post rt rn offset) s =
    let fit = fit_single dir Class.Q Mode.Post rt rn offset s in
    let e = taken 0x3c (rest (Single dir Class.Q Mode.Post rt rn offset)) fit in
    rw (top 0x3c (rest (Single dir Class.Q Mode.Post rt rn offset)) fit, e.1.1.0, e.0, e.1.1.1.1.0) (indexed_back dir Class.Q Mode.Post 0x3c rt rn offset s fit)
cut_back (Single dir Class.Q Mode.Pre rt rn offset) s =
    let fit = fit_single dir Class.Q Mode.Pre rt rn offset s in
    let e = taken 0x3c (rest (Single dir Class.Q Mode.Pre rt rn offset)) fit in
    rw (top 0x3c (rest (Single dir Class.Q Mode.Pre rt rn offset)) fit, e.1.1.0, e.0, e.1.1.1.1.0) (indexed_back dir Class.Q Mode.Pre 0x3c rt rn offset s fit)
cut_back (LdrUImm rt rn offset) s =
    let fit : Fit (rest (LdrUImm rt rn offset)) = omega arith in
    let e = taken 0xf9 (rest (LdrUImm rt rn offset)) fit in
    let q : 8 * (offset.value / 8) ≡ offset.value = omega arith in
    rw (top 0xf9 (rest (LdrUImm rt rn offset)) fit, e.0, e.1.0, e.1.1.0, e.1.1.1.0, q) refl
cut_back (LdrReg rt rn rm) s =
    let fit : Fit (rest (LdrReg rt rn rm)) = omega arith in
    let e = taken 0xf8 (rest (LdrReg rt rn rm)) fit in
    rw (top 0xf8 (rest (LdrReg rt rn rm)) fit, e.1.0, e.0, e.1.1.1.0, e.1.1.0, e.1.1.1.1.0, e.1.1.1.1.1.0) refl
cut_back (StrWReg rt rn rm) s =
    let fit : Fit (rest (StrWReg rt rn rm)) = omega arith in
    let e = taken 0xb8 (rest (StrWReg rt rn rm)) fit in
    rw (top 0xb8 (rest (StrWReg rt rn rm)) fit, e.0, e.1.0, e.1.1.1.0, e.1.1.0, e.1.1.1.1.0, e.1.1.1.1.1.0) refl
cut_back (SturW rt rn offset) s =
    let t : twos 9 offset.value < 2 ^ 9 = twos_below 9 offset.value (omega arith) s.2 in
    let fit : Fit (rest (SturW rt rn offset)) = omega arith in
    let e = taken 0xb8 (rest (SturW rt rn offset)) fit in
    rw (top 0xb8 (rest (SturW rt rn offset)) fit, e.0, e.1.0, e.1.1.1.0, e.1.1.0, e.1.1.1.1.0, e.1.1.1.1.1.0, back 9 offset.value (omega arith) s.2) refl
cut_back (MovWide MoveWideOp.MovZ rd imm) s =
    let fit : Fit (rest (MovWide MoveWideOp.MovZ rd imm)) = omega arith in
    let e = taken 0xd2 (rest (MovWide MoveWideOp.MovZ rd imm)) fit in
    rw (top 0xd2 (rest (MovWide MoveWideOp.MovZ rd imm)) fit, e.0, e.1.0, e.1.1.0, e.1.1.1.0) refl
cut_back (MovWide MoveWideOp.MovK rd imm) s =
    let fit : Fit (rest (MovWide MoveWideOp.MovK rd imm)) = omega arith in
    let e = taken 0xf2 (rest (MovWide MoveWideOp.MovK rd imm)) fit in
    rw (top 0xf2 (rest (MovWide MoveWideOp.MovK rd imm)) fit, e.0, e.1.0, e.1.1.0, e.1.1.1.0) refl
cut_back (Paci Key.A Modifier.Zero) s = refl
cut_back (Paci Key.A Modifier.Sp) s = refl
cut_back (Paci Key.B Modifier.Zero) s = refl
cut_back (Paci Key.B Modifier.Sp) s = refl
cut_back (Auti Key.A Modifier.Zero) s = refl
cut_back (Auti Key.A Modifier.Sp) s = refl
cut_back (Auti Key.B Modifier.Zero) s = refl
cut_back (Auti Key.B Modifier.Sp) s = refl
cut_back BtiC s = refl
cut_back Ret s = refl
cut_back (RetAuth Key.A) s = refl
cut_back (RetAuth Key.B) s = refl
cut_back (BGt offset) s =
    let t : twos 19 offset < 2 ^ 19 = twos_below 19 offset (omega arith) s in
    let fit : Fit (rest (BGt offset)) = omega arith in
    let e = taken 0x54 (rest (BGt offset)) fit in
    rw (top 0x54 (rest (BGt offset)) fit, e.1.0, e.0, back 19 offset (omega arith) s) refl
cut_back (Other w) s = absurd s

pub reads_back : (i : Inst) → Formed i → reading (word i) ≡ i
reads_back i f = rw (same_word i) (cut_back i f)
