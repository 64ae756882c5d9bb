-- The AArch64 machine: registers, memory by bytes, one step for each instruction, and a run over a list of instructions.
use Rattle.std.specs.Prelude.{◌≡◌, ℕ, zero, suc, ◌+◌, ◌-◌, ◌*◌, ◌/◌, ◌%◌, ◌^◌, ◌<◌, Bool, true, false, cond, not, ◌&&◌, ◌||◌, ◌⊎◌, List, [], ◌∷◌, ℤ, pos, negsuc, ◌==◌, nat_le}
use Rattle.std.specs.Bool.{beq}
use Rattle.a64.specs.Operands.{imm12_value}
use Rattle.a64.specs.declared.inst.AddSub.{AddSub}
use Rattle.a64.specs.declared.inst.Dir.{Dir}
use Rattle.a64.specs.declared.inst.PairClass.{PairClass}
use Rattle.a64.specs.declared.inst.PairMode.{PairMode}
use Rattle.a64.specs.declared.inst.Class.{Class}
use Rattle.a64.specs.declared.inst.Mode.{Mode}
use Rattle.a64.specs.declared.inst.MoveWideOp.{MoveWideOp}
use Rattle.a64.specs.declared.inst.Key.{Key}
use Rattle.a64.specs.declared.inst.Modifier.{Modifier}
use Rattle.a64.specs.declared.inst.Inst.{Inst}
use Rattle.a64.specs.declared.inst.Inst.TheVariants.{AddSubImm, AddSubExt, AddsShifted, Pair, Single, LdrUImm, LdrReg, StrWReg, SturW, MovWide, Paci, Auti, BtiC, Ret, RetAuth, BGt, Other}

-- Memory is a number for each byte address.
abbrev pub Mem : Type 0
Mem = ℕ → ℕ

-- A function changed at one place: registers and memory.
unfoldable pub put : ℕ → ℕ → (ℕ → ℕ) → ℕ → ℕ
put k v f j = cond (j == k) v (f j)

-- The number in n bytes from the address a, the lowest byte first.
unfoldable pub load : ℕ → ℕ → Mem → ℕ
load zero a m = 0
load (suc n) a m = m a + 256 * load n (suc a) m

-- Memory with the low n bytes of v from the address a on.
unfoldable pub store : ℕ → ℕ → ℕ → Mem → Mem
store zero a v m = m
store (suc n) a v m = put a (v % 256) (store n (suc a) (v / 256) m)

-- Two times 8 bytes, one behind the other.
abbrev pub store2 : ℕ → ℕ → ℕ → Mem → Mem
store2 a v w m = store 8 (a + 8) w (store 8 a v m)

-- All of n bytes from a are mapped.
unfoldable pub all_mapped : ℕ → ℕ → (ℕ → Bool) → Bool
all_mapped zero a m = true
all_mapped (suc n) a m = m a && all_mapped n (suc a) m

-- The condition flags of PSTATE.
pub record Flags : Type 0 where
  pub n : Bool
  pub z : Bool
  pub c : Bool
  pub v : Bool

-- x r is xr for r below 31, and x 31 is never read. lo and hi are the low and the high 64 bits of v0 to v31.
pub record State : Type 0 where
  pub x : ℕ → ℕ
  pub sp : ℕ
  pub lo : ℕ → ℕ
  pub hi : ℕ → ℕ
  pub flags : Flags
  pub mem : Mem
  pub mapped : ℕ → Bool

-- A core: seal and check, each of a key, a modifier and a number, and whether it has checked returns.
pub record Core : Type 0 where
  pub seal : Key → ℕ → ℕ → ℕ
  pub check : Key → ℕ → ℕ → ℕ
  pub checked : Bool

-- Its law: for an address below 2^48 the seal is a 64-bit number, and the check of the seal under the same key and modifier is the address.
pub record LawfulCore (k : Core) : Type 0 where
  pub word : (key : Key) (m a : ℕ) → a < 2 ^ 48 → k.seal key m a < 2 ^ 64
  pub back : (key : Key) (m a : ℕ) → a < 2 ^ 48 → k.check key m (k.seal key m a) ≡ a

-- 64-bit arithmetic wraps.
unfoldable pub plus : ℕ → ℕ → ℕ
plus a b = (a + b) % 2 ^ 64

-- A difference, with what is taken away first brought into 64 bits.
unfoldable pub minus : ℕ → ℕ → ℕ
minus a b = (a + (2 ^ 64 - b % 2 ^ 64)) % 2 ^ 64

-- The sum or the difference, by the form.
abbrev pub add_sub : AddSub → ℕ → ℕ → ℕ
add_sub AddSub.Add a b = plus a b
add_sub AddSub.Sub a b = minus a b

-- A base with a signed offset.
abbrev pub offset_by : ℕ → ℤ → ℕ
offset_by b (pos k) = plus b k
offset_by b (negsuc k) = minus b (suc k)

-- Register 31 reads as zero; in the forms that say so it is SP.
abbrev pub read_z : State → ℕ → ℕ
read_z s r = cond (r == 31) 0 (s.x r)

-- Register 31 is SP.
abbrev pub read_sp : State → ℕ → ℕ
read_sp s r = cond (r == 31) s.sp (s.x r)

-- A state with other registers, another SP, other vectors, other memory, other flags.
abbrev pub with_x : (ℕ → ℕ) → State → State
with_x x s = record { x = x; sp = s.sp; lo = s.lo; hi = s.hi; flags = s.flags; mem = s.mem; mapped = s.mapped }

abbrev pub with_sp : ℕ → State → State
with_sp a s = record { x = s.x; sp = a; lo = s.lo; hi = s.hi; flags = s.flags; mem = s.mem; mapped = s.mapped }

abbrev pub with_v : (ℕ → ℕ) → (ℕ → ℕ) → State → State
with_v l h s = record { x = s.x; sp = s.sp; lo = l; hi = h; flags = s.flags; mem = s.mem; mapped = s.mapped }

abbrev pub with_mem : Mem → State → State
with_mem m s = record { x = s.x; sp = s.sp; lo = s.lo; hi = s.hi; flags = s.flags; mem = m; mapped = s.mapped }

abbrev pub with_flags : Flags → State → State
with_flags f s = record { x = s.x; sp = s.sp; lo = s.lo; hi = s.hi; flags = f; mem = s.mem; mapped = s.mapped }

-- A result written to register 31 is dropped; in the forms that say so it is SP.
abbrev pub write_z : ℕ → ℕ → State → State
write_z r v s = with_x (put r v s.x) s

-- Register 31 is SP.
abbrev pub write_sp : ℕ → ℕ → State → State
write_sp r v s = cond (r == 31) (with_sp v s) (write_z r v s)

-- What one instruction does: go on, go on at another instruction so many ahead, return to an address, or stop.
pub data Effect : Type 0 where
  next : State → Effect
  branch : ℤ → State → Effect
  back : ℕ → State → Effect
  stop : Effect

-- The effect, where a test passes; else a stop.
abbrev pub only : Bool → Effect → Effect
only true e = e
only false e = stop

-- An access of n bytes at a, through the base register b: SP, where it is the base, is a multiple of 16, and all bytes are mapped.
abbrev pub reach : State → ℕ → ℕ → ℕ → Bool
reach s b n a = (not (b == 31) || s.sp % 16 == 0) && nat_le (a + n) (2 ^ 64) && all_mapped n a s.mapped

-- The address accessed, from the base and the offset.
abbrev pub addressed : PairMode → ℕ → ℤ → ℕ
addressed PairMode.Pre b i = offset_by b i
addressed PairMode.Post b i = b
addressed PairMode.Offset b i = offset_by b i

-- The base register takes v where the form writes it back.
abbrev pub written_back : PairMode → ℕ → ℕ → State → State
written_back PairMode.Pre r v s = write_sp r v s
written_back PairMode.Post r v s = write_sp r v s
written_back PairMode.Offset r v s = s

-- A single register is pre- or post-indexed.
abbrev pub mode_of : Mode → PairMode
mode_of Mode.Pre = PairMode.Pre
mode_of Mode.Post = PairMode.Post

-- An access of n bytes through the base register b with the offset i, that does f at its address.
abbrev pub access : PairMode → ℕ → ℤ → ℕ → (ℕ → State → State) → State → Effect
access mode b i n f s =
    only (reach s b n (addressed mode (read_sp s b) i))
    (next (written_back mode b (offset_by (read_sp s b) i) (f (addressed mode (read_sp s b) i) s)))

-- What a pair does at the address a. A load of a D register clears the upper half.
abbrev pub move_pair : Dir → PairClass → ℕ → ℕ → ℕ → State → State
move_pair Dir.Store PairClass.X t u a s = with_mem (store2 a (read_z s t) (read_z s u) s.mem) s
move_pair Dir.Store PairClass.D t u a s = with_mem (store2 a (s.lo t) (s.lo u) s.mem) s
move_pair Dir.Load PairClass.X t u a s = write_z u (load 8 (a + 8) s.mem) (write_z t (load 8 a s.mem) s)
move_pair Dir.Load PairClass.D t u a s =
    with_v (put u (load 8 (a + 8) s.mem) (put t (load 8 a s.mem) s.lo)) (put u 0 (put t 0 s.hi)) s

-- What a single register does.
abbrev pub move_one : Dir → Class → ℕ → ℕ → State → State
move_one Dir.Store Class.X t a s = with_mem (store 8 a (read_z s t) s.mem) s
move_one Dir.Store Class.D t a s = with_mem (store 8 a (s.lo t) s.mem) s
move_one Dir.Store Class.Q t a s = with_mem (store2 a (s.lo t) (s.hi t) s.mem) s
move_one Dir.Load Class.X t a s = write_z t (load 8 a s.mem) s
move_one Dir.Load Class.D t a s = with_v (put t (load 8 a s.mem) s.lo) (put t 0 s.hi) s
move_one Dir.Load Class.Q t a s = with_v (put t (load 8 a s.mem) s.lo) (put t (load 8 (a + 8) s.mem) s.hi) s

-- How many bytes a single register takes.
abbrev pub bytes_of : Class → ℕ
bytes_of Class.X = 8
bytes_of Class.D = 8
bytes_of Class.Q = 16

-- A store of the low 4 bytes.
abbrev pub store_w_of : ℕ → ℕ → State → State
store_w_of t a s = with_mem (store 4 a (read_z s t) s.mem) s

-- A 64-bit number is negative where its highest bit is set.
abbrev pub negative : ℕ → Bool
negative a = nat_le (2 ^ 63) a

-- The flags of a sum: negative, zero, carry, and overflow (equal signs give another sign).
abbrev pub add_flags : ℕ → ℕ → Flags
add_flags a b =
    record {
      n = negative (plus a b);
      z = (plus a b == 0);
      c = nat_le (2 ^ 64) (a + b);
      v = beq (negative a) (negative b) && not (beq (negative a) (negative (plus a b)));
    }

-- GT: Z is clear, and N and V are equal.
abbrev pub greater : Flags → Bool
greater f = not f.z && beq f.n f.v

-- MOVZ gives only the part h; MOVK replaces it in the old number v.
abbrev pub move_wide : MoveWideOp → ℕ → ℕ → ℕ → ℕ
move_wide MoveWideOp.MovZ v h i = i * 2 ^ (16 * h)
move_wide MoveWideOp.MovK v h i = v - (v / 2 ^ (16 * h) % 2 ^ 16) * 2 ^ (16 * h) + i * 2 ^ (16 * h)

-- What a return address is sealed with: zero or SP.
abbrev pub modifier_of : Modifier → State → ℕ
modifier_of Modifier.Zero s = 0
modifier_of Modifier.Sp s = s.sp

-- One instruction on the core k.
unfoldable pub step : Core → Inst → State → Effect
step k (AddSubImm op rd rn imm) s = next (write_sp rd.enc (add_sub op (read_sp s rn.enc) (imm12_value imm)) s)
step k (AddSubExt op rd rn rm) s = next (write_sp rd.enc (add_sub op (read_sp s rn.enc) (read_z s rm.enc)) s)
step k (AddsShifted rd rn rm) s =
    next (with_flags (add_flags (read_z s rn.enc) (read_z s rm.enc)) (write_z rd.enc (plus (read_z s rn.enc) (read_z s rm.enc)) s))
step k (Pair dir class mode rt rt2 rn offset) s =
    access mode rn.enc offset.value 16 (move_pair dir class rt.enc rt2.enc) s
step k (Single dir class mode rt rn offset) s =
    access (mode_of mode) rn.enc offset.value (bytes_of class) (move_one dir class rt.enc) s
step k (LdrUImm rt rn offset) s = access PairMode.Offset rn.enc (pos offset.value) 8 (move_one Dir.Load Class.X rt.enc) s
step k (LdrReg rt rn rm) s =
    access PairMode.Offset rn.enc (pos (read_z s rm.enc)) 8 (move_one Dir.Load Class.X rt.enc) s
step k (StrWReg rt rn rm) s = access PairMode.Offset rn.enc (pos (read_z s rm.enc)) 4 (store_w_of rt.enc) s
step k (SturW rt rn offset) s = access PairMode.Offset rn.enc offset.value 4 (store_w_of rt.enc) s
step k (MovWide op rd imm) s = next (write_z rd.enc (move_wide op (read_z s rd.enc) imm.shift imm.bits) s)
step k (Paci key modifier) s = next (write_z 30 (k.seal key (modifier_of modifier s) (s.x 30)) s)
step k (Auti key modifier) s = next (write_z 30 (k.check key (modifier_of modifier s) (s.x 30)) s)
step k BtiC s = next s
step k Ret s = back (s.x 30) s
step k (RetAuth key) s = only k.checked (back (k.check key s.sp (s.x 30)) s)
step k (BGt offset) s = cond (greater s.flags) (branch offset s) (next s)
step k (Other w) s = stop

-- Where an indirect call may land: BTI c, and PACI with SP.
abbrev pub LandingPad : Inst → Type 0
LandingPad i = (i ≡ BtiC) ⊎ ((key : Key) × (i ≡ Paci key Modifier.Sp))

-- A place in a run: at the instruction with an index, returned to an address, or stopped.
pub data Point : Type 0 where
  at : ℕ → State → Point
  returned : ℕ → State → Point
  stopped : Point

-- The instruction with an index; out of the code there is none that runs.
unfoldable pub fetch : List Inst → ℕ → Inst
fetch [] p = Other 0
fetch (i ∷ is) zero = i
fetch (i ∷ is) (suc p) = fetch is p

-- So many instructions ahead of p.
abbrev pub ahead : ℕ → ℤ → State → Point
ahead p (pos k) s = at (p + k) s
ahead p (negsuc k) s = cond (nat_le (suc k) p) (at (p - suc k) s) stopped

-- Where an effect leads from the instruction p.
abbrev pub after : ℕ → Effect → Point
after p (next s) = at (suc p) s
after p (branch i s) = ahead p i s
after p (back a s) = returned a s
after p stop = stopped

-- One step of a run.
unfoldable pub move : Core → List Inst → Point → Point
move k code (at p s) = after p (step k (fetch code p) s)
move k code (returned a s) = returned a s
move k code stopped = stopped

-- So many steps of a run.
unfoldable pub run : ℕ → Core → List Inst → Point → Point
run zero k code p = p
run (suc n) k code p = run n k code (move k code p)

-- From p the machine comes to q in some number of steps.
abbrev pub Comes : Core → List Inst → Point → Point → Type 0
Comes k code p q = (n : ℕ) × (run n k code p ≡ q)
