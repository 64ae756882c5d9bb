-- The codes of saved registers: N for xN and 64 + N for vN.
use Rattle.std.specs.Prelude.{ℕ, ◌+◌, ◌%◌, Bool, cond, List, map}
use Rattle.a64.specs.declared.inst.Class.{Class}
use Rattle.a64.specs.declared.inst.PairClass.{PairClass}
use Rattle.layout.specs.Slots.{Slot, each_q, twos_d, twos_x}

-- The code of a register of a class.
abbrev pub code_by : Class → ℕ → ℕ
code_by Class.X n = n
code_by Class.D n = 64 + n
code_by Class.Q n = 64 + n

-- The numbers of codes.
abbrev pub numbers : List ℕ → List ℕ
numbers cs = map (λ c. c % 64) cs

-- The class of one register of a pair.
abbrev pub class_of : PairClass → Class
class_of PairClass.X = Class.X
class_of PairClass.D = Class.D

-- Registers by twos, and the one that is left.
abbrev pub twos : PairClass → List ℕ → List Slot
twos PairClass.X ns = twos_x ns
twos PairClass.D ns = twos_d ns

-- Vectors whole, one to a slot, or their low halves by twos.
abbrev pub vector_slots_of : Bool → List ℕ → List Slot
vector_slots_of whole ns = cond whole (each_q ns) (twos_d ns)
