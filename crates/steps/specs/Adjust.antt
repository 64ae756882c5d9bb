-- A constant in a register, and SP moved by an amount.
use Rattle.std.specs.Prelude.{ℕ, zero, suc, ◌+◌, ◌*◌, ◌/◌, ◌%◌, ◌^◌, cond, List, [], ◌∷◌, ◌++◌, ℤ, pos, negsuc, Some, None, Option, ◌==◌}
use Rattle.a64.specs.Operands.{imm12_of}
use Rattle.a64.specs.declared.imm.Imm12.{Imm12}
use Rattle.a64.specs.declared.inst.AddSub.{AddSub}
use Rattle.a64.specs.declared.inst.Reg.{Reg}
use Rattle.a64.specs.declared.inst.Inst.{Inst}
use Rattle.a64.specs.declared.inst.Inst.TheVariants.{AddSubImm, AddSubExt}
use Rattle.steps.specs.Forms.{sp, spilltmp, movz, movk}

-- The 16-bit part h of a number.
abbrev pub part : ℕ → ℕ → ℕ
part n h = n / 2 ^ (16 * h) % 65536

-- MOVK of each nonzero part, of c parts from h on.
abbrev pub keep_parts : Reg → ℕ → ℕ → ℕ → List Inst
keep_parts rd n h zero = []
keep_parts rd n h (suc c) = cond (part n h == 0) (keep_parts rd n (h + 1) c) (movk rd (part n h) h ∷ keep_parts rd n (h + 1) c)

-- MOVZ of the lowest nonzero part, of c parts from h on, then MOVK of each higher one; of none, MOVZ of 0.
abbrev pub load_parts : Reg → ℕ → ℕ → ℕ → List Inst
load_parts rd n h zero = movz rd 0 0 ∷ []
load_parts rd n h (suc c) = cond (part n h == 0) (load_parts rd n (h + 1) c) (movz rd (part n h) h ∷ keep_parts rd n (h + 1) c)

-- A 64-bit constant in a register.
unfoldable pub load_constant_of : Reg → ℕ → List Inst
load_constant_of rd n = load_parts rd n 0 4

-- SP by n, as an immediate if it is one, else by way of x16.
abbrev pub sp_by_imm : AddSub → ℕ → Option Imm12 → List Inst
sp_by_imm op n (Some imm) = AddSubImm op sp sp imm ∷ []
sp_by_imm op n None = load_constant_of spilltmp n ++ (AddSubExt op sp sp spilltmp ∷ [])

-- SP up or down by n.
unfoldable pub sp_by_of : AddSub → ℕ → List Inst
sp_by_of op n = cond (n == 0) [] (sp_by_imm op n (imm12_of n))

-- SP by a signed amount.
abbrev pub gen_sp_reg_adjust_of : ℤ → List Inst
gen_sp_reg_adjust_of (pos n) = sp_by_of AddSub.Add n
gen_sp_reg_adjust_of (negsuc n) = sp_by_of AddSub.Sub (suc n)
