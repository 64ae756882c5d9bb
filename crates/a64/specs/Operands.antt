-- Which numbers can be an immediate operand, and what an operand stands for.
use Rattle.std.specs.Prelude.{ℕ, ◌*◌, ◌/◌, ◌%◌, ◌^◌, Bool, true, false, cond, ◌&&◌, ℤ, pos, negsuc, Some, None, Option, ◌==◌, nat_lt}
use Rattle.a64.specs.Signed.{twos}
use Rattle.a64.specs.declared.imm.Imm12.{Imm12}
use Rattle.a64.specs.declared.imm.SImm7Scaled.{SImm7Scaled}
use Rattle.a64.specs.declared.imm.SImm9.{SImm9}
use Rattle.a64.specs.declared.imm.UImm12Scaled.{UImm12Scaled}

-- 12 bits, or 12 bits shifted by 12.
abbrev pub imm12_of : ℕ → Option Imm12
imm12_of n =
    cond (nat_lt n 4096) (Some (record { bits = n; shift12 = false }))
    (cond (n % 4096 == 0 && nat_lt n (2 ^ 24)) (Some (record { bits = n / 4096; shift12 = true })) None)

abbrev pub imm12_value : Imm12 → ℕ
imm12_value i = cond i.shift12 (i.bits * 4096) i.bits

-- whether a number is from -below to below - 1
abbrev pub inside : ℕ → ℤ → Bool
inside below (pos n) = nat_lt n below
inside below (negsuc n) = nat_lt n below

-- 9 bits, signed.
abbrev pub simm9_of : ℤ → Option SImm9
simm9_of v = cond (inside 256 v) (Some (record { value = v })) None

-- 7 bits, signed, times 8.
abbrev pub simm7_of : ℤ → Option SImm7Scaled
simm7_of v = cond (inside 512 v && twos 10 v % 8 == 0) (Some (record { value = v })) None

-- 12 bits times 8.
abbrev pub uimm12_of : ℤ → Option UImm12Scaled
uimm12_of (pos n) = cond (nat_lt n 32768 && n % 8 == 0) (Some (record { value = n })) None
uimm12_of (negsuc n) = None
