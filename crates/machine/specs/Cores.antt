-- The plain core and the sealing core.
use Rattle.std.specs.Prelude.{ℕ, ◌+◌, ◌*◌, ◌/◌, ◌%◌, ◌^◌, true, false, cond, ◌==◌}
use Rattle.a64.specs.declared.inst.Key.{Key}
use Rattle.machine.specs.Machine.{Core, LawfulCore}

-- The plain core hands numbers back, and has no checked returns.
abbrev pub plain : Core
plain = record { seal = λ key m a. a; check = λ key m s. s; checked = false }

-- A is 0, B is 1.
abbrev pub key_number_of : Key → ℕ
key_number_of Key.A = 0
key_number_of Key.B = 1

-- The low 48 bits, and above them 15 bits of the modifier, the address and the key.
abbrev pub seal_of : Key → ℕ → ℕ → ℕ
seal_of key m a = a % 2 ^ 48 + 2 ^ 48 * ((m / 16 + a % 2 ^ 48 + key_number_of key) % 32768)

-- The address, if this is its seal; else the address made unusable by its highest bit.
abbrev pub check_of : Key → ℕ → ℕ → ℕ
check_of key m s = cond (s == seal_of key m (s % 2 ^ 48)) (s % 2 ^ 48) (s % 2 ^ 48 + 2 ^ 63)

-- The sealing core has checked returns.
abbrev pub sealing : Core
sealing = record { seal = seal_of; check = check_of; checked = true }

-- Both keep the law.
pub record CoresLawful : Type 0 where
  pub plain : LawfulCore plain
  pub sealing : LawfulCore sealing
