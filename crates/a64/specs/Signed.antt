-- Two's complement at any width.
use Rattle.std.specs.Prelude.{ℕ, suc, ◌-◌, ◌^◌, ◌<◌, cond, ℤ, pos, negsuc, nat_lt}

-- The k bits of a signed number.
abbrev pub twos : ℕ → ℤ → ℕ
twos k (pos n) = n
twos k (negsuc n) = 2 ^ k - suc n

-- The signed number of k bits.
abbrev pub from_twos : ℕ → ℕ → ℤ
from_twos k n = cond (nat_lt n (2 ^ (k - 1))) (pos n) (negsuc (2 ^ k - suc n))

-- The number has k bits: it is from -2^(k-1) to 2^(k-1) - 1.
abbrev pub Within : ℕ → ℤ → Type 0
Within k (pos n) = n < 2 ^ (k - 1)
Within k (negsuc n) = n < 2 ^ (k - 1)
