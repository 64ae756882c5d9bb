-- What number a text writes. Texts are lists of bytes.
use Rattle.numerals.specs.declared.number.Base.{Base}
use Rattle.numerals.specs.declared.number.Base.TheVariants.{Decimal, Hexadecimal}
use Rattle.std.specs.Char.{digit_value}
use Rattle.std.specs.Prelude.{ℕ, ◌+◌, ◌*◌, ◌^◌, Bool, cond, ◌&&◌, List, [], ◌∷◌, length, drop, ℤ, pos, neg_ℤ, Some, None, Option, ◌==◌, nat_le, nat_lt, slice_index}

-- the base of decimal and of hexadecimal digits
abbrev pub radix_of : Base → ℕ
radix_of Decimal = 10
radix_of Hexadecimal = 16

-- the number that digits write which follow those of n, or none at a byte that is no digit
abbrev pub value_after : ℕ → ℕ → List ℕ → Option ℕ
value_after base n [] = Some n
value_after base n (x ∷ xs) = cond (nat_lt (digit_value x) base) (value_after base (n * base + digit_value x) xs) None

-- a number, if it is below a limit
abbrev pub below : ℕ → Option ℕ → Option ℕ
below limit None = None
below limit (Some n) = cond (nat_lt n limit) (Some n) None

-- a number with one digit more, if it has 64 bits
abbrev pub longer_by : ℕ → ℕ → ℕ → Option ℕ
longer_by base n x = cond (nat_lt (digit_value x) base) (below (2 ^ 64) (Some (n * base + digit_value x))) None

-- the number that one digit or more write, if it has 64 bits
abbrev pub value_in : ℕ → List ℕ → Option ℕ
value_in base s = cond (length s == 0) None (below (2 ^ 64) (value_after base 0 s))

-- a word begins with 0x
abbrev pub prefixed : List ℕ → Bool
prefixed s = slice_index s 0 == 48 && slice_index s 1 == 120

-- a word begins with a minus
abbrev pub minus : List ℕ → Bool
minus s = slice_index s 0 == 45

-- the number that a word writes: hexadecimal after 0x, else decimal
abbrev pub number_of : List ℕ → Option ℕ
number_of s = cond (prefixed s) (value_in 16 (drop 2 s)) (value_in 10 s)

-- the value of a code word, eight hexadecimal digits
abbrev pub code_of : List ℕ → Option ℕ
code_of s = cond (length s == 8) (value_after 16 0 s) None

-- a number as one of 63 bits and a sign
abbrev pub positive : Option ℕ → Option ℤ
positive None = None
positive (Some n) = cond (nat_lt n (2 ^ 63)) (Some (pos n)) None

-- a number's negative as one of 63 bits and a sign
abbrev pub negative : Option ℕ → Option ℤ
negative None = None
negative (Some n) = cond (nat_le n (2 ^ 63)) (Some (neg_ℤ (pos n))) None

-- the number that a word writes, with a sign in front or none
abbrev pub signed_of : List ℕ → Option ℤ
signed_of s = cond (minus s) (negative (number_of (drop 1 s))) (positive (number_of s))
