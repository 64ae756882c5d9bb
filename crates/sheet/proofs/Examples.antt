-- Worked sheets, by computation: they guard against definitions that err.
use Rattle.std.proofs.Common.{◌≡◌, ℕ, ◌+◌, ◌*◌, ◌^◌, List, [], ◌∷◌, Some, None, Option, refl}
use Rattle.refusal.specs.Told.{Told, first}
use Rattle.codes.specs.Bit.{bit}
use Rattle.sheet.specs.Plain.{PlainSheet, flags_of}
use Rattle.sheet.specs.Refused.{plain_rows}
use Rattle.sheet.specs.Saved.{saved_codes, clobber_size_of, setup_size}
use Rattle.sheet.specs.Walk.{ints, vecs}
use Rattle.sheet.specs.declared.types.CallConv.{CallConv}
use Rattle.sheet.specs.declared.types.CallConv.TheVariants.{Fast, Tail, SystemV, AppleAarch64, Winch, PreserveAll}
use Rattle.sheet.specs.declared.types.FunctionCalls.{FunctionCalls}
use Rattle.sheet.specs.declared.types.FunctionCalls.TheVariants.{None as NoCalls, Regular}

-- A sheet by convention, call kind, flags, incoming, tail, guard and codes.
abbrev asked : CallConv → FunctionCalls → ℕ → ℕ → ℕ → ℕ → List ℕ → PlainSheet
asked v k f i t g cs = record { number = 0; conv = v; calls = k; flags = flags_of f; sizes = record { incoming = i; tail = t; stackslots = 0; fixed = 0; outgoing = 0; guard = g }; clobbers = cs }

abbrev answer : ℕ → ℕ → Option Told
answer n i = Some (record { number = n; layer = 1; place = i })

plain : saved_codes (asked SystemV Regular 0 0 0 0 (21 ∷ 72 ∷ 19 ∷ 3 ∷ 20 ∷ [])) ≡ 19 ∷ 20 ∷ 21 ∷ 72 ∷ []
unfolding ints vecs bit
plain = refl

compact : saved_codes (asked AppleAarch64 Regular 8 0 0 0 (19 ∷ 73 ∷ 24 ∷ [])) ≡ 24 ∷ 23 ∷ 20 ∷ 19 ∷ 73 ∷ 72 ∷ []
unfolding ints vecs bit
compact = refl

all : saved_codes (asked PreserveAll NoCalls 0 0 0 0 (95 ∷ 3 ∷ 21 ∷ 64 ∷ [])) ≡ 3 ∷ 21 ∷ 64 ∷ 95 ∷ []
unfolding ints vecs bit
all = refl

all_size : clobber_size_of (asked PreserveAll NoCalls 0 0 0 0 (95 ∷ 3 ∷ 21 ∷ 22 ∷ 64 ∷ [])) ≡ 64
unfolding ints vecs bit
all_size = refl

plain_size : clobber_size_of (asked SystemV NoCalls 0 0 0 0 (21 ∷ 72 ∷ 19 ∷ 3 ∷ 20 ∷ [])) ≡ 48
unfolding ints vecs bit
plain_size = refl

leaf : setup_size (asked SystemV NoCalls 0 0 0 0 (3 ∷ [])) ≡ 0
unfolding ints vecs bit
leaf = refl

row2 : first (plain_rows (asked SystemV Regular 1024 0 0 0 (99 ∷ []))) ≡ answer 2 0
unfolding bit
row2 = refl

row3 : first (plain_rows (asked SystemV Regular 2 3 0 0 (20 ∷ 19 ∷ 21 ∷ 20 ∷ []))) ≡ answer 3 2
unfolding bit
row3 = refl

row4 : first (plain_rows (asked SystemV Regular 0 3 0 0 (20 ∷ 19 ∷ 20 ∷ 17 ∷ []))) ≡ answer 4 2
unfolding bit
row4 = refl

row5 : first (plain_rows (asked SystemV Regular 0 8 16 0 [])) ≡ answer 5 0
unfolding bit
row5 = refl

row6 : first (plain_rows (asked SystemV Regular 0 16 32 0 [])) ≡ answer 6 0
unfolding bit
row6 = refl

tail_grows : first (plain_rows (asked Tail Regular 0 16 32 0 [])) ≡ None
unfolding ints vecs bit
tail_grows = refl

row7 : first (plain_rows (asked Winch NoCalls 32 16 16 0 [])) ≡ answer 7 0
unfolding ints vecs bit
row7 = refl

row8 : first (plain_rows (asked AppleAarch64 NoCalls 10 0 0 0 [])) ≡ answer 8 0
unfolding ints vecs bit
row8 = refl

row9 : first (plain_rows (asked Fast NoCalls 512 0 0 4112 [])) ≡ answer 9 0
unfolding ints vecs bit
row9 = refl

guarded : first (plain_rows (asked Fast NoCalls 512 0 0 4096 (0 ∷ 15 ∷ 28 ∷ 64 ∷ 95 ∷ []))) ≡ None
unfolding ints vecs bit
guarded = refl

sum_limit : first (plain_rows (asked Tail NoCalls 0 0 (2 ^ 30) 0 [])) ≡ None
unfolding ints vecs bit
sum_limit = refl

sum_beyond : first (plain_rows (asked Tail NoCalls 0 0 (2 ^ 30 + 16) 0 [])) ≡ answer 5 0
unfolding ints vecs bit
sum_beyond = refl

guard_limit : first (plain_rows (asked Fast NoCalls 512 0 0 (4095 * 4096) [])) ≡ None
unfolding ints vecs bit
guard_limit = refl

guard_beyond : first (plain_rows (asked Fast NoCalls 512 0 0 (2 ^ 24) [])) ≡ answer 9 0
unfolding ints vecs bit
guard_beyond = refl
