-- The refusals of a sheet, row by row.
use Rattle.std.specs.Prelude.{◌≡◌, ℕ, ◌+◌, ◌%◌, ◌^◌, Bool, not, ◌&&◌, ◌||◌, List, [], ◌∷◌, ◌++◌, is_some, Option, Result, ◌==◌, nat_le, nat_lt}
use Rattle.refusal.specs.Told.{Told, Row, first, Answers}
use Rattle.refusal.specs.declared.Cause.{Cause}
use Rattle.refusal.specs.declared.Refusal.{Refusal}
use Rattle.a64.specs.Operands.{imm12_of}
use Rattle.sheet.specs.Codes.{row_at, code_rows}
use Rattle.sheet.specs.Key.{key_of}
use Rattle.sheet.specs.Limits.{largest_sum}
use Rattle.sheet.specs.Plain.{PlainSheet, plain_of, same}
use Rattle.sheet.specs.Saved.{pairs, sets_up}
use Rattle.sheet.specs.declared.types.CallConv.{CallConv}
use Rattle.sheet.specs.declared.types.CallConv.TheVariants.{Tail, Winch}
use Rattle.sheet.specs.declared.types.Flags.{Flags}
use Rattle.sheet.specs.declared.types.Sizes.{Sizes}
use Rattle.sheet.specs.declared.types.Sheet.{Sheet}

-- A row that speaks of no place.
abbrev pub row : Cause → Bool → Row
row cause test = row_at cause 0 test

-- A number is read as f says where it is below the limit, and is refused otherwise.
abbrev pub Reads : {X : Type 0} → ℕ → (ℕ → X) → ℕ → Result X Refusal → Type 0
Reads limit f n r = Answers (first (row Cause.OutOfRange (nat_le limit n) ∷ [])) (λ x. x ≡ f n) (Unit {0}) r

-- No multiple of 16.
abbrev pub uneven : ℕ → Bool
uneven n = not (n % 16 == 0)

-- A convention above 7, a call kind above 2, or a flag above bit 10.
abbrev pub out_of_range : Sheet → Bool
out_of_range s = nat_lt 7 s.call_conv || (nat_lt 2 s.function_calls || nat_le (2 ^ 11) s.flags)

-- A size is no multiple of 16, or their sum is too large.
abbrev pub bad_sizes_of : Sizes → Bool
bad_sizes_of z =
    uneven z.incoming || (uneven z.tail || (uneven z.fixed || (uneven z.outgoing
    || nat_lt largest_sum (z.incoming + z.tail + z.fixed + z.outgoing))))

-- The tail is below incoming, or outside `Tail` another size.
abbrev pub bad_tail_of : CallConv → Sizes → Bool
bad_tail_of c z = nat_lt z.tail z.incoming || (not (same c Tail) && not (z.tail == z.incoming))

-- Winch gives incoming bytes back before the return address is checked, so the key would meet another SP.
abbrev pub winch_seal_of : CallConv → Flags → Sizes → Bool → Bool
winch_seal_of c f z setup = same c Winch && (nat_lt 0 z.incoming && is_some (key_of f c setup))

-- The guard is 0, no multiple of 16, or no immediate.
abbrev pub unfit_guard : ℕ → Bool
unfit_guard g = g == 0 || (uneven g || not (is_some (imm12_of g)))

-- Probes are on, and the guard cannot serve them.
abbrev pub bad_guard_of : Flags → Sizes → Bool
bad_guard_of f z = f.inline_probes && unfit_guard z.guard

-- The rows behind the codes.
abbrev pub late_rows : CallConv → Flags → Sizes → Bool → List Row
late_rows c f z setup =
    row Cause.Sizes (bad_sizes_of z)
    ∷ row Cause.TailSize (bad_tail_of c z)
    ∷ row Cause.WinchSeal (winch_seal_of c f z setup)
    ∷ row Cause.CompactPinned (pairs c f && f.enable_pinned_reg)
    ∷ row Cause.Guard (bad_guard_of f z)
    ∷ []

-- The rows of a sheet whose numbers are read.
abbrev pub plain_rows : PlainSheet → List Row
plain_rows p =
    row Cause.DynamicVector p.flags.dynamic_vector
    ∷ (code_rows p.flags.enable_pinned_reg [] 0 p.clobbers ++ late_rows p.conv p.flags p.sizes (sets_up p))

-- The row of a sheet's numbers.
abbrev pub range_rows : Sheet → List Row
range_rows s = row Cause.OutOfRange (out_of_range s) ∷ []

-- All rows of a raw sheet.
abbrev pub rows : Sheet → List Row
rows s = range_rows s ++ plain_rows (plain_of s)

-- The refusal of a sheet, or none.
abbrev pub refused : Sheet → Option Told
refused s = first (rows s)
