-- What holds of a sheet to which no refusal applies.
use Rattle.std.specs.Prelude.{◌≡◌, ℕ, ◌+◌, ◌%◌, ◌^◌, ◌<◌, ◌≤◌, true, false, ◌⊎◌, None}
use Rattle.sheet.specs.Codes.{has}
use Rattle.sheet.specs.Key.{key_of}
use Rattle.sheet.specs.Limits.{largest_sum}
use Rattle.sheet.specs.Plain.{PlainSheet, same}
use Rattle.sheet.specs.Saved.{pairing, sets_up}
use Rattle.sheet.specs.declared.types.CallConv.TheVariants.{Tail, Winch}

-- All that is said later of an accepted sheet follows from these.
pub record Accepted (p : PlainSheet) : Type 0 where
  -- each clobber is x0 to x15, x19 to x28 or v0 to v31, and no pinned x21
  pub codes : (c : ℕ) → has p.clobbers c ≡ true → (c ≤ 15) ⊎ (((19 ≤ c) × (c ≤ 28)) ⊎ ((64 ≤ c) × (c ≤ 95)))
  pub unpinned : p.flags.enable_pinned_reg ≡ true → has p.clobbers 21 ≡ false
  -- the sizes are multiples of 16, and not too large together
  pub incoming16 : p.sizes.incoming % 16 ≡ 0
  pub tail16 : p.sizes.tail % 16 ≡ 0
  pub fixed16 : p.sizes.fixed % 16 ≡ 0
  pub outgoing16 : p.sizes.outgoing % 16 ≡ 0
  pub sum : p.sizes.incoming + p.sizes.tail + p.sizes.fixed + p.sizes.outgoing ≤ largest_sum
  -- the tail holds the incoming bytes, and is larger under `Tail` alone
  pub larger : p.sizes.incoming ≤ p.sizes.tail
  pub fixed_tail : same p.conv Tail ≡ false → p.sizes.tail ≡ p.sizes.incoming
  -- Winch has no key where it has incoming bytes
  pub winch : same p.conv Winch ≡ true → 0 < p.sizes.incoming → key_of p.flags p.conv (sets_up p) ≡ None
  -- nothing is pinned where registers are saved by pairs
  pub pairs_unpinned : pairing p ≡ true → p.flags.enable_pinned_reg ≡ false
  -- with probes on the guard is an immediate, and a multiple of 16 above 0
  pub guarded : p.flags.inline_probes ≡ true →
      (16 ≤ p.sizes.guard) × (p.sizes.guard % 16 ≡ 0) × (p.sizes.guard < 2 ^ 24) × ((p.sizes.guard < 4096) ⊎ (p.sizes.guard % 4096 ≡ 0))
