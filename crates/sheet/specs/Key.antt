-- The key that a return address is sealed with.
use Rattle.std.specs.Prelude.{Bool, cond, ◌&&◌, ◌||◌, Some, None, Option}
use Rattle.a64.specs.declared.inst.ApiKey.{ApiKey}
use Rattle.a64.specs.declared.inst.Key.{Key}
use Rattle.a64.specs.declared.inst.Modifier.{Modifier}
use Rattle.sheet.specs.Plain.{same}
use Rattle.sheet.specs.declared.types.CallConv.{CallConv}
use Rattle.sheet.specs.declared.types.CallConv.TheVariants.{Tail}
use Rattle.sheet.specs.declared.types.Flags.{Flags}

-- Addresses are signed in functions with a setup area, or in all. `Tail` seals with zero, the others with SP.
abbrev pub key_of : Flags → CallConv → Bool → Option ApiKey
key_of f c setup =
    cond (f.sign_return_address && (setup || f.sign_return_address_all))
    (Some (record { key = cond f.sign_return_address_with_bkey Key.B Key.A; modifier = cond (same c Tail) Modifier.Zero Modifier.Sp })) None
