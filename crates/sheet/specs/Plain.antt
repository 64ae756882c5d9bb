-- The plain record of a sheet: what it says of its function, with its numbers read.
use Rattle.std.specs.Prelude.{ℕ, Bool, List, [], ◌∷◌, ◌==◌, slice_index_or}
use Rattle.codes.specs.Bit.{bit}
use Rattle.sheet.specs.declared.types.CallConv.{CallConv}
use Rattle.sheet.specs.declared.types.CallConv.TheVariants.{Fast, Tail, SystemV, WindowsFastcall, AppleAarch64, Probestack, Winch, PreserveAll}
use Rattle.sheet.specs.declared.types.FunctionCalls.{FunctionCalls}
use Rattle.sheet.specs.declared.types.FunctionCalls.TheVariants.{None, TailOnly, Regular}
use Rattle.sheet.specs.declared.types.Flags.{Flags}
use Rattle.sheet.specs.declared.types.Sizes.{Sizes}
use Rattle.sheet.specs.declared.types.Sheet.{Sheet}

-- The number of each convention.
abbrev pub conv_number : CallConv → ℕ
conv_number Fast = 0
conv_number Tail = 1
conv_number SystemV = 2
conv_number WindowsFastcall = 3
conv_number AppleAarch64 = 4
conv_number Probestack = 5
conv_number Winch = 6
conv_number PreserveAll = 7

-- The number of each call kind.
abbrev pub calls_number : FunctionCalls → ℕ
calls_number None = 0
calls_number TailOnly = 1
calls_number Regular = 2

-- Two conventions are one.
abbrev pub same : CallConv → CallConv → Bool
same a b = conv_number a == conv_number b

-- Two call kinds are one.
abbrev pub alike : FunctionCalls → FunctionCalls → Bool
alike a b = calls_number a == calls_number b

-- The convention with a number.
abbrev pub conv_of : ℕ → CallConv
conv_of n = slice_index_or (Fast ∷ Tail ∷ SystemV ∷ WindowsFastcall ∷ AppleAarch64 ∷ Probestack ∷ Winch ∷ PreserveAll ∷ []) n Fast

-- The call kind with a number.
abbrev pub calls_of : ℕ → FunctionCalls
calls_of n = slice_index_or (None ∷ TailOnly ∷ Regular ∷ []) n None

-- Bit k of n is set.
abbrev pub on : ℕ → ℕ → Bool
on n k = bit n k == 1

-- The flags, from bit 0 on.
abbrev pub flags_of : ℕ → Flags
flags_of n =
    record {
      preserve_frame_pointers = on n 0;
      enable_pinned_reg = on n 1;
      unwind_info = on n 2;
      enable_compact_unwind_abi = on n 3;
      use_bti = on n 4;
      sign_return_address = on n 5;
      sign_return_address_all = on n 6;
      sign_return_address_with_bkey = on n 7;
      has_pauth = on n 8;
      inline_probes = on n 9;
      dynamic_vector = on n 10;
    }

-- A sheet without its lent slice: the sheet of all definitions.
pub record PlainSheet : Type 0 where
  pub number : ℕ
  pub conv : CallConv
  pub calls : FunctionCalls
  pub flags : Flags
  pub sizes : Sizes
  pub clobbers : List ℕ

-- What a raw sheet says.
abbrev pub plain_of : Sheet → PlainSheet
plain_of s =
    record {
      number = s.number;
      conv = conv_of s.call_conv;
      calls = calls_of s.function_calls;
      flags = flags_of s.flags;
      sizes = s.sizes;
      clobbers = s.clobbers.now;
    }
