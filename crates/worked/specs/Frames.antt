-- Ten frames worked out by hand, as words.
use Rattle.std.specs.Prelude.{ℕ, ◌≡◌, Bool, true, false, List, [], ◌∷◌, map, pos, negsuc}
use Rattle.a64.specs.Words.{word}
use Rattle.a64.specs.declared.inst.Inst.{Inst}
use Rattle.sheet.specs.Plain.{PlainSheet}
use Rattle.sheet.specs.declared.types.CallConv.{CallConv}
use Rattle.sheet.specs.declared.types.FunctionCalls.{FunctionCalls}
use Rattle.sheet.specs.declared.types.Flags.{Flags}
use Rattle.sheet.specs.declared.types.Sizes.{Sizes}
use Rattle.notes.specs.declared.UnwindInst.TheVariants.{DefineNewFrame, SaveReg}
use Rattle.sink.specs.Items.{insts_in, notes_from}
use Rattle.frame.specs.Pieces.{epilogue, gen_clobber_save_of, prologue}
use Rattle.steps.specs.Adjust.{gen_sp_reg_adjust_of}
use Rattle.steps.specs.Probes.{gen_inline_probestack_of}

-- Notes and compact unwinding as told, every other flag off.
abbrev pub flags : Bool → Bool → Flags
flags notes compact =
    record {
      preserve_frame_pointers = false;
      enable_pinned_reg = false;
      unwind_info = notes;
      enable_compact_unwind_abi = compact;
      use_bti = false;
      sign_return_address = false;
      sign_return_address_all = false;
      sign_return_address_with_bkey = false;
      has_pauth = false;
      inline_probes = false;
      dynamic_vector = false;
    }

-- Incoming and tail as told, every other size 0.
abbrev pub sizes : ℕ → ℕ → Sizes
sizes incoming tail = record { incoming = incoming; tail = tail; stackslots = 0; fixed = 0; outgoing = 0; guard = 0 }

-- A sheet of a function that makes regular calls.
abbrev pub regular : CallConv → Flags → Sizes → List ℕ → PlainSheet
regular conv fs zs codes = record { number = 0; conv = conv; calls = FunctionCalls.Regular; flags = fs; sizes = zs; clobbers = codes }

-- SystemV with x19, x20 and x21.
abbrev pub three_saved : PlainSheet
three_saved = regular CallConv.SystemV (flags false false) (sizes 0 0) (19 ∷ 20 ∷ 21 ∷ [])

-- Tail, whose tail calls need 32 bytes more than came in.
abbrev pub larger_tail : PlainSheet
larger_tail = regular CallConv.Tail (flags false false) (sizes 16 48) []

-- AppleAarch64 with compact unwinding, notes and x19.
abbrev pub compact_one : PlainSheet
compact_one = regular CallConv.AppleAarch64 (flags true true) (sizes 0 0) (19 ∷ [])

-- A convention with v8.
abbrev pub one_vector : CallConv → PlainSheet
one_vector conv = regular conv (flags false false) (sizes 0 0) (72 ∷ [])

-- The words of a list of instructions.
abbrev pub words : List Inst → List ℕ
words is = map word is

pub record WorkedFrames : Type 0 where
  -- three saved registers, and back
  pub c1 : words (insts_in (prologue three_saved)) ≡ 0xA9BF7BFD ∷ 0x910003FD ∷ 0xF81F0FF5 ∷ 0xA9BF53F3 ∷ []
  pub c1_back : words (insts_in (epilogue three_saved)) ≡ 0xA8C153F3 ∷ 0xF84107F5 ∷ 0xA8C17BFD ∷ 0xD65F03C0 ∷ []
  -- SP down by 4,080, by 4,096, by 4,112, and by 0
  pub c2 : words (gen_sp_reg_adjust_of (negsuc 4079)) ≡ 0xD13FC3FF ∷ []
  pub c3 : words (gen_sp_reg_adjust_of (negsuc 4095)) ≡ 0xD14007FF ∷ []
  pub c4 : words (gen_sp_reg_adjust_of (negsuc 4111)) ≡ 0xD2820210 ∷ 0xCB3063FF ∷ []
  pub c5 : words (gen_sp_reg_adjust_of (pos 0)) ≡ []
  -- a larger tail, and back
  pub c6 : words (insts_in (prologue larger_tail)) ≡ 0xA9BF7BFD ∷ 0x910003FD ∷ 0xD10083FF ∷ 0xF94013FD ∷ 0xA9007BFD ∷ 0x910003FD ∷ []
  pub c6_back : words (insts_in (epilogue larger_tail)) ≡ 0xA8C17BFD ∷ 0x9100C3FF ∷ 0xD65F03C0 ∷ []
  -- x20 and x19 saved together, x20 at offset 0 and x19 at 8
  pub c7 : words (insts_in (gen_clobber_save_of compact_one)) ≡ 0xA9BF4FF4 ∷ []
  pub c7_notes : notes_from 0 (gen_clobber_save_of compact_one) ≡
      record { place = 0; inst = DefineNewFrame 16 16 } ∷ record { place = 1; inst = SaveReg 0 20 } ∷ record { place = 1; inst = SaveReg 8 19 } ∷ []
  -- v8 saved, its low half or all of it
  pub c8 : words (insts_in (gen_clobber_save_of (one_vector CallConv.SystemV))) ≡ 0xFC1F0FE8 ∷ []
  pub c8_all : words (insts_in (gen_clobber_save_of (one_vector CallConv.PreserveAll))) ≡ 0x3C9F0FE8 ∷ []
  -- probes with a guard of 4,096: none below it, one at it
  pub c9_none : words (gen_inline_probestack_of 4080 4096) ≡ []
  pub c9 : words (gen_inline_probestack_of 4096 4096) ≡ 0xD14007FF ∷ 0xB80003FF ∷ 0x914007FF ∷ []
  -- a loop from four guards on
  pub c10 : words (gen_inline_probestack_of 16384 4096) ≡ 0xD2800010 ∷ 0xD2880011 ∷ 0xD1400610 ∷ 0xB8306BFF ∷ 0xAB11021F ∷ 0x54FFFFAC ∷ []
