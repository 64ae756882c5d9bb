-- The definitions, computed: words and notes of sheets and pieces worked out elsewhere.
use mathlib.Core.Path.{◌≡◌, refl}
use mathlib.Core.Bool.{true, false}
use mathlib.Core.List.{[], ◌∷◌, map}
use lib.IntN.{pos, negsuc}
use Rattle.a64.specs.Words.{word}
use Rattle.sheet.specs.Plain.{PlainSheet}
use Rattle.sheet.specs.Walk.{ints}
use Rattle.sheet.specs.declared.types.CallConv.{CallConv}
use Rattle.sheet.specs.declared.types.FunctionCalls.{FunctionCalls}
use Rattle.layout.specs.Slots.{slots_of}
use Rattle.notes.specs.Notes.{words_of}
use Rattle.steps.specs.Forms.{spilltmp}
use Rattle.sink.specs.Items.{insts_in, notes_from}
use Rattle.frame.specs.Pieces.{tail_reload_of, prologue, epilogue}
use Rattle.steps.specs.Adjust.{load_constant_of, sp_by_of, gen_sp_reg_adjust_of}
use Rattle.steps.specs.Probes.{gen_inline_probestack_of}

s0 : PlainSheet
s0 = record { number = 1; conv = CallConv.Tail; calls = FunctionCalls.Regular; flags = record { preserve_frame_pointers = true; enable_pinned_reg = false; unwind_info = true; enable_compact_unwind_abi = true; use_bti = true; sign_return_address = false; sign_return_address_all = true; sign_return_address_with_bkey = false; has_pauth = false; inline_probes = false; dynamic_vector = false }; sizes = record { incoming = 0; tail = 0; stackslots = 0; fixed = 0; outgoing = 0; guard = 0 }; clobbers = [] }

s0_words : (map word (insts_in (prologue s0)) ≡ 0xD503245F ∷ 0xA9BF7BFD ∷ 0x910003FD ∷ []) × (map word (insts_in (epilogue s0)) ≡ 0xA8C17BFD ∷ 0xD65F03C0 ∷ [])
unfolding s0 prologue epilogue slots_of ints sp_by_of load_constant_of gen_inline_probestack_of tail_reload_of
s0_words = (refl, refl)

s0_notes : map words_of (notes_from 0 (prologue s0)) ≡ (512 ∷ 16 ∷ 0 ∷ []) ∷ (769 ∷ 16 ∷ 0 ∷ []) ∷ []
unfolding s0 prologue slots_of ints sp_by_of load_constant_of gen_inline_probestack_of tail_reload_of
s0_notes = refl

s1 : PlainSheet
s1 = record { number = 1; conv = CallConv.PreserveAll; calls = FunctionCalls.None; flags = record { preserve_frame_pointers = true; enable_pinned_reg = false; unwind_info = false; enable_compact_unwind_abi = true; use_bti = true; sign_return_address = true; sign_return_address_all = false; sign_return_address_with_bkey = false; has_pauth = true; inline_probes = false; dynamic_vector = false }; sizes = record { incoming = 0; tail = 0; stackslots = 0; fixed = 4080; outgoing = 0; guard = 16 }; clobbers = [] }

s1_words : (map word (insts_in (prologue s1)) ≡ 0xD503233F ∷ 0xA9BF7BFD ∷ 0x910003FD ∷ 0xD13FC3FF ∷ []) × (map word (insts_in (epilogue s1)) ≡ 0x913FC3FF ∷ 0xA8C17BFD ∷ 0xD65F0BFF ∷ [])
unfolding s1 prologue epilogue slots_of ints sp_by_of load_constant_of gen_inline_probestack_of tail_reload_of
s1_words = (refl, refl)

s1_notes : map words_of (notes_from 0 (prologue s1)) ≡ []
unfolding s1 prologue slots_of ints sp_by_of load_constant_of gen_inline_probestack_of tail_reload_of
s1_notes = refl

s2 : PlainSheet
s2 = record { number = 3; conv = CallConv.AppleAarch64; calls = FunctionCalls.TailOnly; flags = record { preserve_frame_pointers = false; enable_pinned_reg = false; unwind_info = true; enable_compact_unwind_abi = false; use_bti = false; sign_return_address = false; sign_return_address_all = false; sign_return_address_with_bkey = false; has_pauth = true; inline_probes = false; dynamic_vector = false }; sizes = record { incoming = 0; tail = 0; stackslots = 0; fixed = 0; outgoing = 0; guard = 0 }; clobbers = 19 ∷ 72 ∷ [] }

s2_words : (map word (insts_in (prologue s2)) ≡ 0xA9BF7BFD ∷ 0x910003FD ∷ 0xF81F0FF3 ∷ 0xFC1F0FE8 ∷ []) × (map word (insts_in (epilogue s2)) ≡ 0xFC4107E8 ∷ 0xF84107F3 ∷ 0xA8C17BFD ∷ 0xD65F03C0 ∷ [])
unfolding s2 prologue epilogue slots_of ints sp_by_of load_constant_of gen_inline_probestack_of tail_reload_of
s2_words = (refl, refl)

s2_notes : map words_of (notes_from 0 (prologue s2)) ≡ (4 ∷ 0 ∷ 0 ∷ []) ∷ (256 ∷ 16 ∷ 0 ∷ []) ∷ (513 ∷ 16 ∷ 32 ∷ []) ∷ (771 ∷ 16 ∷ 19 ∷ []) ∷ (1027 ∷ 0 ∷ 72 ∷ []) ∷ []
unfolding s2 prologue slots_of ints sp_by_of load_constant_of gen_inline_probestack_of tail_reload_of
s2_notes = refl

s3 : PlainSheet
s3 = record { number = 3; conv = CallConv.SystemV; calls = FunctionCalls.Regular; flags = record { preserve_frame_pointers = false; enable_pinned_reg = false; unwind_info = false; enable_compact_unwind_abi = false; use_bti = false; sign_return_address = true; sign_return_address_all = true; sign_return_address_with_bkey = false; has_pauth = false; inline_probes = false; dynamic_vector = false }; sizes = record { incoming = 0; tail = 0; stackslots = 0; fixed = 0; outgoing = 0; guard = 0 }; clobbers = [] }

s3_words : (map word (insts_in (prologue s3)) ≡ 0xD503233F ∷ 0xA9BF7BFD ∷ 0x910003FD ∷ []) × (map word (insts_in (epilogue s3)) ≡ 0xA8C17BFD ∷ 0xD50323BF ∷ 0xD65F03C0 ∷ [])
unfolding s3 prologue epilogue slots_of ints sp_by_of load_constant_of gen_inline_probestack_of tail_reload_of
s3_words = (refl, refl)

s3_notes : map words_of (notes_from 0 (prologue s3)) ≡ []
unfolding s3 prologue slots_of ints sp_by_of load_constant_of gen_inline_probestack_of tail_reload_of
s3_notes = refl

s4 : PlainSheet
s4 = record { number = 3263124679; conv = CallConv.Tail; calls = FunctionCalls.None; flags = record { preserve_frame_pointers = false; enable_pinned_reg = false; unwind_info = true; enable_compact_unwind_abi = false; use_bti = false; sign_return_address = false; sign_return_address_all = false; sign_return_address_with_bkey = false; has_pauth = false; inline_probes = false; dynamic_vector = false }; sizes = record { incoming = 0; tail = 0; stackslots = 2935830425; fixed = 8208; outgoing = 0; guard = 4294967295 }; clobbers = [] }

s4_words : (map word (insts_in (prologue s4)) ≡ 0xA9BF7BFD ∷ 0x910003FD ∷ 0xD2840210 ∷ 0xCB3063FF ∷ []) × (map word (insts_in (epilogue s4)) ≡ 0xD2840210 ∷ 0x8B3063FF ∷ 0xA8C17BFD ∷ 0xD65F03C0 ∷ [])
unfolding s4 prologue epilogue slots_of ints sp_by_of load_constant_of gen_inline_probestack_of tail_reload_of
s4_words = (refl, refl)

s4_notes : map words_of (notes_from 0 (prologue s4)) ≡ (256 ∷ 16 ∷ 0 ∷ []) ∷ (513 ∷ 16 ∷ 0 ∷ []) ∷ (1026 ∷ 8208 ∷ 0 ∷ []) ∷ []
unfolding s4 prologue slots_of ints sp_by_of load_constant_of gen_inline_probestack_of tail_reload_of
s4_notes = refl

s5 : PlainSheet
s5 = record { number = 1; conv = CallConv.Winch; calls = FunctionCalls.TailOnly; flags = record { preserve_frame_pointers = false; enable_pinned_reg = false; unwind_info = false; enable_compact_unwind_abi = true; use_bti = false; sign_return_address = false; sign_return_address_all = false; sign_return_address_with_bkey = false; has_pauth = false; inline_probes = false; dynamic_vector = false }; sizes = record { incoming = 0; tail = 0; stackslots = 0; fixed = 1048576; outgoing = 240; guard = 32 }; clobbers = 88 ∷ 28 ∷ 69 ∷ 23 ∷ 19 ∷ 11 ∷ 78 ∷ 68 ∷ [] }

s5_words : (map word (insts_in (prologue s5)) ≡ 0xA9BF7BFD ∷ 0x910003FD ∷ 0xF81F0FFC ∷ 0xA9BF5FF3 ∷ 0xFC1F0FEE ∷ 0xD2801E10 ∷ 0xF2A00210 ∷ 0xCB3063FF ∷ []) × (map word (insts_in (epilogue s5)) ≡ 0xD2801E10 ∷ 0xF2A00210 ∷ 0x8B3063FF ∷ 0xFC4107EE ∷ 0xA8C15FF3 ∷ 0xF84107FC ∷ 0xA8C17BFD ∷ 0xD65F03C0 ∷ [])
unfolding s5 prologue epilogue slots_of ints sp_by_of load_constant_of gen_inline_probestack_of tail_reload_of
s5_words = (refl, refl)

s5_notes : map words_of (notes_from 0 (prologue s5)) ≡ []
unfolding s5 prologue slots_of ints sp_by_of load_constant_of gen_inline_probestack_of tail_reload_of
s5_notes = refl

s6 : PlainSheet
s6 = record { number = 4294967295; conv = CallConv.Fast; calls = FunctionCalls.Regular; flags = record { preserve_frame_pointers = false; enable_pinned_reg = false; unwind_info = false; enable_compact_unwind_abi = false; use_bti = false; sign_return_address = false; sign_return_address_all = false; sign_return_address_with_bkey = false; has_pauth = false; inline_probes = true; dynamic_vector = false }; sizes = record { incoming = 0; tail = 0; stackslots = 0; fixed = 4096; outgoing = 0; guard = 4080 }; clobbers = 90 ∷ 12 ∷ 70 ∷ 88 ∷ [] }

s6_words : (map word (insts_in (prologue s6)) ≡ 0xA9BF7BFD ∷ 0x910003FD ∷ 0xD13FC3FF ∷ 0xB80003FF ∷ 0x913FC3FF ∷ 0xD14007FF ∷ []) × (map word (insts_in (epilogue s6)) ≡ 0x914007FF ∷ 0xA8C17BFD ∷ 0xD65F03C0 ∷ [])
unfolding s6 prologue epilogue slots_of ints sp_by_of load_constant_of gen_inline_probestack_of tail_reload_of
s6_words = (refl, refl)

s6_notes : map words_of (notes_from 0 (prologue s6)) ≡ []
unfolding s6 prologue slots_of ints sp_by_of load_constant_of gen_inline_probestack_of tail_reload_of
s6_notes = refl

s7 : PlainSheet
s7 = record { number = 1; conv = CallConv.Tail; calls = FunctionCalls.None; flags = record { preserve_frame_pointers = false; enable_pinned_reg = false; unwind_info = true; enable_compact_unwind_abi = true; use_bti = false; sign_return_address = false; sign_return_address_all = false; sign_return_address_with_bkey = false; has_pauth = false; inline_probes = false; dynamic_vector = false }; sizes = record { incoming = 0; tail = 0; stackslots = 0; fixed = 0; outgoing = 0; guard = 0 }; clobbers = 1 ∷ [] }

s7_words : (map word (insts_in (prologue s7)) ≡ []) × (map word (insts_in (epilogue s7)) ≡ 0xD65F03C0 ∷ [])
unfolding s7 prologue epilogue slots_of ints sp_by_of load_constant_of gen_inline_probestack_of tail_reload_of
s7_words = (refl, refl)

s7_notes : map words_of (notes_from 0 (prologue s7)) ≡ []
unfolding s7 prologue slots_of ints sp_by_of load_constant_of gen_inline_probestack_of tail_reload_of
s7_notes = refl

s8 : PlainSheet
s8 = record { number = 7; conv = CallConv.PreserveAll; calls = FunctionCalls.None; flags = record { preserve_frame_pointers = false; enable_pinned_reg = false; unwind_info = true; enable_compact_unwind_abi = true; use_bti = false; sign_return_address = false; sign_return_address_all = false; sign_return_address_with_bkey = false; has_pauth = false; inline_probes = false; dynamic_vector = false }; sizes = record { incoming = 0; tail = 0; stackslots = 0; fixed = 0; outgoing = 0; guard = 0 }; clobbers = 7 ∷ [] }

s8_words : (map word (insts_in (prologue s8)) ≡ 0xA9BF7BFD ∷ 0x910003FD ∷ 0xF81F0FE7 ∷ []) × (map word (insts_in (epilogue s8)) ≡ 0xF84107E7 ∷ 0xA8C17BFD ∷ 0xD65F03C0 ∷ [])
unfolding s8 prologue epilogue slots_of ints sp_by_of load_constant_of gen_inline_probestack_of tail_reload_of
s8_words = (refl, refl)

s8_notes : map words_of (notes_from 0 (prologue s8)) ≡ (256 ∷ 16 ∷ 0 ∷ []) ∷ (513 ∷ 16 ∷ 16 ∷ []) ∷ (771 ∷ 0 ∷ 7 ∷ []) ∷ []
unfolding s8 prologue slots_of ints sp_by_of load_constant_of gen_inline_probestack_of tail_reload_of
s8_notes = refl

s9 : PlainSheet
s9 = record { number = 4294967295; conv = CallConv.AppleAarch64; calls = FunctionCalls.Regular; flags = record { preserve_frame_pointers = true; enable_pinned_reg = false; unwind_info = true; enable_compact_unwind_abi = true; use_bti = true; sign_return_address = false; sign_return_address_all = true; sign_return_address_with_bkey = false; has_pauth = false; inline_probes = true; dynamic_vector = false }; sizes = record { incoming = 240; tail = 240; stackslots = 0; fixed = 20256; outgoing = 0; guard = 4064 }; clobbers = 3 ∷ 78 ∷ 20 ∷ 69 ∷ 76 ∷ 10 ∷ 1 ∷ [] }

s9_words : (map word (insts_in (prologue s9)) ≡ 0xD503245F ∷ 0xA9BF7BFD ∷ 0x910003FD ∷ 0xD2800010 ∷ 0xD289EC11 ∷ 0xD13F8210 ∷ 0xB8306BFF ∷ 0xAB11021F ∷ 0x54FFFFAC ∷ 0xA9BF4FF4 ∷ 0x6DBF33ED ∷ 0x6DBF3BEF ∷ 0xD289E410 ∷ 0xCB3063FF ∷ []) × (map word (insts_in (epilogue s9)) ≡ 0xD289E410 ∷ 0x8B3063FF ∷ 0x6CC13BEF ∷ 0x6CC133ED ∷ 0xA8C14FF4 ∷ 0xA8C17BFD ∷ 0xD65F03C0 ∷ [])
unfolding s9 prologue epilogue slots_of ints sp_by_of load_constant_of gen_inline_probestack_of tail_reload_of
s9_words = (refl, refl)

s9_notes : map words_of (notes_from 0 (prologue s9)) ≡ (260 ∷ 0 ∷ 0 ∷ []) ∷ (512 ∷ 16 ∷ 0 ∷ []) ∷ (2305 ∷ 16 ∷ 48 ∷ []) ∷ (2563 ∷ 32 ∷ 20 ∷ []) ∷ (2563 ∷ 40 ∷ 19 ∷ []) ∷ (2819 ∷ 16 ∷ 77 ∷ []) ∷ (2819 ∷ 24 ∷ 76 ∷ []) ∷ (3075 ∷ 0 ∷ 79 ∷ []) ∷ (3075 ∷ 8 ∷ 78 ∷ []) ∷ (3586 ∷ 20256 ∷ 0 ∷ []) ∷ []
unfolding s9 prologue slots_of ints sp_by_of load_constant_of gen_inline_probestack_of tail_reload_of
s9_notes = refl

s10 : PlainSheet
s10 = record { number = 4294967295; conv = CallConv.WindowsFastcall; calls = FunctionCalls.None; flags = record { preserve_frame_pointers = false; enable_pinned_reg = false; unwind_info = false; enable_compact_unwind_abi = true; use_bti = true; sign_return_address = false; sign_return_address_all = false; sign_return_address_with_bkey = true; has_pauth = true; inline_probes = true; dynamic_vector = false }; sizes = record { incoming = 0; tail = 0; stackslots = 1188350108; fixed = 51101536; outgoing = 0; guard = 12775424 }; clobbers = 80 ∷ 71 ∷ 79 ∷ 23 ∷ 20 ∷ 67 ∷ 19 ∷ 83 ∷ 74 ∷ 14 ∷ 2 ∷ 72 ∷ 68 ∷ 73 ∷ 4 ∷ 82 ∷ 86 ∷ 87 ∷ 75 ∷ 9 ∷ 5 ∷ 65 ∷ 8 ∷ 27 ∷ 91 ∷ 90 ∷ 92 ∷ 0 ∷ 70 ∷ 7 ∷ 13 ∷ 66 ∷ 64 ∷ 22 ∷ 11 ∷ 26 ∷ 89 ∷ 15 ∷ 24 ∷ 85 ∷ 76 ∷ 69 ∷ 81 ∷ 12 ∷ 28 ∷ 77 ∷ 94 ∷ 6 ∷ 95 ∷ 10 ∷ 1 ∷ 84 ∷ 88 ∷ 78 ∷ 25 ∷ 21 ∷ 3 ∷ 93 ∷ [] }

s10_words : (map word (insts_in (prologue s10)) ≡ 0xD503245F ∷ 0xA9BF7BFD ∷ 0x910003FD ∷ 0xD170BFFF ∷ 0xB80003FF ∷ 0xD170BFFF ∷ 0xB80003FF ∷ 0xD170BFFF ∷ 0xB80003FF ∷ 0xD29A0010 ∷ 0xF2A04910 ∷ 0x8B3063FF ∷ 0xA9BF73FB ∷ 0xA9BF6BF9 ∷ 0xA9BF63F7 ∷ 0xA9BF5BF5 ∷ 0xA9BF53F3 ∷ 0x6DBF3FEE ∷ 0x6DBF37EC ∷ 0x6DBF2FEA ∷ 0x6DBF27E8 ∷ 0xD297EC10 ∷ 0xF2A06170 ∷ 0xCB3063FF ∷ []) × (map word (insts_in (epilogue s10)) ≡ 0xD297EC10 ∷ 0xF2A06170 ∷ 0x8B3063FF ∷ 0x6CC127E8 ∷ 0x6CC12FEA ∷ 0x6CC137EC ∷ 0x6CC13FEE ∷ 0xA8C153F3 ∷ 0xA8C15BF5 ∷ 0xA8C163F7 ∷ 0xA8C16BF9 ∷ 0xA8C173FB ∷ 0xA8C17BFD ∷ 0xD65F03C0 ∷ [])
unfolding s10 prologue epilogue slots_of ints sp_by_of load_constant_of gen_inline_probestack_of tail_reload_of
s10_words = (refl, refl)

s10_notes : map words_of (notes_from 0 (prologue s10)) ≡ []
unfolding s10 prologue slots_of ints sp_by_of load_constant_of gen_inline_probestack_of tail_reload_of
s10_notes = refl

s11 : PlainSheet
s11 = record { number = 3577145731; conv = CallConv.Probestack; calls = FunctionCalls.TailOnly; flags = record { preserve_frame_pointers = false; enable_pinned_reg = false; unwind_info = false; enable_compact_unwind_abi = false; use_bti = false; sign_return_address = false; sign_return_address_all = false; sign_return_address_with_bkey = false; has_pauth = false; inline_probes = false; dynamic_vector = false }; sizes = record { incoming = 0; tail = 0; stackslots = 0; fixed = 0; outgoing = 0; guard = 4294967295 }; clobbers = 76 ∷ 27 ∷ 77 ∷ 79 ∷ 78 ∷ 24 ∷ 28 ∷ 23 ∷ 26 ∷ 72 ∷ 73 ∷ 74 ∷ 21 ∷ 25 ∷ 20 ∷ 19 ∷ 75 ∷ 22 ∷ [] }

s11_words : (map word (insts_in (prologue s11)) ≡ 0xA9BF7BFD ∷ 0x910003FD ∷ 0xA9BF73FB ∷ 0xA9BF6BF9 ∷ 0xA9BF63F7 ∷ 0xA9BF5BF5 ∷ 0xA9BF53F3 ∷ 0x6DBF3FEE ∷ 0x6DBF37EC ∷ 0x6DBF2FEA ∷ 0x6DBF27E8 ∷ []) × (map word (insts_in (epilogue s11)) ≡ 0x6CC127E8 ∷ 0x6CC12FEA ∷ 0x6CC137EC ∷ 0x6CC13FEE ∷ 0xA8C153F3 ∷ 0xA8C15BF5 ∷ 0xA8C163F7 ∷ 0xA8C16BF9 ∷ 0xA8C173FB ∷ 0xA8C17BFD ∷ 0xD65F03C0 ∷ [])
unfolding s11 prologue epilogue slots_of ints sp_by_of load_constant_of gen_inline_probestack_of tail_reload_of
s11_words = (refl, refl)

s11_notes : map words_of (notes_from 0 (prologue s11)) ≡ []
unfolding s11 prologue slots_of ints sp_by_of load_constant_of gen_inline_probestack_of tail_reload_of
s11_notes = refl

p0 : map word (gen_sp_reg_adjust_of (pos 4097)) ≡ 0xD2820030 ∷ 0x8B3063FF ∷ []
unfolding sp_by_of load_constant_of gen_inline_probestack_of
p0 = refl

p1 : map word (gen_sp_reg_adjust_of (pos 692392132)) ≡ 0xD2821890 ∷ 0xF2A528B0 ∷ 0x8B3063FF ∷ []
unfolding sp_by_of load_constant_of gen_inline_probestack_of
p1 = refl

p2 : map word (gen_sp_reg_adjust_of (negsuc 954136627)) ≡ 0xD29F0690 ∷ 0xF2A71BD0 ∷ 0xCB3063FF ∷ []
unfolding sp_by_of load_constant_of gen_inline_probestack_of
p2 = refl

p3 : map word (gen_sp_reg_adjust_of (negsuc 1147208259)) ≡ 0xD2804890 ∷ 0xF2A88C30 ∷ 0xCB3063FF ∷ []
unfolding sp_by_of load_constant_of gen_inline_probestack_of
p3 = refl

p4 : map word (gen_sp_reg_adjust_of (negsuc 1005238807)) ≡ 0xD2974310 ∷ 0xF2A77D50 ∷ 0xCB3063FF ∷ []
unfolding sp_by_of load_constant_of gen_inline_probestack_of
p4 = refl

p5 : map word (gen_sp_reg_adjust_of (pos 946427703)) ≡ 0xD28AE6F0 ∷ 0xF2A70D30 ∷ 0x8B3063FF ∷ []
unfolding sp_by_of load_constant_of gen_inline_probestack_of
p5 = refl

p6 : map word (gen_inline_probestack_of 1 2672) ≡ []
unfolding sp_by_of load_constant_of gen_inline_probestack_of
p6 = refl

p7 : map word (gen_inline_probestack_of 111534079 15933440) ≡ 0xD2800010 ∷ 0xD29BFFF1 ∷ 0xF2A0D4B1 ∷ 0xD17CCA10 ∷ 0xB8306BFF ∷ 0xAB11021F ∷ 0x54FFFFAC ∷ []
unfolding sp_by_of load_constant_of gen_inline_probestack_of
p7 = refl

p8 : map word (gen_inline_probestack_of 4294967295 8192) ≡ 0xD2800010 ∷ 0xD29FFFF1 ∷ 0xF2BFFFF1 ∷ 0xD1400A10 ∷ 0xB8306BFF ∷ 0xAB11021F ∷ 0x54FFFFAC ∷ []
unfolding sp_by_of load_constant_of gen_inline_probestack_of
p8 = refl

p9 : map word (gen_inline_probestack_of 1048577 1048576) ≡ 0xD14403FF ∷ 0xB80003FF ∷ 0x914403FF ∷ []
unfolding sp_by_of load_constant_of gen_inline_probestack_of
p9 = refl

p10 : map word (gen_inline_probestack_of 63733759 15933440) ≡ 0xD17CCBFF ∷ 0xB80003FF ∷ 0xD17CCBFF ∷ 0xB80003FF ∷ 0xD17CCBFF ∷ 0xB80003FF ∷ 0xD28C0010 ∷ 0xF2A05B30 ∷ 0x8B3063FF ∷ []
unfolding sp_by_of load_constant_of gen_inline_probestack_of
p10 = refl

p11 : map word (gen_inline_probestack_of 4294967295 2464) ≡ 0xD2800010 ∷ 0xD29FFFF1 ∷ 0xF2BFFFF1 ∷ 0xD1268210 ∷ 0xB8306BFF ∷ 0xAB11021F ∷ 0x54FFFFAC ∷ []
unfolding sp_by_of load_constant_of gen_inline_probestack_of
p11 = refl

p12 : map word (gen_inline_probestack_of 4608 1152) ≡ 0xD2800010 ∷ 0xD2824011 ∷ 0xD1120210 ∷ 0xB8306BFF ∷ 0xAB11021F ∷ 0x54FFFFAC ∷ []
unfolding sp_by_of load_constant_of gen_inline_probestack_of
p12 = refl

p13 : map word (gen_inline_probestack_of 13246465 1892352) ≡ 0xD2800010 ∷ 0xD2840031 ∷ 0xF2A01951 ∷ 0xD1473A10 ∷ 0xB8306BFF ∷ 0xAB11021F ∷ 0x54FFFFAC ∷ []
unfolding sp_by_of load_constant_of gen_inline_probestack_of
p13 = refl

p14 : map word (load_constant_of spilltmp 0) ≡ 0xD2800010 ∷ []
unfolding sp_by_of load_constant_of gen_inline_probestack_of
p14 = refl

p15 : map word (load_constant_of spilltmp 2407008364) ≡ 0xD2810D90 ∷ 0xF2B1EF10 ∷ []
unfolding sp_by_of load_constant_of gen_inline_probestack_of
p15 = refl

p16 : map word (load_constant_of spilltmp 4294967296) ≡ 0xD2C00030 ∷ []
unfolding sp_by_of load_constant_of gen_inline_probestack_of
p16 = refl

p17 : map word (load_constant_of spilltmp 15167240885355770105) ≡ 0xD28E1F30 ∷ 0xF2B94D30 ∷ 0xF2DBA730 ∷ 0xF2FA4F90 ∷ []
unfolding sp_by_of load_constant_of gen_inline_probestack_of
p17 = refl

p18 : map word (load_constant_of spilltmp 2263344381) ≡ 0xD29C9FB0 ∷ 0xF2B0DCF0 ∷ []
unfolding sp_by_of load_constant_of gen_inline_probestack_of
p18 = refl

p19 : map word (load_constant_of spilltmp 65536) ≡ 0xD2A00030 ∷ []
unfolding sp_by_of load_constant_of gen_inline_probestack_of
p19 = refl

p20 : map word (load_constant_of spilltmp 13973240427693628695) ≡ 0xD28BA2F0 ∷ 0xF2B6B9D0 ∷ 0xF2DD8450 ∷ 0xF2F83D50 ∷ []
unfolding sp_by_of load_constant_of gen_inline_probestack_of
p20 = refl

p21 : map word (load_constant_of spilltmp 1) ≡ 0xD2800030 ∷ []
unfolding sp_by_of load_constant_of gen_inline_probestack_of
p21 = refl
