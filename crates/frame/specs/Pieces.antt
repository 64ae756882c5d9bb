-- What each piece of a prologue and an epilogue puts, in the order in which the pieces run.
use Rattle.std.specs.Prelude.{ℕ, ◌+◌, ◌-◌, Bool, true, false, cond, not, ◌&&◌, List, [], ◌∷◌, ◌++◌, pos, Some, None, Option, ◌==◌}
use Rattle.a64.specs.Operands.{uimm12_of}
use Rattle.a64.specs.declared.imm.UImm12Scaled.{UImm12Scaled}
use Rattle.a64.specs.declared.inst.AddSub.{AddSub}
use Rattle.a64.specs.declared.inst.PairClass.{PairClass}
use Rattle.a64.specs.declared.inst.Class.{Class}
use Rattle.a64.specs.declared.inst.Modifier.{Modifier}
use Rattle.a64.specs.declared.inst.ApiKey.{ApiKey}
use Rattle.a64.specs.declared.inst.Inst.{Inst}
use Rattle.a64.specs.declared.inst.Inst.TheVariants.{Paci, Auti, BtiC, Ret, RetAuth}
use Rattle.sheet.specs.Key.{key_of}
use Rattle.sheet.specs.Plain.{PlainSheet, same, alike}
use Rattle.sheet.specs.Saved.{clobber_size_of, sets_up, setup_size}
use Rattle.sheet.specs.declared.types.CallConv.{CallConv}
use Rattle.sheet.specs.declared.types.FunctionCalls.{FunctionCalls}
use Rattle.layout.specs.Slots.{Slot, pair_x, one_x, pair_d, one_d, one_q, slots_of}
use Rattle.notes.specs.declared.UnwindInst.{UnwindInst}
use Rattle.notes.specs.declared.UnwindInst.TheVariants.{PushFrameRegs, DefineNewFrame, StackAlloc, SaveReg, Aarch64SetPointerAuth}
use Rattle.frame.specs.Forms.{mov_fp_sp_of, push_pair_of, pop_pair_of, push_one_of, pop_one_of, store_fp_lr, load_fp, load_fp_far}
use Rattle.steps.specs.Adjust.{load_constant_of, sp_by_of}
use Rattle.steps.specs.Forms.{spilltmp}
use Rattle.steps.specs.Probes.{gen_inline_probestack_of}
use Rattle.item_list.specs.Items.{code}
use Rattle.sink.specs.declared.item.Item.{Item}

-- A note, where notes are on.
abbrev pub noting : PlainSheet → UnwindInst → List Item
noting h u = cond h.flags.unwind_info (Item.Note u ∷ []) []

-- The key of a sheet's return addresses.
abbrev pub select_api_key_of : PlainSheet → Option ApiKey
select_api_key_of h = key_of h.flags h.conv (sets_up h)

-- The modifier is SP.
abbrev pub with_sp : Modifier → Bool
with_sp Modifier.Zero = false
with_sp Modifier.Sp = true

-- BTI c, where asked for: PACI with SP is a landing pad itself, PACI with zero is none.
abbrev pub sealed : PlainSheet → Option ApiKey → List Item
sealed h (Some key) =
    code (cond (h.flags.use_bti && not (with_sp key.modifier)) (BtiC ∷ []) [])
    ++ (Item.Inst (Paci key.key key.modifier) ∷ noting h (Aarch64SetPointerAuth true))
sealed h None =
    code (cond h.flags.use_bti (BtiC ∷ []) [])
    ++ cond (same h.conv CallConv.AppleAarch64) (noting h (Aarch64SetPointerAuth false)) []

-- The landing pad and the seal, then FP and LR pushed and FP set.
abbrev pub gen_prologue_frame_setup_of : PlainSheet → List Item
gen_prologue_frame_setup_of h =
    sealed h (select_api_key_of h)
    ++ cond (sets_up h) (Item.Inst (push_pair_of PairClass.X 29 30) ∷ (noting h (PushFrameRegs (setup_size h)) ++ (Item.Inst mov_fp_sp_of ∷ []))) []

-- FP from n above SP.
abbrev pub tail_reload_by : ℕ → Option UImm12Scaled → List Inst
tail_reload_by n (Some offset) = load_fp offset ∷ []
tail_reload_by n None = load_constant_of spilltmp n ++ (load_fp_far ∷ [])

-- FP from n above SP, by an unsigned offset where n is one.
unfoldable pub tail_reload_of : ℕ → List Inst
tail_reload_of n = tail_reload_by n (uimm12_of (pos n))

-- The room that a tail call needs more than there is.
abbrev pub incoming_args_diff_of : PlainSheet → ℕ
incoming_args_diff_of h = h.sizes.tail - h.sizes.incoming

-- SP goes down by it, and FP and LR move down with it.
abbrev pub resize_incoming_of : PlainSheet → ℕ → List Item
resize_incoming_of h diff =
    code (sp_by_of AddSub.Sub diff)
    ++ (noting h (StackAlloc diff) ++ code (cond (sets_up h) (tail_reload_of diff ++ (store_fp_lr ∷ mov_fp_sp_of ∷ [])) []))

-- 16 bytes of the save area, pushed.
abbrev pub push : Slot → Inst
push (pair_x a b) = push_pair_of PairClass.X a b
push (one_x a) = push_one_of Class.X a
push (pair_d a b) = push_pair_of PairClass.D a b
push (one_d a) = push_one_of Class.D a
push (one_q a) = push_one_of Class.Q a

-- The notes of a slot that lies o above the lowest byte of the area: none of a whole vector.
abbrev pub slot_notes : PlainSheet → Slot → ℕ → List Item
slot_notes h (pair_x a b) o = noting h (SaveReg o a) ++ noting h (SaveReg (o + 8) b)
slot_notes h (one_x a) o = noting h (SaveReg o a)
slot_notes h (pair_d a b) o = noting h (SaveReg o (64 + a)) ++ noting h (SaveReg (o + 8) (64 + b))
slot_notes h (one_d a) o = noting h (SaveReg o (64 + a))
slot_notes h (one_q a) o = []

-- The slots from o on; the highest is pushed first.
abbrev pub save_slots : PlainSheet → List Slot → ℕ → List Item
save_slots h [] o = []
save_slots h (s ∷ ss) o = save_slots h ss (o + 16) ++ (Item.Inst (push s) ∷ slot_notes h s o)

-- The fixed storage and the outgoing arguments.
abbrev pub stack_size_of : PlainSheet → ℕ
stack_size_of h = h.sizes.fixed + h.sizes.outgoing

-- The frame grows for a tail call, its registers are saved, its storage is allocated. The caller's SP is setup + tail - incoming up from FP.
abbrev pub gen_clobber_save_of : PlainSheet → List Item
gen_clobber_save_of h =
    cond (incoming_args_diff_of h == 0) [] (resize_incoming_of h (incoming_args_diff_of h))
    ++ (cond (sets_up h) (noting h (DefineNewFrame (setup_size h + incoming_args_diff_of h) (clobber_size_of h))) []
    ++ (save_slots h (slots_of h) 0
    ++ cond (stack_size_of h == 0) [] (code (sp_by_of AddSub.Sub (stack_size_of h)) ++ noting h (StackAlloc (stack_size_of h)))))

-- 16 bytes of the save area, popped.
abbrev pub pop : Slot → Inst
pop (pair_x a b) = pop_pair_of PairClass.X a b
pop (one_x a) = pop_one_of Class.X a
pop (pair_d a b) = pop_pair_of PairClass.D a b
pop (one_d a) = pop_one_of Class.D a
pop (one_q a) = pop_one_of Class.Q a

-- The lowest slot is popped first.
abbrev pub restore_slots : List Slot → List Inst
restore_slots [] = []
restore_slots (s ∷ ss) = pop s ∷ restore_slots ss

-- The storage is freed, and the registers come back, the lowest slot first.
abbrev pub gen_clobber_restore_of : PlainSheet → List Inst
gen_clobber_restore_of h = sp_by_of AddSub.Add (stack_size_of h) ++ restore_slots (slots_of h)

-- What the callee gives back: under Tail the tail size, under Winch the incoming size.
abbrev pub callee_pop_size_of : PlainSheet → ℕ
callee_pop_size_of h =
    cond (same h.conv CallConv.Tail) h.sizes.tail (cond (same h.conv CallConv.Winch) h.sizes.incoming 0)

-- FP and LR popped, then what the callee gives back.
abbrev pub gen_epilogue_frame_restore_of : PlainSheet → List Inst
gen_epilogue_frame_restore_of h =
    cond (sets_up h) (pop_pair_of PairClass.X 29 30 ∷ []) [] ++ sp_by_of AddSub.Add (callee_pop_size_of h)

-- RETAA or RETAB where they exist and the modifier is SP; else the hint AUTI, and RET.
abbrev pub authenticated_ret_of : ApiKey → Bool → List Inst
authenticated_ret_of key is_hint =
    cond (with_sp key.modifier && not is_hint) (RetAuth key.key ∷ []) (Auti key.key key.modifier ∷ Ret ∷ [])

-- The return under a key, or without one.
abbrev pub return_by : PlainSheet → Option ApiKey → List Inst
return_by h (Some key) = authenticated_ret_of key (not h.flags.has_pauth)
return_by h None = Ret ∷ []

-- The return of a sheet's function.
abbrev pub gen_return_of : PlainSheet → List Inst
gen_return_of h = return_by h (select_api_key_of h)

-- What the probes go over: the frame, with the setup area unless the function makes no call.
abbrev pub probe_size_of : PlainSheet → ℕ
probe_size_of h = incoming_args_diff_of h + clobber_size_of h + stack_size_of h + cond (alike h.calls FunctionCalls.None) 0 (setup_size h)

-- A prologue: setup, with probes on the probes, then the saves.
unfoldable pub prologue : PlainSheet → List Item
prologue h =
    gen_prologue_frame_setup_of h
    ++ (code (cond h.flags.inline_probes (gen_inline_probestack_of (probe_size_of h) h.sizes.guard) []) ++ gen_clobber_save_of h)

-- An epilogue: restore, frame restore, return.
unfoldable pub epilogue : PlainSheet → List Item
epilogue h = code (gen_clobber_restore_of h ++ (gen_epilogue_frame_restore_of h ++ gen_return_of h))
