-- The parts of a prologue's pieces, each as one function of the code puts it.
use Rattle.std.specs.Prelude.{ℕ, ◌+◌, Bool, cond, not, ◌&&◌, List, [], ◌∷◌, ◌++◌, ◌==◌}
use Rattle.a64.specs.declared.inst.AddSub.{AddSub}
use Rattle.a64.specs.declared.inst.PairClass.{PairClass}
use Rattle.a64.specs.declared.inst.Modifier.{Modifier}
use Rattle.a64.specs.declared.inst.Inst.TheVariants.{BtiC}
use Rattle.sheet.specs.Plain.{PlainSheet}
use Rattle.sheet.specs.Saved.{clobber_size_of, sets_up, setup_size}
use Rattle.sink.specs.declared.item.Item.{Item}
use Rattle.notes.specs.declared.UnwindInst.TheVariants.{PushFrameRegs, DefineNewFrame, StackAlloc}
use Rattle.frame.specs.Forms.{mov_fp_sp_of, push_pair_of, store_fp_lr}
use Rattle.item_list.specs.Items.{code}
use Rattle.frame.specs.Pieces.{incoming_args_diff_of, noting, probe_size_of, resize_incoming_of, stack_size_of, tail_reload_of, with_sp}
use Rattle.steps.specs.Adjust.{sp_by_of}
use Rattle.steps.specs.Probes.{gen_inline_probestack_of}

-- BTI c, where asked for.
abbrev pub padded : Bool → List Item
padded on = code (cond on (BtiC ∷ []) [])

-- With a key: PACI with SP is a landing pad itself.
abbrev pub needs_pad_of : Bool → Modifier → Bool
needs_pad_of bti m = bti && not (with_sp m)

-- FP and LR pushed, and FP set.
abbrev pub frame_pushed : PlainSheet → List Item
frame_pushed h = cond (sets_up h) (Item.Inst (push_pair_of PairClass.X 29 30) ∷ (noting h (PushFrameRegs (setup_size h)) ++ (Item.Inst mov_fp_sp_of ∷ []))) []

-- FP and LR moved down.
abbrev pub moved : PlainSheet → ℕ → List Item
moved h n = code (cond (sets_up h) (tail_reload_of n ++ (store_fp_lr ∷ mov_fp_sp_of ∷ [])) [])

-- Room for a tail call's arguments.
abbrev pub grows : PlainSheet → List Item
grows h = cond (incoming_args_diff_of h == 0) [] (resize_incoming_of h (incoming_args_diff_of h))

-- The note of a new frame.
abbrev pub defines : PlainSheet → List Item
defines h = cond (sets_up h) (noting h (DefineNewFrame (setup_size h + incoming_args_diff_of h) (clobber_size_of h))) []

-- The fixed storage and the outgoing arguments.
abbrev pub allocates : PlainSheet → List Item
allocates h = cond (stack_size_of h == 0) [] (code (sp_by_of AddSub.Sub (stack_size_of h)) ++ noting h (StackAlloc (stack_size_of h)))

-- The probes of a frame, where they are on.
abbrev pub probes : PlainSheet → List Item
probes h = code (cond h.flags.inline_probes (gen_inline_probestack_of (probe_size_of h) h.sizes.guard) [])
