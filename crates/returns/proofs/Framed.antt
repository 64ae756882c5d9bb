-- A function with a setup pair has exactly one note of its push and one of its frame.
use Rattle.std.proofs.Common.{◌≡◌, ℕ, ◌+◌, Bool, true, false, cond, eqb, List, [], ◌∷◌, ◌++◌, Some, None, Option, refl, ap, ◌∙◌, arith}
use Rattle.a64.specs.declared.inst.AddSub.{AddSub}
use Rattle.a64.specs.declared.inst.ApiKey.{ApiKey}
use Rattle.a64.specs.declared.inst.Inst.{Inst}
use Rattle.layout.specs.Slots.{Slot, pair_x, one_x, pair_d, one_d, one_q, slots_of}
use Rattle.sheet.specs.Plain.{PlainSheet, same}
use Rattle.sheet.specs.Saved.{clobber_size_of, sets_up, setup_size}
use Rattle.sheet.specs.declared.types.CallConv.{CallConv}
use Rattle.sink.specs.Items.{notes_from}
use Rattle.sink.specs.declared.item.Item.{Item}
use Rattle.notes.specs.declared.UnwindInst.{UnwindInst}
use Rattle.notes.specs.declared.UnwindInst.TheVariants.{PushFrameRegs, DefineNewFrame, StackAlloc, SaveReg, Aarch64SetPointerAuth}
use Rattle.item_list.specs.Items.{code}
use Rattle.frame.specs.Pieces.{push, noting, select_api_key_of, sealed, gen_prologue_frame_setup_of, incoming_args_diff_of, resize_incoming_of, slot_notes, save_slots, stack_size_of, gen_clobber_save_of, prologue}
use Rattle.steps.specs.Adjust.{sp_by_of}
use Rattle.returns.specs.Notes.{pushes, defines, total, FrameNoted}
use Rattle.returns.proofs.Notes.{seal_pads, bare_pads, auth_items, seal_items, mov_items, push_items, probe_insts, move_insts, frame_items, alloc_items, last_items, grow_items}

-- what the notes among items weigh
abbrev weigh : (UnwindInst → ℕ) → List Item → ℕ
weigh w [] = 0
weigh w (Item.Inst i ∷ xs) = weigh w xs
weigh w (Item.Note u ∷ xs) = w u + weigh w xs

weigh_notes : (w : UnwindInst → ℕ) (xs : List Item) (n : ℕ) → total w (notes_from n xs) ≡ weigh w xs
weigh_notes w [] n = refl
weigh_notes w (Item.Inst i ∷ xs) n = weigh_notes w xs (n + 1)
weigh_notes w (Item.Note u ∷ xs) n = ap (λ z. w u + z) (weigh_notes w xs n)

weigh-++ : (w : UnwindInst → ℕ) (xs ys : List Item) → weigh w (xs ++ ys) ≡ weigh w xs + weigh w ys
weigh-++ w [] ys = omega arith
weigh-++ w (Item.Inst i ∷ xs) ys = weigh-++ w xs ys
weigh-++ w (Item.Note u ∷ xs) ys = let h = weigh-++ w xs ys in omega arith

weigh_code : (w : UnwindInst → ℕ) (is : List Inst) → weigh w (code is) ≡ 0
weigh_code w [] = refl
weigh_code w (i ∷ is) = weigh_code w is

weigh_noting : (w : UnwindInst → ℕ) (h : PlainSheet) (u : UnwindInst) → h.flags.unwind_info ≡ true → weigh w (noting h u) ≡ w u
weigh_noting w h u n = ap (λ b. weigh w (cond b (Item.Note u ∷ []) [])) n ∙ omega arith

none_noting : (w : UnwindInst → ℕ) (h : PlainSheet) (u : UnwindInst) → w u ≡ 0 → weigh w (noting h u) ≡ 0
none_noting w h u e = go h.flags.unwind_info
  where
    go : (b : Bool) → weigh w (cond b (Item.Note u ∷ []) []) ≡ 0
    go true = omega (arith, e)
    go false = refl

none_if : (w : UnwindInst → ℕ) (b : Bool) (xs : List Item) → weigh w xs ≡ 0 → weigh w (cond b xs []) ≡ 0
none_if w true xs h = h
none_if w false xs h = refl

none_unless : (w : UnwindInst → ℕ) (b : Bool) (xs : List Item) → weigh w xs ≡ 0 → weigh w (cond b [] xs) ≡ 0
none_unless w true xs h = refl
none_unless w false xs h = h

none_both : (w : UnwindInst → ℕ) (xs ys : List Item) → weigh w xs ≡ 0 → weigh w ys ≡ 0 → weigh w (xs ++ ys) ≡ 0
none_both w xs ys p q = weigh-++ w xs ys ∙ omega arith

-- only the notes of the frame weigh
pub record Light (w : UnwindInst → ℕ) : Type 0 where
  pub alloc : (n : ℕ) → w (StackAlloc n) ≡ 0
  pub save : (o r : ℕ) → w (SaveReg o r) ≡ 0
  pub auth : (b : Bool) → w (Aarch64SetPointerAuth b) ≡ 0

none_sealed : (w : UnwindInst → ℕ) (h : PlainSheet) (q : Option ApiKey) → Light w → weigh w (sealed h q) ≡ 0
none_sealed w h (Some q) l =
    none_both w (code (seal_pads h q)) (seal_items h q) (weigh_code w (seal_pads h q)) (none_noting w h (Aarch64SetPointerAuth true) (l.auth true))
none_sealed w h None l =
    none_both w (code (bare_pads h)) (auth_items h) (weigh_code w (bare_pads h))
    (none_if w (same h.conv CallConv.AppleAarch64) (noting h (Aarch64SetPointerAuth false)) (none_noting w h (Aarch64SetPointerAuth false) (l.auth false)))

none_slot : (w : UnwindInst → ℕ) (h : PlainSheet) (σ : Slot) (o : ℕ) → Light w → weigh w (slot_notes h σ o) ≡ 0
none_slot w h (pair_x a b) o l =
    none_both w (noting h (SaveReg o a)) (noting h (SaveReg (o + 8) b)) (none_noting w h (SaveReg o a) (l.save o a)) (none_noting w h (SaveReg (o + 8) b) (l.save (o + 8) b))
none_slot w h (one_x a) o l = none_noting w h (SaveReg o a) (l.save o a)
none_slot w h (pair_d a b) o l =
    none_both w (noting h (SaveReg o (64 + a))) (noting h (SaveReg (o + 8) (64 + b))) (none_noting w h (SaveReg o (64 + a)) (l.save o (64 + a)))
    (none_noting w h (SaveReg (o + 8) (64 + b)) (l.save (o + 8) (64 + b)))
none_slot w h (one_d a) o l = none_noting w h (SaveReg o (64 + a)) (l.save o (64 + a))
none_slot w h (one_q a) o l = refl

none_slots : (w : UnwindInst → ℕ) (h : PlainSheet) (R : List Slot) (o : ℕ) → Light w → weigh w (save_slots h R o) ≡ 0
none_slots w h [] o l = refl
none_slots w h (σ ∷ R) o l =
    none_both w (save_slots h R (o + 16)) (Item.Inst (push σ) ∷ slot_notes h σ o) (none_slots w h R (o + 16) l) (none_slot w h σ o l)

none_grow : (w : UnwindInst → ℕ) (h : PlainSheet) → Light w → weigh w (grow_items h) ≡ 0
none_grow w h l =
    let n : ℕ = incoming_args_diff_of h in
    none_unless w (eqb n 0) (resize_incoming_of h n)
    (none_both w (code (sp_by_of AddSub.Sub n)) (noting h (StackAlloc n) ++ code (move_insts h n)) (weigh_code w (sp_by_of AddSub.Sub n))
    (none_both w (noting h (StackAlloc n)) (code (move_insts h n)) (none_noting w h (StackAlloc n) (l.alloc n)) (weigh_code w (move_insts h n))))

none_alloc : (w : UnwindInst → ℕ) (h : PlainSheet) → Light w → weigh w (cond (eqb (stack_size_of h) 0) [] (alloc_items h)) ≡ 0
none_alloc w h l =
    none_unless w (eqb (stack_size_of h) 0) (alloc_items h)
    (none_both w (code (sp_by_of AddSub.Sub (stack_size_of h))) (noting h (StackAlloc (stack_size_of h))) (weigh_code w (sp_by_of AddSub.Sub (stack_size_of h)))
    (none_noting w h (StackAlloc (stack_size_of h)) (l.alloc (stack_size_of h))))

push_weighs : (w : UnwindInst → ℕ) (h : PlainSheet) → h.flags.unwind_info ≡ true → sets_up h ≡ true
    → weigh w (cond (sets_up h) (push_items h) []) ≡ w (PushFrameRegs (setup_size h))
push_weighs w h n s =
    ap (λ b. weigh w (cond b (push_items h) [])) s ∙ weigh-++ w (noting h (PushFrameRegs (setup_size h))) mov_items
    ∙ ap (λ z. z + 0) (weigh_noting w h (PushFrameRegs (setup_size h)) n) ∙ omega arith

frame_weighs : (w : UnwindInst → ℕ) (h : PlainSheet) → h.flags.unwind_info ≡ true → sets_up h ≡ true
    → weigh w (frame_items h) ≡ w (DefineNewFrame (setup_size h + incoming_args_diff_of h) (clobber_size_of h))
frame_weighs w h n s =
    let u : UnwindInst = DefineNewFrame (setup_size h + incoming_args_diff_of h) (clobber_size_of h) in
    ap (λ b. weigh w (cond b (noting h u) [])) s ∙ weigh_noting w h u n

prologue_weighs : (w : UnwindInst → ℕ) (h : PlainSheet) → Light w → h.flags.unwind_info ≡ true → sets_up h ≡ true
    → weigh w (prologue h) ≡ w (PushFrameRegs (setup_size h)) + w (DefineNewFrame (setup_size h + incoming_args_diff_of h) (clobber_size_of h))
unfolding prologue
prologue_weighs w h l n s =
    let a = weigh-++ w (gen_prologue_frame_setup_of h) (code (probe_insts h) ++ gen_clobber_save_of h) in
    let b = weigh-++ w (sealed h (select_api_key_of h)) (cond (sets_up h) (push_items h) []) in
    let c = weigh-++ w (code (probe_insts h)) (gen_clobber_save_of h) in
    let d = weigh-++ w (grow_items h) (frame_items h ++ last_items h) in
    let e = weigh-++ w (frame_items h) (last_items h) in
    let f = weigh-++ w (save_slots h (slots_of h) 0) (cond (eqb (stack_size_of h) 0) [] (alloc_items h)) in
    let p = none_sealed w h (select_api_key_of h) l in
    let q = weigh_code w (probe_insts h) in
    let r = none_grow w h l in
    let t = none_slots w h (slots_of h) 0 l in
    let u = none_alloc w h l in
    let x = push_weighs w h n s in
    let y = frame_weighs w h n s in
    omega arith

pub frame_noted : FrameNoted
frame_noted h n u s = (
  weigh_notes pushes (prologue h) n ∙ prologue_weighs pushes h (record { alloc = λ n. refl; save = λ o r. refl; auth = λ b. refl }) u s,
  weigh_notes defines (prologue h) n ∙ prologue_weighs defines h (record { alloc = λ n. refl; save = λ o r. refl; auth = λ b. refl }) u s,
)
