-- The items that the pieces put are, as instructions, those of the frame with its parts apart.
use Rattle.std.proofs.Common.{◌≡◌, ℕ, ◌+◌, ◌≤◌, Bool, true, false, cond, not, ◌&&◌, ◌||◌, eqb, ◌⊎◌, List, [], ◌∷◌, ◌++◌, Some, None, Option, sym, refl, ap, ◌∙◌, ap₂, inl, inr, append_assoc, append-nil, arith}
use Rattle.std.proofs.lemmas.Bool.Decides.{nat_tests, eqb_tells}
use Rattle.a64.specs.declared.inst.AddSub.{AddSub}
use Rattle.a64.specs.declared.inst.ApiKey.{ApiKey}
use Rattle.a64.specs.declared.inst.PairClass.{PairClass}
use Rattle.a64.specs.declared.inst.Inst.{Inst}
use Rattle.a64.specs.declared.inst.Inst.TheVariants.{Paci, BtiC}
use Rattle.layout.specs.Slots.{Slot, pair_x, one_x, pair_d, one_d, one_q, slots_of}
use Rattle.sheet.specs.Accepted.{Accepted}
use Rattle.sheet.specs.Plain.{PlainSheet, same}
use Rattle.sheet.specs.Saved.{clobber_size_of, sets_up, setup_size}
use Rattle.sheet.specs.declared.types.CallConv.{CallConv}
use Rattle.notes.specs.declared.UnwindInst.{UnwindInst}
use Rattle.notes.specs.declared.UnwindInst.TheVariants.{PushFrameRegs, DefineNewFrame, StackAlloc, SaveReg, Aarch64SetPointerAuth}
use Rattle.sink.specs.declared.item.Item.{Item}
use Rattle.frame.specs.Forms.{mov_fp_sp_of, push_pair_of, pop_pair_of, store_fp_lr}
use Rattle.item_list.specs.Items.{code}
use Rattle.sink.specs.Items.{insts_in}
use Rattle.frame.specs.Pieces.{noting, select_api_key_of, with_sp, sealed, gen_prologue_frame_setup_of, tail_reload_of, incoming_args_diff_of, resize_incoming_of, push, pop, slot_notes, save_slots, stack_size_of, gen_clobber_save_of, restore_slots, gen_clobber_restore_of, callee_pop_size_of, gen_epilogue_frame_restore_of, return_by, gen_return_of, probe_size_of, prologue, epilogue}
use Rattle.steps.specs.Adjust.{sp_by_of}
use Rattle.steps.specs.Probes.{gen_inline_probestack_of}
use Rattle.returns.specs.Premises.{given_back}
use Rattle.returns.proofs.Adjust.{tf, ft}
use Rattle.returns.proofs.Frames as F
use Rattle.returns.proofs.Laid.{frame_of, bare_sheet}

pub insts-++ : (xs ys : List Item) → insts_in (xs ++ ys) ≡ insts_in xs ++ insts_in ys
insts-++ [] ys = refl
insts-++ (Item.Inst i ∷ xs) ys = ap (λ z. i ∷ z) (insts-++ xs ys)
insts-++ (Item.Note u ∷ xs) ys = insts-++ xs ys

insts_code : (is : List Inst) → insts_in (code is) ≡ is
insts_code [] = refl
insts_code (i ∷ is) = ap (λ z. i ∷ z) (insts_code is)

no_insts : (h : PlainSheet) (u : UnwindInst) → insts_in (noting h u) ≡ []
no_insts h u = go h.flags.unwind_info
  where
    go : (b : Bool) → insts_in (cond b (Item.Note u ∷ []) []) ≡ []
    go true = refl
    go false = refl

none_if : (b : Bool) (xs : List Item) → insts_in xs ≡ [] → insts_in (cond b xs []) ≡ []
none_if true xs h = h
none_if false xs h = refl

behind_none : (xs ys : List Item) → insts_in ys ≡ [] → insts_in (xs ++ ys) ≡ insts_in xs
behind_none xs ys h = insts-++ xs ys ∙ ap (λ z. insts_in xs ++ z) h ∙ append-nil (insts_in xs)

before_none : (xs ys : List Item) → insts_in xs ≡ [] → insts_in (xs ++ ys) ≡ insts_in ys
before_none xs ys h = insts-++ xs ys ∙ ap (λ z. z ++ insts_in ys) h

pub sealed_insts : (h : PlainSheet) (q : Option ApiKey) → insts_in (sealed h q) ≡ F.landing q h.flags.use_bti
sealed_insts h (Some q) =
    let pads : List Inst = cond (h.flags.use_bti && not (with_sp q.modifier)) (BtiC ∷ []) [] in
    let paci : Inst = Paci q.key q.modifier in
    insts-++ (code pads) (Item.Inst paci ∷ noting h (Aarch64SetPointerAuth true))
    ∙ ap₂ (λ y z. y ++ (paci ∷ z)) (insts_code pads) (no_insts h (Aarch64SetPointerAuth true))
sealed_insts h None =
    let pads : List Inst = cond h.flags.use_bti (BtiC ∷ []) [] in
    behind_none (code pads) _ (none_if (same h.conv CallConv.AppleAarch64) _ (no_insts h (Aarch64SetPointerAuth false)))
    ∙ insts_code pads

setup_insts : (h : PlainSheet) (b : Bool) (n : ℕ)
    → insts_in (cond b (Item.Inst (push_pair_of PairClass.X 29 30) ∷ (noting h (PushFrameRegs n) ++ (Item.Inst mov_fp_sp_of ∷ []))) []) ≡ F.set_up b
setup_insts h true n =
    ap (λ z. push_pair_of PairClass.X 29 30 ∷ z) (before_none (noting h (PushFrameRegs n)) (Item.Inst mov_fp_sp_of ∷ []) (no_insts h (PushFrameRegs n)))
setup_insts h false n = refl

not_zero : (n : ℕ) → 16 ≤ n → eqb n 0 ≡ false
not_zero n h = grind (arith, nat_tests)

probing_insts : (h : PlainSheet) → Accepted h
    → insts_in (code (cond h.flags.inline_probes (gen_inline_probestack_of (probe_size_of h) h.sizes.guard) []))
    ≡ F.probing (probe_size_of h) (cond h.flags.inline_probes h.sizes.guard 0)
probing_insts h ok = insts_code _ ∙ go h.flags.inline_probes refl
  where
    go : (b : Bool) → h.flags.inline_probes ≡ b
        → cond b (gen_inline_probestack_of (probe_size_of h) h.sizes.guard) [] ≡ F.probing (probe_size_of h) (cond b h.sizes.guard 0)
    go true q = sym (ap (λ z. cond z [] (gen_inline_probestack_of (probe_size_of h) h.sizes.guard)) (not_zero h.sizes.guard (ok.guarded q).0))
    go false q = refl

no_slot_insts : (h : PlainSheet) (σ : Slot) (o : ℕ) → insts_in (slot_notes h σ o) ≡ []
no_slot_insts h (pair_x a b) o = behind_none (noting h (SaveReg o a)) _ (no_insts h (SaveReg (o + 8) b)) ∙ no_insts h (SaveReg o a)
no_slot_insts h (one_x a) o = no_insts h (SaveReg o a)
no_slot_insts h (pair_d a b) o =
    behind_none (noting h (SaveReg o (64 + a))) _ (no_insts h (SaveReg (o + 8) (64 + b))) ∙ no_insts h (SaveReg o (64 + a))
no_slot_insts h (one_d a) o = no_insts h (SaveReg o (64 + a))
no_slot_insts h (one_q a) o = refl

saves_insts : (h : PlainSheet) (R : List Slot) (o : ℕ) → insts_in (save_slots h R o) ≡ F.pushes R
saves_insts h [] o = refl
saves_insts h (σ ∷ R) o =
    insts-++ (save_slots h R (o + 16)) (Item.Inst (push σ) ∷ slot_notes h σ o)
    ∙ ap₂ (λ y z. y ++ (push σ ∷ z)) (saves_insts h R (o + 16)) (no_slot_insts h σ o)

resize_insts : (h : PlainSheet)
    → insts_in (cond (eqb (incoming_args_diff_of h) 0) [] (resize_incoming_of h (incoming_args_diff_of h))) ≡ F.resize (incoming_args_diff_of h)
resize_insts h = go (eqb (incoming_args_diff_of h) 0) (eqb_tells (incoming_args_diff_of h) 0)
  where
    n : ℕ
    n = incoming_args_diff_of h

    moves : List Inst
    moves = tail_reload_of n ++ (store_fp_lr ∷ mov_fp_sp_of ∷ [])

    sets : (b : Bool) → sets_up h ≡ b → (n ≡ 0 → ⊥) → cond b moves [] ≡ moves
    sets true q d = refl
    sets false q d = absurd (d (omega (arith, (bare_sheet h q).tail)))

    go : (b : Bool) → ((b ≡ true) × (n ≡ 0)) ⊎ ((b ≡ false) × (n ≡ 0 → ⊥))
        → insts_in (cond b [] (resize_incoming_of h n)) ≡ cond b [] (F.lower n ++ (F.reload n ++ (store_fp_lr ∷ mov_fp_sp_of ∷ [])))
    go true q = refl
    go false (inl q) = absurd (ft q.0)
    go false (inr q) =
        insts-++ (code (sp_by_of AddSub.Sub n)) (noting h (StackAlloc n) ++ code (cond (sets_up h) moves []))
        ∙ ap₂ (λ y z. y ++ z) (insts_code (sp_by_of AddSub.Sub n))
        (before_none (noting h (StackAlloc n)) (code (cond (sets_up h) moves [])) (no_insts h (StackAlloc n))
        ∙ insts_code (cond (sets_up h) moves []) ∙ sets (sets_up h) refl q.1)

lower_none : sp_by_of AddSub.Sub 0 ≡ []
unfolding sp_by_of
lower_none = refl

area_insts : (h : PlainSheet) (n : ℕ)
    → insts_in (cond (eqb n 0) [] (code (sp_by_of AddSub.Sub n) ++ noting h (StackAlloc n))) ≡ F.lower n
area_insts h n = go (eqb n 0) (eqb_tells n 0)
  where
    go : (b : Bool) → ((b ≡ true) × (n ≡ 0)) ⊎ ((b ≡ false) × (n ≡ 0 → ⊥))
        → insts_in (cond b [] (code (sp_by_of AddSub.Sub n) ++ noting h (StackAlloc n))) ≡ sp_by_of AddSub.Sub n
    go true (inl q) = sym (ap (sp_by_of AddSub.Sub) q.1 ∙ lower_none)
    go true (inr q) = absurd (tf q.0)
    go false q = behind_none (code (sp_by_of AddSub.Sub n)) _ (no_insts h (StackAlloc n)) ∙ insts_code (sp_by_of AddSub.Sub n)

save_insts : (h : PlainSheet)
    → insts_in (gen_clobber_save_of h) ≡ F.resize (incoming_args_diff_of h) ++ (F.pushes (slots_of h) ++ F.lower (stack_size_of h))
save_insts h =
    insts-++ (cond (eqb (incoming_args_diff_of h) 0) [] (resize_incoming_of h (incoming_args_diff_of h))) (frame_note ++ (saves ++ area))
    ∙ ap₂ (λ y z. y ++ z) (resize_insts h)
    (before_none frame_note (saves ++ area) (none_if (sets_up h) _ (no_insts h _))
    ∙ insts-++ saves area
    ∙ ap₂ (λ y z. y ++ z) (saves_insts h (slots_of h) 0) (area_insts h (stack_size_of h)))
  where
    frame_note : List Item
    frame_note = cond (sets_up h) (noting h (DefineNewFrame (setup_size h + incoming_args_diff_of h) (clobber_size_of h))) []

    saves : List Item
    saves = save_slots h (slots_of h) 0

    area : List Item
    area = cond (eqb (stack_size_of h) 0) [] (code (sp_by_of AddSub.Sub (stack_size_of h)) ++ noting h (StackAlloc (stack_size_of h)))

pub prologue_insts : (h : PlainSheet) → Accepted h → insts_in (prologue h) ≡ F.prologue (frame_of h)
unfolding prologue
prologue_insts h ok =
    insts-++ (gen_prologue_frame_setup_of h) (probing ++ gen_clobber_save_of h)
    ∙ ap₂ (λ y z. y ++ z) front (insts-++ probing (gen_clobber_save_of h) ∙ ap₂ (λ y z. y ++ z) (probing_insts h ok) (save_insts h))
    ∙ append_assoc (F.landing (select_api_key_of h) h.flags.use_bti) (F.set_up (sets_up h)) _
  where
    probing : List Item
    probing = code (cond h.flags.inline_probes (gen_inline_probestack_of (probe_size_of h) h.sizes.guard) [])

    front : insts_in (gen_prologue_frame_setup_of h) ≡ F.landing (select_api_key_of h) h.flags.use_bti ++ F.set_up (sets_up h)
    front =
        insts-++ (sealed h (select_api_key_of h)) _
        ∙ ap₂ (λ y z. y ++ z) (sealed_insts h (select_api_key_of h)) (setup_insts h (sets_up h) (setup_size h))

-- ---- the epilogue

pops_are : (R : List Slot) → restore_slots R ≡ F.pops R
pops_are [] = refl
pops_are (σ ∷ R) = ap (λ z. pop σ ∷ z) (pops_are R)

pops-++ : (R S : List Slot) → F.pops (R ++ S) ≡ F.pops R ++ F.pops S
pops-++ [] S = refl
pops-++ (σ ∷ R) S = ap (λ z. pop σ ∷ z) (pops-++ R S)

pair_pops : (b : Bool) → cond b (pop_pair_of PairClass.X 29 30 ∷ []) [] ≡ F.pops (cond b (F.pair ∷ []) [])
pair_pops true = refl
pair_pops false = refl

pop_size : (h : PlainSheet) → Accepted h → callee_pop_size_of h ≡ incoming_args_diff_of h + given_back h
pop_size h ok = go (same h.conv CallConv.Tail) (same h.conv CallConv.Winch) refl
  where
    go : (t w : Bool) → same h.conv CallConv.Tail ≡ t
        → cond t h.sizes.tail (cond w h.sizes.incoming 0) ≡ incoming_args_diff_of h + cond (t || w) h.sizes.incoming 0
    go true w q = let l = ok.larger in omega arith
    go false true q = let l = ok.fixed_tail q in omega arith
    go false false q = let l = ok.fixed_tail q in omega arith

return_insts : (h : PlainSheet) (q : Option ApiKey) → return_by h q ≡ F.returning q h.flags.has_pauth
return_insts h (Some q) = refl
return_insts h None = refl

pub epilogue_insts : (h : PlainSheet) → Accepted h → insts_in (epilogue h) ≡ F.epilogue (frame_of h)
unfolding epilogue
epilogue_insts h ok =
    insts_code (gen_clobber_restore_of h ++ (gen_epilogue_frame_restore_of h ++ gen_return_of h))
    ∙ append_assoc (F.raise (stack_size_of h)) (restore_slots (slots_of h)) (gen_epilogue_frame_restore_of h ++ gen_return_of h)
    ∙ ap (λ z. F.raise (stack_size_of h) ++ z) rest
  where
    pair : List Inst
    pair = cond (sets_up h) (pop_pair_of PairClass.X 29 30 ∷ []) []

    up : List Inst
    up = F.raise (incoming_args_diff_of h + given_back h) ++ F.returning (select_api_key_of h) h.flags.has_pauth

    later : gen_epilogue_frame_restore_of h ++ gen_return_of h ≡ pair ++ up
    later =
        append_assoc pair (F.raise (callee_pop_size_of h)) (gen_return_of h)
        ∙ ap₂ (λ y z. pair ++ (F.raise y ++ z)) (pop_size h ok) (return_insts h (select_api_key_of h))

    rest : restore_slots (slots_of h) ++ (gen_epilogue_frame_restore_of h ++ gen_return_of h) ≡ F.pops (F.saves (frame_of h)) ++ up
    rest =
        ap₂ (λ y z. y ++ z) (pops_are (slots_of h)) later
        ∙ sym (append_assoc (F.pops (slots_of h)) pair up)
        ∙ ap (λ z. z ++ up) (ap (λ z. F.pops (slots_of h) ++ z) (pair_pops (sets_up h)) ∙ sym (pops-++ (slots_of h) (cond (sets_up h) (F.pair ∷ []) [])))
