-- The notes are right in every state of a lawful body.
use Rattle.std.proofs.Common.{◌≡◌, ℕ, ◌+◌, ◌-◌, ◌<◌, Bool, true, false, cond, not, ◌&&◌, eqb, List, [], ◌∷◌, ◌++◌, length, is_some, Some, None, Option, sym, refl, ap, ◌∙◌, subst, arith}
use Rattle.std.proofs.lemmas.Bool.Decides.{nat_tests}
use Rattle.a64.specs.declared.inst.AddSub.{AddSub}
use Rattle.a64.specs.declared.inst.ApiKey.{ApiKey}
use Rattle.a64.specs.declared.inst.PairClass.{PairClass}
use Rattle.a64.specs.declared.inst.Inst.{Inst}
use Rattle.a64.specs.declared.inst.Inst.TheVariants.{Paci, BtiC}
use Rattle.machine.specs.Machine.{State, Core, Mem, load, at, Comes}
use Rattle.layout.specs.Slots.{Slot, pair_x, one_x, pair_d, one_d, one_q, slots_of}
use Rattle.sheet.specs.Accepted.{Accepted}
use Rattle.sheet.specs.Plain.{PlainSheet, same}
use Rattle.sheet.specs.Saved.{clobber_size_of, sets_up, setup_size}
use Rattle.sheet.specs.declared.types.CallConv.{CallConv}
use Rattle.notes.specs.declared.UnwindInst.{UnwindInst}
use Rattle.notes.specs.declared.UnwindInst.TheVariants.{PushFrameRegs, DefineNewFrame, StackAlloc, SaveReg, Aarch64SetPointerAuth}
use Rattle.sink.specs.declared.item.Item.{Item}
use Rattle.frame.specs.Forms.{mov_fp_sp_of, push_pair_of, store_fp_lr}
use Rattle.item_list.specs.Items.{code}
use Rattle.sink.specs.Items.{notes_from}
use Rattle.frame.specs.Pieces.{push, with_sp, tail_reload_of, noting, select_api_key_of, sealed, gen_prologue_frame_setup_of, incoming_args_diff_of, resize_incoming_of, slot_notes, save_slots, stack_size_of, gen_clobber_save_of, probe_size_of, prologue}
use Rattle.steps.specs.Adjust.{sp_by_of}
use Rattle.steps.specs.Probes.{gen_inline_probestack_of}
use Rattle.returns.specs.Premises.{Lawful}
use Rattle.returns.specs.Returns.{opens, closes, standing}
use Rattle.returns.specs.Notes.{entry_value, pushed_link, Holds, downward_or, downward, EachNote, NotesHold}
use Rattle.returns.proofs.Adjust.{ft}
use Rattle.returns.proofs.Frames as F
use Rattle.returns.proofs.Owed as O
use Rattle.returns.proofs.Slots as M
use Rattle.returns.proofs.Pieces as P
use Rattle.returns.proofs.Whole.{values, value_other, value_link, Framed, saves_bytes}
use Rattle.returns.proofs.Laid.{frame_of, laid_sound, bare_sheet, slots_bytes}
use Rattle.returns.proofs.Sheets.{Opens, opens_goes, lawful_of}

value_x : (e : State) (r : ℕ) → r < 64 → entry_value e r ≡ e.x r
value_x e r h = grind (arith, nat_tests)

value_lo : (e : State) (r : ℕ) → entry_value e (64 + r) ≡ e.lo r
value_lo e r =
    let a : entry_value e (64 + r) ≡ e.lo (64 + r - 64) = grind (arith, nat_tests) in
    let b : 64 + r - 64 ≡ r = omega arith in
    a ∙ ap e.lo b

link_sealed : (k : Core) (q : Option ApiKey) (e : State) → P.sealed k q e ≡ pushed_link k q e
link_sealed k None e = refl
link_sealed k (Some q) e = refl

-- ---- the parts of a prologue

abbrev pub seal_pads : PlainSheet → ApiKey → List Inst
seal_pads h q = cond (h.flags.use_bti && not (with_sp q.modifier)) (BtiC ∷ []) []

abbrev pub bare_pads : PlainSheet → List Inst
bare_pads h = cond h.flags.use_bti (BtiC ∷ []) []

abbrev pub auth_items : PlainSheet → List Item
auth_items h = cond (same h.conv CallConv.AppleAarch64) (noting h (Aarch64SetPointerAuth false)) []

abbrev pub seal_items : PlainSheet → ApiKey → List Item
seal_items h q = Item.Inst (Paci q.key q.modifier) ∷ noting h (Aarch64SetPointerAuth true)

abbrev pub mov_items : List Item
mov_items = Item.Inst mov_fp_sp_of ∷ []

abbrev pub push_items : PlainSheet → List Item
push_items h = Item.Inst (push_pair_of PairClass.X 29 30) ∷ (noting h (PushFrameRegs (setup_size h)) ++ mov_items)

abbrev pub probe_insts : PlainSheet → List Inst
probe_insts h = cond h.flags.inline_probes (gen_inline_probestack_of (probe_size_of h) h.sizes.guard) []

abbrev pub move_insts : PlainSheet → ℕ → List Inst
move_insts h n = cond (sets_up h) (tail_reload_of n ++ (store_fp_lr ∷ mov_fp_sp_of ∷ [])) []

abbrev pub frame_items : PlainSheet → List Item
frame_items h = cond (sets_up h) (noting h (DefineNewFrame (setup_size h + incoming_args_diff_of h) (clobber_size_of h))) []

abbrev pub alloc_items : PlainSheet → List Item
alloc_items h = code (sp_by_of AddSub.Sub (stack_size_of h)) ++ noting h (StackAlloc (stack_size_of h))

abbrev pub last_items : PlainSheet → List Item
last_items h = save_slots h (slots_of h) 0 ++ cond (eqb (stack_size_of h) 0) [] (alloc_items h)

abbrev pub grow_items : PlainSheet → List Item
grow_items h = cond (eqb (incoming_args_diff_of h) 0) [] (resize_incoming_of h (incoming_args_diff_of h))

-- ---- notes among items

abbrev pub EachItem : (UnwindInst → Type 0) → List Item → Type 0
EachItem Q [] = Unit {0}
EachItem Q (Item.Inst i ∷ xs) = EachItem Q xs
EachItem Q (Item.Note u ∷ xs) = Q u × EachItem Q xs

each_notes : (Q : UnwindInst → Type 0) (xs : List Item) (n : ℕ) → EachItem Q xs → EachNote Q (notes_from n xs)
each_notes Q [] n h = tt
each_notes Q (Item.Inst i ∷ xs) n h = each_notes Q xs (n + 1) h
each_notes Q (Item.Note u ∷ xs) n h = (h.0, each_notes Q xs n h.1)

each-++ : (Q : UnwindInst → Type 0) (xs ys : List Item) → EachItem Q xs → EachItem Q ys → EachItem Q (xs ++ ys)
each-++ Q [] ys h k = k
each-++ Q (Item.Inst i ∷ xs) ys h k = each-++ Q xs ys h k
each-++ Q (Item.Note u ∷ xs) ys h k = (h.0, each-++ Q xs ys h.1 k)

each_code : (Q : UnwindInst → Type 0) (is : List Inst) → EachItem Q (code is)
each_code Q [] = tt
each_code Q (i ∷ is) = each_code Q is

each_noting : (Q : UnwindInst → Type 0) (h : PlainSheet) (u : UnwindInst) → (h.flags.unwind_info ≡ true → Q u) → EachItem Q (noting h u)
each_noting Q h u p = go h.flags.unwind_info refl
  where
    go : (b : Bool) → h.flags.unwind_info ≡ b → EachItem Q (cond b (Item.Note u ∷ []) [])
    go true q = (p q, tt)
    go false q = tt

each_if : (Q : UnwindInst → Type 0) (b : Bool) (xs : List Item) → (b ≡ true → EachItem Q xs) → EachItem Q (cond b xs [])
each_if Q true xs h = h refl
each_if Q false xs h = tt

each_unless : (Q : UnwindInst → Type 0) (b : Bool) (xs : List Item) → EachItem Q xs → EachItem Q (cond b [] xs)
each_unless Q true xs h = tt
each_unless Q false xs h = h

-- ---- the downward way of the first `DefineNewFrame`

abbrev down_over : List Item → ℕ → ℕ
down_over [] r = r
down_over (Item.Inst i ∷ xs) r = down_over xs r
down_over (Item.Note u ∷ xs) r = downward_or u (down_over xs r)

down_notes : (xs : List Item) (n : ℕ) → downward (notes_from n xs) ≡ down_over xs 0
down_notes [] n = refl
down_notes (Item.Inst i ∷ xs) n = down_notes xs (n + 1)
down_notes (Item.Note u ∷ xs) n = ap (downward_or u) (down_notes xs n)

down-++ : (xs ys : List Item) (r : ℕ) → down_over (xs ++ ys) r ≡ down_over xs (down_over ys r)
down-++ [] ys r = refl
down-++ (Item.Inst i ∷ xs) ys r = down-++ xs ys r
down-++ (Item.Note u ∷ xs) ys r = ap (downward_or u) (down-++ xs ys r)

down_code : (is : List Inst) (r : ℕ) → down_over (code is) r ≡ r
down_code [] r = refl
down_code (i ∷ is) r = down_code is r

down_noting : (h : PlainSheet) (u : UnwindInst) → ((r : ℕ) → downward_or u r ≡ r) → (r : ℕ) → down_over (noting h u) r ≡ r
down_noting h u p r = go h.flags.unwind_info
  where
    go : (b : Bool) → down_over (cond b (Item.Note u ∷ []) []) r ≡ r
    go true = p r
    go false = refl

down_if : (b : Bool) (xs : List Item) (r : ℕ) → down_over xs r ≡ r → down_over (cond b xs []) r ≡ r
down_if true xs r h = h
down_if false xs r h = refl

down_unless : (b : Bool) (xs : List Item) (r : ℕ) → down_over xs r ≡ r → down_over (cond b [] xs) r ≡ r
down_unless true xs r h = refl
down_unless false xs r h = h

down_sealed : (h : PlainSheet) (q : Option ApiKey) (r : ℕ) → down_over (sealed h q) r ≡ r
down_sealed h (Some q) r =
    down-++ (code (seal_pads h q)) (seal_items h q) r ∙ down_code (seal_pads h q) (down_over (seal_items h q) r)
    ∙ down_noting h (Aarch64SetPointerAuth true) (λ z. refl) r
down_sealed h None r =
    down-++ (code (bare_pads h)) (auth_items h) r
    ∙ down_code (bare_pads h) (down_over (auth_items h) r)
    ∙ down_if (same h.conv CallConv.AppleAarch64) (noting h (Aarch64SetPointerAuth false)) r (down_noting h (Aarch64SetPointerAuth false) (λ z. refl) r)

down_setup : (h : PlainSheet) (r : ℕ) → down_over (gen_prologue_frame_setup_of h) r ≡ r
down_setup h r =
    down-++ (sealed h (select_api_key_of h)) (cond (sets_up h) (push_items h) []) r
    ∙ down_sealed h (select_api_key_of h) (down_over (cond (sets_up h) (push_items h) []) r)
    ∙ down_if (sets_up h) (push_items h) r
    (down-++ (noting h (PushFrameRegs (setup_size h))) mov_items r ∙ down_noting h (PushFrameRegs (setup_size h)) (λ z. refl) r)

down_resize : (h : PlainSheet) (n r : ℕ) → down_over (resize_incoming_of h n) r ≡ r
down_resize h n r =
    down-++ (code (sp_by_of AddSub.Sub n)) (noting h (StackAlloc n) ++ code (move_insts h n)) r
    ∙ down_code (sp_by_of AddSub.Sub n) (down_over (noting h (StackAlloc n) ++ code (move_insts h n)) r)
    ∙ down-++ (noting h (StackAlloc n)) (code (move_insts h n)) r
    ∙ down_noting h (StackAlloc n) (λ z. refl) (down_over (code (move_insts h n)) r)
    ∙ down_code (move_insts h n) r

down_prologue : (h : PlainSheet) → sets_up h ≡ true → h.flags.unwind_info ≡ true → down_over (prologue h) 0 ≡ clobber_size_of h
unfolding prologue
down_prologue h q n =
    down-++ (gen_prologue_frame_setup_of h) (code (probe_insts h) ++ gen_clobber_save_of h) 0
    ∙ down_setup h (down_over (code (probe_insts h) ++ gen_clobber_save_of h) 0)
    ∙ down-++ (code (probe_insts h)) (gen_clobber_save_of h) 0
    ∙ down_code (probe_insts h) (down_over (gen_clobber_save_of h) 0)
    ∙ down-++ (grow_items h) (frame_items h ++ last_items h) 0
    ∙ down_unless (eqb (incoming_args_diff_of h) 0) (resize_incoming_of h (incoming_args_diff_of h)) (down_over (frame_items h ++ last_items h) 0)
    (down_resize h (incoming_args_diff_of h) (down_over (frame_items h ++ last_items h) 0))
    ∙ down-++ (frame_items h) (last_items h) 0
    ∙ go (sets_up h) h.flags.unwind_info q n (down_over (last_items h) 0)
  where
    go : (a b : Bool) → a ≡ true → b ≡ true → (r : ℕ)
        → down_over (cond a (cond b (Item.Note (DefineNewFrame (setup_size h + incoming_args_diff_of h) (clobber_size_of h)) ∷ []) []) []) r ≡ clobber_size_of h
    go true true x y r = refl
    go true false x y r = absurd (ft y)
    go false b x y r = absurd (ft x)

-- ---- the saved registers

at_offset : (a b c d : ℕ) (m : Mem) (v : ℕ) → b + c ≡ a + d → load 8 (b + c) m ≡ v → load 8 (a + d) m ≡ v
at_offset a b c d m v e h = subst (λ z. load 8 z m ≡ v) e h

-- what a save note needs
abbrev Right : (UnwindInst → Type 0) → State → ℕ → Mem → Type 0
Right Q e a m = (o c : ℕ) → load 8 (a + o) m ≡ entry_value e c → Q (SaveReg o c)

slot_right : (Q : UnwindInst → Type 0) (h : PlainSheet) (k : Core) (f : F.Frame) (e : State) (σ : Slot) (a o : ℕ) (m : Mem)
    → (h.flags.unwind_info ≡ true → Right Q e a m) → O.Good σ → M.Holds (values k f e) σ (a + o) m → EachItem Q (slot_notes h σ o)
slot_right Q h k f e (pair_x t u) a o m w g p =
    each-++ Q (noting h (SaveReg o t)) (noting h (SaveReg (o + 8) u))
    (each_noting Q h (SaveReg o t) (λ n. w n o t (p.0 ∙ value_other k f e t (omega (arith, g.0.0)) ∙ sym (value_x e t (omega (arith, g.0.0))))))
    (each_noting Q h (SaveReg (o + 8) u) (λ n. w n (o + 8) u (at_offset a (a + o) 8 (o + 8) m _ (omega arith) p.1 ∙ value_other k f e u (omega (arith, g.1.0)) ∙ sym (value_x e u (omega (arith, g.1.0))))))
slot_right Q h k f e (one_x t) a o m w g p =
    each_noting Q h (SaveReg o t) (λ n. w n o t (p ∙ value_other k f e t (omega (arith, g.0)) ∙ sym (value_x e t (omega (arith, g.0)))))
slot_right Q h k f e (pair_d t u) a o m w g p =
    each-++ Q (noting h (SaveReg o (64 + t))) (noting h (SaveReg (o + 8) (64 + u)))
    (each_noting Q h (SaveReg o (64 + t)) (λ n. w n o (64 + t) (p.0 ∙ sym (value_lo e t))))
    (each_noting Q h (SaveReg (o + 8) (64 + u)) (λ n. w n (o + 8) (64 + u) (at_offset a (a + o) 8 (o + 8) m _ (omega arith) p.1 ∙ sym (value_lo e u))))
slot_right Q h k f e (one_d t) a o m w g p = each_noting Q h (SaveReg o (64 + t)) (λ n. w n o (64 + t) (p ∙ sym (value_lo e t)))
slot_right Q h k f e (one_q t) a o m w g p = tt

all_right : (Q : UnwindInst → Type 0) (h : PlainSheet) (k : Core) (f : F.Frame) (e : State) (R S : List Slot) (a o : ℕ) (m : Mem)
    → (h.flags.unwind_info ≡ true → Right Q e a m) → O.GoodAll R → M.HoldsAll (values k f e) (R ++ S) (a + o) m → EachItem Q (save_slots h R o)
all_right Q h k f e [] S a o m w g p = tt
all_right Q h k f e (σ ∷ R) S a o m w g p =
    each-++ Q (save_slots h R (o + 16)) (Item.Inst (push σ) ∷ slot_notes h σ o)
    (all_right Q h k f e R S a (o + 16) m w g.1 (subst (λ z. M.HoldsAll (values k f e) (R ++ S) z m) (omega arith) p.1))
    (slot_right Q h k f e σ a o m w g.0 p.0)

-- what is held behind the first slots
behind_held : (e : State) (R S : List Slot) (a : ℕ) (m : Mem) → M.HoldsAll e (R ++ S) a m → M.HoldsAll e S (a + F.bytes R) m
behind_held e [] S a m h = subst (λ z. M.HoldsAll e S z m) (omega arith) h
behind_held e (σ ∷ R) S a m h = subst (λ z. M.HoldsAll e S z m) (omega arith) (behind_held e R S (a + 16) m h.1)

-- ---- all notes of a prologue

sealed_each : (Q : UnwindInst → Type 0) (h : PlainSheet) (q : Option ApiKey) → Q (Aarch64SetPointerAuth (is_some q)) → EachItem Q (sealed h q)
sealed_each Q h (Some q) p =
    each-++ Q (code (seal_pads h q)) (seal_items h q) (each_code Q (seal_pads h q)) (each_noting Q h (Aarch64SetPointerAuth true) (λ n. p))
sealed_each Q h None p =
    each-++ Q (code (bare_pads h)) (auth_items h) (each_code Q (bare_pads h))
    (each_if Q (same h.conv CallConv.AppleAarch64) (noting h (Aarch64SetPointerAuth false)) (λ z. each_noting Q h (Aarch64SetPointerAuth false) (λ n. p)))

prologue_each : (Q : UnwindInst → Type 0) (h : PlainSheet)
    → Q (Aarch64SetPointerAuth (is_some (select_api_key_of h)))
    → (sets_up h ≡ true → Q (PushFrameRegs (setup_size h)))
    → ((n : ℕ) → Q (StackAlloc n))
    → (sets_up h ≡ true → Q (DefineNewFrame (setup_size h + incoming_args_diff_of h) (clobber_size_of h)))
    → EachItem Q (save_slots h (slots_of h) 0)
    → EachItem Q (prologue h)
unfolding prologue
prologue_each Q h auth pushed alloc define saved =
    each-++ Q (gen_prologue_frame_setup_of h) (code (probe_insts h) ++ gen_clobber_save_of h)
    (each-++ Q (sealed h (select_api_key_of h)) (cond (sets_up h) (push_items h) []) (sealed_each Q h (select_api_key_of h) auth)
    (each_if Q (sets_up h) (push_items h)
    (λ z. each-++ Q (noting h (PushFrameRegs (setup_size h))) mov_items (each_noting Q h (PushFrameRegs (setup_size h)) (λ n. pushed z)) tt)))
    (each-++ Q (code (probe_insts h)) (gen_clobber_save_of h) (each_code Q (probe_insts h))
    (each-++ Q (grow_items h) (frame_items h ++ last_items h)
    (each_unless Q (eqb (incoming_args_diff_of h) 0) (resize_incoming_of h (incoming_args_diff_of h))
    (each-++ Q (code (sp_by_of AddSub.Sub (incoming_args_diff_of h))) (noting h (StackAlloc (incoming_args_diff_of h)) ++ code (move_insts h (incoming_args_diff_of h)))
    (each_code Q (sp_by_of AddSub.Sub (incoming_args_diff_of h)))
    (each-++ Q (noting h (StackAlloc (incoming_args_diff_of h))) (code (move_insts h (incoming_args_diff_of h)))
    (each_noting Q h (StackAlloc (incoming_args_diff_of h)) (λ n. alloc (incoming_args_diff_of h))) (each_code Q (move_insts h (incoming_args_diff_of h))))))
    (each-++ Q (frame_items h) (last_items h)
    (each_if Q (sets_up h) (noting h (DefineNewFrame (setup_size h + incoming_args_diff_of h) (clobber_size_of h)))
    (λ z. each_noting Q h (DefineNewFrame (setup_size h + incoming_args_diff_of h) (clobber_size_of h)) (λ n. define z)))
    (each-++ Q (save_slots h (slots_of h) 0) (cond (eqb (stack_size_of h) 0) [] (alloc_items h)) saved
    (each_unless Q (eqb (stack_size_of h) 0) (alloc_items h)
    (each-++ Q (code (sp_by_of AddSub.Sub (stack_size_of h))) (noting h (StackAlloc (stack_size_of h)))
    (each_code Q (sp_by_of AddSub.Sub (stack_size_of h))) (each_noting Q h (StackAlloc (stack_size_of h)) (λ n. alloc (stack_size_of h)))))))))

noted : (k : Core) (h : PlainSheet) (e s t : State) (down : ℕ) → Accepted h → (sets_up h ≡ true → h.flags.unwind_info ≡ true → down ≡ clobber_size_of h)
    → Framed k (frame_of h) e s → Lawful h s t → EachItem (Holds k h e t down) (prologue h)
noted k h e s t down ok same-down v l =
    prologue_each (Holds k h e t down) h refl pushed (λ n. tt) define (saved (sets_up h) refl)
  where
    f : F.Frame
    f = frame_of h

    low : O.Lawful (frame_of h) s t
    low = lawful_of h s t l

    held : M.HoldsAll (values k (frame_of h) e) (F.saves (frame_of h)) (s.sp + stack_size_of h) t.mem
    held =
        M.all_agree (values k (frame_of h) e) (F.saves (frame_of h)) (s.sp + stack_size_of h) s.mem t.mem (λ b p u. sym (low.bytes b p u)) v.saved

    fp : sets_up h ≡ true → t.x 29 ≡ s.sp + stack_size_of h + F.bytes (slots_of h)
    fp q = l.fp ∙ v.fp q

    two : sets_up h ≡ true → M.Holds (values k (frame_of h) e) F.pair (s.sp + stack_size_of h + F.bytes (slots_of h)) t.mem
    two q =
        (subst (λ z. M.HoldsAll (values k (frame_of h) e) (cond z (F.pair ∷ []) []) (s.sp + stack_size_of h + F.bytes (slots_of h)) t.mem) q
        (behind_held (values k (frame_of h) e) (slots_of h) (cond (sets_up h) (F.pair ∷ []) []) (s.sp + stack_size_of h) t.mem held)).0

    pushed : sets_up h ≡ true → Holds k h e t down (PushFrameRegs (setup_size h))
    pushed q = (
      subst (λ z. load 8 z t.mem ≡ e.x 29) (sym (fp q)) ((two q).0 ∙ value_other k (frame_of h) e 29 (omega arith)),
      subst (λ z. load 8 (z + 8) t.mem ≡ pushed_link k (select_api_key_of h) e) (sym (fp q)) ((two q).1 ∙ value_link k (frame_of h) e ∙ link_sealed k (select_api_key_of h) e),
    )

    define : sets_up h ≡ true → t.x 29 + (setup_size h + incoming_args_diff_of h) ≡ e.sp
    define q =
        let a = saves_bytes (frame_of h) in
        let b = fp q in
        let c = v.sp in
        omega arith

    saved : (b : Bool) → sets_up h ≡ b → EachItem (Holds k h e t down) (save_slots h (slots_of h) 0)
    saved true q =
        all_right (Holds k h e t down) h k (frame_of h) e (slots_of h) (cond (sets_up h) (F.pair ∷ []) []) (s.sp + stack_size_of h) 0 t.mem right
        (laid_sound h ok).good (subst (λ z. M.HoldsAll (values k (frame_of h) e) (F.saves (frame_of h)) z t.mem) (omega arith) held)
      where
        base : h.flags.unwind_info ≡ true → s.sp + stack_size_of h ≡ t.x 29 - down
        base n =
            let a = same-down q n in
            let b = fp q in
            let c = slots_bytes h in
            omega arith

        right : h.flags.unwind_info ≡ true → Right (Holds k h e t down) e (s.sp + stack_size_of h) t.mem
        right n o c p = subst (λ z. load 8 (z + o) t.mem ≡ entry_value e c) (base n) p
    saved false q = subst (λ R. EachItem (Holds k h e t down) (save_slots h R 0)) (sym (bare_sheet h q).slots) tt

pub each_notes_hold : NotesHold
each_notes_hold k h words before behind e n law ok en = go (opens_goes k h e law ok en)
  where
    go : Opens k h e
        → (s : State)
        × Comes k (standing h words before behind) (at (length before) e) (at (length before + length (opens h)) s)
        × ((t : State) → Lawful h s t → EachNote (Holds k h e t (downward (notes_from n (prologue h)))) (notes_from n (prologue h)))
    go p = (
      p.0,
      p.1 before (words ++ (closes h ++ behind)),
      λ t l.
          each_notes (Holds k h e t (downward (notes_from n (prologue h)))) (prologue h) n
          (noted k h e p.0 t (downward (notes_from n (prologue h))) ok (λ q u. down_notes (prologue h) n ∙ down_prologue h q u) p.2 l),
    )
