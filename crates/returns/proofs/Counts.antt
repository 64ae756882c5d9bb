-- Each saved register has exactly one note.
use Rattle.std.proofs.Common.{◌≡◌, ℕ, ◌+◌, ◌-◌, ◌<◌, ◌≤◌, Bool, true, false, cond, not, ◌&&◌, ◌||◌, eqb, ltb, leb, ◌≢◌, ◌⊎◌, List, [], ◌∷◌, ◌++◌, Some, None, filter, Option, sym, refl, ap, ◌∙◌, ap₂, inl, inr, arith}
use Rattle.std.proofs.lemmas.Bool.{eqb-true}
use Rattle.std.proofs.lemmas.Bool.Decides.{nat_tests, eqb_tells}
use Rattle.a64.specs.declared.inst.AddSub.{AddSub}
use Rattle.a64.specs.declared.inst.ApiKey.{ApiKey}
use Rattle.a64.specs.declared.inst.Inst.{Inst}
use Rattle.layout.specs.Slots.{Slot, pair_x, one_x, pair_d, one_d, one_q, twos_x, twos_d, each_q, slots_of}
use Rattle.sheet.proofs.Walks.{below_all}
use Rattle.sheet.specs.Accepted.{Accepted}
use Rattle.sheet.specs.Codes.{has, within}
use Rattle.sheet.specs.Plain.{PlainSheet, same}
use Rattle.sheet.specs.Saved.{pairing, callee_saved, partner, saves, saved_ints_of, saved_vecs_of, clobber_size_of, sets_up, setup_size}
use Rattle.sheet.specs.Walk.{ints, ups, downs}
use Rattle.sheet.specs.declared.types.CallConv.{CallConv}
use Rattle.sheet.specs.declared.types.CallConv.TheVariants.{PreserveAll}
use Rattle.notes.specs.declared.UnwindInst.{UnwindInst}
use Rattle.notes.specs.declared.UnwindInst.TheVariants.{PushFrameRegs, DefineNewFrame, StackAlloc, SaveReg, Aarch64SetPointerAuth}
use Rattle.sink.specs.declared.item.Item.{Item}
use Rattle.item_list.specs.Items.{code}
use Rattle.sink.specs.Items.{notes_from}
use Rattle.frame.specs.Pieces.{push, noting, select_api_key_of, sealed, gen_prologue_frame_setup_of, incoming_args_diff_of, resize_incoming_of, slot_notes, save_slots, stack_size_of, gen_clobber_save_of, prologue}
use Rattle.steps.specs.Adjust.{sp_by_of}
use Rattle.returns.specs.Notes.{names, note_count, OneNoteEach}
use Rattle.returns.proofs.Adjust.{tf, ft}
use Rattle.returns.proofs.Laid.{In, kept_of, ints_lt}
use Rattle.returns.proofs.Notes.{seal_pads, bare_pads, auth_items, seal_items, mov_items, push_items, probe_insts, move_insts, frame_items, alloc_items, last_items, grow_items}

-- how many notes among items name the register c
abbrev count : ℕ → List Item → ℕ
count c [] = 0
count c (Item.Inst i ∷ xs) = count c xs
count c (Item.Note u ∷ xs) = names c u + count c xs

count_notes : (c : ℕ) (xs : List Item) (n : ℕ) → note_count c (notes_from n xs) ≡ count c xs
count_notes c [] n = refl
count_notes c (Item.Inst i ∷ xs) n = count_notes c xs (n + 1)
count_notes c (Item.Note u ∷ xs) n = ap (λ z. names c u + z) (count_notes c xs n)

count-++ : (c : ℕ) (xs ys : List Item) → count c (xs ++ ys) ≡ count c xs + count c ys
count-++ c [] ys = omega arith
count-++ c (Item.Inst i ∷ xs) ys = count-++ c xs ys
count-++ c (Item.Note u ∷ xs) ys = let h = count-++ c xs ys in omega arith

count_code : (c : ℕ) (is : List Inst) → count c (code is) ≡ 0
count_code c [] = refl
count_code c (i ∷ is) = count_code c is

-- notes that name no register
none_noting : (c : ℕ) (h : PlainSheet) (u : UnwindInst) → names c u ≡ 0 → count c (noting h u) ≡ 0
none_noting c h u e = go h.flags.unwind_info
  where
    go : (b : Bool) → count c (cond b (Item.Note u ∷ []) []) ≡ 0
    go true = omega (arith, e)
    go false = refl

none_if : (c : ℕ) (b : Bool) (xs : List Item) → count c xs ≡ 0 → count c (cond b xs []) ≡ 0
none_if c true xs h = h
none_if c false xs h = refl

none_unless : (c : ℕ) (b : Bool) (xs : List Item) → count c xs ≡ 0 → count c (cond b [] xs) ≡ 0
none_unless c true xs h = refl
none_unless c false xs h = h

none_both : (c : ℕ) (xs ys : List Item) → count c xs ≡ 0 → count c ys ≡ 0 → count c (xs ++ ys) ≡ 0
none_both c xs ys p q = count-++ c xs ys ∙ omega arith

none_sealed : (c : ℕ) (h : PlainSheet) (q : Option ApiKey) → count c (sealed h q) ≡ 0
none_sealed c h (Some q) = none_both c (code (seal_pads h q)) (seal_items h q) (count_code c (seal_pads h q)) (none_noting c h (Aarch64SetPointerAuth true) refl)
none_sealed c h None =
    none_both c (code (bare_pads h)) (auth_items h) (count_code c (bare_pads h))
    (none_if c (same h.conv CallConv.AppleAarch64) (noting h (Aarch64SetPointerAuth false)) (none_noting c h (Aarch64SetPointerAuth false) refl))

none_setup : (c : ℕ) (h : PlainSheet) → count c (gen_prologue_frame_setup_of h) ≡ 0
none_setup c h =
    none_both c (sealed h (select_api_key_of h)) (cond (sets_up h) (push_items h) []) (none_sealed c h (select_api_key_of h))
    (none_if c (sets_up h) (push_items h) (none_both c (noting h (PushFrameRegs (setup_size h))) mov_items (none_noting c h (PushFrameRegs (setup_size h)) refl) refl))

none_grow : (c : ℕ) (h : PlainSheet) → count c (grow_items h) ≡ 0
none_grow c h =
    let n : ℕ = incoming_args_diff_of h in
    none_unless c (eqb n 0) (resize_incoming_of h n)
    (none_both c (code (sp_by_of AddSub.Sub n)) (noting h (StackAlloc n) ++ code (move_insts h n)) (count_code c (sp_by_of AddSub.Sub n))
    (none_both c (noting h (StackAlloc n)) (code (move_insts h n)) (none_noting c h (StackAlloc n) refl) (count_code c (move_insts h n))))

none_frame : (c : ℕ) (h : PlainSheet) → count c (frame_items h) ≡ 0
none_frame c h =
    none_if c (sets_up h) (noting h (DefineNewFrame (setup_size h + incoming_args_diff_of h) (clobber_size_of h)))
    (none_noting c h (DefineNewFrame (setup_size h + incoming_args_diff_of h) (clobber_size_of h)) refl)

none_alloc : (c : ℕ) (h : PlainSheet) → count c (cond (eqb (stack_size_of h) 0) [] (alloc_items h)) ≡ 0
none_alloc c h =
    none_unless c (eqb (stack_size_of h) 0) (alloc_items h)
    (none_both c (code (sp_by_of AddSub.Sub (stack_size_of h))) (noting h (StackAlloc (stack_size_of h))) (count_code c (sp_by_of AddSub.Sub (stack_size_of h))) (none_noting c h (StackAlloc (stack_size_of h)) refl))

only_saves : (c : ℕ) (h : PlainSheet) → count c (prologue h) ≡ count c (save_slots h (slots_of h) 0)
unfolding prologue
only_saves c h =
    let a = count-++ c (gen_prologue_frame_setup_of h) (code (probe_insts h) ++ gen_clobber_save_of h) in
    let b = count-++ c (code (probe_insts h)) (gen_clobber_save_of h) in
    let d = count-++ c (grow_items h) (frame_items h ++ last_items h) in
    let e = count-++ c (frame_items h) (last_items h) in
    let f = count-++ c (save_slots h (slots_of h) 0) (cond (eqb (stack_size_of h) 0) [] (alloc_items h)) in
    let p = none_setup c h in
    let q = count_code c (probe_insts h) in
    let r = none_grow c h in
    let s = none_frame c h in
    let t = none_alloc c h in
    omega arith

-- ---- slots

abbrev is : ℕ → ℕ → ℕ
is c r = cond (eqb r c) 1 0

abbrev in_slot : ℕ → Slot → ℕ
in_slot c (pair_x a b) = is c a + is c b
in_slot c (one_x a) = is c a
in_slot c (pair_d a b) = is c (64 + a) + is c (64 + b)
in_slot c (one_d a) = is c (64 + a)
in_slot c (one_q a) = 0

abbrev in_slots : ℕ → List Slot → ℕ
in_slots c [] = 0
in_slots c (σ ∷ R) = in_slot c σ + in_slots c R

one_noting : (c : ℕ) (h : PlainSheet) (o r : ℕ) → h.flags.unwind_info ≡ true → count c (noting h (SaveReg o r)) ≡ is c r
one_noting c h o r n = ap (λ b. count c (cond b (Item.Note (SaveReg o r) ∷ []) [])) n ∙ omega arith

count_slot : (c : ℕ) (h : PlainSheet) (σ : Slot) (o : ℕ) → h.flags.unwind_info ≡ true → count c (slot_notes h σ o) ≡ in_slot c σ
count_slot c h (pair_x a b) o n =
    count-++ c (noting h (SaveReg o a)) (noting h (SaveReg (o + 8) b)) ∙ ap₂ (λ y z. y + z) (one_noting c h o a n) (one_noting c h (o + 8) b n)
count_slot c h (one_x a) o n = one_noting c h o a n
count_slot c h (pair_d a b) o n =
    count-++ c (noting h (SaveReg o (64 + a))) (noting h (SaveReg (o + 8) (64 + b)))
    ∙ ap₂ (λ y z. y + z) (one_noting c h o (64 + a) n) (one_noting c h (o + 8) (64 + b) n)
count_slot c h (one_d a) o n = one_noting c h o (64 + a) n
count_slot c h (one_q a) o n = refl

count_slots : (c : ℕ) (h : PlainSheet) (R : List Slot) (o : ℕ) → h.flags.unwind_info ≡ true → count c (save_slots h R o) ≡ in_slots c R
count_slots c h [] o n = refl
count_slots c h (σ ∷ R) o n =
    let a = count-++ c (save_slots h R (o + 16)) (Item.Inst (push σ) ∷ slot_notes h σ o) in
    let b = count_slots c h R (o + 16) n in
    let d = count_slot c h σ o n in
    omega arith

in_slots-++ : (c : ℕ) (R S : List Slot) → in_slots c (R ++ S) ≡ in_slots c R + in_slots c S
in_slots-++ c [] S = omega arith
in_slots-++ c (σ ∷ R) S = let h = in_slots-++ c R S in omega arith

-- how often a number stands in a list; how often a vector's code does
abbrev often : ℕ → List ℕ → ℕ
often c [] = 0
often c (r ∷ rs) = is c r + often c rs

abbrev often_v : ℕ → List ℕ → ℕ
often_v c [] = 0
often_v c (r ∷ rs) = is c (64 + r) + often_v c rs

twos_x_often : (c : ℕ) (rs : List ℕ) → in_slots c (twos_x rs) ≡ often c rs
twos_x_often c [] = refl
twos_x_often c (a ∷ []) = refl
twos_x_often c (a ∷ b ∷ rs) = let h = twos_x_often c rs in omega arith

twos_d_often : (c : ℕ) (rs : List ℕ) → in_slots c (twos_d rs) ≡ often_v c rs
twos_d_often c [] = refl
twos_d_often c (a ∷ []) = refl
twos_d_often c (a ∷ b ∷ rs) = let h = twos_d_often c rs in omega arith

each_q_often : (c : ℕ) (rs : List ℕ) → in_slots c (each_q rs) ≡ 0
each_q_often c [] = refl
each_q_often c (a ∷ rs) = let h = each_q_often c rs in omega arith

often_kept : (t : ℕ → Bool) (c : ℕ) (w : List ℕ) → often c (filter t w) ≡ cond (t c) (often c w) 0
often_kept t c [] = go (t c)
  where
    go : (b : Bool) → ◌≡◌ {A = ℕ} 0 (cond b 0 0)
    go true = refl
    go false = refl
often_kept t c (x ∷ xs) = go (t x) (t c) refl refl (eqb_tells x c) (often_kept t c xs)
  where
    go : (a b : Bool) → t x ≡ a → t c ≡ b → ((eqb x c ≡ true) × (x ≡ c)) ⊎ ((eqb x c ≡ false) × (x ≡ c → ⊥))
        → often c (filter t xs) ≡ cond b (often c xs) 0 → often c (cond a (x ∷ filter t xs) (filter t xs)) ≡ cond b (is c x + often c xs) 0
    go true true p q e h = let z = h in omega arith
    go true false p q (inl e) h = absurd (tf (sym p ∙ ap t e.1 ∙ q))
    go true false p q (inr e) h = ap (λ z. cond z 1 0 + often c (filter t xs)) e.0 ∙ omega (arith, h)
    go false true p q (inl e) h = absurd (tf (sym q ∙ sym (ap t e.1) ∙ p))
    go false true p q (inr e) h = h ∙ sym (ap (λ z. cond z 1 0 + often c xs) e.0 ∙ omega arith)
    go false false p q e h = h

often_ints : (d : Bool) (c : ℕ) → c < 32 → often c (ints d) ≡ 1
unfolding ints
often_ints true c l = eqb-true (often c (downs 32)) 1 (below_all (λ k. eqb (often k (downs 32)) 1) 32 refl c l)
often_ints false c l = eqb-true (often c (ups 32)) 1 (below_all (λ k. eqb (often k (ups 32)) 1) 32 refl c l)

never : (c : ℕ) (w : List ℕ) → ((r : ℕ) → In r w → r ≢ c) → often c w ≡ 0
never c [] h = refl
never c (x ∷ xs) h =
    let rest = never c xs (λ r i. h r (inr i)) in
    ap (λ z. cond z 1 0 + often c xs) (differ x c (h x (inl refl))) ∙ omega arith
  where
    differ : (a b : ℕ) → a ≢ b → eqb a b ≡ false
    differ a b n = grind (arith, nat_tests)

vec_often : (c r : ℕ) (w : List ℕ) → c ≡ 64 + r → often_v c w ≡ often r w
vec_often c r [] e = refl
vec_often c r (x ∷ xs) e =
    let rest = vec_often c r xs e in
    ap (λ z. cond z 1 0 + often_v c xs) (shift x) ∙ ap (λ z. is r x + z) rest
  where
    shift : (a : ℕ) → eqb (64 + a) c ≡ eqb a r
    shift a = go (eqb_tells (64 + a) c) (eqb_tells a r)
      where
        go : ((eqb (64 + a) c ≡ true) × (64 + a ≡ c)) ⊎ ((eqb (64 + a) c ≡ false) × (64 + a ≡ c → ⊥)) → ((eqb a r ≡ true) × (a ≡ r)) ⊎ ((eqb a r ≡ false) × (a ≡ r → ⊥))
            → eqb (64 + a) c ≡ eqb a r
        go (inl p) (inl q) = p.0 ∙ sym q.0
        go (inl p) (inr q) = absurd (q.1 (omega (arith, p.1)))
        go (inr p) (inl q) = absurd (p.1 (omega (arith, q.1)))
        go (inr p) (inr q) = p.0 ∙ sym q.0

low_never : (c : ℕ) (w : List ℕ) → c < 64 → often_v c w ≡ 0
low_never c [] l = refl
low_never c (x ∷ xs) l =
    let rest = low_never c xs l in
    ap (λ z. cond z 1 0 + often_v c xs) (differ (64 + x) c (omega arith)) ∙ omega arith
  where
    differ : (a b : ℕ) → b < a → eqb a b ≡ false
    differ a b n = grind (arith, nat_tests)

-- ---- the codes

-- what is saved has a code
region : (h : PlainSheet) → Accepted h → (c : ℕ) → saves h c ≡ true → (c < 32) ⊎ ((64 ≤ c) × (c ≤ 95))
region h ok c s = go (same h.conv PreserveAll) s
  where
    codes : (c ≤ 15) ⊎ (((19 ≤ c) × (c ≤ 28)) ⊎ ((64 ≤ c) × (c ≤ 95))) → (c < 32) ⊎ ((64 ≤ c) × (c ≤ 95))
    codes (inl z) = inl (omega arith)
    codes (inr (inl z)) = inl (omega arith)
    codes (inr (inr z)) = inr z

    callee : (a b : Bool) → within 19 28 c ≡ a → within 72 79 c ≡ b → a || b ≡ true → (c < 32) ⊎ ((64 ≤ c) × (c ≤ 95))
    callee true b p q z = inl (lower p)
      where
        lower : within 19 28 c ≡ true → c < 32
        lower p = grind (arith, nat_tests)
    callee false true p q z = inr (upper q)
      where
        upper : within 72 79 c ≡ true → (64 ≤ c) × (c ≤ 95)
        upper p = (grind (arith, nat_tests), grind (arith, nat_tests))
    callee false false p q z = absurd (ft z)

    first : (a b : Bool) → a && b ≡ true → a ≡ true
    first true b z = refl
    first false b z = absurd (ft z)

    go : (b : Bool) → cond b (has h.clobbers c) (callee_saved c && (has h.clobbers c || (pairing h && has h.clobbers (partner c)))) ≡ true
        → (c < 32) ⊎ ((64 ≤ c) × (c ≤ 95))
    go true q = codes (ok.codes c q)
    go false q = callee (within 19 28 c) (within 72 79 c) refl refl (first (callee_saved c) _ q)

vecs_never : (h : PlainSheet) (c : ℕ) → (c < 64) ⊎ (96 ≤ c) → often_v c (saved_vecs_of h) ≡ 0
vecs_never h c (inl l) = low_never c (saved_vecs_of h) l
vecs_never h c (inr l) =
    vec_often c (c - 64) (saved_vecs_of h) (omega arith)
    ∙ never (c - 64) (saved_vecs_of h)
    (λ r i e. let z = ints_lt (pairing h) r (kept_of (λ r. saves h (64 + r)) (ints (pairing h)) r i).1 in omega arith)

ints_never : (h : PlainSheet) (c : ℕ) → 32 ≤ c → often c (saved_ints_of h) ≡ 0
ints_never h c l =
    never c (saved_ints_of h) (λ r i e. let z = ints_lt (pairing h) r (kept_of (saves h) (ints (pairing h)) r i).1 in omega arith)

ints_once : (h : PlainSheet) (c : ℕ) → c < 32 → often c (saved_ints_of h) ≡ cond (saves h c) 1 0
ints_once h c l = often_kept (saves h) c (ints (pairing h)) ∙ ap (λ z. cond (saves h c) z 0) (often_ints (pairing h) c l)

vecs_once : (h : PlainSheet) (c : ℕ) → 64 ≤ c → c ≤ 95 → often_v c (saved_vecs_of h) ≡ cond (saves h c) 1 0
vecs_once h c l u =
    let e : c ≡ 64 + (c - 64) = omega arith in
    vec_often c (c - 64) (saved_vecs_of h) e
    ∙ often_kept (λ r. saves h (64 + r)) (c - 64) (ints (pairing h))
    ∙ ap₂ (λ y z. cond (saves h y) z 0) (sym e) (often_ints (pairing h) (c - 64) (omega arith))

slots_once : (c : ℕ) (h : PlainSheet) → in_slots c (slots_of h) ≡ cond (same h.conv PreserveAll) 0 (often_v c (saved_vecs_of h)) + often c (saved_ints_of h)
unfolding slots_of
slots_once c h = go (same h.conv PreserveAll)
  where
    go : (b : Bool) → in_slots c (cond b (each_q (saved_vecs_of h)) (twos_d (saved_vecs_of h)) ++ twos_x (saved_ints_of h)) ≡ cond b 0 (often_v c (saved_vecs_of h)) + often c (saved_ints_of h)
    go true = in_slots-++ c (each_q (saved_vecs_of h)) (twos_x (saved_ints_of h)) ∙ ap₂ (λ y z. y + z) (each_q_often c (saved_vecs_of h)) (twos_x_often c (saved_ints_of h))
    go false = in_slots-++ c (twos_d (saved_vecs_of h)) (twos_x (saved_ints_of h)) ∙ ap₂ (λ y z. y + z) (twos_d_often c (saved_vecs_of h)) (twos_x_often c (saved_ints_of h))

pub one_note_each : OneNoteEach
one_note_each h n c ok u =
    count_notes c (prologue h) n ∙ only_saves c h ∙ count_slots c h (slots_of h) 0 u ∙ slots_once c h
    ∙ go (same h.conv PreserveAll) (ltb c 32) (leb 64 c) (leb c 95) (saves h c) refl refl refl refl
  where
    lt : ltb c 32 ≡ true → c < 32
    lt p = grind (arith, nat_tests)

    ge : ltb c 32 ≡ false → 32 ≤ c
    ge p = grind (arith, nat_tests)

    up : leb 64 c ≡ true → 64 ≤ c
    up p = grind (arith, nat_tests)

    below : leb 64 c ≡ false → c < 64
    below p = grind (arith, nat_tests)

    top : leb c 95 ≡ true → c ≤ 95
    top p = grind (arith, nat_tests)

    past : leb c 95 ≡ false → 96 ≤ c
    past p = grind (arith, nat_tests)

    right : (p s w : Bool) → ◌≡◌ {A = ℕ} (cond p 0 (cond s 1 0)) (cond (s && not (p && true)) 1 0)
    right true true w = refl
    right true false w = refl
    right false true w = refl
    right false false w = refl

    left_over : (p s : Bool) → ◌≡◌ {A = ℕ} (cond s 1 0) (cond (s && not (p && false)) 1 0)
    left_over true true = refl
    left_over true false = refl
    left_over false true = refl
    left_over false false = refl

    zero_of : (p : Bool) (v : ℕ) → v ≡ 0 → cond p 0 v ≡ 0
    zero_of true v e = refl
    zero_of false v e = e

    none : saves h c ≡ true → (c < 32 → ⊥) → ((64 ≤ c) × (c ≤ 95) → ⊥) → ⊥
    none s a b = elim (region h ok c s) [ inl z ↦ a z | inr z ↦ b z ]

    unsaved : (s : Bool) → saves h c ≡ s → (c < 32 → ⊥) → ((64 ≤ c) × (c ≤ 95) → ⊥) → s ≡ false
    unsaved true e a b = absurd (none e a b)
    unsaved false e a b = refl

    go : (p a b d s : Bool) → ltb c 32 ≡ a → leb 64 c ≡ b → leb c 95 ≡ d → saves h c ≡ s
        → cond p 0 (often_v c (saved_vecs_of h)) + often c (saved_ints_of h) ≡ cond (s && not (p && b)) 1 0
    go p true true d s ea eb ed es = absurd (omega (arith, lt ea, up eb))
    go p true false d s ea eb ed es =
        ap₂ (λ y z. y + z) (zero_of p (often_v c (saved_vecs_of h)) (vecs_never h c (inl (below eb)))) (ints_once h c (lt ea) ∙ ap (λ z. cond z 1 0) es)
        ∙ zero_first (cond s 1 0) ∙ left_over p s
      where
        zero_first : (x : ℕ) → 0 + x ≡ x
        zero_first x = omega arith
    go p false true true s ea eb ed es =
        ap₂ (λ y z. cond p 0 y + z) (vecs_once h c (up eb) (top ed) ∙ ap (λ z. cond z 1 0) es) (ints_never h c (ge ea))
        ∙ zero_last (cond p 0 (cond s 1 0)) ∙ right p s true
      where
        zero_last : (x : ℕ) → x + 0 ≡ x
        zero_last x = omega arith
    go p false true false s ea eb ed es =
        ap₂ (λ y z. y + z) (zero_of p (often_v c (saved_vecs_of h)) (vecs_never h c (inr (past ed)))) (ints_never h c (ge ea))
        ∙ sym (ap (λ z. cond (z && not (p && true)) 1 0) (unsaved s es (λ z. omega (arith, ge ea, z)) (λ z. omega (arith, past ed, z.1))))
    go p false false d s ea eb ed es =
        ap₂ (λ y z. y + z) (zero_of p (often_v c (saved_vecs_of h)) (vecs_never h c (inl (below eb)))) (ints_never h c (ge ea))
        ∙ sym (ap (λ z. cond (z && not (p && false)) 1 0) (unsaved s es (λ z. omega (arith, ge ea, z)) (λ z. omega (arith, below eb, z.0))))
