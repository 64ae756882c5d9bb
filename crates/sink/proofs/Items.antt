-- Laws of lists of items, and of putting them.
use Rattle.std.proofs.Common.{◌≡◌, ℕ, zero, suc, ◌+◌, ◌-◌, ◌*◌, ◌<◌, ◌≤◌, ◌⊎◌, List, [], ◌∷◌, ◌++◌, length, get_or, take, drop, None, Ok, Err, Result, sym, refl, ap, ◌∙◌, subst, inl, inr, append_assoc, append-nil, mul-zero, mul-one, mul-add, arith, MatchResult}
use Rattle.codec.specs.Unread.{unread}
use Rattle.refusal.specs.Told.{told}
use Rattle.refusal.specs.declared.Refusal.{Refusal}
use Rattle.std.proofs.lemmas.List.{length-append, take_at, take_all, take_more, take-append-drop, drop_more, drop_all}
use Rattle.std.proofs.lemmas.Bool.{le-ltb, cond-false}
use Rattle.sink.specs.Held.{Held, IsReading, Prices, with_inst, with_note, rewound, stray, late, no_room_of}
use Rattle.a64.specs.declared.inst.Inst.{Inst}
use Rattle.sink.specs.declared.item.Item.{Item}
use Rattle.notes.specs.declared.Note.{Note}
use Rattle.notes.specs.declared.UnwindInst.{UnwindInst}
use Rattle.sink.specs.Items.{AllRead, PutItems, insts_in, notes_from, marks_in, cost_of, with_items}

pub insts_append : (a b : List Item) → insts_in (a ++ b) ≡ insts_in a ++ insts_in b
insts_append [] b = refl
insts_append (Item.Inst x ∷ a) b = ap (λ (xs : List Inst). x ∷ xs) (insts_append a b)
insts_append (Item.Note x ∷ a) b = insts_append a b

pub marks_append : (a b : List Item) → marks_in (a ++ b) ≡ marks_in a + marks_in b
marks_append [] b = omega arith
marks_append (Item.Inst x ∷ a) b = marks_append a b
marks_append (Item.Note x ∷ a) b = omega (arith, marks_append a b)

pub notes_append : (n : ℕ) (a b : List Item) → notes_from n (a ++ b) ≡ notes_from n a ++ notes_from (n + length (insts_in a)) b
notes_append n [] b = ap (λ (k : ℕ). notes_from k b) (let e : n ≡ n + 0 = omega arith in e)
notes_append n (Item.Inst x ∷ a) b =
    let e : n + 1 + length (insts_in a) ≡ n + suc (length (insts_in a)) = omega arith in
    notes_append (n + 1) a b ∙ ap (λ (k : ℕ). notes_from (n + 1) a ++ notes_from k b) e
notes_append n (Item.Note x ∷ a) b =
    ap (λ (xs : List Note). record { place = n; inst = x } ∷ xs) (notes_append n a b)

pub length_notes : (n : ℕ) (xs : List Item) → length (notes_from n xs) ≡ marks_in xs
length_notes n [] = refl
length_notes n (Item.Inst x ∷ xs) = length_notes (n + 1) xs
length_notes n (Item.Note x ∷ xs) = omega (arith, length_notes n xs)

pub length_insts_append : (a b : List Item) → length (insts_in (a ++ b)) ≡ length (insts_in a) + length (insts_in b)
length_insts_append a b = ap length (insts_append a b) ∙ length-append (insts_in a) (insts_in b)

pub cost_append : (p : Prices) (a b : List Item) → cost_of p (a ++ b) ≡ cost_of p a + cost_of p b
cost_append p a b =
    let l = length_insts_append a b in
    let m = marks_append a b in
    let e : p.inst * length (insts_in (a ++ b)) ≡ p.inst * length (insts_in a) + p.inst * length (insts_in b) =
    ap (λ (n : ℕ). p.inst * n) l ∙ mul-add p.inst (length (insts_in a)) (length (insts_in b)) in
    let f : p.note * marks_in (a ++ b) ≡ p.note * marks_in a + p.note * marks_in b =
    ap (λ (n : ℕ). p.note * n) m ∙ mul-add p.note (marks_in a) (marks_in b) in
    omega arith

pub cost_code : (p : Prices) (x : Inst) → cost_of p (Item.Inst x ∷ []) ≡ p.inst
cost_code p x = omega (arith, mul-one p.inst, mul-zero p.note)

pub cost_mark : (p : Prices) (x : UnwindInst) → cost_of p (Item.Note x ∷ []) ≡ p.note
cost_mark p x = omega (arith, mul-zero p.inst, mul-one p.note)

pub with_append : (p : Prices) (h : Held) (a b : List Item) → with_items p h (a ++ b) ≡ with_items p (with_items p h a) b
with_append p h a b =
    let i : h.insts ++ insts_in (a ++ b) ≡ (h.insts ++ insts_in a) ++ insts_in b =
    ap (λ (xs : List Inst). h.insts ++ xs) (insts_append a b) ∙ sym (append_assoc h.insts (insts_in a) (insts_in b)) in
    let l : length (h.insts ++ insts_in a) ≡ length h.insts + length (insts_in a) = length-append h.insts (insts_in a) in
    let n : h.notes ++ notes_from (length h.insts) (a ++ b) ≡ (h.notes ++ notes_from (length h.insts) a) ++ notes_from (length h.insts + length (insts_in a)) b =
    ap (λ (xs : List Note). h.notes ++ xs) (notes_append (length h.insts) a b)
    ∙ sym (append_assoc h.notes (notes_from (length h.insts) a) (notes_from (length h.insts + length (insts_in a)) b)) in
    let r : h.room - cost_of p (a ++ b) ≡ h.room - cost_of p a - cost_of p b = omega (arith, cost_append p a b) in
    cc

pub with_code : (p : Prices) (h : Held) (x : Inst) → with_inst p.inst h x ≡ with_items p h (Item.Inst x ∷ [])
with_code p h x =
    let n : h.notes ++ [] ≡ h.notes = append-nil h.notes in
    let c = cost_code p x in
    cc

pub with_mark : (p : Prices) (h : Held) (x : UnwindInst) → with_note p.note h x ≡ with_items p h (Item.Note x ∷ [])
with_mark p h x =
    let n : h.insts ++ [] ≡ h.insts = append-nil h.insts in
    let c = cost_mark p x in
    cc

-- no note of a piece lies behind its instructions
pub no_stray : (i k n : ℕ) (xs : List Item) → n + length (insts_in xs) ≤ i → stray i k (notes_from n xs) ≡ None
no_stray i k n [] le = refl
no_stray i k n (Item.Inst x ∷ xs) le = no_stray i k (n + 1) xs (omega arith)
no_stray i k n (Item.Note x ∷ xs) le =
    cond-false _ _ _ (le-ltb i n (omega arith)) ∙ no_stray i (k + 1) n xs le

pub late_with : (p : Prices) (h : Held) (xs : List Item) → stray (length h.insts) 0 h.notes ≡ None →
    late (with_items p h xs) (length h.insts) (length h.notes) ≡ None
late_with p h xs none =
    let l : length (h.insts ++ insts_in xs) ≡ length h.insts + length (insts_in xs) = length-append h.insts (insts_in xs) in
    let m : length (h.notes ++ notes_from (length h.insts) xs) ≡ length h.notes + length (notes_from (length h.insts) xs) =
    length-append h.notes (notes_from (length h.insts) xs) in
    let li : length h.insts ≤ length (h.insts ++ insts_in xs) = omega arith in
    let ln : length h.notes ≤ length (h.notes ++ notes_from (length h.insts) xs) = omega arith in
    cond-false _ _ _ (le-ltb _ _ li)
    ∙ cond-false _ _ _ (le-ltb _ _ ln)
    ∙ ap (stray (length h.insts) 0) (take_at h.notes (notes_from (length h.insts) xs) (length h.notes) refl)
    ∙ none

pub rewound_with : (p : Prices) (h : Held) (xs : List Item) → cost_of p xs ≤ h.room →
    rewound p (with_items p h xs) (length h.insts) (length h.notes) ≡ h
rewound_with p h xs le =
    let l : length (h.insts ++ insts_in xs) ≡ length h.insts + length (insts_in xs) = length-append h.insts (insts_in xs) in
    let m : length (h.notes ++ notes_from (length h.insts) xs) ≡ length h.notes + marks_in xs =
    length-append h.notes (notes_from (length h.insts) xs) ∙ ap (λ (n : ℕ). length h.notes + n) (length_notes (length h.insts) xs) in
    let i : take (length h.insts) (h.insts ++ insts_in xs) ≡ h.insts = take_at h.insts (insts_in xs) (length h.insts) refl in
    let n : take (length h.notes) (h.notes ++ notes_from (length h.insts) xs) ≡ h.notes =
    take_at h.notes (notes_from (length h.insts) xs) (length h.notes) refl in
    let a : length (h.insts ++ insts_in xs) - length h.insts ≡ length (insts_in xs) = omega arith in
    let b : length (h.notes ++ notes_from (length h.insts) xs) - length h.notes ≡ marks_in xs = omega arith in
    let c : p.inst * (length (h.insts ++ insts_in xs) - length h.insts) ≡ p.inst * length (insts_in xs) = ap (λ (n : ℕ). p.inst * n) a in
    let d : p.note * (length (h.notes ++ notes_from (length h.insts) xs) - length h.notes) ≡ p.note * marks_in xs = ap (λ (n : ℕ). p.note * n) b in
    let r : h.room - cost_of p xs + p.inst * (length (h.insts ++ insts_in xs) - length h.insts) + p.note * (length (h.notes ++ notes_from (length h.insts) xs) - length h.notes) ≡ h.room = omega arith in
    let z : rewound p (with_items p h xs) (length h.insts) (length h.notes) ≡ record { insts = h.insts; notes = h.notes; room = h.room } = cc in
    z

-- ---- one more item

pub cost_inst : (p : Prices) (x : Inst) (xs : List Item) → cost_of p (Item.Inst x ∷ xs) ≡ p.inst + cost_of p xs
cost_inst p x xs = cost_append p (Item.Inst x ∷ []) xs ∙ ap (λ (n : ℕ). n + cost_of p xs) (cost_code p x)

pub cost_note : (p : Prices) (x : UnwindInst) (xs : List Item) → cost_of p (Item.Note x ∷ xs) ≡ p.note + cost_of p xs
cost_note p x xs = cost_append p (Item.Note x ∷ []) xs ∙ ap (λ (n : ℕ). n + cost_of p xs) (cost_mark p x)

cost_nil : (p : Prices) → cost_of p [] ≡ 0
cost_nil p = omega (arith, mul-zero p.inst, mul-zero p.note)

-- the items from i on, one by one
pub rest_inst : (xs : List Item) (i : ℕ) (d : Item) (x : Inst) → i < length xs → get_or xs i d ≡ Item.Inst x → drop i xs ≡ Item.Inst x ∷ drop (i + 1) xs
rest_inst xs i d x lt e = drop_more xs i d lt ∙ ap (λ (y : Item). y ∷ drop (i + 1) xs) e

pub rest_note : (xs : List Item) (i : ℕ) (d : Item) (x : UnwindInst) → i < length xs → get_or xs i d ≡ Item.Note x → drop i xs ≡ Item.Note x ∷ drop (i + 1) xs
rest_note xs i d x lt e = drop_more xs i d lt ∙ ap (λ (y : Item). y ∷ drop (i + 1) xs) e

-- every instruction from i on is a reading, exactly where every one of the list is
abbrev pub ReadFrom : List Item → ℕ → Type 0
ReadFrom xs i = (AllRead (drop i xs) → AllRead xs) × (AllRead xs → AllRead (drop i xs))

pub read_inst : (xs : List Item) (i : ℕ) (d : Item) (x : Inst) → i < length xs → get_or xs i d ≡ Item.Inst x → IsReading x → ReadFrom xs i → ReadFrom xs (i + 1)
read_inst xs i d x lt e r inv =
    let q = rest_inst xs i d x lt e in
    ((λ a. inv.0 (subst AllRead (sym q) (r, a))), (λ a. (subst AllRead q (inv.1 a)).1))

pub read_note : (xs : List Item) (i : ℕ) (d : Item) (x : UnwindInst) → i < length xs → get_or xs i d ≡ Item.Note x → ReadFrom xs i → ReadFrom xs (i + 1)
read_note xs i d x lt e inv =
    let q = rest_note xs i d x lt e in
    ((λ a. inv.0 (subst AllRead (sym q) a)), (λ a. subst AllRead q (inv.1 a)))

pub read_not : (xs : List Item) (i : ℕ) (d : Item) (x : Inst) → i < length xs → get_or xs i d ≡ Item.Inst x → (IsReading x → ⊥) → ReadFrom xs i → AllRead xs → ⊥
read_not xs i d x lt e r inv a = r (subst AllRead (rest_inst xs i d x lt e) (inv.1 a)).0

pub read_all : (xs : List Item) (i : ℕ) → length xs ≤ i → ReadFrom xs i → AllRead xs
read_all xs i le inv = inv.0 (subst AllRead (sym (drop_all i xs le)) tt)

-- the price of the rest, one by one
pub cost_rest_inst : (p : Prices) (xs : List Item) (i : ℕ) (d : Item) (x : Inst) → i < length xs → get_or xs i d ≡ Item.Inst x →
    cost_of p (drop i xs) ≡ p.inst + cost_of p (drop (i + 1) xs)
cost_rest_inst p xs i d x lt e = ap (cost_of p) (rest_inst xs i d x lt e) ∙ cost_inst p x (drop (i + 1) xs)

pub cost_rest_note : (p : Prices) (xs : List Item) (i : ℕ) (d : Item) (x : UnwindInst) → i < length xs → get_or xs i d ≡ Item.Note x →
    cost_of p (drop i xs) ≡ p.note + cost_of p (drop (i + 1) xs)
cost_rest_note p xs i d x lt e = ap (cost_of p) (rest_note xs i d x lt e) ∙ cost_note p x (drop (i + 1) xs)

pub cost_rest_none : (p : Prices) (xs : List Item) (i : ℕ) → length xs ≤ i → cost_of p (drop i xs) ≡ 0
cost_rest_none p xs i le = ap (cost_of p) (drop_all i xs le) ∙ cost_nil p

all_drop : (i : ℕ) (xs : List Item) → AllRead xs → AllRead (drop i xs)
all_drop zero xs a = a
all_drop (suc i) [] a = a
all_drop (suc i) (Item.Inst x ∷ xs) a = all_drop i xs a.1
all_drop (suc i) (Item.Note x ∷ xs) a = all_drop i xs a

-- an instruction of the list is a reading
pub read_at : (xs : List Item) (i : ℕ) (d : Item) (x : Inst) → i < length xs → get_or xs i d ≡ Item.Inst x → AllRead xs → IsReading x
read_at xs i d x lt e a = (subst AllRead (rest_inst xs i d x lt e) (all_drop i xs a)).0

cost_split : (p : Prices) (xs : List Item) (i : ℕ) → cost_of p xs ≡ cost_of p (take i xs) + cost_of p (drop i xs)
cost_split p xs i = ap (cost_of p) (sym (take-append-drop i xs)) ∙ cost_append p (take i xs) (drop i xs)

-- where the whole price is within the room, so is the next one's after the first i
pub inst_fits : (p : Prices) (h k : Held) (xs : List Item) (i : ℕ) (d : Item) (x : Inst) → i < length xs → get_or xs i d ≡ Item.Inst x →
    cost_of p xs ≤ h.room → k ≡ with_items p h (take i xs) → p.inst ≤ k.room
inst_fits p h k xs i d x lt e fits inv =
    let r : k.room ≡ h.room - cost_of p (take i xs) = ap (λ (m : Held). m.room) inv in
    omega (arith, cost_split p xs i, cost_rest_inst p xs i d x lt e)

pub note_fits : (p : Prices) (h k : Held) (xs : List Item) (i : ℕ) (d : Item) (x : UnwindInst) → i < length xs → get_or xs i d ≡ Item.Note x →
    cost_of p xs ≤ h.room → k ≡ with_items p h (take i xs) → p.note ≤ k.room
note_fits p h k xs i d x lt e fits inv =
    let r : k.room ≡ h.room - cost_of p (take i xs) = ap (λ (m : Held). m.room) inv in
    omega (arith, cost_split p xs i, cost_rest_note p xs i d x lt e)

-- the first i items and then the next
pub inst_put : (p : Prices) (h k m : Held) (xs : List Item) (i : ℕ) (d : Item) (x : Inst) → i < length xs → get_or xs i d ≡ Item.Inst x →
    k ≡ with_items p h (take i xs) → m ≡ with_inst p.inst k x → m ≡ with_items p h (take (i + 1) xs)
inst_put p h k m xs i d x lt e inv put =
    put ∙ ap (λ (z : Held). with_inst p.inst z x) inv ∙ with_code p (with_items p h (take i xs)) x
    ∙ sym (with_append p h (take i xs) (Item.Inst x ∷ []))
    ∙ ap (with_items p h) (sym (take_more xs i d lt ∙ ap (λ (y : Item). take i xs ++ y ∷ []) e))

pub note_put : (p : Prices) (h k m : Held) (xs : List Item) (i : ℕ) (d : Item) (x : UnwindInst) → i < length xs → get_or xs i d ≡ Item.Note x →
    k ≡ with_items p h (take i xs) → m ≡ with_note p.note k x → m ≡ with_items p h (take (i + 1) xs)
note_put p h k m xs i d x lt e inv put =
    put ∙ ap (λ (z : Held). with_note p.note z x) inv ∙ with_mark p (with_items p h (take i xs)) x
    ∙ sym (with_append p h (take i xs) (Item.Note x ∷ []))
    ∙ ap (with_items p h) (sym (take_more xs i d lt ∙ ap (λ (y : Item). take i xs ++ y ∷ []) e))

pub all_put : (p : Prices) (h k : Held) (xs : List Item) (i : ℕ) → length xs ≤ i → k ≡ with_items p h (take i xs) → k ≡ with_items p h xs
all_put p h k xs i le inv = inv ∙ ap (with_items p h) (take_all i xs le)

-- neither row of a refused instruction applies to a reading that there is room for
pub not_refused : (x : Inst) (room price : ℕ) (e : Refusal) → IsReading x → price ≤ room →
    ((IsReading x → ⊥) × (told e ≡ unread)) ⊎ (IsReading x × (room < price) × (told e ≡ no_room_of room)) → ⊥
not_refused x room price e r le (inl p) = p.0 r
not_refused x room price e r le (inr q) = omega (arith, q.1)

-- ---- what others build on

pub all_append : (a b : List Item) → AllRead a → AllRead b → AllRead (a ++ b)
all_append [] b p q = q
all_append (Item.Inst x ∷ a) b p q = (p.0, all_append a b p.1 q)
all_append (Item.Note x ∷ a) b p q = all_append a b p q

-- where every instruction is a reading, items are refused exactly for want of room
abbrev pub PutRead : Prices → Held → List Item → Held → Result Unit Refusal → Type 0
PutRead p old xs new r =
    MatchResult r (λ _. (cost_of p xs ≤ old.room) × (new ≡ with_items p old xs)) (λ e. (old.room < cost_of p xs) × (new ≡ old) × (told e ≡ no_room_of old.room))

refused_read : (p : Prices) (old : Held) (xs : List Item) (new : Held) (e : Refusal) → AllRead xs →
    (new ≡ old) × (((AllRead xs → ⊥) × (told e ≡ unread)) ⊎ (AllRead xs × (old.room < cost_of p xs) × (told e ≡ no_room_of old.room))) →
    (old.room < cost_of p xs) × (new ≡ old) × (told e ≡ no_room_of old.room)
refused_read p old xs new e a q =
    elim q.1 [ inl l ↦ absurd (l.0 a) | inr l ↦ (l.1, q.0, l.2) ]

pub put_read : (p : Prices) (old : Held) (xs : List Item) (new : Held) (r : Result Unit Refusal) → AllRead xs → PutItems p old xs new r → PutRead p old xs new r
put_read p old xs new (Ok x) a q = (q.1, q.2)
put_read p old xs new (Err e) a q = refused_read p old xs new e a q
