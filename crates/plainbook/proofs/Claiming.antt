-- The claims of each held function.
use Rattle.std.proofs.Common.{◌≡◌, ℕ, zero, suc, ◌+◌, List, [], ◌∷◌, ◌++◌, map, length, take, drop, Some, None, Option, sym, refl, ap, ◌∙◌, subst, append_assoc, append-nil, arith}
use Rattle.std.specs.List.{AllByRecursion}
use Rattle.std.proofs.lemmas.List.{take_at, drop_at}
use Rattle.a64.specs.declared.inst.Inst.{Inst}
use Rattle.item_list.specs.Items.{code}
use Rattle.frame.specs.Pieces.{prologue, epilogue, gen_clobber_restore_of, gen_epilogue_frame_restore_of, gen_return_of}
use Rattle.machine.specs.Machine.{State, Core, at, returned, Comes}
use Rattle.returns.proofs.Counts.{one_note_each}
use Rattle.returns.proofs.Framed.{frame_noted}
use Rattle.returns.proofs.Lands.{lands}
use Rattle.returns.proofs.Notes.{each_notes_hold}
use Rattle.returns.proofs.Sheets as sheets
use Rattle.returns.proofs.Trees.{each_tree_returns}
use Rattle.returns.specs.Notes.{EachNote, Holds, downward, note_count, pushes, defines, total}
use Rattle.returns.specs.Premises.{Body, Lawful, last}
use Rattle.returns.specs.Returns.{CameBack, opens, closes, standing}
use Rattle.returns.specs.Trees.{Fun as Placed, Stands as StandsIn}
use Rattle.sheet.specs.Accepted.{Accepted}
use Rattle.sheet.specs.Plain.{PlainSheet}
use Rattle.shelf.specs.Slots.{item_at}
use Rattle.shelf.specs.declared.entry.Entry.{Entry as Listed}
use Rattle.sink.proofs.Items.{insts_append, notes_append, length_notes, length_insts_append, marks_append}
use Rattle.sink.specs.Held.{Held, Prices}
use Rattle.sink.specs.Items.{insts_in, notes_from, marks_in}
use Rattle.notes.specs.declared.Note.{Note}
use Rattle.plainbook.specs.Plain.{Fun, reading_of, body_of, items_of, all_items}
use Rattle.plainbook.specs.Stands.{Stands, PlainEntry, plain_entry, entry_of, entries_from}
use Rattle.plainbook.specs.Claims.{HeldAt, placed, own_notes, ReturnsIn, LandsIn, TreesIn, NotesIn, OnceIn, FramedIn, Claimed, Shown}
use Rattle.plainbook.proofs.Pieces.{items_are}
use Rattle.plainbook.proofs.Reading.{item_none}
use Rattle.plainbook.proofs.Standing.{all_items_append, listed_many}
use Rattle.std.proofs.lemmas.Option.{slice_get_past}

-- ---- where the code stands

insts_body : (ws : List ℕ) → insts_in (body_of ws) ≡ map reading_of ws
insts_body [] = refl
insts_body (w ∷ ws) = ap (λ (xs : List Inst). reading_of w ∷ xs) (insts_body ws)

insts_of : (f : Fun) → insts_in (items_of f) ≡ opens f.sheet ++ (map reading_of f.body ++ closes f.sheet)
insts_of f =
    ap insts_in (items_are f.sheet f.body)
    ∙ insts_append (prologue f.sheet) (body_of f.body ++ epilogue f.sheet)
    ∙ ap (λ (xs : List Inst). opens f.sheet ++ xs) (insts_append (body_of f.body) (epilogue f.sheet))
    ∙ ap (λ (xs : List Inst). opens f.sheet ++ (xs ++ closes f.sheet)) (insts_body f.body)

-- what stands in front, the function, and what stands behind
split_items : (fs front rest : List Fun) (f : Fun) → fs ≡ front ++ f ∷ rest → all_items fs ≡ all_items front ++ (items_of f ++ all_items rest)
split_items fs front rest f e = ap all_items e ∙ all_items_append front (f ∷ rest)

code_text : (fs front rest : List Fun) (f : Fun) → fs ≡ front ++ f ∷ rest →
    insts_in (all_items fs) ≡ standing f.sheet (map reading_of f.body) (insts_in (all_items front)) (insts_in (all_items rest))
code_text fs front rest f e =
    ap insts_in (split_items fs front rest f e)
    ∙ insts_append (all_items front) (items_of f ++ all_items rest)
    ∙ ap (λ (xs : List Inst). insts_in (all_items front) ++ xs)
    (insts_append (items_of f) (all_items rest)
    ∙ ap (λ (xs : List Inst). xs ++ insts_in (all_items rest)) (insts_of f)
    ∙ append_assoc (opens f.sheet) (map reading_of f.body ++ closes f.sheet) (insts_in (all_items rest))
    ∙ ap (λ (xs : List Inst). opens f.sheet ++ xs) (append_assoc (map reading_of f.body) (closes f.sheet) (insts_in (all_items rest))))

accepted_at : (front rest : List Fun) (f : Fun) → AllByRecursion (λ (g : Fun). Accepted g.sheet) (front ++ f ∷ rest) → Accepted f.sheet
accepted_at [] rest f a = a.0
accepted_at (g ∷ front) rest f a = accepted_at front rest f a.1

stands_in : (p : Prices) (r : ℕ) (h : Held) (es : List Listed) (fs : List Fun) (f : Fun) (start from : ℕ) → Stands p r h es fs → HeldAt fs f start from →
    StandsIn h.insts (placed f start)
stands_in p r h es fs f start from s w = record {
  before = insts_in (all_items w.front);
  behind = insts_in (all_items w.rest);
  place = sym w.place;
  text = ap (λ (t : Held). t.insts) s.means ∙ code_text fs w.front w.rest f w.split;
  accepted = accepted_at w.front w.rest f (subst (AllByRecursion (λ (g : Fun). Accepted g.sheet)) w.split s.accepted);
}

-- ---- (a) and (b)

abbrev Back : Core → PlainSheet → List Inst → State → List Inst → ℕ → Type 0
Back k h words e text n =
    (s : State)
    × Comes k text (at n e) (at (n + length (opens h)) s)
    × ((body : List State) → Body h s body
    → (u : State)
    × Comes k text (at (n + length (opens h) + length words) (last s body)) (returned (e.x 30) u)
    × CameBack h e u)

returns_in : (text : List Inst) (g : Placed) → StandsIn text g → ReturnsIn text g
returns_in text g st k e law entry =
    let back : Back k g.sheet g.words e (standing g.sheet g.words st.before st.behind) (length st.before) =
    sheets.returns k g.sheet g.words st.before st.behind e law st.accepted entry in
    subst (Back k g.sheet g.words e text) st.place
    (subst (λ (c : List Inst). Back k g.sheet g.words e c (length st.before)) (sym st.text) back)

item_behind : (xs ys : List Inst) (i : Inst) (n : ℕ) → length xs ≡ n → item_at (xs ++ i ∷ ys) n ≡ Some i
item_behind xs ys i n e = ap (item_at (xs ++ i ∷ ys)) (sym e) ∙ go xs
  where
    go : (zs : List Inst) → item_at (zs ++ i ∷ ys) (length zs) ≡ Some i
    go [] = refl
    go (z ∷ zs) = go zs

lands_in : (text : List Inst) (g : Placed) → StandsIn text g → LandsIn text g
lands_in text g st bti =
    let l = lands g.sheet bti in (
      l.0,
      ap (λ (c : List Inst). item_at c g.place) st.text
          ∙ ap (λ (c : List Inst). item_at (st.before ++ (c ++ (g.words ++ (closes g.sheet ++ st.behind)))) g.place) l.2
          ∙ item_behind st.before (l.1 ++ (g.words ++ (closes g.sheet ++ st.behind))) l.0 g.place st.place,
      l.3,
    )

trees_in : (text : List Inst) (g : Placed) → StandsIn text g → TreesIn text g
trees_in text g st k low e tree law entry le = each_tree_returns k text low g e tree law st entry le

-- ---- (c)

notes_code : (n : ℕ) (is : List Inst) → notes_from n (code is) ≡ []
notes_code n [] = refl
notes_code n (i ∷ is) = notes_code (n + 1) is

notes_epilogue : (n : ℕ) (h : PlainSheet) → notes_from n (epilogue h) ≡ []
unfolding epilogue
notes_epilogue n h = notes_code n (gen_clobber_restore_of h ++ (gen_epilogue_frame_restore_of h ++ gen_return_of h))

notes_body : (n : ℕ) (ws : List ℕ) → notes_from n (body_of ws) ≡ []
notes_body n [] = refl
notes_body n (w ∷ ws) = notes_body (n + 1) ws

-- a function's notes are its prologue's
notes_of : (n : ℕ) (f : Fun) → notes_from n (items_of f) ≡ notes_from n (prologue f.sheet)
notes_of n f =
    ap (notes_from n) (items_are f.sheet f.body)
    ∙ notes_append n (prologue f.sheet) (body_of f.body ++ epilogue f.sheet)
    ∙ ap (λ (xs : List Note). notes_from n (prologue f.sheet) ++ xs)
    (notes_append (n + length (opens f.sheet)) (body_of f.body) (epilogue f.sheet)
    ∙ ap (λ (xs : List Note). xs ++ notes_from (n + length (opens f.sheet) + length (insts_in (body_of f.body))) (epilogue f.sheet)) (notes_body (n + length (opens f.sheet)) f.body)
    ∙ notes_epilogue (n + length (opens f.sheet) + length (insts_in (body_of f.body))) f.sheet)
    ∙ append-nil (notes_from n (prologue f.sheet))

-- the function's own part of the notes
own_notes_are : (p : Prices) (r : ℕ) (h : Held) (es : List Listed) (fs : List Fun) (f : Fun) (start from : ℕ) → Stands p r h es fs → HeldAt fs f start from →
    own_notes h.notes f from ≡ notes_from start (prologue f.sheet)
own_notes_are p r h es fs f start from s w =
    let n0 : h.notes ≡ notes_from 0 (all_items fs) = ap (λ (t : Held). t.notes) s.means in
    let n1 : notes_from 0 (all_items fs) ≡ notes_from 0 (all_items w.front) ++ notes_from (0 + length (insts_in (all_items w.front))) (items_of f ++ all_items w.rest) =
    ap (notes_from 0) (split_items fs w.front w.rest f w.split) ∙ notes_append 0 (all_items w.front) (items_of f ++ all_items w.rest) in
    let z : 0 + length (insts_in (all_items w.front)) ≡ start = (let q = w.place in omega arith) in
    let n2 : notes_from (0 + length (insts_in (all_items w.front))) (items_of f ++ all_items w.rest) ≡ notes_from start (items_of f) ++ notes_from (start + length (insts_in (items_of f))) (all_items w.rest) =
    ap (λ (i : ℕ). notes_from i (items_of f ++ all_items w.rest)) z ∙ notes_append start (items_of f) (all_items w.rest) in
    let l : length (notes_from 0 (all_items w.front)) ≡ from = length_notes 0 (all_items w.front) ∙ sym w.notes_place in
    let d : drop from h.notes ≡ notes_from start (items_of f) ++ notes_from (start + length (insts_in (items_of f))) (all_items w.rest) =
    ap (drop from) (n0 ∙ n1)
    ∙ drop_at (notes_from 0 (all_items w.front)) (notes_from (0 + length (insts_in (all_items w.front))) (items_of f ++ all_items w.rest)) from l
    ∙ n2 in
    ap (take (marks_in (items_of f))) d
    ∙ take_at (notes_from start (items_of f)) (notes_from (start + length (insts_in (items_of f))) (all_items w.rest)) (marks_in (items_of f)) (length_notes start (items_of f))
    ∙ notes_of start f

abbrev True : Core → PlainSheet → State → List Inst → ℕ → List Note → Type 0
True k h e text n notes =
    (s : State)
    × Comes k text (at n e) (at (n + length (opens h)) s)
    × ((t : State) → Lawful h s t → EachNote (Holds k h e t (downward notes)) notes)

notes_in : (text : List Inst) (notes : List Note) (g : Placed) → StandsIn text g → notes ≡ notes_from g.place (prologue g.sheet) → NotesIn text notes g
notes_in text notes g st ne k e law entry =
    let hold : True k g.sheet e (standing g.sheet g.words st.before st.behind) (length st.before) (notes_from g.place (prologue g.sheet)) =
    each_notes_hold k g.sheet g.words st.before st.behind e g.place law st.accepted entry in
    subst (True k g.sheet e text g.place) (sym ne)
    (subst (λ (n : ℕ). True k g.sheet e text n (notes_from g.place (prologue g.sheet))) st.place
    (subst (λ (c : List Inst). True k g.sheet e c (length st.before) (notes_from g.place (prologue g.sheet))) (sym st.text) hold))

once_in : (notes : List Note) (g : Placed) → Accepted g.sheet → notes ≡ notes_from g.place (prologue g.sheet) → OnceIn notes g
once_in notes g acc ne c on = ap (note_count c) ne ∙ one_note_each g.sheet g.place c acc on

framed_in : (notes : List Note) (g : Placed) → notes ≡ notes_from g.place (prologue g.sheet) → FramedIn notes g
framed_in notes g ne on up =
    let f = frame_noted g.sheet g.place on up in
    (ap (total pushes) ne ∙ f.0, ap (total defines) ne ∙ f.1)

-- ---- all of them

pub claimed : (p : Prices) (r : ℕ) (h : Held) (es : List Listed) (fs : List Fun) → Stands p r h es fs →
    (f : Fun) (start from : ℕ) → HeldAt fs f start from → Claimed h f start from
claimed p r h es fs s f start from w =
    let st : StandsIn h.insts (placed f start) = stands_in p r h es fs f start from s w in
    let own : own_notes h.notes f from ≡ notes_from start (prologue f.sheet) = own_notes_are p r h es fs f start from s w in
    record {
      stands = st;
      returns = returns_in h.insts (placed f start) st;
      lands = lands_in h.insts (placed f start) st;
      trees = trees_in h.insts (placed f start) st;
      notes = notes_in h.insts (own_notes h.notes f from) (placed f start) st own;
      once = once_in (own_notes h.notes f from) (placed f start) st.accepted own;
      framed = framed_in (own_notes h.notes f from) (placed f start) own;
    }

-- ---- by slot

at_slot : (fs : List Fun) (k : ℕ) (f : Fun) → item_at fs k ≡ Some f → (front : List Fun) × (rest : List Fun) × (fs ≡ front ++ f ∷ rest) × (length front ≡ k)
at_slot [] k f e = let z : ◌≡◌ {A = ℕ} 0 1 = cc in absurd (omega arith)
at_slot (g ∷ fs) zero f e = let q : g ≡ f = cc in ([], fs, ap (λ (x : Fun). x ∷ fs) q, refl)
at_slot (g ∷ fs) (suc k) f e = let r = at_slot fs k f e in (g ∷ r.0, r.1, ap (λ (xs : List Fun). g ∷ xs) r.2, ap suc r.3)

entry_of_slot : (i n : ℕ) (front : List Fun) (f : Fun) (rest : List Fun) →
    item_at (entries_from i n (front ++ f ∷ rest)) (length front) ≡ Some (entry_of (i + length (insts_in (all_items front))) (n + marks_in (all_items front)) f)
entry_of_slot i n [] f rest =
    let a : i ≡ i + 0 = omega arith in
    let b : n ≡ n + 0 = omega arith in
    cc
entry_of_slot i n (g ∷ front) f rest =
    let ih = entry_of_slot (i + length (insts_in (items_of g))) (n + marks_in (items_of g)) front f rest in
    let a : i + length (insts_in (items_of g)) + length (insts_in (all_items front)) ≡ i + length (insts_in (items_of g ++ all_items front)) =
    omega (arith, length_insts_append (items_of g) (all_items front)) in
    let b : n + marks_in (items_of g) + marks_in (all_items front) ≡ n + marks_in (items_of g ++ all_items front) =
    omega (arith, marks_append (items_of g) (all_items front)) in
    cc

item_map : (es : List Listed) (k : ℕ) (y : PlainEntry) → item_at (map plain_entry es) k ≡ Some y → (e : Listed) × (item_at es k ≡ Some e) × (plain_entry e ≡ y)
item_map [] k y q = let z : ◌≡◌ {A = ℕ} 0 1 = cc in absurd (omega arith)
item_map (e ∷ es) zero y q = (e, refl, let z : plain_entry e ≡ y = cc in z)
item_map (e ∷ es) (suc k) y q = item_map es k y q

pub shown : (p : Prices) (r : ℕ) (h : Held) (es : List Listed) (fs : List Fun) (k : ℕ) (o : Option Listed) → Stands p r h es fs → o ≡ item_at es k → Shown h (item_at fs k) o
shown p r h es fs k o s oe = go (item_at fs k) refl
  where
    go : (q : Option Fun) → item_at fs k ≡ q → Shown h q o
    go None e =
        let l = item_none fs k (sym e) in
        let m = listed_many es fs s.lists in
        oe ∙ slice_get_past es k (omega arith)
    go (Some f) e =
        let w = at_slot fs k f e in
        let q : item_at (map plain_entry es) k ≡ Some (entry_of (0 + length (insts_in (all_items w.0))) (0 + marks_in (all_items w.0)) f) =
        ap (λ (xs : List PlainEntry). item_at xs k) (s.lists ∙ ap (entries_from 0 0) w.2)
        ∙ ap (item_at (entries_from 0 0 (w.0 ++ f ∷ w.1))) (sym w.3) ∙ entry_of_slot 0 0 w.0 f w.1 in
        let x = item_map es k _ q in
        let a : x.0.start ≡ 0 + length (insts_in (all_items w.0)) = ap (λ (y : PlainEntry). y.start) x.2 in
        let b : x.0.notes_start ≡ 0 + marks_in (all_items w.0) = ap (λ (y : PlainEntry). y.notes_start) x.2 in (
          x.0,
          oe ∙ x.1,
          x.2 ∙ ap (λ (i : ℕ). entry_of i (0 + marks_in (all_items w.0)) f) (sym a) ∙ ap (λ (n : ℕ). entry_of x.0.start n f) (sym b),
          claimed p r h es fs s f x.0.start x.0.notes_start
              (record { front = w.0; rest = w.1; split = w.2; place = omega arith; notes_place = omega arith }),
        )
