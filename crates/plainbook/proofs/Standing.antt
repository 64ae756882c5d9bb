-- From one standing to the next.
use Rattle.std.proofs.Common.{◌≡◌, ℕ, suc, ◌+◌, ◌-◌, ◌≤◌, List, [], ◌∷◌, ◌++◌, map, length, get_or, take, Some, None, Ok, Err, Result, sym, refl, ap, ◌∙◌, subst, append_assoc, append-nil, arith}
use Rattle.std.specs.List.{AllByRecursion}
use Rattle.std.proofs.lemmas.List.{length-map, length_push, take_at, take-map, get_or_push, get_or-map}
use Rattle.refusal.specs.Told.{Told}
use Rattle.sheet.specs.Accepted.{Accepted}
use Rattle.shelf.specs.Slots.{item_at, numbers_of}
use Rattle.shelf.specs.declared.entry.Entry.{Entry}
use Rattle.sink.proofs.Items.{length_insts_append, marks_append, cost_append, with_append, length_notes, no_stray, late_with, rewound_with}
use Rattle.sink.specs.Held.{Held, Prices, rewound, stray, late}
use Rattle.sink.specs.Items.{insts_in, notes_from, marks_in, cost_of, with_items}
use Rattle.sink.specs.declared.item.Item.{Item}
use Rattle.plainbook.specs.Refusals.{empty}
use Rattle.plainbook.specs.Plain.{Fun, items_of, all_items, numbers, meant, nothing, last_of, front_of, plain_withdraw, withdrawn}
use Rattle.plainbook.specs.Stands.{Stands, PlainEntry, plain_entry, entry_of, entries_from}
use Rattle.plainbook.proofs.Reading.{item_some, item_none}

-- ---- one more function

pub all_items_append : (fs gs : List Fun) → all_items (fs ++ gs) ≡ all_items fs ++ all_items gs
all_items_append [] gs = refl
all_items_append (f ∷ fs) gs =
    ap (λ (xs : List Item). items_of f ++ xs) (all_items_append fs gs) ∙ sym (append_assoc (items_of f) (all_items fs) (all_items gs))

all_snoc : (fs : List Fun) (f : Fun) → all_items (fs ++ f ∷ []) ≡ all_items fs ++ items_of f
all_snoc fs f = all_items_append fs (f ∷ []) ∙ ap (λ (xs : List Item). all_items fs ++ xs) (append-nil (items_of f))

pub meant_snoc : (p : Prices) (r : ℕ) (fs : List Fun) (f : Fun) → meant p r (fs ++ f ∷ []) ≡ with_items p (meant p r fs) (items_of f)
meant_snoc p r fs f =
    ap (λ (xs : List Item). with_items p (nothing r) xs) (all_snoc fs f) ∙ with_append p (nothing r) (all_items fs) (items_of f)

pub cost_snoc : (p : Prices) (fs : List Fun) (f : Fun) → cost_of p (all_items (fs ++ f ∷ [])) ≡ cost_of p (all_items fs) + cost_of p (items_of f)
cost_snoc p fs f = ap (cost_of p) (all_snoc fs f) ∙ cost_append p (all_items fs) (items_of f)

pub entries_snoc : (i n : ℕ) (fs : List Fun) (f : Fun) →
    entries_from i n (fs ++ f ∷ []) ≡ entries_from i n fs ++ entry_of (i + length (insts_in (all_items fs))) (n + marks_in (all_items fs)) f ∷ []
entries_snoc i n [] f =
    let a : i ≡ i + 0 = omega arith in
    let b : n ≡ n + 0 = omega arith in
    cc
entries_snoc i n (g ∷ fs) f =
    let ih = entries_snoc (i + length (insts_in (items_of g))) (n + marks_in (items_of g)) fs f in
    let a : i + length (insts_in (items_of g)) + length (insts_in (all_items fs)) ≡ i + length (insts_in (items_of g ++ all_items fs)) =
    omega (arith, length_insts_append (items_of g) (all_items fs)) in
    let b : n + marks_in (items_of g) + marks_in (all_items fs) ≡ n + marks_in (items_of g ++ all_items fs) =
    omega (arith, marks_append (items_of g) (all_items fs)) in
    cc

length_entries : (i n : ℕ) (fs : List Fun) → length (entries_from i n fs) ≡ length fs
length_entries i n [] = refl
length_entries i n (f ∷ fs) = ap suc (length_entries (i + length (insts_in (items_of f))) (n + marks_in (items_of f)) fs)

-- as many are listed as are held
pub listed_many : (es : List Entry) (fs : List Fun) → map plain_entry es ≡ entries_from 0 0 fs → length es ≡ length fs
listed_many es fs e = sym (length-map es plain_entry) ∙ ap length e ∙ length_entries 0 0 fs

number_of : PlainEntry → ℕ
number_of e = e.sheet.number

numbers_map : (es : List Entry) → numbers_of es ≡ map (λ (e : PlainEntry). e.sheet.number) (map plain_entry es)
numbers_map [] = refl
numbers_map (e ∷ es) = ap (λ (ns : List ℕ). e.sheet.number ∷ ns) (numbers_map es)

numbers_from : (i n : ℕ) (fs : List Fun) → map (λ (e : PlainEntry). e.sheet.number) (entries_from i n fs) ≡ numbers fs
numbers_from i n [] = refl
numbers_from i n (f ∷ fs) = ap (λ (ns : List ℕ). f.sheet.number ∷ ns) (numbers_from (i + length (insts_in (items_of f))) (n + marks_in (items_of f)) fs)

-- the listed numbers are those of the functions held
pub numbers_are : (es : List Entry) (i n : ℕ) (fs : List Fun) → map plain_entry es ≡ entries_from i n fs → numbers_of es ≡ numbers fs
numbers_are es i n fs e = numbers_map es ∙ ap (map (λ (x : PlainEntry). x.sheet.number)) e ∙ numbers_from i n fs

all_front : (fs gs : List Fun) → AllByRecursion (λ (f : Fun). Accepted f.sheet) (fs ++ gs) → AllByRecursion (λ (f : Fun). Accepted f.sheet) fs
all_front [] gs a = tt
all_front (f ∷ fs) gs a = (a.0, all_front fs gs a.1)

front_last : (f : Fun) (fs : List Fun) → f ∷ fs ≡ front_of f fs ++ last_of f fs ∷ []
front_last f [] = refl
front_last f (g ∷ gs) = ap (λ (xs : List Fun). f ∷ xs) (front_last g gs)

-- ---- withdrawing the last

-- a book that stands for q and then f, and lists e last
record Ends (p : Prices) (r : ℕ) (h : Held) (es : List Entry) (q : List Fun) (f : Fun) (e : Entry) : Type 0 where
  means : h ≡ with_items p (meant p r q) (items_of f)
  fits : cost_of p (all_items q) + cost_of p (items_of f) ≤ r
  lists : map plain_entry (take (length es - 1) es) ≡ entries_from 0 0 q
  entry : plain_entry e ≡ entry_of (length (insts_in (all_items q))) (marks_in (all_items q)) f
  accepted : AllByRecursion (λ (g : Fun). Accepted g.sheet) q

ends : (p : Prices) (r : ℕ) (h : Held) (es : List Entry) (q : List Fun) (f : Fun) (e : Entry) →
    Stands p r h es (q ++ f ∷ []) → Some e ≡ item_at es (length es - 1) → Ends p r h es q f e
ends p r h es q f e s at =
    let x : PlainEntry = entry_of (length (insts_in (all_items q))) (marks_in (all_items q)) f in
    let z1 : 0 + length (insts_in (all_items q)) ≡ length (insts_in (all_items q)) = omega arith in
    let z2 : 0 + marks_in (all_items q) ≡ marks_in (all_items q) = omega arith in
    let l0 = entries_snoc 0 0 q f in
    let sl = s.lists in
    let l1 : map plain_entry es ≡ entries_from 0 0 q ++ entry_of (length (insts_in (all_items q))) (marks_in (all_items q)) f ∷ [] = cc in
    let le : length es ≡ length (entries_from 0 0 q) + 1 =
    sym (length-map es plain_entry) ∙ ap length l1 ∙ length_push (entries_from 0 0 q) (entry_of (length (insts_in (all_items q))) (marks_in (all_items q)) f) in
    let here = item_some es (length es - 1) e e at in
    let lq : length (entries_from 0 0 q) ≡ length es - 1 = omega arith in
    let g1 : get_or (map plain_entry es) (length es - 1) (plain_entry e) ≡ plain_entry (get_or es (length es - 1) e) =
    get_or-map plain_entry es (length es - 1) e (plain_entry e) here.0 in
    let g2 : get_or (entries_from 0 0 q ++ entry_of (length (insts_in (all_items q))) (marks_in (all_items q)) f ∷ []) (length es - 1) (plain_entry e) ≡ entry_of (length (insts_in (all_items q))) (marks_in (all_items q)) f =
    get_or_push (entries_from 0 0 q) (entry_of (length (insts_in (all_items q))) (marks_in (all_items q)) f) (plain_entry e) (length es - 1) lq in
    record {
      means = s.means ∙ meant_snoc p r q f;
      fits = let c = cost_snoc p q f in let t = s.fits in omega arith;
      lists = sym (take-map plain_entry (length es - 1) es) ∙ ap (take (length es - 1)) l1
          ∙ take_at (entries_from 0 0 q) (entry_of (length (insts_in (all_items q))) (marks_in (all_items q)) f ∷ []) (length es - 1) lq;
      entry = ap plain_entry (sym here.1) ∙ sym g1 ∙ ap (λ (xs : List PlainEntry). get_or xs (length es - 1) (plain_entry e)) l1 ∙ g2;
      accepted = all_front q (f ∷ []) s.accepted;
    }

ends_late : (p : Prices) (r : ℕ) (h : Held) (es : List Entry) (q : List Fun) (f : Fun) (e : Entry) → Ends p r h es q f e →
    late h e.start e.notes_start ≡ None
ends_late p r h es q f e s =
    let ln : length (notes_from 0 (all_items q)) ≡ marks_in (all_items q) = length_notes 0 (all_items q) in
    let ns : stray (length (insts_in (all_items q))) 0 (notes_from 0 (all_items q)) ≡ None = no_stray (length (insts_in (all_items q))) 0 0 (all_items q) (omega arith) in
    let l : late (with_items p (meant p r q) (items_of f)) (length (insts_in (all_items q))) (length (notes_from 0 (all_items q))) ≡ None =
    late_with p (meant p r q) (items_of f) ns in
    let a : e.start ≡ length (insts_in (all_items q)) = ap (λ (y : PlainEntry). y.start) s.entry in
    let mk : e.notes_start ≡ length (notes_from 0 (all_items q)) = ap (λ (y : PlainEntry). y.notes_start) s.entry ∙ sym ln in
    ap (λ (k : Held). late k e.start e.notes_start) s.means
    ∙ ap (λ (k : ℕ). late (with_items p (meant p r q) (items_of f)) k e.notes_start) a
    ∙ ap (λ (k : ℕ). late (with_items p (meant p r q) (items_of f)) (length (insts_in (all_items q))) k) mk
    ∙ l

ends_back : (p : Prices) (r : ℕ) (h : Held) (es : List Entry) (q : List Fun) (f : Fun) (e : Entry) → Ends p r h es q f e →
    rewound p h e.start e.notes_start ≡ meant p r q
ends_back p r h es q f e s =
    let t = s.fits in
    let ln : length (notes_from 0 (all_items q)) ≡ marks_in (all_items q) = length_notes 0 (all_items q) in
    let l = rewound_with p (meant p r q) (items_of f) (omega arith) in
    let a : e.start ≡ length (insts_in (all_items q)) = ap (λ (y : PlainEntry). y.start) s.entry in
    let mk : e.notes_start ≡ length (notes_from 0 (all_items q)) = ap (λ (y : PlainEntry). y.notes_start) s.entry ∙ sym ln in
    ap (λ (k : Held). rewound p k e.start e.notes_start) s.means
    ∙ ap (λ (k : ℕ). rewound p (with_items p (meant p r q) (items_of f)) k e.notes_start) a
    ∙ ap (λ (k : ℕ). rewound p (with_items p (meant p r q) (items_of f)) (length (insts_in (all_items q))) k) mk
    ∙ l

no_last : (es : List Entry) (e : Entry) → map plain_entry es ≡ [] → Some e ≡ item_at es (length es - 1) → ⊥
no_last es e l at =
    let here = item_some es (length es - 1) e e at in
    let z : length es ≡ 0 = sym (length-map es plain_entry) ∙ ap length l in
    omega arith

-- the rewind of a standing book's last function is never refused
pub rewinds : (p : Prices) (r : ℕ) (h : Held) (es : List Entry) (fs : List Fun) (e : Entry) →
    Stands p r h es fs → Some e ≡ item_at es (length es - 1) → late h e.start e.notes_start ≡ None
rewinds p r h es [] e s at = absurd (no_last es e s.lists at)
rewinds p r h es (g ∷ gs) e s at =
    ends_late p r h es (front_of g gs) (last_of g gs) e
    (ends p r h es (front_of g gs) (last_of g gs) e (subst (Stands p r h es) (front_last g gs) s) at)

pub withdrew : (p : Prices) (r : ℕ) (h h' : Held) (es es' : List Entry) (fs : List Fun) (e : Entry) →
    Stands p r h es fs → Some e ≡ item_at es (length es - 1) →
    h' ≡ rewound p h e.start e.notes_start → es' ≡ take (length es - 1) es →
    (◌≡◌ {A = Result ℕ Told} (Ok e.sheet.number) (plain_withdraw fs)) × Stands p r h' es' (withdrawn fs)
withdrew p r h h' es es' [] e s at hh ee = absurd (no_last es e s.lists at)
withdrew p r h h' es es' (g ∷ gs) e s at hh ee =
    let d = ends p r h es (front_of g gs) (last_of g gs) e (subst (Stands p r h es) (front_last g gs) s) at in
    let t = d.fits in (
      ap (λ (y : PlainEntry). Ok y.sheet.number) d.entry,
      record {
        means = hh ∙ ends_back p r h es (front_of g gs) (last_of g gs) e d;
        fits = omega arith;
        lists = ap (map plain_entry) ee ∙ d.lists;
        accepted = d.accepted;
      },
    )

-- a book with nothing listed stands for nothing
pub none_held : (p : Prices) (r : ℕ) (h : Held) (es : List Entry) (fs : List Fun) → Stands p r h es fs → None ≡ item_at es (length es - 1) →
    (◌≡◌ {A = Result ℕ Told} (Err empty) (plain_withdraw fs)) × Stands p r h es (withdrawn fs)
none_held p r h es [] s at = (refl, s)
none_held p r h es (f ∷ fs) s at =
    let n = item_none es (length es - 1) at in
    let l = listed_many es (f ∷ fs) s.lists in
    absurd (omega arith)
