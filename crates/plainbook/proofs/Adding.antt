-- The rows of an add, and what an accepted one makes of a standing book.
use Rattle.std.proofs.Common.{◌≡◌, ℕ, ◌+◌, ◌-◌, ◌<◌, ◌≤◌, Bool, true, false, cond, ltb, leb, List, [], ◌∷◌, ◌++◌, map, length, Some, None, Ok, Err, Option, Result, sym, refl, ap, ◌∙◌, subst, arith, MatchResult}
use Rattle.std.proofs.ByRecursion.{All-push}
use Rattle.std.proofs.lemmas.List.{length-map, map_push}
use Rattle.std.proofs.lemmas.Bool.{lt-ltb, le-ltb, le-leb, lt-leb, leb-false, ltb-false, or_from, or_left, or_right, or_parts, cond-true}
use Rattle.frame.specs.Pieces.{prologue, epilogue}
use Rattle.refusal.specs.Told.{Told, first, told}
use Rattle.refusal.specs.declared.Refusal.{Refusal}
use Rattle.sheet.specs.Accepted.{Accepted}
use Rattle.sheet.specs.Plain.{PlainSheet, plain_of}
use Rattle.sheet.specs.Refused.{refused}
use Rattle.sheet.specs.declared.types.Sheet.{Sheet}
use Rattle.shelf.specs.Limits.{function_count}
use Rattle.shelf.specs.Slots.{slot_for, numbers_of}
use Rattle.shelf.specs.declared.entry.Entry.{Entry}
use Rattle.sink.proofs.Items.{length_notes}
use Rattle.sink.specs.Held.{Held, Prices, no_room_of}
use Rattle.sink.specs.Items.{insts_in, marks_in, cost_of, with_items}
use Rattle.sink.specs.declared.item.Item.{Item}
use Rattle.plainbook.specs.Limits.{item_limit}
use Rattle.plainbook.specs.Refusals.{taken, full, taken_at, or_else, unless, said}
use Rattle.plainbook.specs.Answers.{sheet_refusal}
use Rattle.plainbook.specs.Plain.{Fun, fun, body_of, items_of, all_items, numbers, meant, is_full, why_not, plain_add, grown}
use Rattle.plainbook.specs.Stands.{Stands, PlainEntry, plain_entry, entry_of, entries_from}
use Rattle.plainbook.proofs.Pieces.{insts_fun, marks_fun, put_by}
use Rattle.plainbook.proofs.Standing.{numbers_are, listed_many, meant_snoc, cost_snoc, entries_snoc}

-- ---- the rows

choose : Option ℕ → Bool → Bool → ℕ → Option Told
choose o fl dear room =
    or_else (taken_at o) (first (record { applies = fl; answer = full } ∷ record { applies = dear; answer = no_room_of room } ∷ []))

chosen : (p : Prices) (h : Held) (ns : List ℕ) (f : Fun) (o : Option ℕ) (fl dear : Bool) →
    slot_for f.sheet.number ns ≡ o → is_full h ns f ≡ fl → ltb h.room (cost_of p (items_of f)) ≡ dear →
    why_not p h ns f ≡ choose o fl dear h.room
unfolding why_not choose
chosen p h ns f o fl dear a b c =
    ap (λ (x : Option ℕ). choose x (is_full h ns f) (ltb h.room (cost_of p (items_of f))) h.room) a
    ∙ ap (λ (x : Bool). choose o x (ltb h.room (cost_of p (items_of f))) h.room) b
    ∙ ap (λ (x : Bool). choose o fl x h.room) c

pub why_taken : (p : Prices) (h : Held) (ns : List ℕ) (f : Fun) (k : ℕ) → Some k ≡ slot_for f.sheet.number ns → why_not p h ns f ≡ Some (taken k)
unfolding choose
why_taken p h ns f k e = chosen p h ns f (Some k) _ _ (sym e) refl refl

pub why_full : (p : Prices) (h : Held) (ns : List ℕ) (f : Fun) → None ≡ slot_for f.sheet.number ns → is_full h ns f ≡ true → why_not p h ns f ≡ Some full
unfolding choose
why_full p h ns f e t = chosen p h ns f None true _ (sym e) t refl

pub why_dear : (p : Prices) (h : Held) (ns : List ℕ) (f : Fun) → None ≡ slot_for f.sheet.number ns → is_full h ns f ≡ false →
    h.room < cost_of p (items_of f) → why_not p h ns f ≡ Some (no_room_of h.room)
unfolding choose
why_dear p h ns f e t lt = chosen p h ns f None false true (sym e) t (lt-ltb _ _ lt)

pub why_none : (p : Prices) (h : Held) (ns : List ℕ) (f : Fun) → None ≡ slot_for f.sheet.number ns → is_full h ns f ≡ false →
    cost_of p (items_of f) ≤ h.room → why_not p h ns f ≡ None
unfolding choose
why_none p h ns f e t le = chosen p h ns f None false false (sym e) t (le-ltb _ _ le)

choose_none : (o : Option ℕ) (fl dear : Bool) (room : ℕ) → choose o fl dear room ≡ None → (fl ≡ false) × (dear ≡ false)
unfolding choose
choose_none (Some k) fl dear room e = let z : ◌≡◌ {A = ℕ} 0 1 = cc in (absurd (omega arith), absurd (omega arith))
choose_none None true dear room e = let z : ◌≡◌ {A = ℕ} 0 1 = cc in (absurd (omega arith), absurd (omega arith))
choose_none None false true room e = let z : ◌≡◌ {A = ℕ} 0 1 = cc in (absurd (omega arith), absurd (omega arith))
choose_none None false false room e = (refl, refl)

-- what is not refused fits
pub none_fits : (p : Prices) (h : Held) (ns : List ℕ) (f : Fun) → why_not p h ns f ≡ None → cost_of p (items_of f) ≤ h.room
none_fits p h ns f e =
    let q = choose_none _ _ _ _ (sym (chosen p h ns f _ _ _ refl refl refl) ∙ e) in
    ltb-false _ _ q.1

pub none_few : (p : Prices) (h : Held) (ns : List ℕ) (f : Fun) → why_not p h ns f ≡ None → length ns < function_count
none_few p h ns f e =
    let q = choose_none _ _ _ _ (sym (chosen p h ns f _ _ _ refl refl refl) ∙ e) in
    leb-false _ _ (or_parts _ _ q.0).0

-- ---- the limits, by what the code counts

pub full_count : (h : Held) (es : List Entry) (f : Fun) (n : ℕ) → n ≡ length es → function_count ≤ n → is_full h (numbers_of es) f ≡ true
full_count h es f n ne le =
    let l : length (numbers_of es) ≡ length es = length-map es (λ (e : Entry). e.sheet.number) in
    or_left _ _ (le-leb function_count (length (numbers_of es)) (omega arith))

insts_sum : (h : Held) (s : PlainSheet) (ws : List ℕ) (i a b : ℕ) → i ≡ length h.insts → a ≡ length (insts_in (prologue s)) → b ≡ length (insts_in (epilogue s)) →
    length h.insts + length (insts_in (items_of (fun s ws))) ≡ i + (a + (length ws + b))
insts_sum h s ws i a b ie ae be = omega (arith, insts_fun s ws)

marks_sum : (h : Held) (s : PlainSheet) (ws : List ℕ) (m a b : ℕ) → m ≡ length h.notes → a ≡ marks_in (prologue s) → b ≡ marks_in (epilogue s) →
    length h.notes + marks_in (items_of (fun s ws)) ≡ m + (a + (0 + b))
marks_sum h s ws m a b me ae be = omega (arith, marks_fun s ws)

pub full_insts : (h : Held) (ns : List ℕ) (s : PlainSheet) (ws : List ℕ) (i a b : ℕ) → i ≡ length h.insts → a ≡ length (insts_in (prologue s)) → b ≡ length (insts_in (epilogue s)) →
    ltb item_limit (i + (a + (length ws + b))) ≡ true → is_full h ns (fun s ws) ≡ true
full_insts h ns s ws i a b ie ae be t =
    or_right (leb function_count (length ns)) _ (or_left _ _ (ap (ltb item_limit) (insts_sum h s ws i a b ie ae be) ∙ t))

pub full_notes : (h : Held) (ns : List ℕ) (s : PlainSheet) (ws : List ℕ) (m a b : ℕ) → m ≡ length h.notes → a ≡ marks_in (prologue s) → b ≡ marks_in (epilogue s) →
    ltb item_limit (m + (a + (0 + b))) ≡ true → is_full h ns (fun s ws) ≡ true
full_notes h ns s ws m a b me ae be t =
    or_right (leb function_count (length ns)) _ (or_right (ltb item_limit (length h.insts + length (insts_in (items_of (fun s ws))))) _ (ap (ltb item_limit) (marks_sum h s ws m a b me ae be) ∙ t))

pub not_full : (h : Held) (es : List Entry) (s : PlainSheet) (ws : List ℕ) (n i a b m c d : ℕ) → n ≡ length es → n < function_count →
    i ≡ length h.insts → a ≡ length (insts_in (prologue s)) → b ≡ length (insts_in (epilogue s)) → ltb item_limit (i + (a + (length ws + b))) ≡ false →
    m ≡ length h.notes → c ≡ marks_in (prologue s) → d ≡ marks_in (epilogue s) → ltb item_limit (m + (c + (0 + d))) ≡ false → is_full h (numbers_of es) (fun s ws) ≡ false
not_full h es s ws n i a b m c d ne lt ie ae be fi me ce de fm =
    let l : length (numbers_of es) ≡ length es = length-map es (λ (e : Entry). e.sheet.number) in
    or_from _ _ (lt-leb function_count (length (numbers_of es)) (omega arith))
    (or_from _ _ (ap (ltb item_limit) (insts_sum h s ws i a b ie ae be) ∙ fi) (ap (ltb item_limit) (marks_sum h s ws m c d me ce de) ∙ fm))

-- ---- a standing book

pub sheet_refused : (s : Sheet) (o : Option Told) → refused s ≡ o → sheet_refusal s ≡ o
unfolding sheet_refusal
sheet_refused s o e = e

-- the real book's row is the plain book's
why_is : (p : Prices) (r : ℕ) (h : Held) (es : List Entry) (fs : List Fun) (f : Fun) → Stands p r h es fs →
    why_not p (meant p r fs) (numbers fs) f ≡ why_not p h (numbers_of es) f
why_is p r h es fs f s =
    ap (λ (x : Held). why_not p x (numbers fs) f) (sym s.means) ∙ ap (λ (ns : List ℕ). why_not p h ns f) (sym (numbers_are es 0 0 fs s.lists))

refused_by : (p : Prices) (r : ℕ) (h : Held) (es : List Entry) (fs : List Fun) (bad : Option Told) (f : Fun) (t u : Told) → Stands p r h es fs →
    or_else bad (why_not p (meant p r fs) (numbers fs) f) ≡ Some t → u ≡ t →
    (◌≡◌ {A = Result ℕ Told} (Err u) (plain_add p r fs bad f)) × Stands p r h es (grown fs f (plain_add p r fs bad f))
refused_by p r h es fs bad f t u s q e =
    let z : plain_add p r fs bad f ≡ Err t = ap (λ (o : Option Told). unless o (length fs)) q in
    (ap (λ (x : Told). Err x) e ∙ sym z, subst (λ (x : Result ℕ Told). Stands p r h es (grown fs f x)) (sym z) s)

-- a sheet that is refused by its own rows
pub add_bad : (p : Prices) (r : ℕ) (h : Held) (es : List Entry) (fs : List Fun) (sh : Sheet) (f : Fun) (e : Refusal) → Stands p r h es fs → refused sh ≡ Some (told e) →
    (◌≡◌ {A = Result ℕ Told} (Err (told e)) (plain_add p r fs (sheet_refusal sh) f)) × Stands p r h es (grown fs f (plain_add p r fs (sheet_refusal sh) f))
add_bad p r h es fs sh f e s q =
    refused_by p r h es fs (sheet_refusal sh) f (told e) (told e) s
    (ap (λ (o : Option Told). or_else o (why_not p (meant p r fs) (numbers fs) f)) (sheet_refused sh (Some (told e)) q)) refl

-- a function that the book refuses
pub add_refused : (p : Prices) (r : ℕ) (h : Held) (es : List Entry) (fs : List Fun) (sh : Sheet) (f : Fun) (e : Refusal) → Stands p r h es fs → refused sh ≡ None →
    why_not p h (numbers_of es) f ≡ Some (told e) →
    (◌≡◌ {A = Result ℕ Told} (Err (told e)) (plain_add p r fs (sheet_refusal sh) f)) × Stands p r h es (grown fs f (plain_add p r fs (sheet_refusal sh) f))
add_refused p r h es fs sh f e s n q =
    refused_by p r h es fs (sheet_refusal sh) f (told e) (told e) s
    (ap (λ (o : Option Told). or_else o (why_not p (meant p r fs) (numbers fs) f)) (sheet_refused sh None n) ∙ why_is p r h es fs f s ∙ q) refl

-- an accepted function
pub added : (p : Prices) (r : ℕ) (h h' : Held) (es es' : List Entry) (fs : List Fun) (sh : Sheet) (f : Fun) (e : Entry) (k : ℕ) → Stands p r h es fs →
    refused sh ≡ None → why_not p h (numbers_of es) f ≡ None → Accepted f.sheet → h' ≡ with_items p h (items_of f) →
    plain_entry e ≡ entry_of (length h.insts) (length h.notes) f → es' ≡ es ++ e ∷ [] → k ≡ length es →
    (◌≡◌ {A = Result ℕ Told} (Ok k) (plain_add p r fs (sheet_refusal sh) f)) × Stands p r h' es' (grown fs f (plain_add p r fs (sheet_refusal sh) f))
added p r h h' es es' fs sh f e k s n q acc hh ee le ke =
    let fit = none_fits p h (numbers_of es) f q in
    let sf = s.fits in
    let w : or_else (sheet_refusal sh) (why_not p (meant p r fs) (numbers fs) f) ≡ None =
    ap (λ (o : Option Told). or_else o (why_not p (meant p r fs) (numbers fs) f)) (sheet_refused sh None n) ∙ why_is p r h es fs f s ∙ q in
    let ok : plain_add p r fs (sheet_refusal sh) f ≡ Ok (length fs) = ap (λ (o : Option Told). unless o (length fs)) w in
    let rm : h.room ≡ r - cost_of p (all_items fs) = ap (λ (t : Held). t.room) s.means in
    let cs = cost_snoc p fs f in
    let li : length h.insts ≡ 0 + length (insts_in (all_items fs)) = (let t : length h.insts ≡ length (insts_in (all_items fs)) = ap (λ (t : Held). length t.insts) s.means in omega arith) in
    let ln : length h.notes ≡ 0 + marks_in (all_items fs) =
    (let t : length h.notes ≡ marks_in (all_items fs) = ap (λ (t : Held). length t.notes) s.means ∙ length_notes 0 (all_items fs) in omega arith) in
    let x : plain_entry e ≡ entry_of (0 + length (insts_in (all_items fs))) (0 + marks_in (all_items fs)) f =
    ee ∙ ap (λ (i : ℕ). entry_of i (length h.notes) f) li ∙ ap (λ (m : ℕ). entry_of (0 + length (insts_in (all_items fs))) m f) ln in
    let stands : Stands p r h' es' (fs ++ f ∷ []) = record {
      means = hh ∙ ap (λ (t : Held). with_items p t (items_of f)) s.means ∙ sym (meant_snoc p r fs f);
      fits = omega arith;
      lists = ap (map plain_entry) le ∙ map_push plain_entry es e ∙ ap (λ (xs : List PlainEntry). xs ++ plain_entry e ∷ []) s.lists
          ∙ ap (λ (y : PlainEntry). entries_from 0 0 fs ++ y ∷ []) x ∙ sym (entries_snoc 0 0 fs f);
      accepted = All-push (λ (g : Fun). Accepted g.sheet) fs f s.accepted acc;
    } in
    (ap (λ (i : ℕ). Ok i) (ke ∙ listed_many es fs s.lists) ∙ sym ok, subst (λ (y : Result ℕ Told). Stands p r h' es' (grown fs f y)) (sym ok) stands)

-- ---- by what the code holds

pub entry_is : (s : PlainSheet) (ws : List ℕ) (i n i' n' a b m : ℕ) → i ≡ i' → n ≡ n' → a ≡ length (insts_in (prologue s)) → b ≡ length (insts_in (epilogue s)) →
    m ≡ marks_in (items_of (fun s ws)) →
    ◌≡◌ {A = PlainEntry} (record { sheet = s; start = i; notes_start = n; prologue = a; body = length ws; epilogue = b; notes = m }) (entry_of i' n' (fun s ws))
entry_is s ws i n i' n' a b m ie ne ae be me = cc

pushed : (es es' : List Entry) (e : Entry) → es' ≡ cond (ltb (length es) function_count) (es ++ e ∷ []) es → length (numbers_of es) < function_count →
    es' ≡ es ++ e ∷ []
pushed es es' e q lt =
    let l : length (numbers_of es) ≡ length es = length-map es (λ (x : Entry). x.sheet.number) in
    q ∙ cond-true _ _ _ (lt-ltb (length es) function_count (omega arith))

-- the answer and the next standing of an add
abbrev Added : Prices → ℕ → Held → List Entry → List Fun → Sheet → Result ℕ Told → Fun → Type 0
Added p r h es fs sh x f =
    (x ≡ plain_add p r fs (sheet_refusal sh) f) × Stands p r h es (grown fs f (plain_add p r fs (sheet_refusal sh) f))

pub said_err : (x : Result ℕ Refusal) (d e : Refusal) (P : Result ℕ Told → Type 0) → x ≡ Err d → d ≡ e → P (Err (told e)) → P (said x)
said_err x d e P a b q = subst P (sym (ap said a ∙ ap (λ (y : Refusal). Err (told y)) b)) q

pub kept_err : (x : Result ℕ Refusal) (Q : Type 0) → Q → MatchResult x (λ (y : ℕ). Unit {0}) (λ (y : Refusal). Q)
kept_err (Ok y) Q q = tt
kept_err (Err y) Q q = q

pub add_bad_as : (p : Prices) (r : ℕ) (h : Held) (es : List Entry) (fs : List Fun) (sh : Sheet) (ws : List ℕ) (x : Result ℕ Refusal) (d e : Refusal) → x ≡ Err d → d ≡ e →
    Stands p r h es fs → refused sh ≡ Some (told e) → Added p r h es fs sh (said x) (fun (plain_of sh) ws)
add_bad_as p r h es fs sh ws x d e a b s q =
    said_err x d e (λ (y : Result ℕ Told). Added p r h es fs sh y (fun (plain_of sh) ws)) a b (add_bad p r h es fs sh (fun (plain_of sh) ws) e s q)

pub add_refused_as : (p : Prices) (r : ℕ) (h : Held) (es : List Entry) (fs : List Fun) (sh : Sheet) (c : PlainSheet) (ws : List ℕ) (x : Result ℕ Refusal) (d e : Refusal) → x ≡ Err d → d ≡ e →
    Stands p r h es fs → refused sh ≡ None → c ≡ plain_of sh → why_not p h (numbers_of es) (fun c ws) ≡ Some (told e) → Added p r h es fs sh (said x) (fun (plain_of sh) ws)
add_refused_as p r h es fs sh c ws x d e a b s n ce q =
    said_err x d e (λ (y : Result ℕ Told). Added p r h es fs sh y (fun (plain_of sh) ws)) a b
    (subst (λ (t : PlainSheet). Added p r h es fs sh (Err (told e)) (fun t ws)) ce (add_refused p r h es fs sh (fun c ws) e s n q))

pub add_done : (p : Prices) (r : ℕ) (h h' : Held) (es es' : List Entry) (fs : List Fun) (sh : Sheet) (c : PlainSheet) (ws : List ℕ) (e : Entry) (k : ℕ) (xs ys : List Item) →
    Stands p r h es fs → refused sh ≡ None → c ≡ plain_of sh → Accepted c → why_not p h (numbers_of es) (fun c ws) ≡ None →
    xs ≡ prologue c → ys ≡ epilogue c → h' ≡ with_items p h (xs ++ (body_of ws ++ ys)) →
    plain_entry e ≡ entry_of (length h.insts) (length h.notes) (fun c ws) → es' ≡ cond (ltb (length es) function_count) (es ++ e ∷ []) es → k ≡ length es →
    Added p r h' es' fs sh (Ok k) (fun (plain_of sh) ws)
add_done p r h h' es es' fs sh c ws e k xs ys s n ce acc q xe ye hh ee le ke =
    subst (λ (t : PlainSheet). Added p r h' es' fs sh (Ok k) (fun t ws)) ce
    (added p r h h' es es' fs sh (fun c ws) e k s n q acc (put_by p h h' c ws xs ys xe ye hh) ee
    (pushed es es' e le (none_few p h (numbers_of es) (fun c ws) q)) ke)
