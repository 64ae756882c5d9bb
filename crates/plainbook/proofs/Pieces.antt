-- A function's items as they are put.
use Rattle.std.proofs.Common.{◌≡◌, ℕ, zero, suc, ◌+◌, ◌-◌, ◌*◌, ◌<◌, ◌≤◌, ◌⊎◌, List, [], ◌∷◌, ◌++◌, length, get_or, take, sym, refl, ap, ◌∙◌, inl, inr, mul-le-mul_left, mul-zero, arith}
use Rattle.std.proofs.lemmas.List.{map_more, take_all}
use Rattle.a64.specs.declared.inst.Inst.{Inst}
use Rattle.decoder.specs.Reading.{reading}
use Rattle.codec.specs.Unread.{unread}
use Rattle.frame.specs.Pieces.{prologue, epilogue}
use Rattle.refusal.specs.Told.{told}
use Rattle.refusal.specs.declared.Refusal.{Refusal}
use Rattle.sheet.specs.Plain.{PlainSheet}
use Rattle.sink.proofs.Items.{with_append, with_code, cost_append, cost_code, length_insts_append, marks_append}
use Rattle.sink.specs.Held.{Held, Prices, with_inst, no_room_of}
use Rattle.sink.specs.Items.{AllRead, insts_in, marks_in, cost_of, with_items}
use Rattle.sink.specs.declared.item.Item.{Item}
use Rattle.plainbook.specs.Plain.{fun, reading_of, body_of, items_of}

-- ---- body words

pub read_is : (w : ℕ) (x : Inst) → x ≡ reading w → x ≡ reading_of w
unfolding reading_of
read_is w x e = e

insts_body : (ws : List ℕ) → length (insts_in (body_of ws)) ≡ length ws
insts_body [] = refl
insts_body (w ∷ ws) = ap suc (insts_body ws)

marks_body : (ws : List ℕ) → marks_in (body_of ws) ≡ 0
marks_body [] = refl
marks_body (w ∷ ws) = marks_body ws

cost_body : (p : Prices) (ws : List ℕ) → cost_of p (body_of ws) ≡ p.inst * length ws
cost_body p ws =
    let c : p.inst * length (insts_in (body_of ws)) ≡ p.inst * length ws = ap (λ (n : ℕ). p.inst * n) (insts_body ws) in
    let d : p.note * marks_in (body_of ws) ≡ p.note * 0 = ap (λ (n : ℕ). p.note * n) (marks_body ws) in
    let e : p.note * 0 ≡ 0 = mul-zero p.note in
    omega arith

body_more : (ws : List ℕ) (k d : ℕ) → k < length ws → body_of (take (k + 1) ws) ≡ body_of (take k ws) ++ Item.Inst (reading_of (get_or ws k d)) ∷ []
body_more ws k d lt = map_more (λ (w : ℕ). Item.Inst (reading_of w)) ws k d lt

pub word_more : (p : Prices) (h h1 h2 : Held) (ws : List ℕ) (k d : ℕ) (x : Inst) → k < length ws → h1 ≡ with_items p h (body_of (take k ws)) →
    x ≡ reading (get_or ws k d) → h2 ≡ with_inst p.inst h1 x → h2 ≡ with_items p h (body_of (take (k + 1) ws))
word_more p h h1 h2 ws k d x lt e r f =
    let q : x ≡ reading_of (get_or ws k d) = read_is (get_or ws k d) x r in
    f ∙ ap (λ (t : Held). with_inst p.inst t x) e
    ∙ with_code p (with_items p h (body_of (take k ws))) x
    ∙ sym (with_append p h (body_of (take k ws)) (Item.Inst x ∷ []))
    ∙ ap (λ (y : Inst). with_items p h (body_of (take k ws) ++ Item.Inst y ∷ [])) q
    ∙ ap (with_items p h) (sym (body_more ws k d lt))

pub word_all : (p : Prices) (h h1 : Held) (ws : List ℕ) (k : ℕ) → length ws ≤ k → h1 ≡ with_items p h (body_of (take k ws)) →
    h1 ≡ with_items p h (body_of ws)
word_all p h h1 ws k le f = f ∙ ap (λ (xs : List ℕ). with_items p h (body_of xs)) (take_all k ws le)

take_short : (n : ℕ) (xs : List ℕ) → length (take n xs) ≤ length xs
take_short zero xs = omega arith
take_short (suc n) [] = omega arith
take_short (suc n) (x ∷ xs) = let t = take_short n xs in omega arith

pub word_fits : (p : Prices) (h h1 : Held) (ws : List ℕ) (k : ℕ) → k < length ws → h1 ≡ with_items p h (body_of (take k ws)) →
    cost_of p (body_of ws) ≤ h.room → p.inst ≤ h1.room
word_fits p h h1 ws k lt e le =
    let r : h1.room ≡ h.room - cost_of p (body_of (take k ws)) = ap (λ (t : Held). t.room) e in
    let c : cost_of p (body_of (take (k + 1) ws)) ≡ cost_of p (body_of (take k ws)) + p.inst =
    ap (cost_of p) (body_more ws k 0 lt) ∙ cost_append p (body_of (take k ws)) (Item.Inst (reading_of (get_or ws k 0)) ∷ [])
    ∙ ap (λ (n : ℕ). cost_of p (body_of (take k ws)) + n) (cost_code p (reading_of (get_or ws k 0))) in
    let d : cost_of p (body_of (take (k + 1) ws)) ≡ p.inst * length (take (k + 1) ws) = cost_body p (take (k + 1) ws) in
    let f : cost_of p (body_of ws) ≡ p.inst * length ws = cost_body p ws in
    let l : length (take (k + 1) ws) ≤ length ws = take_short (k + 1) ws in
    let m : p.inst * length (take (k + 1) ws) ≤ p.inst * length ws = mul-le-mul_left p.inst l in
    omega arith

-- ---- the three parts

-- neither row of refused items applies to readings that there is room for
pub items_taken : (p : Prices) (room : ℕ) (xs : List Item) (e : Refusal) → AllRead xs → cost_of p xs ≤ room →
    ((AllRead xs → ⊥) × (told e ≡ unread)) ⊎ (AllRead xs × (room < cost_of p xs) × (told e ≡ no_room_of room)) → ⊥
items_taken p room xs e r le (inl q) = q.0 r
items_taken p room xs e r le (inr q) = omega (arith, q.1)

cost_three : (p : Prices) (a b c : List Item) → cost_of p (a ++ (b ++ c)) ≡ cost_of p a + (cost_of p b + cost_of p c)
cost_three p a b c = cost_append p a (b ++ c) ∙ ap (λ (n : ℕ). cost_of p a + n) (cost_append p b c)

pub first_fits : (p : Prices) (room : ℕ) (a b c : List Item) → cost_of p (a ++ (b ++ c)) ≤ room → cost_of p a ≤ room
first_fits p room a b c le = omega (arith, cost_three p a b c)

pub second_fits : (p : Prices) (h h1 : Held) (a b c : List Item) → cost_of p (a ++ (b ++ c)) ≤ h.room → h1 ≡ with_items p h a → cost_of p b ≤ h1.room
second_fits p h h1 a b c le e =
    let r : h1.room ≡ h.room - cost_of p a = ap (λ (t : Held). t.room) e in
    omega (arith, cost_three p a b c)

pub third_fits : (p : Prices) (h h1 h2 : Held) (a b c : List Item) → cost_of p (a ++ (b ++ c)) ≤ h.room → h1 ≡ with_items p h a → h2 ≡ with_items p h1 b → cost_of p c ≤ h2.room
third_fits p h h1 h2 a b c le e f =
    let r : h1.room ≡ h.room - cost_of p a = ap (λ (t : Held). t.room) e in
    let s : h2.room ≡ h1.room - cost_of p b = ap (λ (t : Held). t.room) f in
    omega (arith, cost_three p a b c)

pub three_put : (p : Prices) (h h1 h2 h3 : Held) (a b c : List Item) → h1 ≡ with_items p h a → h2 ≡ with_items p h1 b → h3 ≡ with_items p h2 c →
    h3 ≡ with_items p h (a ++ (b ++ c))
three_put p h h1 h2 h3 a b c e f g =
    g ∙ ap (λ (t : Held). with_items p t c) f
    ∙ sym (with_append p h1 b c)
    ∙ ap (λ (t : Held). with_items p t (b ++ c)) e
    ∙ sym (with_append p h a (b ++ c))

-- ---- a whole function

pub items_are : (s : PlainSheet) (ws : List ℕ) → items_of (fun s ws) ≡ prologue s ++ (body_of ws ++ epilogue s)
unfolding items_of
items_are s ws = refl

pub insts_fun : (s : PlainSheet) (ws : List ℕ) →
    length (insts_in (items_of (fun s ws))) ≡ length (insts_in (prologue s)) + (length ws + length (insts_in (epilogue s)))
insts_fun s ws =
    let q : length (insts_in (items_of (fun s ws))) ≡ length (insts_in (prologue s ++ (body_of ws ++ epilogue s))) =
    ap (λ (xs : List Item). length (insts_in xs)) (items_are s ws) in
    let a = length_insts_append (prologue s) (body_of ws ++ epilogue s) in
    let b = length_insts_append (body_of ws) (epilogue s) in
    let d = insts_body ws in
    omega arith

pub marks_fun : (s : PlainSheet) (ws : List ℕ) → marks_in (items_of (fun s ws)) ≡ marks_in (prologue s) + marks_in (epilogue s)
marks_fun s ws =
    let q : marks_in (items_of (fun s ws)) ≡ marks_in (prologue s ++ (body_of ws ++ epilogue s)) = ap marks_in (items_are s ws) in
    let a = marks_append (prologue s) (body_of ws ++ epilogue s) in
    let b = marks_append (body_of ws) (epilogue s) in
    let d = marks_body ws in
    omega arith

-- the price as it is worked out from the counts
pub cost_worked : (p : Prices) (s : PlainSheet) (ws : List ℕ) (v w insts notes : ℕ) → v ≡ p.inst → w ≡ p.note →
    insts ≡ length (insts_in (items_of (fun s ws))) → notes ≡ marks_in (items_of (fun s ws)) → cost_of p (items_of (fun s ws)) ≡ v * insts + w * notes
cost_worked p s ws v w insts notes a b c d =
    ap (λ (n : ℕ). n * length (insts_in (items_of (fun s ws))) + p.note * marks_in (items_of (fun s ws))) (sym a)
    ∙ ap (λ (n : ℕ). v * length (insts_in (items_of (fun s ws))) + n * marks_in (items_of (fun s ws))) (sym b)
    ∙ ap (λ (n : ℕ). v * n + w * marks_in (items_of (fun s ws))) (sym c)
    ∙ ap (λ (n : ℕ). v * insts + w * n) (sym d)

pub price_is : (p : Prices) (s : PlainSheet) (ws : List ℕ) (v w a b c d : ℕ) → v ≡ p.inst → w ≡ p.note →
    a ≡ length (insts_in (prologue s)) → b ≡ length (insts_in (epilogue s)) → c ≡ marks_in (prologue s) → d ≡ marks_in (epilogue s) →
    cost_of p (items_of (fun s ws)) ≡ v * (a + length ws + b) + w * (c + d)
price_is p s ws v w a b c d ve we ae be ce de =
    let i : a + length ws + b ≡ length (insts_in (items_of (fun s ws))) = omega (arith, insts_fun s ws) in
    let n : c + d ≡ marks_in (items_of (fun s ws)) = omega (arith, marks_fun s ws) in
    cost_worked p s ws v w (a + length ws + b) (c + d) ve we i n

-- three lists that are a function's are its items
pub fits_by : (p : Prices) (room : ℕ) (s : PlainSheet) (ws : List ℕ) (a b : List Item) → a ≡ prologue s → b ≡ epilogue s →
    cost_of p (items_of (fun s ws)) ≤ room → cost_of p (a ++ (body_of ws ++ b)) ≤ room
fits_by p room s ws a b ae be le =
    let q : a ++ (body_of ws ++ b) ≡ items_of (fun s ws) =
    ap (λ (xs : List Item). xs ++ (body_of ws ++ b)) ae ∙ ap (λ (xs : List Item). prologue s ++ (body_of ws ++ xs)) be ∙ sym (items_are s ws) in
    let c : cost_of p (a ++ (body_of ws ++ b)) ≡ cost_of p (items_of (fun s ws)) = ap (cost_of p) q in
    omega arith

pub put_by : (p : Prices) (h h' : Held) (s : PlainSheet) (ws : List ℕ) (a b : List Item) → a ≡ prologue s → b ≡ epilogue s →
    h' ≡ with_items p h (a ++ (body_of ws ++ b)) → h' ≡ with_items p h (items_of (fun s ws))
put_by p h h' s ws a b ae be e =
    e ∙ ap (λ (xs : List Item). with_items p h (xs ++ (body_of ws ++ b))) ae
    ∙ ap (λ (xs : List Item). with_items p h (prologue s ++ (body_of ws ++ xs))) be
    ∙ ap (with_items p h) (sym (items_are s ws))
