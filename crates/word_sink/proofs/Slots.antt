-- Instructions and notes in a row of cells, and what one write leaves of them.
use Rattle.std.proofs.Common.{◌≡◌, ℕ, zero, suc, ◌+◌, ◌-◌, ◌*◌, ◌<◌, ◌≤◌, ◌≢◌, List, [], ◌∷◌, ◌++◌, map, length, get_or, take, drop, set, Some, None, sym, refl, ap, ◌∙◌, subst, arith}
use Rattle.a64.specs.Words.{Reads}
use Rattle.a64.specs.declared.inst.Inst.{Inst}
use Rattle.decoder.specs.Reading.{reading}
use Rattle.decoder.proofs.Laws.{only}
use Rattle.std.proofs.lemmas.Bool.{lt-ltb, le-ltb, cond-true, cond-false}
use Rattle.std.specs.List.{range_with_len}
use Rattle.std.proofs.lemmas.List.FromFn.{length-map-range_with_len, get_or-map-range_with_len, take-map-range_with_len, map-range_with_len_more}
use Rattle.std.proofs.lemmas.List.{get_or-set_same, get_or-set_other, length-set, length-map, length-take-le, get_or-map, get_or-take, take-map, take-take, take_more_set, take-set-le, map_push}
use Rattle.notes.proofs.Backs.{note_back}
use Rattle.sink.proofs.Strays.{stray_here, stray_on, stray_none}
use Rattle.word_sink.specs.Cells.{note_of, note_base, insts_of, notes_of, cells_held, noted}
use Rattle.sink.specs.Held.{with_inst, with_note, note_at, rewound, stray, late}
use Rattle.notes.specs.Notes.{inst_from_of, note_from_of, parts_of}
use Rattle.notes.specs.declared.Note.{Note}
use Rattle.notes.specs.declared.Parts.{Parts}
use Rattle.notes.specs.declared.UnwindInst.{UnwindInst}

-- ---- instructions: whatever a cell is read as

map_read : {X : Type 0} (f : ℕ → X) (ws : List ℕ) (n i : ℕ) (d : X) → i < n → n ≤ length ws → f (get_or ws i 0) ≡ get_or (map f (take n ws)) i d
map_read f ws n i d lt le =
    let l = length-take-le n ws le in
    ap f (sym (get_or-take n ws i 0 lt)) ∙ sym (get_or-map f (take n ws) i 0 d (omega arith))

map_take : {X : Type 0} (f : ℕ → X) (ws : List ℕ) (n i : ℕ) → i ≤ n → map f (take i ws) ≡ take i (map f (take n ws))
map_take f ws n i le = ap (map f) (sym (take-take i n ws le)) ∙ sym (take-map f i (take n ws))

map_write : {X : Type 0} (f : ℕ → X) (ws : List ℕ) (n w : ℕ) (x : X) → x ≡ f w → n < length ws → map f (take (n + 1) (set ws n w)) ≡ map f (take n ws) ++ x ∷ []
map_write {X} f ws n w x e lt =
    ap (map f) (take_more_set ws n w lt) ∙ map_push f (take n ws) w ∙ ap (λ (y : X). map f (take n ws) ++ y ∷ []) (sym e)

pub length_insts : (ws : List ℕ) (n : ℕ) → n ≤ length ws → length (insts_of ws n) ≡ n
unfolding insts_of
length_insts ws n le = length-map (take n ws) reading ∙ length-take-le n ws le

pub inst_read : (ws : List ℕ) (n i : ℕ) (d : Inst) → i < n → n ≤ length ws → reading (get_or ws i 0) ≡ get_or (insts_of ws n) i d
unfolding insts_of
inst_read ws n i d lt le = map_read reading ws n i d lt le

pub insts_take : (ws : List ℕ) (n i : ℕ) → i ≤ n → insts_of ws i ≡ take i (insts_of ws n)
unfolding insts_of
insts_take ws n i le = map_take reading ws n i le

-- a write behind the first n cells
pub insts_set : (ws : List ℕ) (n k w : ℕ) → n ≤ k → insts_of (set ws k w) n ≡ insts_of ws n
unfolding insts_of
insts_set ws n k w le = ap (map reading) (take-set-le n ws k w le)

pub inst_more : (ws : List ℕ) (n w : ℕ) (x : Inst) → Reads w x → n < length ws → insts_of (set ws n w) (n + 1) ≡ insts_of ws n ++ x ∷ []
unfolding insts_of
inst_more ws n w x r lt = map_write reading ws n w x (only w x r) lt

-- ---- notes

map_same : {X : Type 0} (f g : ℕ → X) (a n : ℕ) → ((k : ℕ) → k < a + n → f k ≡ g k) → map f (range_with_len a n) ≡ map g (range_with_len a n)
map_same f g a zero h = refl
map_same {X} f g a (suc n) h =
    let here : f a ≡ g a = h a (omega arith) in
    let rest : map f (range_with_len (a + 1) n) ≡ map g (range_with_len (a + 1) n) = map_same f g (a + 1) n (λ k lt. h k (omega arith)) in
    cc

pub length_notes : (top : ℕ) (ws : List ℕ) (n : ℕ) → length (notes_of top ws n) ≡ n
unfolding notes_of
length_notes top ws n = length-map-range_with_len (note_of top ws) 0 n

pub note_read : (top : ℕ) (ws : List ℕ) (n i : ℕ) (d : Note) → i < n → note_of top ws i ≡ get_or (notes_of top ws n) i d
unfolding notes_of
note_read top ws n i d h = sym (get_or-map-range_with_len (note_of top ws) 0 n i i d h (omega arith))

pub notes_take : (top : ℕ) (ws : List ℕ) (n i : ℕ) → i ≤ n → notes_of top ws i ≡ take i (notes_of top ws n)
unfolding notes_of
notes_take top ws n i h = sym (take-map-range_with_len (note_of top ws) 0 n i h)

-- three equal cells are one note
same_note : (a b c d e f : ℕ) → a ≡ d → b ≡ e → c ≡ f → note_from_of a b c ≡ note_from_of d e f
same_note a b c d e f p q r =
    ap (λ (x : ℕ). note_from_of x b c) p ∙ ap (λ (x : ℕ). note_from_of d x c) q ∙ ap (λ (x : ℕ). note_from_of d e x) r

-- cells below top - 3 n are no note's
pub notes_same : (top : ℕ) (ws vs : List ℕ) (n : ℕ) → 3 * n ≤ top → ((k : ℕ) → top - 3 * n ≤ k → get_or ws k 0 ≡ get_or vs k 0) →
    notes_of top ws n ≡ notes_of top vs n
unfolding notes_of
notes_same top ws vs n fit h =
    map_same (note_of top ws) (note_of top vs) 0 n
    (λ k lt. same_note _ _ _ _ _ _ (h (note_base top k) (omega arith)) (h (note_base top k + 1) (omega arith)) (h (note_base top k + 2) (omega arith)))

-- the three cells of the note after n others
pub note_more : (top : ℕ) (ws : List ℕ) (n kind place a b : ℕ) (x : UnwindInst) → 3 * (n + 1) ≤ top → top ≤ length ws → kind < 256 →
    inst_from_of kind a b ≡ x →
    notes_of top (set (set (set ws (note_base top n) (kind + 256 * place)) (note_base top n + 1) a) (note_base top n + 2) b) (n + 1)
    ≡ notes_of top ws n ++ record { place = place; inst = x } ∷ []
unfolding notes_of
note_more top ws n kind place a b x fit le small back =
    let w0 : List ℕ = set ws (note_base top n) (kind + 256 * place) in
    let w1 : List ℕ = set w0 (note_base top n + 1) a in
    let vs : List ℕ = set w1 (note_base top n + 2) b in
    let l0 : length w0 ≡ length ws = length-set ws (note_base top n) (kind + 256 * place) in
    let l1 : length w1 ≡ length w0 = length-set w0 (note_base top n + 1) a in
    let r2 : get_or vs (note_base top n + 2) 0 ≡ b = get_or-set_same w1 (note_base top n + 2) b 0 (omega arith) in
    let r1 : get_or vs (note_base top n + 1) 0 ≡ a =
    get_or-set_other w1 (note_base top n + 2) (note_base top n + 1) b 0 (let ne : note_base top n + 1 ≢ note_base top n + 2 = omega arith in ne)
    ∙ get_or-set_same w0 (note_base top n + 1) a 0 (omega arith) in
    let r0 : get_or vs (note_base top n) 0 ≡ kind + 256 * place =
    get_or-set_other w1 (note_base top n + 2) (note_base top n) b 0 (let ne : note_base top n ≢ note_base top n + 2 = omega arith in ne)
    ∙ get_or-set_other w0 (note_base top n + 1) (note_base top n) a 0 (let ne : note_base top n ≢ note_base top n + 1 = omega arith in ne)
    ∙ get_or-set_same ws (note_base top n) (kind + 256 * place) 0 (omega arith) in
    let last : note_of top vs n ≡ record { place = place; inst = x } =
    same_note _ _ _ _ _ _ r0 r1 r2 ∙ note_back (kind + 256 * place) a b kind place x refl small back in
    let front : map (note_of top vs) (range_with_len 0 n) ≡ map (note_of top ws) (range_with_len 0 n) =
    notes_same top vs ws n (omega arith)
    (λ k h.
    let n2 : k ≢ note_base top n + 2 = omega arith in
    let n1 : k ≢ note_base top n + 1 = omega arith in
    let n0 : k ≢ note_base top n = omega arith in
    get_or-set_other w1 (note_base top n + 2) k b 0 n2 ∙ get_or-set_other w0 (note_base top n + 1) k a 0 n1
    ∙ get_or-set_other ws (note_base top n) k (kind + 256 * place) 0 n0) in
    map-range_with_len_more (note_of top vs) 0 n n (omega arith)
    ∙ ap (λ (y : Note). map (note_of top vs) (range_with_len 0 n) ++ y ∷ []) last
    ∙ ap (λ (ys : List Note). ys ++ record { place = place; inst = x } ∷ []) front

-- ---- what the cells mean after each call

pub held_inst : (top : ℕ) (ws : List ℕ) (i n w : ℕ) (x : Inst) → Reads w x → i + 3 * n < top → top ≤ length ws →
    cells_held top (set ws i w) (i + 1) n ≡ with_inst 1 (cells_held top ws i n) x
held_inst top ws i n w x reads lt le =
    let a = inst_more ws i w x reads (omega arith) in
    let b : notes_of top (set ws i w) n ≡ notes_of top ws n =
    notes_same top (set ws i w) ws n (omega arith) (λ k h. let ne : k ≢ i = omega arith in get_or-set_other ws i k w 0 ne) in
    let r : top - (i + 1 + 3 * n) ≡ top - (i + 3 * n) - 1 = omega arith in
    cc

pub held_note : (top : ℕ) (ws : List ℕ) (i n kind a b : ℕ) (x : UnwindInst) → i + 3 * n + 3 ≤ top → top ≤ length ws → kind < 256 →
    inst_from_of kind a b ≡ x →
    cells_held top (set (set (set ws (note_base top n) (kind + 256 * i)) (note_base top n + 1) a) (note_base top n + 2) b) i (n + 1)
    ≡ with_note 3 (cells_held top ws i n) x
held_note top ws i n kind a b x le len small back =
    let w0 : List ℕ = set ws (note_base top n) (kind + 256 * i) in
    let w1 : List ℕ = set w0 (note_base top n + 1) a in
    let vs : List ℕ = set w1 (note_base top n + 2) b in
    let p = note_more top ws n kind i a b x (omega arith) len small back in
    let q : insts_of vs i ≡ insts_of ws i =
    insts_set w1 i (note_base top n + 2) b (omega arith) ∙ insts_set w0 i (note_base top n + 1) a (omega arith)
    ∙ insts_set ws i (note_base top n) (kind + 256 * i) (omega arith) in
    let l : length (insts_of ws i) ≡ i = length_insts ws i (omega arith) in
    let r : top - (i + 3 * (n + 1)) ≡ top - (i + 3 * n) - 3 = omega arith in
    cc

pub held_rewound : (top : ℕ) (ws : List ℕ) (i n j m : ℕ) → i + 3 * n ≤ top → top ≤ length ws → j ≤ i → m ≤ n →
    cells_held top ws j m ≡ rewound (record { inst = 1; note = 3 }) (cells_held top ws i n) j m
held_rewound top ws i n j m fit len le less =
    let a = insts_take ws i j le in
    let b = notes_take top ws n m less in
    let r : top - (j + 3 * m) ≡ top - (i + 3 * n) + 1 * (length (insts_of ws i) - j) + 3 * (length (notes_of top ws n) - m) =
    omega (arith, length_insts ws i (omega arith), length_notes top ws n) in
    cc

-- ---- the walk over the notes in the cells

pub stray_word_here : (i k top : ℕ) (ws : List ℕ) (n : ℕ) → k < n → i < (note_of top ws k).place → stray i k (drop k (notes_of top ws n)) ≡ Some k
stray_word_here i k top ws n lt past =
    let l = length_notes top ws n in
    let e = note_read top ws n k (note_of top ws k) lt in
    stray_here i k (notes_of top ws n) (note_of top ws k) (omega arith) (subst (λ (x : Note). i < x.place) e past)

pub stray_word_on : (i k top : ℕ) (ws : List ℕ) (n : ℕ) → k < n → (note_of top ws k).place ≤ i →
    stray i k (drop k (notes_of top ws n)) ≡ stray i (k + 1) (drop (k + 1) (notes_of top ws n))
stray_word_on i k top ws n lt kept =
    let l = length_notes top ws n in
    let e = note_read top ws n k (note_of top ws k) lt in
    stray_on i k (notes_of top ws n) (note_of top ws k) (omega arith) (subst (λ (x : Note). x.place ≤ i) e kept)

pub stray_word_none : (i k top : ℕ) (ws : List ℕ) (n : ℕ) → n ≤ k → stray i k (drop k (notes_of top ws n)) ≡ None
stray_word_none i k top ws n le = let l = length_notes top ws n in stray_none i k (notes_of top ws n) (omega arith)

-- ---- where a rewind is refused

pub late_insts : (top : ℕ) (ws : List ℕ) (i n j m : ℕ) → i ≤ length ws → i < j → late (cells_held top ws i n) j m ≡ Some j
late_insts top ws i n j m len lt =
    let l = length_insts ws i len in
    let t : length (insts_of ws i) < j = omega arith in
    cond-true _ _ _ (lt-ltb _ _ t)

pub late_notes : (top : ℕ) (ws : List ℕ) (i n j m : ℕ) → i ≤ length ws → j ≤ i → n < m → late (cells_held top ws i n) j m ≡ Some m
late_notes top ws i n j m len le lt =
    let l = length_insts ws i len in
    let o = length_notes top ws n in
    let t : j ≤ length (insts_of ws i) = omega arith in
    let u : length (notes_of top ws n) < m = omega arith in
    cond-false _ _ _ (le-ltb _ _ t) ∙ cond-true _ _ _ (lt-ltb _ _ u)

pub late_stray : (top : ℕ) (ws : List ℕ) (i n j m : ℕ) → i ≤ length ws → j ≤ i → m ≤ n → late (cells_held top ws i n) j m ≡ stray j 0 (notes_of top ws m)
late_stray top ws i n j m len le less =
    let l = length_insts ws i len in
    let o = length_notes top ws n in
    let t : j ≤ length (insts_of ws i) = omega arith in
    let u : m ≤ length (notes_of top ws n) = omega arith in
    cond-false _ _ _ (le-ltb _ _ t) ∙ cond-false _ _ _ (le-ltb _ _ u) ∙ ap (stray j 0) (sym (notes_take top ws n m less))

-- ---- what a read of the cells gives

pub word_read : (ws : List ℕ) (n i w : ℕ) (r : Inst) → i < n → n ≤ length ws → w ≡ get_or ws i 0 → Reads w r → r ≡ get_or (insts_of ws n) i r
word_read ws n i w r lt le e reads = only (get_or ws i 0) r (subst (λ (v : ℕ). Reads v r) e reads) ∙ inst_read ws n i r lt le

pub note_words : (top : ℕ) (ws : List ℕ) (n i x y z : ℕ) (r : Note) → i < n → x ≡ get_or ws (note_base top i) 0 → y ≡ get_or ws (note_base top i + 1) 0 →
    z ≡ get_or ws (note_base top i + 2) 0 → r ≡ note_from_of x y z → r ≡ get_or (notes_of top ws n) i r
note_words top ws n i x y z r lt e f g h = h ∙ same_note _ _ _ _ _ _ e f g ∙ note_read top ws n i r lt

-- the words that a note's parts make are those of the note
pub cells_noted : (top : ℕ) (ws : List ℕ) (i n : ℕ) (p : Parts) (x : UnwindInst) → i ≤ length ws → p ≡ parts_of x →
    set (set (set ws (note_base top n) (p.kind + 256 * i)) (note_base top n + 1) p.a) (note_base top n + 2) p.b
    ≡ noted top ws n (note_at (cells_held top ws i n) x)
cells_noted top ws i n p x le e =
    let l = length_insts ws i le in
    let m : List ℕ → ℕ → Parts → List ℕ =
    λ vs k q. set (set (set vs (note_base top n) (q.kind + 256 * k)) (note_base top n + 1) q.a) (note_base top n + 2) q.b in
    ap (λ (k : ℕ). m ws k p) (sym l) ∙ ap (λ (q : Parts). m ws (length (insts_of ws i)) q) e
