-- Straight-line code: a run that only goes on, with the states in between given, and never computed.
use Rattle.std.proofs.Common.{◌≡◌, ℕ, zero, suc, ◌+◌, List, [], ◌∷◌, ◌++◌, length, sym, refl, ap, ◌∙◌, subst, append_assoc, zero-add, arith, length-append}
use Rattle.a64.specs.declared.inst.Inst.{Inst}
use Rattle.machine.specs.Machine.{State, Core, Effect, step, next, back, Point, at, returned, fetch, after, move, run, Comes}

abbrev pub Line : Core → List Inst → State → State → Type 0
Line k [] s t = s ≡ t
Line k (i ∷ is) s t = (m : State) × (step k i s ≡ next m) × Line k is m t

pub line-++ : (k : Core) (is js : List Inst) (s t u : State) → Line k is s t → Line k js t u → Line k (is ++ js) s u
line-++ k [] js s t u e l = subst (λ v. Line k js v u) (sym e) l
line-++ k (i ∷ is) js s t u l r = (l.0, l.1, line-++ k is js l.0 t u l.2 r)

pub line_one : (k : Core) (i : Inst) (s t : State) → step k i s ≡ next t → Line k (i ∷ []) s t
line_one k i s t e = (t, e, refl)

pub run-+ : (m n : ℕ) (k : Core) (code : List Inst) (p : Point) → run (m + n) k code p ≡ run n k code (run m k code p)
unfolding run
run-+ zero n k code p = ap (λ i. run i k code p) (zero-add n)
run-+ (suc m) n k code p =
    let e : suc m + n ≡ suc (m + n) = omega arith in
    ap (λ i. run i k code p) e ∙ run-+ m n k code (move k code p)

pub comes_trans : (k : Core) (code : List Inst) (p q r : Point) → Comes k code p q → Comes k code q r → Comes k code p r
comes_trans k code p q r a b = (a.0 + b.0, run-+ a.0 b.0 k code p ∙ ap (λ z. run b.0 k code z) a.1 ∙ b.1)

pub fetch_at : (pre : List Inst) (i : Inst) (post : List Inst) → fetch (pre ++ (i ∷ post)) (length pre) ≡ i
unfolding fetch
fetch_at [] i post = refl
fetch_at (a ∷ pre) i post = fetch_at pre i post

-- Wherever the instructions stand in the code, the machine comes from their first, in s, to behind their last, in t.
abbrev pub Goes : Core → List Inst → State → State → Type 0
Goes k is s t =
    (pre post : List Inst) → Comes k (pre ++ (is ++ post)) (at (length pre) s) (at (length pre + length is) t)

-- The same, to a return to the address a.
abbrev pub Ends : Core → List Inst → State → ℕ → State → Type 0
Ends k is s a t = (pre post : List Inst) → Comes k (pre ++ (is ++ post)) (at (length pre) s) (returned a t)

pub one_move : (k : Core) (i : Inst) (s : State) (f : Effect) → step k i s ≡ f → (pre post : List Inst) → run 1 k (pre ++ (i ∷ post)) (at (length pre) s) ≡ after (length pre) f
unfolding run move
one_move k i s f e pre post = ap (λ j. after (length pre) (step k j s)) (fetch_at pre i post) ∙ ap (after (length pre)) e

pub goes_none : (k : Core) (s : State) → Goes k [] s s
unfolding run
goes_none k s pre post = (0, ap (λ n. at n s) (omega arith))

pub goes_one : (k : Core) (i : Inst) (s t : State) → step k i s ≡ next t → Goes k (i ∷ []) s t
goes_one k i s t e pre post = (1, one_move k i s (next t) e pre post ∙ ap (λ n. at n t) (omega arith))

pub ends_one : (k : Core) (i : Inst) (s : State) (a : ℕ) (t : State) → step k i s ≡ back a t → Ends k (i ∷ []) s a t
ends_one k i s a t e pre post = (1, one_move k i s (back a t) e pre post)

-- the code, cut at the second part
cut : (pre is js post : List Inst) → (pre ++ is) ++ (js ++ post) ≡ pre ++ ((is ++ js) ++ post)
cut pre is js post = simp append_assoc

second : (k : Core) (is js : List Inst) (t : State) (pre post : List Inst) (q : Point)
    → Comes k ((pre ++ is) ++ (js ++ post)) (at (length (pre ++ is)) t) q
    → Comes k (pre ++ ((is ++ js) ++ post)) (at (length pre + length is) t) q
second k is js t pre post q c =
    subst (λ code. Comes k code (at (length pre + length is) t) q) (cut pre is js post)
    (subst (λ n. Comes k ((pre ++ is) ++ (js ++ post)) (at n t) q) (length-append pre is) c)

first : (k : Core) (is js : List Inst) (s t : State) (pre post : List Inst) → Goes k is s t
    → Comes k (pre ++ ((is ++ js) ++ post)) (at (length pre) s) (at (length pre + length is) t)
first k is js s t pre post g =
    subst (λ code. Comes k code (at (length pre) s) (at (length pre + length is) t)) (ap (λ z. pre ++ z) (sym (append_assoc is js post)))
    (g pre (js ++ post))

pub goes-++ : (k : Core) (is js : List Inst) (s t u : State) → Goes k is s t → Goes k js t u → Goes k (is ++ js) s u
goes-++ k is js s t u f g pre post =
    comes_trans k _ _ _ _ (first k is js s t pre post f)
    (second k is js t pre post _ (subst (λ n. Comes k ((pre ++ is) ++ (js ++ post)) (at (length (pre ++ is)) t) (at n u)) e (g (pre ++ is) post)))
  where
    e : length (pre ++ is) + length js ≡ length pre + length (is ++ js)
    e = simp length-append (omega arith)

pub goes_ends : (k : Core) (is js : List Inst) (s t : State) (a : ℕ) (u : State) → Goes k is s t → Ends k js t a u → Ends k (is ++ js) s a u
goes_ends k is js s t a u f g pre post =
    comes_trans k _ _ _ _ (first k is js s t pre post f) (second k is js t pre post _ (g (pre ++ is) post))

pub line_goes : (k : Core) (is : List Inst) (s t : State) → Line k is s t → Goes k is s t
line_goes k [] s t e = subst (λ z. Goes k [] s z) e (goes_none k s)
line_goes k (i ∷ is) s t l = goes-++ k (i ∷ []) is s l.0 t (goes_one k i s l.0 l.1) (line_goes k is l.0 t l.2)
