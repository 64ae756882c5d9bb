-- A list of calls.
use Rattle.std.proofs.Common.{◌≡◌, ℕ, ◌+◌, ◌<◌, ◌≤◌, List, [], ◌∷◌, ◌++◌, map, length, get_or, take, sym, refl, ap, ◌∙◌, subst}
use Rattle.std.proofs.lemmas.List.{take_more, take_all, map_push}
use Rattle.shelf.specs.declared.entry.Entry.{Entry}
use Rattle.sink.specs.Held.{Held, Prices}
use Rattle.plainbook.specs.Plain.{Fun}
use Rattle.plainbook.specs.Stands.{Stands, Moves, fed}
use Rattle.plainbook.specs.Answers.{PlainAnswer, said_by, answer, after, final_of, answers_of}
use Rattle.plainbook.specs.Claims.{Right}
use Rattle.plainbook.specs.declared.calls.Call.{Call}
use Rattle.plainbook.specs.declared.calls.Answer.{Answer}
use Rattle.plainbook.proofs.Claiming.{claimed}

final_snoc : (p : Prices) (r : ℕ) (fs : List Fun) (cs : List Call) (c : Call) →
    final_of p r fs (cs ++ c ∷ []) ≡ after p r (final_of p r fs cs) c
final_snoc p r fs [] c = refl
final_snoc p r fs (d ∷ cs) c = final_snoc p r (after p r fs d) cs c

answers_snoc : (p : Prices) (r : ℕ) (fs : List Fun) (cs : List Call) (c : Call) →
    answers_of p r fs (cs ++ c ∷ []) ≡ answers_of p r fs cs ++ answer p r (final_of p r fs cs) c ∷ []
answers_snoc p r fs [] c = refl
answers_snoc p r fs (d ∷ cs) c = ap (λ (xs : List PlainAnswer). answer p r fs d ∷ xs) (answers_snoc p r (after p r fs d) cs c)

-- an add, as a call
pub step_by : (p : Prices) (r : ℕ) (h : Held) (es : List Entry) (fs : List Fun) (c d : Call) (x y : PlainAnswer) (gs : List Fun) → c ≡ d → x ≡ y →
    y ≡ answer p r fs d → gs ≡ after p r fs d → Stands p r h es gs → (x ≡ answer p r fs c) × Stands p r h es (after p r fs c)
step_by p r h es fs c d x y gs e q a b s =
    subst (λ (z : Call). (x ≡ answer p r fs z) × Stands p r h es (after p r fs z)) (sym e) (q ∙ a, subst (Stands p r h es) b s)

-- after k calls on a book that stood for nothing
pub record Midway (p : Prices) (r : ℕ) (h : Held) (es : List Entry) (cs : List Call) (k : ℕ) (said : List Answer) : Type 0 where
  pub stands : Stands p r h es (final_of p r [] (take k cs))
  pub answers : map said_by said ≡ answers_of p r [] (take k cs)

pub midway_none : (p : Prices) (r : ℕ) (h : Held) (es : List Entry) (cs : List Call) (said : List Answer) → Stands p r h es [] → said ≡ [] →
    Midway p r h es cs 0 said
midway_none p r h es cs said s e = record { stands = s; answers = ap (map said_by) e }

pub midway_more : (p : Prices) (r : ℕ) (h h' : Held) (es es' : List Entry) (cs : List Call) (k : ℕ) (said said' : List Answer) (d : Call) (a : Answer) →
    Midway p r h es cs k said → k < length cs →
    Moves p h es h' es' (λ x fs. answer p x fs (get_or cs k d)) (λ x fs. after p x fs (get_or cs k d)) (said_by a) →
    said' ≡ said ++ a ∷ [] → Midway p r h' es' cs (k + 1) said'
midway_more p r h h' es es' cs k said said' d a m lt mv e =
    let t : take (k + 1) cs ≡ take k cs ++ get_or cs k d ∷ [] = take_more cs k d lt in
    let n = mv r (final_of p r [] (take k cs)) m.stands in
    let f : final_of p r [] (take (k + 1) cs) ≡ after p r (final_of p r [] (take k cs)) (get_or cs k d) =
    ap (final_of p r []) t ∙ final_snoc p r [] (take k cs) (get_or cs k d) in
    let bs : answers_of p r [] (take (k + 1) cs) ≡ answers_of p r [] (take k cs) ++ answer p r (final_of p r [] (take k cs)) (get_or cs k d) ∷ [] =
    ap (answers_of p r []) t ∙ answers_snoc p r [] (take k cs) (get_or cs k d) in
    record {
      stands = subst (Stands p r h' es') (sym f) n.1;
      answers = ap (map said_by) e ∙ map_push said_by said a ∙ ap (λ (xs : List PlainAnswer). xs ++ said_by a ∷ []) m.answers
          ∙ ap (λ (x : PlainAnswer). answers_of p r [] (take k cs) ++ x ∷ []) n.0 ∙ sym bs;
    }

pub right : (p : Prices) (old new : Held) (es : List Entry) (cs : List Call) (k : ℕ) (said : List Answer) →
    Midway p (fed p old) new es cs k said → length cs ≤ k → Right p old new es cs said
right p old new es cs k said m le =
    let t : take k cs ≡ cs = take_all k cs le in
    let s : Stands p (fed p old) new es (final_of p (fed p old) [] cs) =
    subst (λ (xs : List Call). Stands p (fed p old) new es (final_of p (fed p old) [] xs)) t m.stands in
    record {
      answers = m.answers ∙ ap (answers_of p (fed p old) []) t;
      reads = s.means;
      stands = s;
      claims = claimed p (fed p old) new es (final_of p (fed p old) [] cs) s;
    }
