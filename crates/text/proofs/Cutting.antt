-- Where texts are cut.
use Rattle.std.proofs.lemmas.Bool.{not_from_false, eqb-false}
use Rattle.std.proofs.lemmas.List.Sums.{prefix_len_stops, prefix_len-drop_yes}
use Rattle.std.proofs.Common.{◌≡◌, ℕ, ◌<◌, false, not, eqb, List, length, get_or, drop, ap, subst, length-drop, arith}
use Rattle.std.specs.List.{prefix_len}
use Rattle.text.specs.Cuts.{blank, trimmed, word_length}

-- a text that is trimmed begins with a word
pub begins : (s : List ℕ) → 0 < length (trimmed s) → 0 < word_length (trimmed s)
begins s h =
    let n : ℕ = prefix_len blank s in
    let lt : n < length s = omega (arith, length-drop n s) in
    let stop : blank (get_or s n 0) ≡ false = prefix_len_stops blank s 0 lt in
    omega (arith, prefix_len-drop_yes (λ x. not (blank x)) s n 0 lt (not_from_false _ stop))

-- past a word less is left
pub shorter : (s t r : List ℕ) (n : ℕ) → t ≡ trimmed s → n ≡ word_length t → r ≡ drop n t → eqb (length t) 0 ≡ false → length r < length s
shorter s t r n cut long is some =
    let has : 0 < length t = omega (arith, eqb-false (length t) 0 some) in
    let more : 0 < word_length (trimmed s) = begins s (subst (λ x. 0 < length x) cut has) in
    let same : word_length t ≡ word_length (trimmed s) = ap word_length cut in
    omega (arith, ap (length {A = ℕ}) is, length-drop n t, ap (length {A = ℕ}) cut, length-drop (prefix_len blank s) s)
