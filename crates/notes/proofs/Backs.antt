-- The first word of a note comes apart again.
use Rattle.std.proofs.Common.{◌≡◌, ℕ, ◌+◌, ◌*◌, ◌/◌, ◌%◌, ◌<◌, ap, ◌∙◌, arith}
use Rattle.std.proofs.lemmas.Nat.{div-mul-add, mod-mul-add}
use Rattle.notes.specs.Notes.{inst_from_of, note_from_of}
use Rattle.notes.specs.declared.UnwindInst.{UnwindInst}

-- a kind and a place in one word come apart again
pub note_back : (first a b kind place : ℕ) (x : UnwindInst) → first ≡ kind + 256 * place → kind < 256 → inst_from_of kind a b ≡ x →
    note_from_of first a b ≡ record { place = place; inst = x }
note_back first a b kind place x e small back =
    let f : first ≡ place * 256 + kind = omega arith in
    let k : first % 256 ≡ kind = ap (λ (n : ℕ). n % 256) f ∙ mod-mul-add place 256 kind small in
    let p : first / 256 ≡ place = ap (λ (n : ℕ). n / 256) f ∙ div-mul-add place 256 kind small in
    let i : inst_from_of (first % 256) a b ≡ x = ap (λ (n : ℕ). inst_from_of n a b) k ∙ back in
    ap (λ (n : ℕ). record { place = n; inst = inst_from_of (first % 256) a b }) p ∙ ap (λ (y : UnwindInst). record { place = place; inst = y }) i
