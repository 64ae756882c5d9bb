-- Each word has one reading, and each instruction that is a reading has one word.
use Rattle.std.proofs.Common.{◌≡◌, ℕ, sym, refl, ◌∙◌, subst, inl, inr}
use Rattle.a64.specs.Words.{word, Formed, Reads}
use Rattle.decoder.specs.Reading.{reading}
use Rattle.decoder.proofs.Back.{reads_back}
use Rattle.decoder.proofs.Right.{Right, named, other, reading_right}
use Rattle.a64.specs.declared.inst.Inst.{Inst}
use Rattle.a64.specs.declared.inst.Inst.TheVariants.{Other}

-- a named instruction with the word w is w's reading
is_reading : (w : ℕ) (i : Inst) → Formed i → word i ≡ w → i ≡ reading w
is_reading w i f e = sym (rw e at (reads_back i f))

-- where w reads as `Other`, no named instruction has it
none : (w : ℕ) → reading w ≡ Other w → (j : Inst) → Formed j → word j ≡ w → ⊥
none w p j f e = subst Formed (is_reading w j f e ∙ p) f

from_right : (w : ℕ) (i : Inst) → reading w ≡ i → Right w i → Reads w i
from_right w i p (named f e) = inl (f, e)
from_right w i p other = inr (refl, none w p)

pub reads : (w : ℕ) → Reads w (reading w)
reads w = from_right w (reading w) refl (reading_right w)

else_other : (w : ℕ) (i : Inst) → Right w i → ((j : Inst) → Formed j → word j ≡ w → ⊥) → Other w ≡ i
else_other w i (named f e) n = absurd (n i f e)
else_other w i other n = refl

pub only : (w : ℕ) (i : Inst) → Reads w i → i ≡ reading w
only w i (inl p) = is_reading w i p.0 p.1
only w i (inr p) = p.0 ∙ else_other w (reading w) (reading_right w) p.1

pub one_word : (i : Inst) (v w : ℕ) → Reads v i → Reads w i → v ≡ w
one_word i v w (inl p) (inl q) = sym p.1 ∙ q.1
one_word i v w (inl p) (inr q) = absurd (subst Formed q.0 p.0)
one_word i v w (inr p) (inl q) = absurd (subst Formed p.0 q.0)
one_word i v w (inr p) (inr q) = let e : Other v ≡ Other w = sym p.0 ∙ q.0 in cc
