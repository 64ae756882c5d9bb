-- Fields of any widths: to join them and to take one out again are inverse. One law for every row.
use Rattle.std.proofs.Common.{◌≡◌, ℕ, ◌+◌, ◌*◌, ◌/◌, ◌%◌, ◌^◌, ◌<◌, List, [], ◌∷◌, sym, ap, ◌∙◌, add_comm, div-one, shr-shr}
use lib.Pow.{split, high, low}
use Rattle.a64.specs.Words.{after}
use Rattle.decoder.specs.Reading.{field_of}

abbrev pub widths : List (ℕ × ℕ) → ℕ
widths [] = 0
widths (f ∷ fs) = f.0 + widths fs

-- each value fits its width
abbrev pub Fit : List (ℕ × ℕ) → Type 0
Fit [] = Unit {0}
Fit (f ∷ fs) = (f.1 < 2 ^ f.0) × Fit fs

-- a shift by j and k
twice : (n j k : ℕ) → n / 2 ^ (j + k) ≡ n / 2 ^ k / 2 ^ j
twice n j k = rw (add_comm j k) (sym (shr-shr n k j))

-- what stands above a row is what is left when the row is shifted out
pub top : (h : ℕ) (fs : List (ℕ × ℕ)) → Fit fs → after h fs / 2 ^ widths fs ≡ h
top h [] t = div-one h
top h (f ∷ fs) t =
    twice (after (h * 2 ^ f.0 + f.1) fs) f.0 (widths fs)
    ∙ (ap (λ x. x / 2 ^ f.0) (top (h * 2 ^ f.0 + f.1) fs t.1) ∙ high h f.0 t.0)

-- each field of w, in turn, is the row's
abbrev pub Hold : ℕ → List (ℕ × ℕ) → Type 0
Hold w [] = Unit {0}
Hold w (f ∷ fs) = (field_of w (widths fs) f.0 ≡ f.1) × Hold w fs

pub taken : (h : ℕ) (fs : List (ℕ × ℕ)) → Fit fs → Hold (after h fs) fs
taken h [] t = tt
taken h (f ∷ fs) t = (ap (λ x. x % 2 ^ f.0) (top (h * 2 ^ f.0 + f.1) fs t.1) ∙ low h f.0 t.0, taken (h * 2 ^ f.0 + f.1) fs t.1)

-- and joined they are w again
pub joined : (fs : List (ℕ × ℕ)) (w : ℕ) → Hold w fs → after (w / 2 ^ widths fs) fs ≡ w
joined [] w t = div-one w
joined (f ∷ fs) w t =
    let e : w / 2 ^ (f.0 + widths fs) * 2 ^ f.0 + f.1 ≡ w / 2 ^ widths fs =
    rw (twice w f.0 (widths fs), ← t.0) (split (w / 2 ^ widths fs) f.0) in
    rw e (joined fs w t.1)
