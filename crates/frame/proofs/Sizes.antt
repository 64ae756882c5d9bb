-- The sizes of an accepted sheet fit 32 bits.
use Rattle.std.proofs.Common.{◌≡◌, ◌+◌, ◌^◌, ◌<◌, ◌≤◌, Bool, true, false, length, refl, arith}
use Rattle.std.proofs.lemmas.Bool.Decides.{nat_tests}
use Rattle.sheet.specs.Checks.{plain}
use Rattle.sheet.specs.Plain.{PlainSheet}
use Rattle.sheet.specs.Saved.{saves, pairing, saved_ints_of, saved_vecs_of, clobber_size_of, setup_size}
use Rattle.sheet.specs.Walk.{ints}
use Rattle.layout.specs.declared.frame_layout.FrameLayout.{FrameLayout}
use Rattle.sheet.proofs.AcceptedSheets.{accepted}
use Rattle.sheet.proofs.Walks.{kept_few}

ints_long : (d : Bool) → length (ints d) ≡ 32
unfolding ints
ints_long true = refl
ints_long false = refl

pub ints_few : (h : PlainSheet) → length (saved_ints_of h) ≤ 32
ints_few h = let a = kept_few (saves h) (ints (pairing h)) in let b = ints_long (pairing h) in omega arith

pub vecs_few : (h : PlainSheet) → length (saved_vecs_of h) ≤ 32
vecs_few h = let a = kept_few (λ r. saves h (64 + r)) (ints (pairing h)) in let b = ints_long (pairing h) in omega arith

clobber_small : (h : PlainSheet) → clobber_size_of h ≤ 1024
clobber_small h = grind (arith, nat_tests, ints_few h, vecs_few h)

setup_small : (h : PlainSheet) → setup_size h ≤ 16
setup_small h = grind (arith, nat_tests)

-- What 32 bits have room for.
pub room : (l : FrameLayout) → (l.sheet.sizes.incoming ≤ l.sheet.sizes.tail) × (l.sheet.sizes.tail + l.sheet.sizes.fixed + l.sheet.sizes.outgoing + l.clobber_size + l.setup_area_size < 2 ^ 32)
room l =
    let a = accepted (plain l.sheet) l.sheet.accepted in
    (a.larger, omega (arith, a.sum, clobber_small (plain l.sheet), setup_small (plain l.sheet), l.clobber_rule, l.setup_rule))
