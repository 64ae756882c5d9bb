-- Whatever a frame saves is kept.
use Rattle.std.proofs.Common.{◌≡◌, ℕ, ◌+◌, ◌<◌, ◌≤◌, Bool, true, false, cond, not, ◌&&◌, ◌||◌, eqb, leb, ◌⊎◌, sym, refl, ap, ◌∙◌, inl, inr, arith}
use Rattle.std.proofs.lemmas.Bool.Decides.{nat_tests, eqb_tells}
use Rattle.sheet.specs.Accepted.{Accepted}
use Rattle.sheet.specs.Codes.{has, within}
use Rattle.sheet.specs.Plain.{PlainSheet, same}
use Rattle.sheet.specs.Saved.{pairing, callee_saved, partner, saves}
use Rattle.sheet.specs.declared.types.CallConv.TheVariants.{PreserveAll}
use Rattle.returns.specs.Premises.{keeps_x, keeps_lo}
use Rattle.returns.specs.Returns.{SavedKept}
use Rattle.returns.proofs.Adjust.{tf, ft}

within_is : (a b r : ℕ) → a ≤ r → r ≤ b → within a b r ≡ true
within_is a b r l u = grind (arith, nat_tests)

leb_is : (r b : ℕ) → r ≤ b → leb r b ≡ true
leb_is r b l = grind (arith, nat_tests)

first : (a b : Bool) → a && b ≡ true → a ≡ true
first true b h = refl
first false b h = absurd (ft h)

second : (a b : Bool) → a && b ≡ true → b ≡ true
second true b h = h
second false b h = absurd (ft h)

or_right : (a b : Bool) → b ≡ true → a || b ≡ true
or_right true b h = refl
or_right false b h = h

-- x19 to x28 are kept but for a pinned x21
callee_kept : (h : PlainSheet) (r : ℕ) → 19 ≤ r → r ≤ 28 → (h.flags.enable_pinned_reg ≡ true → r ≡ 21 → ⊥) → keeps_x h r ≡ true
callee_kept h r l u n =
    ap (λ z. (z && not (h.flags.enable_pinned_reg && eqb r 21)) || (same h.conv PreserveAll && leb r 15)) (within_is 19 28 r l u)
    ∙ ap (λ z. not z || (same h.conv PreserveAll && leb r 15)) (go h.flags.enable_pinned_reg refl (eqb_tells r 21))
  where
    go : (b : Bool) → h.flags.enable_pinned_reg ≡ b → ((eqb r 21 ≡ true) × (r ≡ 21)) ⊎ ((eqb r 21 ≡ false) × (r ≡ 21 → ⊥)) → b && eqb r 21 ≡ false
    go true q (inl e) = absurd (n q e.1)
    go true q (inr e) = e.0
    go false q e = refl

kept_x : (h : PlainSheet) (r : ℕ) → Accepted h → r < 32 → saves h r ≡ true → keeps_x h r ≡ true
kept_x h r ok l s = go (same h.conv PreserveAll) refl s
  where
    unpinned : has h.clobbers r ≡ true → h.flags.enable_pinned_reg ≡ true → r ≡ 21 → ⊥
    unpinned i p e = tf (sym i ∙ ap (has h.clobbers) e ∙ ok.unpinned p)

    codes : same h.conv PreserveAll ≡ true → has h.clobbers r ≡ true → (r ≤ 15) ⊎ (((19 ≤ r) × (r ≤ 28)) ⊎ ((64 ≤ r) × (r ≤ 95))) → keeps_x h r ≡ true
    codes q i (inl z) =
        or_right (within 19 28 r && not (h.flags.enable_pinned_reg && eqb r 21)) (same h.conv PreserveAll && leb r 15) (ap (λ b. b && leb r 15) q ∙ leb_is r 15 z)
    codes q i (inr (inl z)) = callee_kept h r z.0 z.1 (unpinned i)
    codes q i (inr (inr z)) = absurd (omega (arith, z.0))

    callee : callee_saved r ≡ true → (19 ≤ r) × (r ≤ 28)
    callee p = grind (arith, nat_tests)

    either : (i p : Bool) → has h.clobbers r ≡ i → pairing h ≡ p → i || (p && has h.clobbers (partner r)) ≡ true → h.flags.enable_pinned_reg ≡ true → r ≡ 21 → ⊥
    either true p a b z pin e = unpinned a pin e
    either false true a b z pin e = tf (sym pin ∙ ok.pairs_unpinned b)
    either false false a b z pin e = ft z

    go : (b : Bool) → same h.conv PreserveAll ≡ b
        → cond b (has h.clobbers r) (callee_saved r && (has h.clobbers r || (pairing h && has h.clobbers (partner r)))) ≡ true → keeps_x h r ≡ true
    go true q i = codes q i (ok.codes r i)
    go false q i =
        let w = callee (first (callee_saved r) _ i) in
        callee_kept h r w.0 w.1 (either (has h.clobbers r) (pairing h) refl refl (second (callee_saved r) _ i))

kept_lo : (h : PlainSheet) (r : ℕ) → r < 32 → saves h (64 + r) ≡ true → keeps_lo h r ≡ true
kept_lo h r l s = go (same h.conv PreserveAll) refl s
  where
    callee : callee_saved (64 + r) ≡ true → (8 ≤ r) × (r ≤ 15)
    callee p = grind (arith, nat_tests)

    go : (b : Bool) → same h.conv PreserveAll ≡ b
        → cond b (has h.clobbers (64 + r)) (callee_saved (64 + r) && (has h.clobbers (64 + r) || (pairing h && has h.clobbers (partner (64 + r))))) ≡ true
        → keeps_lo h r ≡ true
    go true q i = or_right (within 8 15 r) (same h.conv PreserveAll && leb r 31) (ap (λ b. b && leb r 31) q ∙ leb_is r 31 (omega arith))
    go false q i =
        let w = callee (first (callee_saved (64 + r)) _ i) in
        ap (λ z. z || (same h.conv PreserveAll && leb r 31)) (within_is 8 15 r w.0 w.1)

pub saved_kept : SavedKept
saved_kept h r ok l = (
  kept_x h r ok l,
  kept_lo h r l,
  λ s q. ap (λ b. b && leb r 31) q ∙ leb_is r 31 (omega arith),
)
