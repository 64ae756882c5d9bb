use Rattle.std.proofs.Common.{rules, ◌≡◌, ℕ, ◌+◌, Bool, true, false, cond, List, [], ◌∷◌, length, count_by, arith, ◌∙◌}
use Rattle.std.proofs.lemmas.List.Sums.{sum_by-cons}
use Rattle.sink.specs.Items.{insts_in, marks_in}
use Rattle.sink.specs.declared.item.Item.{Item}
use Rattle.book.proofs.limits.count_items.Goals as goal

abbrev is_inst : Item → Bool
is_inst (Item.Inst x) = true
is_inst (Item.Note u) = false

abbrev one : Item → ℕ
one i = cond (is_inst i) 1 0

counted : (xs : List Item) → (count_by is_inst xs ≡ length (insts_in xs)) × (length xs ≡ length (insts_in xs) + marks_in xs)
counted [] = (omega arith, omega arith)
counted (Item.Inst x ∷ xs) = let h = counted xs in (omega (arith, sum_by-cons one (Item.Inst x) xs), omega arith)
counted (Item.Note u ∷ xs) = let h = counted xs in (omega (arith, sum_by-cons one (Item.Note u) xs), omega arith)

pub returns : goal.returns
returns c =
    let k : c.count-insts.result ≡ count_by is_inst c.args.items.now = search rules in
    let h = counted c.args.items.now in
    record { insts = k ∙ h.0; notes = omega arith }
