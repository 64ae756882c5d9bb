use Rattle.std.proofs.Common.{◌≡◌, nat_lt, slice_index_or, sym, ap, ◌∙◌, ltb-false, arith, rules}
use Rattle.std.proofs.lemmas.List.Sorted.{IsPartitionPoint-from_clause, IsPartitionedBy-ltb}
use Rattle.shelf.proofs.Keys.{look_here, look_past, look_end, look_stop, rising}
use Rattle.shelf.specs.declared.key.Key.{Key}
use Rattle.shelf.proofs.shelf.methods.slot_in.Goals as goal

pub returns-in_err-first : goal.returns-in_err-first
returns-in_err-first c = λ h.
    let parted = IsPartitionedBy-ltb (λ k. k.number) _ c.args.number (rising c.args.keys.now h) in
    let point = IsPartitionPoint-from_clause (λ k. nat_lt k.number c.args.number) _ _ c.partition_point.ensures.partitioned parted (λ a r q k. search rules) in
    c.from_residual.ensures
    ∙ sym (look_past c.args.number c.partition_point.result c.args.keys.now (λ k d l. point.0 k d (omega arith) l) ∙ look_end c.args.number c.partition_point.result c.args.keys.now (search rules))

pub returns-then-first-number : goal.returns-then-first-number
returns-then-first-number c = λ h.
    let parted = IsPartitionedBy-ltb (λ k. k.number) _ c.args.number (rising c.args.keys.now h) in
    let point = IsPartitionPoint-from_clause (λ k. nat_lt k.number c.args.number) _ _ c.partition_point.ensures.partitioned parted (λ a r q k. search rules) in
    sym (look_past c.args.number c.partition_point.result c.args.keys.now (λ k d l. point.0 k d (omega arith) l) ∙ look_here c.args.number c.partition_point.result c.args.keys.now c.in_ok-first.first.now (search rules) (search rules) ∙ search rules)

pub returns-else-first-number : goal.returns-else-first-number
returns-else-first-number c = λ h.
    let parted = IsPartitionedBy-ltb (λ k. k.number) _ c.args.number (rising c.args.keys.now h) in
    let point = IsPartitionPoint-from_clause (λ k. nat_lt k.number c.args.number) _ _ c.partition_point.ensures.partitioned parted (λ a r q k. search rules) in
    let eq : c.in_ok-first.first.now ≡ slice_index_or c.args.keys.now c.partition_point.result c.in_ok-first.first.now = search rules in
    let le = ltb-false _ _ (point.1 c.partition_point.result c.in_ok-first.first.now (omega arith) (search rules)) in
    let ne : (slice_index_or c.args.keys.now c.partition_point.result c.in_ok-first.first.now).number ≡ c.args.number → ⊥ = λ e. c.if-first-number.false (ap (λ (k : Key). k.number) eq ∙ e) in
    sym (look_past c.args.number c.partition_point.result c.args.keys.now (λ k d l. point.0 k d (omega arith) l) ∙ look_stop c.args.number c.partition_point.result c.args.keys.now c.in_ok-first.first.now (search rules) (omega arith) h)
