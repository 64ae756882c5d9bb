use Rattle.emitter.specs.Parts.{part_of}
use Rattle.emitter.proofs.Whole.{filled, part_good, constant_fits, put_constant, put_other}
use Rattle.emitter.proofs.Emitter.put.Goals as goal

pub invariant_of-put_readable : goal.invariant_of-put_readable
invariant_of-put_readable g c =
    let good = part_good c.args.part c.in_default.not-Constant in
    let e = filled c.clear.new.self c.list_part.new.list c.as_slice-items.result.now (part_of c.args.part) good.short c.clear.ensures c.list_part.ensures c.as_slice-items.ensures in
    record { read = ∣ rw e good.read ∣₁ }

pub returns-in-Constant : goal.returns-in-Constant
returns-in-Constant g c =
    let fits = constant_fits c.args.part c.in-Constant.field-0 c.in-Constant.field-1 c.in-Constant.is in
    let e = filled c.clear.new.self c.list_part.new.list c.as_slice-items.result.now (part_of c.args.part) fits c.clear.ensures c.list_part.ensures c.as_slice-items.ensures in
    put_constant _ _ _ _ c.args.part _ _ c.in-Constant.is (rw e at c.put_items.ensures)

pub returns-in_default : goal.returns-in_default
returns-in_default g c =
    let good = part_good c.args.part c.in_default.not-Constant in
    let e = filled c.clear.new.self c.list_part.new.list c.as_slice-items.result.now (part_of c.args.part) good.short c.clear.ensures c.list_part.ensures c.as_slice-items.ensures in
    put_other _ _ _ _ c.args.part c.in_default.not-Constant (rw e at c.put_readable.ensures)
