use Rattle.std.proofs.Common.{[], ◌∷◌, ◌++◌, Some, None, ap}
use Rattle.a64.specs.declared.inst.Inst.TheVariants.{AddSubImm, AddSubExt}
use Rattle.steps.specs.Forms.{sp, spilltmp}
use Rattle.item_list.specs.Items.{code}
use Rattle.steps.specs.Adjust.{load_constant_of, sp_by_of}
use Rattle.steps.proofs.Adjusts.{sp_none, sp_some}
use Rattle.item_list.proofs.Joins.{nothing, renamed, then_code}
use Rattle.steps.proofs.adjust.sp_by.Goals as goal

pub returns-then-amount-eq0 : goal.returns-then-amount-eq0
returns-then-amount-eq0 c =
    nothing c.args.list.now (code (sp_by_of c.args.op c.args.amount)) (ap code (sp_none c.args.op c.args.amount c.if-amount-eq0.true))

pub returns-in-Some : goal.returns-in-Some
returns-in-Some c =
    renamed c.args.list.now c.inst.new.self (code (AddSubImm c.args.op sp sp c.in-Some.imm ∷ [])) (code (sp_by_of c.args.op c.args.amount))
    (ap code (sp_some c.args.op c.args.amount (Some c.in-Some.imm) c.if-amount-eq0.false c.in-Some.ensures))
    c.inst.ensures

pub returns-in-None : goal.returns-in-None
returns-in-None c =
    renamed c.args.list.now c.inst-in-None.new.self (code (load_constant_of spilltmp c.args.amount ++ (AddSubExt c.args.op sp sp spilltmp ∷ [])))
    (code (sp_by_of c.args.op c.args.amount))
    (ap code (sp_some c.args.op c.args.amount None c.if-amount-eq0.false c.in-None.ensures))
    (then_code c.args.list.now c.load_constant.new.list c.inst-in-None.new.self (load_constant_of spilltmp c.args.amount) (AddSubExt c.args.op sp sp spilltmp ∷ [])
    c.load_constant.ensures c.inst-in-None.ensures)
