use Rattle.std.proofs.Common.{None}
use Rattle.std.proofs.lemmas.Result.{err_from_is_err_and}
use Rattle.refusal.specs.Told.{told}
use Rattle.sheet.specs.Checks.{plain_read}
use Rattle.sheet.proofs.Rows.{codes_tell, late_tell}
use Rattle.sheet.proofs.read.ReadSheet.check_rows.Goals as goal

pub returns-in_err-clobbers : goal.returns-in_err-clobbers
returns-in_err-clobbers c =
    let e = err_from_is_err_and c.from_residual.result c.from_residual.ensures.1 in
    rw (e.1, e.2) (codes_tell (plain_read c.args.self.now) (told c.in_err-clobbers.field-0.0) c.if-self.false c.in_err-clobbers.ensures.0, tt)

pub returns-in_err-check_late : goal.returns-in_err-check_late
returns-in_err-check_late c =
    let e = err_from_is_err_and c.from_residual-in_err-check_late.result c.from_residual-in_err-check_late.ensures.1 in
    rw (e.1, e.2) (late_tell (plain_read c.args.self.now) _ c.if-self.false c.in_ok-clobbers.ensures.0 (λ s h. (c.in_err-check_late.ensures s h).0), tt)

pub returns : goal.returns
returns c = (
  late_tell (plain_read c.args.self.now) None c.if-self.false c.in_ok-clobbers.ensures.0 (λ s h. (c.in_ok-check_late.ensures s h).0),
  c.in_ok-clobbers.ensures.1,
)
