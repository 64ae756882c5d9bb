use Rattle.std.proofs.Common.{◌≡◌, is_some, ap, sym, ◌∙◌}
use Rattle.refusal.specs.Told.{first}
use Rattle.codes.specs.Items.{items}
use Rattle.sheet.specs.Checks.{plain_read}
use Rattle.sheet.specs.Plain.{PlainSheet, plain_of}
use Rattle.sheet.specs.Refused.{plain_rows, range_rows}
use Rattle.sheet.proofs.AcceptedSheets.{accepted}
use Rattle.sheet.proofs.Rows.{first_back}
use Rattle.sheet.proofs.check.check.Goals as goal

pub returns : goal.returns
returns c =
    let read = c.in_ok-read.read in
    let checked = c.in_ok-clobbers.ensures in
    let p : PlainSheet = record {
      number = read.number;
      conv = read.call_conv;
      calls = read.function_calls;
      flags = read.flags;
      sizes = read.sizes;
      clobbers = items c.in_ok-clobbers.clobbers;
    } in
    let same : p ≡ plain_read read = cc in
    let whole : p ≡ plain_of c.args.sheet = same ∙ c.in_ok-read.ensures.1 in
    let none = ap (λ (q : PlainSheet). first (plain_rows q)) same ∙ checked.0 in (
      first_back (range_rows c.args.sheet) (plain_rows (plain_of c.args.sheet)) c.in_ok-read.ensures.0
          ∙ ap (λ (q : PlainSheet). first (plain_rows q)) (sym whole) ∙ none,
      (whole, accepted p (ap is_some none)),
    )
