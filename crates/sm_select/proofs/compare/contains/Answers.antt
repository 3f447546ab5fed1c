use Rattle.std.proofs.Common.{None, Some}
use Rattle.sm_select.proofs.TextsCompared.{within_told}
use Rattle.sm_select.proofs.compare.contains.Goals as goal

pub returns-in-Some : goal.returns-in-Some
returns-in-Some c = within_told c.args.text.now c.args.value.now (Some c.in-Some.field-0) c.in-Some.ensures

pub returns-in-None : goal.returns-in-None
returns-in-None c = within_told c.args.text.now c.args.value.now None c.in-None.ensures
