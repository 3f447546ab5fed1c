use Rattle.sm_select.proofs.TextsCompared.{begins_told}
use Rattle.sm_select.proofs.compare.starts_with.Goals as goal

pub returns : goal.returns
returns c = begins_told c.args.text.now c.args.value.now c.starts_with.result c.starts_with.ensures.value
