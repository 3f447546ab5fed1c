use Rattle.sm_select.proofs.TextsCompared.{ends_told}
use Rattle.sm_select.proofs.compare.ends_with.Goals as goal

pub returns : goal.returns
returns c = ends_told c.args.text.now c.args.value.now c.ends_with.result c.ends_with.ensures.value
