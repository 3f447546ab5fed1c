use Rattle.sm_bind_read.proofs.MapRows.{behind_told}
use Rattle.sm_bind_read.proofs.maps.behind.Goals as goal

pub returns : goal.returns
returns c = behind_told c.args.before.now c.args.text.now c.strip_prefix.result c.strip_prefix.ensures.cases
