use Rattle.sm_compile.proofs.NamesBehind.{behind_told}
use Rattle.sm_compile.proofs.names.behind.Goals as goal

pub returns : goal.returns
returns c = behind_told c.args.before.now c.args.text.now c.strip_prefix.result c.strip_prefix.ensures.cases
