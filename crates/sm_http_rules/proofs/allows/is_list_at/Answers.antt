use Rattle.std.proofs.Common.{sym}
use Rattle.sm_http_rules.specs.steps.Allowing.{test_of}
use Rattle.sm_http_rules.proofs.AllowedTold.{no_list}
use Rattle.sm_http_rules.proofs.allows.is_list_at.Goals as goal

pub returns-in-None : goal.returns-in-None
returns-in-None c = sym (no_list c.args.graph.now c.args.number c.requires c.in-None.ensures (test_of c.args.wanted))
