use Rattle.std.proofs.Common.{sym}
use Rattle.sm_model.specs.GraphView.{maps_of}
use Rattle.sm_http_rules.specs.steps.Allowing.{map_test}
use Rattle.sm_http_rules.proofs.AllowedTold.{no_map}
use Rattle.sm_http_rules.proofs.allows.is_map_at.Goals as goal

pub returns-in-None : goal.returns-in-None
returns-in-None c =
    sym (no_map c.args.graph.now c.args.number c.requires c.in-None.ensures (map_test (maps_of c.args.graph.now) c.args.values))
