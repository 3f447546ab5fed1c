use Rattle.sm_model.proofs.TargetsKept.{kept_stands}
use Rattle.sm_model.proofs.graph.Graph.target.Goals as goal

pub returns : goal.returns
returns c = kept_stands c.args.self.now c.args.member c.requires.number c.requires.is_member c.index.result.now c.index.ensures
