use Rattle.sm_model.proofs.Entries.{traits_at}
use Rattle.sm_model.proofs.graph.Graph.traits.Goals as goal

pub returns : goal.returns
returns c = traits_at c.args.self.now c.args.shape c.row.result.now c.row.ensures _ c.as_slice.ensures
