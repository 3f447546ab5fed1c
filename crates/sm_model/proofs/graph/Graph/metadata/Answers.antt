use Rattle.std.proofs.Common.{◌∙◌, sym}
use Rattle.sm_model.proofs.Entries.{metadata_in_order}
use Rattle.sm_model.proofs.graph.Graph.metadata.Goals as goal

pub returns : goal.returns
returns c = metadata_in_order c.args.self.now ∙ sym c.as_slice.ensures
