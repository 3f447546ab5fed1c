use Rattle.std.proofs.Common.{[]}
use Rattle.sm_model.specs.steps.Linking.{Adds, LinksBelow}
use Rattle.sm_model.proofs.graph.Graph.links.Given as goal

abbrev pub invariant-loop-shape : goal.invariant-loop-shape
invariant-loop-shape l = Adds (LinksBelow l.self l.shape) [] l.links.items
