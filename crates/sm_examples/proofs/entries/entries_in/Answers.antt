use Rattle.std.proofs.Common.{ap, sym}
use Rattle.std.specs.Option.{unwrap_or}
use Rattle.sm_tree.specs.Node.{no_nodes}
use Rattle.sm_examples.proofs.entries.entries_in.Goals as goal

pub returns-in-Some : goal.returns-in-Some
returns-in-Some c = sym (ap (λ x. unwrap_or x no_nodes) c.in-Some.ensures.part)

pub returns-in-None : goal.returns-in-None
returns-in-None c = sym (ap (λ x. unwrap_or x no_nodes) c.in-None.ensures.part)
