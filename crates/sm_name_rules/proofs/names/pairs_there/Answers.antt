use Rattle.std.proofs.Common.{ap, sym}
use Rattle.std.specs.Option.{unwrap_or}
use Rattle.sm_tree.specs.Node.{Node, no_members}
use Rattle.sm_tree.specs.Parts.{pairs_in}
use Rattle.sm_tree.specs.View.{node_of}
use Rattle.sm_name_rules.proofs.GivenNames.{no_pairs}
use Rattle.sm_name_rules.proofs.names.pairs_there.Goals as goal

pub returns-in-Some : goal.returns-in-Some
returns-in-Some c = sym (ap (λ (n : Node). unwrap_or (pairs_in n) no_members) c.in-Some.ensures.node)

pub returns-in-None : goal.returns-in-None
returns-in-None c = no_pairs (node_of c.args.tree.now) c.in-None.ensures.node
