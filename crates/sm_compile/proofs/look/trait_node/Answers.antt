use Rattle.sm_compile.proofs.LookedUp.{trait_told}
use Rattle.sm_compile.proofs.look.trait_node.Goals as goal

pub returns : goal.returns
returns c = trait_told c.args.graph.now c.args.number c.args.name.now c.trait_value.result c.trait_value.ensures
