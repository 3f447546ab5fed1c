use Rattle.std.proofs.Common.{map}
use Rattle.sm_model.specs.Reaching.{id_of_number}
use Rattle.sm_compile.proofs.LookedUp.{its_members}
use Rattle.sm_compile.proofs.look.members_of.Goals as goal

pub returns-clause-ids : goal.returns-clause-ids
returns-clause-ids c =
    its_members c.args.graph.now c.args.number (map (id_of_number c.args.graph.now) c.members.result.now) c.members.ensures.ids
