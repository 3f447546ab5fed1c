use Rattle.sm_model.specs.Reaching.{id_of_number}
use Rattle.sm_compile.proofs.WalkTurns.{finds_root}
use Rattle.sm_compile.proofs.way_room.unserved_root.Goals as goal

pub returns : goal.returns
returns c =
    finds_root c.args.graph.now (id_of_number c.args.graph.now c.args.root) c.in_ok-path.path c.requires c.in_ok-path.ensures.bytes
