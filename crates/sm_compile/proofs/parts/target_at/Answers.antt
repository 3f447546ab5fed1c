use Rattle.sm_model.specs.GraphView.{maps_of}
use Rattle.sm_model.specs.Reaching.{id_of_number}
use Rattle.sm_compile.proofs.ReadyRows.{target_there}
use Rattle.sm_compile.proofs.parts.target_at.Goals as goal

pub unreachable-requires : goal.unreachable-requires
unreachable-requires c =
    let g = c.args.graph.now in
    target_there (maps_of g) (id_of_number g c.args.member) c.requires.sound.0 c.requires.sound.1 c.in-None.ensures
