use Rattle.std.proofs.Common.{map, subst}
use Rattle.sm_model.specs.GraphView.{maps_of}
use Rattle.sm_model.specs.Reaching.{id_of_number}
use Rattle.sm_compile.specs.steps.Naming.{TellsNames}
use Rattle.sm_compile.proofs.SoundShapes.{sound_with_names, sound_without_names}
use Rattle.sm_compile.proofs.soundness.has_sound_names.Goals as goal

pub returns-in-Some : goal.returns-in-Some
returns-in-Some c =
    let g = c.args.graph.now in
    let ns = c.members_of.result.now in
    sound_with_names g c.args.shape c.args.kind c.requires.kind c.requires.parts ns c.in-Some.names
    c.are_sound_names.result c.members_of.ensures.ids
    (subst (TellsNames (maps_of g) (id_of_number g c.args.shape) (map (id_of_number g) ns)) c.in-Some.is c.in_ok-names.ensures)
    c.are_sound_names.ensures

pub returns-in-None : goal.returns-in-None
returns-in-None c =
    let g = c.args.graph.now in
    let ns = c.members_of.result.now in
    sound_without_names g c.args.shape c.args.kind c.requires.kind ns c.members_of.ensures.ids
    (subst (TellsNames (maps_of g) (id_of_number g c.args.shape) (map (id_of_number g) ns)) c.in-None.is c.in_ok-names.ensures)
