use Rattle.std.proofs.Common.{◌∙◌, sym, ap}
use Rattle.sm_model.specs.GraphView.{maps_of}
use Rattle.sm_model.specs.Reaching.{id_of_number}
use Rattle.sm_compile.specs.Sound.{trait_of}
use Rattle.sm_compile.specs.TraitIds.{suppress_id}
use Rattle.sm_load.specs.steps.Naming.{where_names}
use Rattle.sm_load.proofs.NamedEvents.{names_where}
use Rattle.sm_load.proofs.naming.is_suppressed_there.Goals as goal

pub returns-in-Some : goal.returns-in-Some
returns-in-Some c =
    let value = trait_of (maps_of c.args.graph.now) (id_of_number c.args.graph.now c.args.number) suppress_id in
    c.value_names.ensures ∙ ap (where_names c.args.event.now) c.in-Some.ensures ∙ sym (names_where c.args.event.now value)

pub returns-in-None : goal.returns-in-None
returns-in-None c =
    let value = trait_of (maps_of c.args.graph.now) (id_of_number c.args.graph.now c.args.number) suppress_id in
    ap (where_names c.args.event.now) c.in-None.ensures ∙ sym (names_where c.args.event.now value)
