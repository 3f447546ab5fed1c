use Rattle.std.proofs.Common.{[], ◌∷◌, get_or, ap, ◌∙◌}
use Rattle.std.specs.Option.{option_map}
use Rattle.std.proofs.lemmas.List.{map-append}
use Rattle.sm_shapes.specs.BindingPuts.{bindings_view}
use Rattle.sm_shapes.specs.TableView.{binding_data}
use Rattle.std.proofs.lemmas.List.Elements.{Contains-get_or}
use Rattle.sm_model.specs.GraphView.{maps_of}
use Rattle.sm_model.specs.Reaching.{id_of_number}
use Rattle.sm_compile.proofs.ReachedNumbers.{each_number}
use Rattle.sm_service.specs.steps.BindingsTold.{TellsBinding}
use Rattle.sm_service.proofs.RowsTold.{row_more}
use Rattle.sm_service.proofs.bound_members.bindings_of_members.Goals as goal

pub binding_of-requires : goal.binding_of-requires
binding_of-requires c =
    let ks = c.args.members.now in
    let i = c.loop-member.member-index in
    each_number c.args.graph.now ks c.requires (get_or ks i 0) (Contains-get_or ks i 0 c.loop-member-test.true)

pub loop-member-preserved : goal.loop-member-preserved
loop-member-preserved c =
    let g = c.args.graph.now in
    let ks = c.args.members.now in
    let at = c.loop-member in
    let put = c.in_ok-push.ensures.items in
    row_more (TellsBinding (maps_of g)) (id_of_number g) ks at.member-index (bindings_view at.bindings.items)
    (bindings_view c.push.new.self.items) (option_map binding_data c.in_ok-binding_of.field-0) c.loop-member-test.true
    (ap bindings_view put ∙ map-append (option_map binding_data) at.bindings.items (c.in_ok-binding_of.field-0 ∷ [])) at.invariant
    c.in_ok-binding_of.ensures
