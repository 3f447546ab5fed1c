use Rattle.std.proofs.Common.{◌≡◌, sym, ap, ◌∙◌}
use Rattle.std.specs.FinMap as fin
use Rattle.sm_tree.specs.View.{members_view}
use Rattle.sm_model.specs.Graphs.{traits_in}
use Rattle.sm_model.specs.GraphView.{maps_of}
use Rattle.sm_model.specs.PreludeShapes.{is_prelude_id}
use Rattle.sm_model.specs.Reaching.{id_of_number}
use Rattle.sm_model.proofs.NumberedIds.{entry_here}
use Rattle.sm_trait_rules.proofs.TraitsThere.{traits_there}
use Rattle.sm_value_rules.proofs.ValuesTold.{values_put}
use Rattle.sm_value_rules.proofs.values.put_at.Goals as goal

pub put_of_traits-requires-clause-traits : goal.put_of_traits-requires-clause-traits
put_of_traits-requires-clause-traits c =
    let g = c.args.graph.now in
    let ts = c.traits.result.now in
    let x = entry_here g c.args.number (λ id e. fin.entries (traits_in e) ≡ members_view ts) c.traits.ensures in
    traits_there (maps_of g) (id_of_number g c.args.number) x.0 x.1 ts x.2

pub returns-clause-told : goal.returns-clause-told
returns-clause-told c =
    let g = c.args.graph.now in
    let ts = c.traits.result.now in
    let x = entry_here g c.args.number (λ id e. fin.entries (traits_in e) ≡ members_view ts) c.traits.ensures in
    values_put (maps_of g) (id_of_number g c.args.number) x.0 x.1 ts x.2
    (ap is_prelude_id (sym c.id_text.ensures) ∙ sym c.is_in_prelude.ensures ∙ c.if-is_in_prelude.false) c.args.events.now.items
    c.put_of_traits.new.events.items c.in_ok-put_of_traits.ensures.told
