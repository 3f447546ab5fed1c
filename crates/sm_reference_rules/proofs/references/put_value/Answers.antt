use Rattle.sm_tree.specs.View.{node_of}
use Rattle.sm_model.specs.GraphView.{maps_of}
use Rattle.sm_model.specs.Reaching.{id_of_number}
use Rattle.sm_reference_rules.proofs.BodyReferences.{entries_put, nothing_put, text_put, values_put}
use Rattle.sm_reference_rules.proofs.references.put_value.Goals as goal

pub returns-in_ok-put_for-in-Some : goal.returns-in_ok-put_for-in-Some
returns-in_ok-put_for-in-Some g c =
    let says = g.A.AtReference.tells c.args.rule.now (maps_of c.args.graph.now) (id_of_number c.args.graph.now c.args.shape) in
    text_put (says c.args.relation)
    (node_of c.args.value.now) c.in-Some.id.now c.in-Some.ensures.node c.args.events.now.items c.put_for.new.events.items
    c.in_ok-put_for-in-Some.ensures

pub returns-in_ok-put_entries-in-Some-entries_of : goal.returns-in_ok-put_entries-in-Some-entries_of
returns-in_ok-put_entries-in-Some-entries_of g c =
    let says = g.A.AtReference.tells c.args.rule.now (maps_of c.args.graph.now) (id_of_number c.args.graph.now c.args.shape) in
    entries_put (says c.args.relation)
    (node_of c.args.value.now) c.in-Some-entries_of.items.now c.in-Some-entries_of.ensures.node c.args.events.now.items
    c.put_entries.new.events.items c.in_ok-put_entries-in-Some-entries_of.ensures

pub returns-in_ok-put_values-in-Some-pairs_of : goal.returns-in_ok-put_values-in-Some-pairs_of
returns-in_ok-put_values-in-Some-pairs_of g c =
    let says = g.A.AtReference.tells c.args.rule.now (maps_of c.args.graph.now) (id_of_number c.args.graph.now c.args.shape) in
    values_put (says c.args.relation)
    (node_of c.args.value.now) c.in-Some-pairs_of.pairs.now c.in-Some-pairs_of.ensures.node c.args.events.now.items
    c.put_values.new.events.items c.in_ok-put_values-in-Some-pairs_of.ensures

pub returns-in-None-pairs_of : goal.returns-in-None-pairs_of
returns-in-None-pairs_of g c =
    let says = g.A.AtReference.tells c.args.rule.now (maps_of c.args.graph.now) (id_of_number c.args.graph.now c.args.shape) in
    nothing_put (says c.args.relation)
    (node_of c.args.value.now) c.in-None.ensures.node c.in-None-entries_of.ensures.node c.in-None-pairs_of.ensures.node
    c.args.events.now.items
