use Rattle.std.proofs.Common.{subst}
use Rattle.std.proofs.lemmas.List.{take_all}
use Rattle.sm_tree.specs.View.{node_of}
use Rattle.sm_reference_rules.specs.steps.References.{ToldText}
use Rattle.sm_model.specs.GraphView.{maps_of}
use Rattle.sm_model.specs.Reaching.{id_of_number}
use Rattle.sm_rules.specs.RuleEvents.{Puts}
use Rattle.sm_passes.specs.Putting.{ToldOf}
use Rattle.sm_passes.proofs.ListPut.{none_of, put_next}
use Rattle.sm_reference_rules.proofs.references.put_entries.Goals as goal

pub loop-item-init : goal.loop-item-init
loop-item-init g c =
    let says = g.A.AtReference.tells c.args.rule.now (maps_of c.args.graph.now) (id_of_number c.args.graph.now c.args.shape) in
    none_of (λ t. ToldText (says c.args.relation) (node_of t)) c.args.events.now.items

pub loop-item-preserved : goal.loop-item-preserved
loop-item-preserved g c =
    let says = g.A.AtReference.tells c.args.rule.now (maps_of c.args.graph.now) (id_of_number c.args.graph.now c.args.shape) in
    put_next (λ t. ToldText (says c.args.relation) (node_of t)) c.args.items.now c.loop-item.item-index c.item-item.result
    c.loop-item-test.true c.item-item.is c.args.events.now.items c.loop-item.events.items c.put_text.new.events.items
    c.loop-item.invariant c.in_ok-put_text.ensures

pub returns : goal.returns
returns g c =
    let says = g.A.AtReference.tells c.args.rule.now (maps_of c.args.graph.now) (id_of_number c.args.graph.now c.args.shape) in
    subst (λ xs. Puts (ToldOf (λ t. ToldText (says c.args.relation) (node_of t)) xs) c.args.events.now.items c.loop-item.events.items)
    (take_all c.loop-item.item-index c.args.items.now c.loop-item-test.false) c.loop-item.invariant
