use Rattle.std.proofs.Common.{subst}
use Rattle.std.proofs.lemmas.List.{take_all}
use Rattle.sm_tree.specs.View.{node_of}
use Rattle.sm_reference_rules.specs.steps.References.{ToldText}
use Rattle.sm_model.specs.GraphView.{maps_of}
use Rattle.sm_model.specs.Reaching.{id_of_number}
use Rattle.sm_rules.specs.RuleEvents.{Puts}
use Rattle.sm_passes.specs.Putting.{ToldOf}
use Rattle.sm_passes.proofs.ListPut.{none_of, put_next}
use Rattle.sm_reference_rules.proofs.references.put_values.Goals as goal

pub loop-pair-init : goal.loop-pair-init
loop-pair-init g c =
    let says = g.A.AtReference.tells c.args.rule.now (maps_of c.args.graph.now) (id_of_number c.args.graph.now c.args.shape) in
    none_of (λ p. ToldText (says c.args.relation) (node_of p.1)) c.args.events.now.items

pub loop-pair-preserved : goal.loop-pair-preserved
loop-pair-preserved g c =
    let says = g.A.AtReference.tells c.args.rule.now (maps_of c.args.graph.now) (id_of_number c.args.graph.now c.args.shape) in
    put_next (λ p. ToldText (says c.args.relation) (node_of p.1)) c.args.pairs.now c.loop-pair.pair-index c.pair-item.result
    c.loop-pair-test.true c.pair-item.is c.args.events.now.items c.loop-pair.events.items c.put_text.new.events.items
    c.loop-pair.invariant c.in_ok-put_text.ensures

pub returns : goal.returns
returns g c =
    let says = g.A.AtReference.tells c.args.rule.now (maps_of c.args.graph.now) (id_of_number c.args.graph.now c.args.shape) in
    subst (λ xs. Puts (ToldOf (λ p. ToldText (says c.args.relation) (node_of p.1)) xs) c.args.events.now.items c.loop-pair.events.items)
    (take_all c.loop-pair.pair-index c.args.pairs.now c.loop-pair-test.false) c.loop-pair.invariant
