use Rattle.std.proofs.Common.{subst}
use Rattle.std.proofs.lemmas.List.{take_all}
use Rattle.sm_reference_rules.specs.steps.References.{ToldPair}
use Rattle.sm_model.specs.GraphView.{maps_of}
use Rattle.sm_model.specs.Reaching.{id_of_number}
use Rattle.sm_rules.specs.RuleEvents.{Puts}
use Rattle.sm_passes.specs.Putting.{ToldOf}
use Rattle.sm_passes.proofs.ListPut.{none_of, put_next}
use Rattle.sm_reference_rules.proofs.references.put_fields.Goals as goal

pub loop-pair-init : goal.loop-pair-init
loop-pair-init g c =
    let says = g.A.AtReference.tells c.args.rule.now (maps_of c.args.graph.now) (id_of_number c.args.graph.now c.args.shape) in
    none_of (ToldPair says c.args.kind) c.args.events.now.items

pub loop-pair-preserved : goal.loop-pair-preserved
loop-pair-preserved g c =
    let says = g.A.AtReference.tells c.args.rule.now (maps_of c.args.graph.now) (id_of_number c.args.graph.now c.args.shape) in
    put_next (ToldPair says c.args.kind) c.args.pairs.now c.loop-pair.pair-index c.pair-item.result
    c.loop-pair-test.true c.pair-item.is c.args.events.now.items c.loop-pair.events.items c.put_pair.new.events.items
    c.loop-pair.invariant c.in_ok-put_pair.ensures

pub returns : goal.returns
returns g c =
    let says = g.A.AtReference.tells c.args.rule.now (maps_of c.args.graph.now) (id_of_number c.args.graph.now c.args.shape) in
    subst (λ xs. Puts (ToldOf (ToldPair says c.args.kind) xs) c.args.events.now.items c.loop-pair.events.items)
    (take_all c.loop-pair.pair-index c.args.pairs.now c.loop-pair-test.false) c.loop-pair.invariant
