use Rattle.std.proofs.Common.{subst}
use Rattle.std.proofs.lemmas.List.{take_all}
use Rattle.sm_model.specs.GraphView.{maps_of}
use Rattle.sm_model.specs.Reaching.{id_of_number}
use Rattle.sm_rules.specs.RuleEvents.{Puts, rule_event}
use Rattle.sm_rules.specs.declared.rule.Rule.TheVariants.{TraitUnknown}
use Rattle.sm_trait_rules.specs.steps.Knowing.{ToldUnknown, is_unknown}
use Rattle.sm_passes.specs.Putting.{IsWhere, ToldOf}
use Rattle.sm_passes.proofs.ListPut.{none_of, put_next}
use Rattle.sm_trait_rules.proofs.unknown.put_each_unknown.Goals as goal

pub loop-pair-init : goal.loop-pair-init
loop-pair-init c = none_of (ToldUnknown (maps_of c.args.graph.now) (id_of_number c.args.graph.now c.args.number)) c.args.events.now.items

pub loop-pair-preserved : goal.loop-pair-preserved
loop-pair-preserved c =
    let m = maps_of c.args.graph.now in
    let id = id_of_number c.args.graph.now c.args.number in
    put_next (ToldUnknown m id) c.args.traits.now c.loop-pair.pair-index c.pair-item.result c.loop-pair-test.true c.pair-item.is
    c.args.events.now.items c.loop-pair.events.items c.put_if_unknown.new.events.items c.loop-pair.invariant
    (subst (λ t. Puts (IsWhere (is_unknown m t) (rule_event TraitUnknown id t)) c.loop-pair.events.items c.put_if_unknown.new.events.items)
    c.as_str.ensures.bytes c.in_ok-put_if_unknown.ensures)

pub returns : goal.returns
returns c =
    subst (λ ts. Puts (ToldOf (ToldUnknown (maps_of c.args.graph.now) (id_of_number c.args.graph.now c.args.number)) ts)
    c.args.events.now.items c.loop-pair.events.items) (take_all c.loop-pair.pair-index c.args.traits.now c.loop-pair-test.false)
    c.loop-pair.invariant
