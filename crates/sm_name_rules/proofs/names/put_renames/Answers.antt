use Rattle.std.proofs.Common.{◌≡◌, subst}
use Rattle.std.proofs.lemmas.List.{take_all}
use Rattle.sm_model.specs.GraphView.{maps_of}
use Rattle.sm_model.specs.Reaching.{id_of_number}
use Rattle.sm_rules.specs.RuleEvents.{Puts, rule_event}
use Rattle.sm_rules.specs.declared.rule.Rule.TheVariants.{ServiceNames}
use Rattle.sm_passes.specs.Putting.{ToldOf}
use Rattle.sm_passes.proofs.ListPut.{none_of, put_next}
use Rattle.sm_name_rules.specs.steps.Naming.{IsWrongName, ToldWrong}
use Rattle.sm_name_rules.proofs.names.put_renames.Goals as goal

pub loop-pair-init : goal.loop-pair-init
loop-pair-init c = none_of (ToldWrong (maps_of c.args.graph.now) (id_of_number c.args.graph.now c.args.service)) c.args.events.now.items

pub loop-pair-preserved : goal.loop-pair-preserved
loop-pair-preserved c =
    let m = maps_of c.args.graph.now in
    let id = id_of_number c.args.graph.now c.args.service in
    put_next (ToldWrong m id) c.args.pairs.now c.loop-pair.pair-index c.pair-item.result c.loop-pair-test.true c.pair-item.is
    c.args.events.now.items c.loop-pair.events.items c.put_if_wrong.new.events.items c.loop-pair.invariant
    (subst (λ t. Puts (λ e. IsWrongName m id t × (e ≡ rule_event ServiceNames id t)) c.loop-pair.events.items
    c.put_if_wrong.new.events.items)
    c.as_str.ensures.bytes c.in_ok-put_if_wrong.ensures)

pub returns : goal.returns
returns c =
    subst (λ ps. Puts (ToldOf (ToldWrong (maps_of c.args.graph.now) (id_of_number c.args.graph.now c.args.service)) ps)
    c.args.events.now.items c.loop-pair.events.items) (take_all c.loop-pair.pair-index c.args.pairs.now c.loop-pair-test.false)
    c.loop-pair.invariant
