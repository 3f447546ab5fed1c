use Rattle.std.proofs.Common.{subst}
use Rattle.std.proofs.lemmas.List.{take_all}
use Rattle.sm_model.specs.Reaching.{id_of_number}
use Rattle.sm_rules.specs.RuleEvents.{Puts}
use Rattle.sm_trait_rules.specs.steps.Judging.{ToldTrait}
use Rattle.sm_passes.specs.Putting.{ToldOf}
use Rattle.sm_passes.proofs.ListPut.{none_of, put_next}
use Rattle.sm_trait_rules.proofs.judged.put_traits.Goals as goal

pub loop-pair-init : goal.loop-pair-init
loop-pair-init g c =
    none_of (ToldTrait (g.J.Judge.rule c.args.judge.now) (g.J.Judge.wrong c.args.judge.now)
    (id_of_number c.args.graph.now c.args.number) c.args.at) c.args.events.now.items

pub loop-pair-preserved : goal.loop-pair-preserved
loop-pair-preserved g c =
    put_next (ToldTrait (g.J.Judge.rule c.args.judge.now) (g.J.Judge.wrong c.args.judge.now)
    (id_of_number c.args.graph.now c.args.number) c.args.at) c.args.traits.now c.loop-pair.pair-index c.pair-item.result
    c.loop-pair-test.true c.pair-item.is c.args.events.now.items c.loop-pair.events.items c.put_trait.new.events.items
    c.loop-pair.invariant c.in_ok-put_trait.ensures

pub returns : goal.returns
returns g c =
    subst (λ ts. Puts (ToldOf (ToldTrait (g.J.Judge.rule c.args.judge.now) (g.J.Judge.wrong c.args.judge.now)
    (id_of_number c.args.graph.now c.args.number) c.args.at) ts) c.args.events.now.items c.loop-pair.events.items)
    (take_all c.loop-pair.pair-index c.args.traits.now c.loop-pair-test.false) c.loop-pair.invariant
