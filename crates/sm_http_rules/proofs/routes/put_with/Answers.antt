use Rattle.std.proofs.Common.{subst}
use Rattle.std.proofs.lemmas.List.{take_all}
use Rattle.std.proofs.lemmas.List.Elements.{Contains-get_or}
use Rattle.sm_rules.specs.RuleEvents.{Puts}
use Rattle.sm_passes.specs.Putting.{ToldOf}
use Rattle.sm_passes.proofs.ListPut.{put_place}
use Rattle.sm_http_rules.specs.steps.SameRoutes.{IsEitherTold}
use Rattle.sm_http_rules.proofs.routes.put_with.Goals as goal

pub put_pair-requires-clause-one : goal.put_pair-requires-clause-one
put_pair-requires-clause-one c =
    c.requires.others _ (Contains-get_or c.args.others.now c.loop-other.other-index (0, 0) c.loop-other-test.true)

pub loop-other-preserved : goal.loop-other-preserved
loop-other-preserved c =
    put_place (λ r. IsEitherTold c.args.graph.now r.1 c.args.number) c.args.others.now c.loop-other.other-index (0, 0)
    c.loop-other-test.true c.args.events.now.items c.loop-other.events.items c.put_pair.new.events.items c.loop-other.invariant
    c.in_ok-put_pair.ensures

pub returns : goal.returns
returns c =
    subst (λ rs. Puts (ToldOf (λ r. IsEitherTold c.args.graph.now r.1 c.args.number) rs) c.args.events.now.items c.loop-other.events.items)
    (take_all c.loop-other.other-index c.args.others.now c.loop-other-test.false) c.loop-other.invariant
