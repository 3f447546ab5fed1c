use Rattle.std.proofs.Common.{subst}
use Rattle.std.proofs.lemmas.List.{take_all}
use Rattle.std.proofs.lemmas.List.Elements.{Contains-get_or}
use Rattle.sm_rules.specs.RuleEvents.{Puts}
use Rattle.sm_passes.specs.Putting.{ToldOf}
use Rattle.sm_passes.proofs.ListPut.{put_place}
use Rattle.sm_name_rules.specs.steps.Naming.{ToldNames}
use Rattle.sm_name_rules.proofs.names.put_names_each.Goals as goal

pub put_names_of_service-requires-clause-number : goal.put_names_of_service-requires-clause-number
put_names_of_service-requires-clause-number c =
    (c.requires.own _ (Contains-get_or c.args.services.now c.loop-service.service-index 0 c.loop-service-test.true)).0

pub put_names_of_service-requires-clause-own : goal.put_names_of_service-requires-clause-own
put_names_of_service-requires-clause-own c =
    (c.requires.own _ (Contains-get_or c.args.services.now c.loop-service.service-index 0 c.loop-service-test.true)).1

pub put_names_of_service-requires-clause-inside : goal.put_names_of_service-requires-clause-inside
put_names_of_service-requires-clause-inside c =
    c.requires.inside.1 _ (Contains-get_or c.args.services.now c.loop-service.service-index 0 c.loop-service-test.true)

pub loop-service-preserved : goal.loop-service-preserved
loop-service-preserved c =
    put_place (ToldNames c.args.graph.now) c.args.services.now c.loop-service.service-index 0 c.loop-service-test.true
    c.args.events.now.items c.loop-service.events.items c.put_names_of_service.new.events.items c.loop-service.invariant
    c.in_ok-put_names_of_service.ensures

pub returns : goal.returns
returns c =
    subst (λ ks. Puts (ToldOf (ToldNames c.args.graph.now) ks) c.args.events.now.items c.loop-service.events.items)
    (take_all c.loop-service.service-index c.args.services.now c.loop-service-test.false) c.loop-service.invariant
