use Rattle.std.proofs.Common.{ap}
use Rattle.std.specs.Prelude.{not}
use Rattle.sm_compile.proofs.LookedUp.{stands_is}
use Rattle.sm_reference_rules.proofs.TargetKinds.{no_reference, reference_put}
use Rattle.sm_reference_rules.proofs.kinds.ReferredAtReference.put_for.Goals as goal

pub may_be_referred-other-requires : goal.may_be_referred-other-requires
may_be_referred-other-requires c = (stands_is c.args.graph.now c.args.from c.in-Some.to c.args.id.now c.in-Some.ensures).0

pub returns-in_ok-put_if-in-Some : goal.returns-in_ok-put_if-in-Some
returns-in_ok-put_if-in-Some c =
    reference_put c.args.graph.now c.args.from c.args.relation c.args.id.now c.in-Some.to
    (stands_is c.args.graph.now c.args.from c.in-Some.to c.args.id.now c.in-Some.ensures).1 (not c.may_be_referred-other.result)
    (ap not c.may_be_referred-other.ensures) c.args.events.now.items c.put_if.new.events.items c.in_ok-put_if-in-Some.ensures

pub returns-in-None : goal.returns-in-None
returns-in-None c =
    no_reference c.args.graph.now c.args.from c.args.relation c.args.id.now c.in-None.ensures c.args.events.now.items
