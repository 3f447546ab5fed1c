use Rattle.sm_compile.proofs.LookedUp.{stands_is}
use Rattle.sm_name_rules.proofs.AlikeHeld.{id_nowhere, id_pushed, more_none, more_push, pushed_there}
use Rattle.sm_name_rules.proofs.given_names.push_id.Goals as goal

pub returns-in_ok-push-in-Some-clause-more : goal.returns-in_ok-push-in-Some-clause-more
returns-in_ok-push-in-Some-clause-more c =
    let n = c.in-Some.number in
    more_push c.args.graph.now c.args.numbers.now.items c.push.new.self.items n
    (stands_is c.args.graph.now 0 n c.args.id.now c.in-Some.ensures).0 c.in_ok-push-in-Some.ensures.items

pub returns-in_ok-push-in-Some-clause-named : goal.returns-in_ok-push-in-Some-clause-named
returns-in_ok-push-in-Some-clause-named c =
    let n = c.in-Some.number in
    id_pushed c.args.graph.now c.args.id.now c.push.new.self.items n c.in-Some.ensures
    (pushed_there c.args.graph.now c.args.numbers.now.items c.push.new.self.items n c.in_ok-push-in-Some.ensures.items)

pub returns-in-None-clause-more : goal.returns-in-None-clause-more
returns-in-None-clause-more c = more_none c.args.graph.now c.args.numbers.now.items

pub returns-in-None-clause-named : goal.returns-in-None-clause-named
returns-in-None-clause-named c = id_nowhere c.args.graph.now c.args.id.now c.args.numbers.now.items c.in-None.ensures
