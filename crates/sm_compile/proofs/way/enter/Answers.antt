use Rattle.std.proofs.Common.{refl}
use Rattle.sm_compile.proofs.WalkTurns.{entered_more, enters}
use Rattle.sm_compile.proofs.way.enter.Goals as goal

pub returns-clause-kept : goal.returns-clause-kept
returns-clause-kept c =
    entered_more c.args.graph.now c.args.walk.now _ c.args.next.to c.requires.walk.1.kept c.requires.next.target c.requires.next.fresh refl
    c.in_ok-push-2.ensures.items refl

pub returns-clause-turn : goal.returns-clause-turn
returns-clause-turn c =
    enters c.args.graph.now c.args.walk.now c.args.next _ c.push-2.new.self c.push.new.self c.requires.next c.requires.served refl
    c.in_ok-push-2.ensures.items c.in_ok-push.ensures.items
