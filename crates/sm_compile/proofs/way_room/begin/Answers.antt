use Rattle.std.proofs.Common.{refl, arith}
use Rattle.sm_compile.proofs.WalkTurns.{begins, clear_entered, root_entered}
use Rattle.sm_compile.proofs.way_room.begin.Goals as goal

pub index_mut-requires : goal.index_mut-requires
index_mut-requires c =
    let kept = clear_entered c.args.graph.now c.args.walk.now c.requires.clear in omega (arith, kept.count, c.requires.number)

pub returns-clause-kept : goal.returns-clause-kept
returns-clause-kept c =
    root_entered c.args.graph.now c.args.walk.now _ c.args.root c.requires.clear c.requires.number refl c.in_ok-push.ensures.items refl

pub returns-clause-walk : goal.returns-clause-walk
returns-clause-walk c =
    begins c.args.graph.now c.args.root c.args.walk.now _ c.push.new.self c.requires.clear refl c.in_ok-push.ensures.items c.requires.number
    c.requires.served
