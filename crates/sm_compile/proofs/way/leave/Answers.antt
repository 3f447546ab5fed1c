use Rattle.std.proofs.Common.{sym, ◌∙◌}
use Rattle.sm_compile.proofs.WalkTurns.{ends, leaves}
use Rattle.sm_compile.proofs.way.leave.Goals as goal

pub returns-in-Some-clause-turn : goal.returns-in-Some-clause-turn
returns-in-Some-clause-turn c =
    leaves c.args.graph.now c.args.walk.now c.in-Some.above c.pop.new.self c.in-Some.ensures.items c.requires.none

pub returns-in-None-clause-turn : goal.returns-in-None-clause-turn
returns-in-None-clause-turn c =
    ends c.args.graph.now c.args.walk.now c.args.walk.now (sym c.args.walk.now.above.ok.0 ∙ c.in-None.ensures.cases.0) c.requires.none
