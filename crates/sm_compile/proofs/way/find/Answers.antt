use Rattle.std.proofs.Common.{ap, ◌∙◌}
use Rattle.sm_compile.specs.steps.Walking.{path_by}
use Rattle.sm_compile.proofs.WalkTurns.{finds}
use Rattle.sm_compile.proofs.way.find.Goals as goal

pub returns-clause-turn : goal.returns-clause-turn
returns-clause-turn c =
    finds c.args.graph.now c.args.walk.now c.args.walk.now c.args.next c.in_ok-path.path c.requires.next c.requires.unserved
    (c.in_ok-path.ensures ∙ ap (λ xs. path_by xs c.args.next.name.now) c.as_slice.ensures.value)
