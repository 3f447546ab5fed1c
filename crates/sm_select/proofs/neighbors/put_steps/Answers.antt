use Rattle.std.proofs.Common.{◌+◌, length, get_or, drop, subst, refl}
use Rattle.std.proofs.lemmas.List.{drop_more}
use Rattle.sm_select.specs.steps.Runs.{Fills}
use Rattle.sm_select.proofs.FilledRuns.{below_at, fills_next, has_room, nowhere, step_below}
use Rattle.sm_select.proofs.neighbors.put_steps.Goals as goal

pub put_step-requires-clause-below : goal.put_step-requires-clause-below
put_step-requires-clause-below c =
    let at = c.loop-link in
    below_at _ _ c.args.links.now at.link-index at.invariant.whole c.requires.below c.loop-link-test.true

pub put_step-requires-clause-room : goal.put_step-requires-clause-room
put_step-requires-clause-room c other =
    let at = c.loop-link in
    let i = at.link-index in
    let ls = c.args.links.now in
    let count = length c.args.ends.now in
    has_room count c.args.back ls (drop (i + 1) ls) (get_or ls i nowhere) at.numbers at.ends other
    (step_below c.args.back count (get_or ls i nowhere) (below_at count count ls i refl c.requires.below c.loop-link-test.true))
    (subst (λ xs. Fills count c.args.back ls xs at.numbers at.ends) (drop_more ls i nowhere c.loop-link-test.true) at.invariant)

pub loop-link-preserved : goal.loop-link-preserved
loop-link-preserved c =
    let at = c.loop-link in
    let i = at.link-index in
    let ls = c.args.links.now in
    let count = length c.args.ends.now in
    fills_next count c.args.back ls (drop (i + 1) ls) (get_or ls i nowhere) at.numbers at.ends c.put_step.new.numbers c.put_step.new.ends
    (below_at count count ls i refl c.requires.below c.loop-link-test.true)
    (subst (λ xs. Fills count c.args.back ls xs at.numbers at.ends) (drop_more ls i nowhere c.loop-link-test.true) at.invariant)
    c.put_step.ensures.none c.put_step.ensures.put
