use Rattle.std.proofs.Common.{◌≡◌, get_or, length, subst, arith}
use Rattle.std.proofs.lemmas.List.Elements.{Contains-get_or}
use Rattle.sm_rules.specs.RuleEvents.{Puts}
use Rattle.sm_passes.specs.Putting.{Below}
use Rattle.sm_passes.proofs.EventsPut.{puts_begun, puts_next}
use Rattle.sm_trait_rules.specs.steps.Placing.{ToldUnmarked}
use Rattle.sm_trait_rules.proofs.places.put_unmarked.Goals as goal

pub loop-place-init : goal.loop-place-init
loop-place-init c = record {
  within = omega arith;
  told = puts_begun (ToldUnmarked c.args.graph.now c.args.uses.now c.args.marks.now) c.args.events.now.items;
}

pub put_unless-requires-clause-carrier : goal.put_unless-requires-clause-carrier
put_unless-requires-clause-carrier c =
    let us = c.args.uses.now in
    let i = c.loop-place.place in
    (c.requires.uses (get_or us i (0, 0)) (Contains-get_or us i (0, 0) c.loop-place-test.true)).0

pub put_unless-requires-clause-of : goal.put_unless-requires-clause-of
put_unless-requires-clause-of c =
    let us = c.args.uses.now in
    let i = c.loop-place.place in
    (c.requires.uses (get_or us i (0, 0)) (Contains-get_or us i (0, 0) c.loop-place-test.true)).1

pub loop-place-preserved : goal.loop-place-preserved
loop-place-preserved c =
    let g = c.args.graph.now in
    let us = c.args.uses.now in
    let ms = c.args.marks.now in
    let at = c.loop-place in
    let i = at.place in
    record {
      within = omega (arith, c.loop-place-test.true);
      told = puts_next (ToldUnmarked g us ms) i c.args.events.now.items at.events.items c.put_unless.new.events.items at.invariant.told
          c.in_ok-put_unless.ensures;
    }

pub returns : goal.returns
returns c =
    let at = c.loop-place in
    let all : at.place ≡ length c.args.uses.now = omega (arith, c.loop-place-test.false, at.invariant.within) in
    subst (λ n. Puts (Below (ToldUnmarked c.args.graph.now c.args.uses.now c.args.marks.now) n) c.args.events.now.items at.events.items) all
    at.invariant.told
