use Rattle.std.proofs.Common.{ap, arith, length, subst, sym, take, ◌≡◌, ◌∙◌}
use Rattle.std.proofs.lemmas.Slice.Eq.{bytes_eq-Decides}
use Rattle.sm_passes.specs.steps.Groups.{HaveSteps}
use Rattle.sm_passes.proofs.SharedClosures.{steps_next}
use Rattle.sm_passes.proofs.services.run_len.Goals as goal

pub loop-place-preserved : goal.loop-place-preserved
loop-place-preserved c =
    let at = c.loop-place.place in
    let steps = c.as_slice-steps.result.now in
    let same : c.as_slice.result.now ≡ steps =
    (bytes_eq-Decides c.as_slice.result.now steps).0 (grind (arith, c.ne.ensures, c.if-ne.false)) in
    record {
      some = omega arith;
      within = omega (arith, c.loop-place-test.true);
      same = steps_next steps c.args.rows.now at c.index-rows-place.result c.loop-place-test.true c.index-rows-place.is
          c.loop-place.invariant.same (ap (λ r. r.0.items) c.index-rows-place.is ∙ sym c.as_slice.ensures.value ∙ same);
    }

pub returns-clause-one : goal.returns-clause-one
returns-clause-one c =
    let rows = c.args.rows.now in
    let at = c.loop-place.place in
    let all : at ≡ length rows = omega (arith, c.loop-place-test.false, c.loop-place.invariant.within) in (
      c.as_slice-steps.result.now,
      subst (λ n. HaveSteps c.as_slice-steps.result.now (take n rows)) all c.loop-place.invariant.same,
    )
