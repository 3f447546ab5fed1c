use Rattle.std.proofs.Common.{List, ℕ, ◌-◌, ◌<◌, ◌≡◌, ◌≤◌, ◌∙◌, arith, drop, length, refl, subst, sym, take}
use Rattle.std.proofs.lemmas.List.{length-drop, take_rest}
use Rattle.sm_http_rules.specs.steps.SameRoutes.{IsFirstPut, IsRun}
use Rattle.sm_http_rules.proofs.SameRouteRows.{gathered_next, gathered_none, values_of_rest}
use Rattle.sm_http_rules.proofs.same_routes.gathered.Goals as goal

pub put_run-begin-requires-clause-within : goal.put_run-begin-requires-clause-within
put_run-begin-requires-clause-within c k there =
    subst (λ n. k < n) (sym c.loop-begin.invariant.whole)
    (c.requires.within k (values_of_rest c.loop-begin.begin c.args.rows.now k there))

pub loop-begin-init : goal.loop-begin-init
loop-begin-init c = record {
  within = omega arith;
  whole = refl;
  firsts = gathered_none c.args.firsts.items c.requires.none c.args.rows.now;
}

pub loop-begin-preserved : goal.loop-begin-preserved
loop-begin-preserved c =
    let rows = c.args.rows.now in
    let at = c.loop-begin in
    let count = c.put_run-begin.result in
    let left : length (take (length rows - at.begin) (drop at.begin rows)) ≡ length rows - at.begin =
    (λ i. length (take_rest rows at.begin i)) ∙ length-drop at.begin rows in
    let few : count ≤ length rows - at.begin = subst (λ n. count ≤ n) left c.put_run-begin.ensures.within in
    record {
      within = omega (arith, few, c.loop-begin-test.true);
      whole = c.put_run-begin.ensures.whole ∙ at.invariant.whole;
      firsts = gathered_next rows c.requires.texts at.begin count at.firsts.items c.put_run-begin.new.firsts.items at.invariant.firsts
          (subst (λ rs. IsRun rs count) (take_rest rows at.begin) c.put_run-begin.ensures.run)
          (subst (λ (rs : List (List ℕ × ℕ)). IsFirstPut rs count at.firsts.items c.put_run-begin.new.firsts.items)
          (take_rest rows at.begin) c.put_run-begin.ensures.first);
    }
