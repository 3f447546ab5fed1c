use Rattle.std.proofs.Common.{arith, drop, length, subst, take, ◌+◌, ◌-◌, ◌≡◌, ◌≤◌, ◌∙◌}
use Rattle.std.proofs.lemmas.List.{length-drop, take_rest}
use Rattle.std.specs.Map.{values_of}
use Rattle.sm_passes.specs.steps.Groups.{IsServiceRow}
use Rattle.sm_passes.specs.Putting.{ToldOf}
use Rattle.sm_passes.proofs.EventsPut.{puts_kept}
use Rattle.sm_passes.proofs.SharedClosures.{of_rest, run_told}
use Rattle.sm_passes.proofs.services.put_runs.Goals as goal

pub put_run-requires-clause-rows : goal.put_run-requires-clause-rows
put_run-requires-clause-rows g c =
    of_rest (IsServiceRow c.args.graph.now c.args.ways.now.on) c.loop-begin.begin c.args.rows.now c.requires.rows

pub loop-begin-preserved : goal.loop-begin-preserved
loop-begin-preserved g c =
    let rows = c.args.rows.now in
    let at = c.loop-begin.begin in
    let count = c.in_ok-begin.field-0 in
    let told = g.R.OfServices.tells c.args.rule.now c.args.graph.now in
    let left : length (take (length rows - at) (drop at rows)) ≡ length rows - at =
    (λ i. length (take_rest rows at i)) ∙ length-drop at rows in
    let few : count ≤ length rows - at = subst (λ n. count ≤ n) left c.in_ok-begin.ensures.within in
    record {
      within = omega (arith, few, c.loop-begin-test.true);
      clear = c.in_ok-begin.ensures.clear;
      told = puts_kept (ToldOf told (values_of (take (at + count) rows))) c.args.events.now.items c.put_run.new.events.items
          c.kept_once-last.new.events.items c.kept_once-last.ensures.same c.kept_once-last.ensures.kept
          (run_told told rows at count few c.args.events.now.items c.loop-begin.events.items c.put_run.new.events.items
          c.loop-begin.invariant.told c.in_ok-begin.ensures.told);
    }
