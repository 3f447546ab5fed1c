use Rattle.std.proofs.Common.{subst, sym}
use Rattle.std.specs.Map.{values_of}
use Rattle.sm_passes.specs.steps.Groups.{AreAllServices, AreServiceRows}
use Rattle.sm_passes.proofs.SharedClosures.{told_services}
use Rattle.sm_passes.proofs.services.put_by_closures.Goals as goal

pub put_runs-requires-clause-rows : goal.put_runs-requires-clause-rows
put_runs-requires-clause-rows g c =
    subst (AreServiceRows c.args.graph.now c.args.ways.now.on) (sym c.as_slice.ensures.value) c.in_ok-rows.ensures.rows

pub returns : goal.returns
returns g c =
    told_services c.args.graph.now (g.R.OfServices.tells c.args.rule.now c.args.graph.now) (values_of c.as_slice.result.now)
    (subst (λ rows. AreAllServices c.args.graph.now (values_of rows)) (sym c.as_slice.ensures.value) c.in_ok-rows.ensures.services)
    c.args.events.now.items c.put_runs.new.events.items c.in_ok-put_runs.ensures
