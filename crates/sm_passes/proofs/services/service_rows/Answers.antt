use Rattle.std.proofs.Common.{arith, length, ◌≡◌}
use Rattle.std.specs.Map.{values_of}
use Rattle.sm_model.specs.GraphView.{entries_of}
use Rattle.sm_passes.proofs.SharedClosures.{services_all, services_next}
use Rattle.sm_passes.proofs.services.service_rows.Goals as goal

pub loop-number-preserved : goal.loop-number-preserved
loop-number-preserved c =
    let at = c.loop-number in
    record {
      within = omega (arith, c.loop-number-test.true, c.count-number-end.ensures);
      services = services_next c.args.graph.now at.number (values_of at.rows.items) (values_of c.put_row.new.rows.items)
          at.invariant.services c.in_ok-put_row.ensures.services;
      rows = c.in_ok-put_row.ensures.rows;
    }

pub returns-clause-services : goal.returns-clause-services
returns-clause-services c =
    let at = c.loop-number in
    let all : at.number ≡ length (entries_of c.args.graph.now) =
    omega (arith, c.loop-number-test.false, c.count-number-end.ensures, at.invariant.within) in
    services_all c.args.graph.now at.number (values_of at.rows.items) all at.invariant.services
