use Rattle.sm_service.proofs.StartsTold.{starts_are}
use Rattle.sm_service.proofs.operations.walk_starts.Goals as goal

pub returns : goal.returns
returns c =
    starts_are c.args.shapes.now c.args.own.now c.args.input c.args.output c.new-starts.result.items c.push_start.new.starts.items
    c.push_start-2.new.starts.items c.push_errors.new.starts.items c.new-starts.ensures.items c.in_ok-push_start.ensures
    c.in_ok-push_start-2.ensures c.in_ok-push_errors.ensures
