use Rattle.std.proofs.Common.{[], sym}
use Rattle.std.proofs.lemmas.List.{append-nil}
use Rattle.sm_service.proofs.operations.push_errors.Goals as goal

pub loop-place-init : goal.loop-place-init
loop-place-init c = ([], sym (append-nil c.args.starts.now.items), tt)

pub loop-place-preserved : goal.loop-place-preserved
loop-place-preserved c = c.in-Ok.ensures c.args.starts.now.items c.loop-place.invariant
