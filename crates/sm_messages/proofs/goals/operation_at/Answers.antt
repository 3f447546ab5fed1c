use Rattle.sm_service.specs.ServiceView.{operations_view}
use Rattle.sm_messages.proofs.OperationsNamed.{operation_seen}
use Rattle.sm_messages.proofs.goals.operation_at.Goals as goal

pub returns : goal.returns
returns c =
    operation_seen c.as_slice.result.now (operations_view c.args.service.now.operations) c.args.number c.index-as_slice-number.result
    c.as_slice.ensures c.requires c.index-as_slice-number.is
