use Rattle.std.proofs.Common.{subst, sym}
use Rattle.sm_messages.specs.service.Servable.{IsServableOperation}
use Rattle.sm_messages.specs.service.ServiceView.{service_data}
use Rattle.sm_messages.specs.Goals.{operation_at}
use Rattle.sm_bind_write.proofs.ErrorsRefused.{operation_there}
use Rattle.sm_bind_write.proofs.restrictions.restriction.Goals as goal

pub restriction_of-requires-clause-sound : goal.restriction_of-requires-clause-sound
restriction_of-requires-clause-sound c =
    let s = service_data c.args.service.now in
    subst (IsServableOperation s.table) (sym c.operation_at.ensures)
    (c.requires.servable.each (operation_at s c.args.operation) (operation_there s.operations c.args.operation c.requires.number))
