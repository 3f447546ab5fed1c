use Rattle.sm_bind_read.specs.service.ServiceView.{service_data}
use Rattle.sm_rest.proofs.RestReads.{named_as_asked}
use Rattle.sm_rest.proofs.context.Rest.operation_of.Goals as goal

pub returns : goal.returns
returns c =
    named_as_asked (service_data c.args.service.now) c.args.head.now c.operation_asked.result
    (c.operation_asked.ensures (service_data c.args.service.now) c.requires.routes)
