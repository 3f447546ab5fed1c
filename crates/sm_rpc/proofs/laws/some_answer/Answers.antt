use Rattle.sm_messages.proofs.SomeMessage.{some_message}
use Rattle.sm_rpc.specs.Messages.{rpc_form}
use Rattle.sm_rpc.proofs.RpcForm.{rpc_reads}
use Rattle.sm_rpc.proofs.laws.some_answer.Goals as goal

pub returns : goal.returns
returns c = some_message rpc_form (rpc_reads c.one_reading.ensures c.one_answer.ensures c.some_answer.ensures)
