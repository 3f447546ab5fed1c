use Rattle.sm_messages.proofs.OneReplies.{one_reply}
use Rattle.sm_rpc.specs.Messages.{rpc_form}
use Rattle.sm_rpc.proofs.RpcForm.{rpc_reads}
use Rattle.sm_rpc.proofs.laws.one_reply.Goals as goal

pub returns : goal.returns
returns c = one_reply rpc_form (rpc_reads c.one_reading.ensures c.one_answer.ensures c.some_answer.ensures)
