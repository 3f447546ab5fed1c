use Rattle.sm_rpc.proofs.RpcForm.{rpc_reads}
use Rattle.sm_rpc.proofs.laws.reads_messages.Goals as goal

pub returns : goal.returns
returns c = rpc_reads c.one_reading.ensures c.one_answer.ensures c.some_answer.ensures
