use Rattle.sm_rpc.proofs.RpcForm.{rpc_written_is}
use Rattle.sm_rpc.proofs.laws.written_is_message.Goals as goal

pub returns : goal.returns
returns c = rpc_written_is c.written_is_item.ensures
