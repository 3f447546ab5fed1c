use Rattle.sm_rpc.proofs.RpcForm.{rpc_is_form}
use Rattle.sm_protocols.proofs.EachForm.{each_is_form}
use Rattle.sm_protocols.proofs.laws.each_is_form.Goals as goal

pub returns : goal.returns
returns c =
    each_is_form (rpc_is_form c.one_reading.ensures c.one_answer.ensures c.some_answer.ensures c.written_is_item.ensures) c.is_form.ensures
