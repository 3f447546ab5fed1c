use Rattle.sm_tree.proofs.OneAnswer.{one_answer}
use Rattle.sm_cbor.specs.Refusals.{cbor_syntax}
use Rattle.sm_cbor.proofs.OneItem.{one_reading}
use Rattle.sm_cbor.proofs.laws.one_answer.Goals as goal

pub returns : goal.returns
returns c = one_answer cbor_syntax one_reading
