use Rattle.std.proofs.Common.{Ok}
use Rattle.sm_tree.proofs.OneAnswer.{one_answer}
use Rattle.sm_cbor.specs.Refusals.{cbor_syntax}
use Rattle.sm_cbor.specs.Written.{written_item}
use Rattle.sm_cbor.proofs.OneItem.{one_reading}
use Rattle.sm_cbor.proofs.WrittenItems.{written_is_item}
use Rattle.sm_cbor.proofs.laws.written_is_read.Goals as goal

pub returns : goal.returns
returns c = λ n cbor word few. (
  (written_is_item n cbor word, few),
  λ a is. one_answer cbor_syntax one_reading (written_item n) a (Ok n) is
      (written_is_item n cbor word, few),
)
