use Rattle.sm_cbor.proofs.WrittenItems.{written_is_item}
use Rattle.sm_cbor.proofs.laws.written_is_item.Goals as goal

pub returns : goal.returns
returns c = written_is_item
