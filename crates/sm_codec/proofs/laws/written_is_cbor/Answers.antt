use Rattle.sm_codec.proofs.WrittenForms.{written_is_cbor}
use Rattle.sm_codec.proofs.laws.written_is_cbor.Goals as goal

pub returns : goal.returns
returns c = written_is_cbor
