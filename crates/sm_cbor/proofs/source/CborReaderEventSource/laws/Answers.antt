use Rattle.sm_cbor.proofs.Feeding.{read_completes}
use Rattle.sm_cbor.proofs.source.CborReaderEventSource.laws.Goals as goal

pub returns-clause-complete : goal.returns-clause-complete
returns-clause-complete c = read_completes
