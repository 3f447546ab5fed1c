use Rattle.sm_json.proofs.ReadPieces.{read_completes}
use Rattle.sm_json.proofs.source.JsonReaderEventSource.laws.Goals as goal

pub returns-clause-complete : goal.returns-clause-complete
returns-clause-complete c = read_completes
