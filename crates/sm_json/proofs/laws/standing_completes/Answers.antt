use Rattle.sm_json.proofs.ReadPieces.{standing_completes}
use Rattle.sm_json.proofs.laws.standing_completes.Goals as goal

pub returns : goal.returns
returns c = standing_completes
