use Rattle.std.proofs.Common.{refl}
use Rattle.sm_json.proofs.ReadPieces.{reads_nothing}
use Rattle.sm_json.proofs.pieces.JsonReader.new.Goals as goal

pub returns-clause-stands : goal.returns-clause-stands
returns-clause-stands c = (refl, reads_nothing _ c.new.ensures.state c.new.ensures.sound refl refl)
