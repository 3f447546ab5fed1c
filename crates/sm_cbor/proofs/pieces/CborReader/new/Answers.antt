use Rattle.std.proofs.Common.{[], refl}
use Rattle.sm_cbor.proofs.Feeding.{first_come}
use Rattle.sm_cbor.proofs.pieces.CborReader.new.Goals as goal

pub returns-clause-stands : goal.returns-clause-stands
returns-clause-stands c = (tt, ([], first_come c.new.result c.new.ensures.state c.new.ensures.sound, refl))
