use Rattle.sm_codec.proofs.WrittenValues.{written_spells}
use Rattle.sm_codec.proofs.laws.written_spells.Goals as goal

pub returns : goal.returns
returns c = written_spells
