use Rattle.std.proofs.Common.{refl, sym}
use Rattle.sm_json.proofs.Readers.{end_halts}
use Rattle.sm_json.proofs.Turns.{keeps}
use Rattle.sm_json.proofs.read.Reader.after.Goals as goal

pub returns-in-None-clause-goes : goal.returns-in-None-clause-goes
returns-in-None-clause-goes g c = (
  refl,
  end_halts c.args.self.now c.args.byte c.requires.place (sym c.in-None.ensures) c.requires.black,
  keeps c.args.self.now _ _ c.requires.placed,
)
