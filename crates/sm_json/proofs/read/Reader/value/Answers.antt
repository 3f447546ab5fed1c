use Rattle.std.proofs.Common.{refl, arith}
use Rattle.sm_json.proofs.Readers.{value_halts}
use Rattle.sm_json.proofs.Turns.{keeps}
use Rattle.sm_json.proofs.read.Reader.value.Goals as goal

pub returns-in-None-clause-goes : goal.returns-in-None-clause-goes
returns-in-None-clause-goes g c = (
  refl,
  value_halts c.args.self.now c.args.byte c.requires.place c.requires.black (λ e. omega arith) (λ e. omega arith) (λ e. omega arith)
      (λ e. omega arith) (λ e. omega arith) (λ e. omega arith) c.in-None.ensures,
  keeps c.args.self.now _ _ c.requires.placed,
)
