use Rattle.std.proofs.Common.{arith}
use Rattle.sm_json.proofs.Turns.{cut_short, after_cut}
use Rattle.sm_json.proofs.read.Reader.finish.Goals as goal

pub returns-then-depth-gt0-clause-goes : goal.returns-then-depth-gt0-clause-goes
returns-then-depth-gt0-clause-goes g c = after_cut c.args.self.now c.in-After.is c.requires.sound
    (omega (arith, c.depth.ensures, c.if-depth-gt0.true))

pub returns-in_default-clause-goes : goal.returns-in_default-clause-goes
returns-in_default-clause-goes g c =
    cut_short c.args.self.now c.requires.sound (λ phase e. c.in_default.not-Number phase e) (λ e. absurd (c.in_default.not-After e))
