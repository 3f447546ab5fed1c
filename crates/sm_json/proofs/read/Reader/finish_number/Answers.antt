use Rattle.std.proofs.Common.{inl, arith}
use Rattle.sm_json.proofs.Turns.{number_cut_short, number_finishes}
use Rattle.sm_json.proofs.read.Reader.finish_number.Goals as goal

pub returns-then-depth-gt0-clause-goes : goal.returns-then-depth-gt0-clause-goes
returns-then-depth-gt0-clause-goes g c = number_cut_short c.args.self.now c.args.phase c.requires.sound c.requires.place
    (inl (omega (arith, c.depth.ensures, c.if-depth-gt0.true)))

pub returns-clause-goes : goal.returns-clause-goes
returns-clause-goes g c = number_finishes c.args.self.now _ _ _ c.args.phase c.requires.place
    (omega (arith, c.depth.ensures, c.if-depth-gt0.false))
    c.in_ok-hand_number.ensures.goes
