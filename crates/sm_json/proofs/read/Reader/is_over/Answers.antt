use Rattle.std.proofs.Common.{arith}
use Rattle.sm_json.proofs.Turns.{cut_short, deep_cut, number_may_end, after_may_end}
use Rattle.sm_json.proofs.read.Reader.is_over.Goals as goal

pub returns-then-depth-gt0 : goal.returns-then-depth-gt0
returns-then-depth-gt0 c sound = deep_cut c.args.self.now sound (omega (arith, c.depth.ensures, c.if-depth-gt0.true))

pub returns-in-Number : goal.returns-in-Number
returns-in-Number c sound = number_may_end c.args.self.now c.in-Number.phase c.is_whole.result sound c.in-Number.is
    (omega (arith, c.depth.ensures, c.if-depth-gt0.false)) c.is_whole.ensures

pub returns-in-After : goal.returns-in-After
returns-in-After c sound = after_may_end c.args.self.now c.in-After.is (omega (arith, c.depth.ensures, c.if-depth-gt0.false))

pub returns-in_default : goal.returns-in_default
returns-in_default c sound =
    cut_short c.args.self.now sound (λ phase e. c.in_default.not-Number phase e) (λ e. absurd (c.in_default.not-After e))
