use Rattle.std.proofs.Common.{◌-◌, length}
use Rattle.sm_lex.proofs.LineParts.{Reached}
use Rattle.sm_lex.proofs.judge.bad_in_line.Given as goal

abbrev pub decreases-loop-at : goal.decreases-loop-at
decreases-loop-at l = length l.bytes - l.at

abbrev pub invariant-loop-at : goal.invariant-loop-at
invariant-loop-at l = Reached l.line.at l.bytes l.at
