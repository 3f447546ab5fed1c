use Rattle.std.proofs.Common.{◌-◌, length}
use Rattle.sm_lex.specs.Tokens.{three_quotes}
use Rattle.sm_lex.proofs.Ends.{Searched}
use Rattle.sm_lex.proofs.quoted.block_end.Given as goal

abbrev pub decreases-loop-at : goal.decreases-loop-at
decreases-loop-at l = length l.bytes - l.at

abbrev pub invariant-loop-at : goal.invariant-loop-at
invariant-loop-at l = Searched three_quotes l.bytes l.at
