use Rattle.std.proofs.Common.{length}
use Rattle.sm_lex.specs.Lines.{indent}
use Rattle.sm_lex.specs.steps.LexSteps.{lines_left}
use Rattle.sm_lex.proofs.Indents.{IndentOf}
use Rattle.sm_lex.proofs.judge.indent_of.Given as goal

abbrev pub decreases-loop-line : goal.decreases-loop-line
decreases-loop-line l = length (lines_left l.lines)

abbrev pub invariant-loop-line : goal.invariant-loop-line
invariant-loop-line l = IndentOf (indent (lines_left l.initial.lines)) l.least (lines_left l.lines)
