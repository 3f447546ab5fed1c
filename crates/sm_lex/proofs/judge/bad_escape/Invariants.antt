use Rattle.std.proofs.Common.{length}
use Rattle.std.specs.Prelude.{map}
use Rattle.sm_lex.specs.Lines.{lines_text}
use Rattle.sm_lex.specs.steps.LexSteps.{lines_left, line_kept}
use Rattle.sm_lex.proofs.Judged.{Judged}
use Rattle.sm_lex.proofs.judge.bad_escape.Given as goal

abbrev pub decreases-loop-line : goal.decreases-loop-line
decreases-loop-line l = length (lines_left l.lines)

abbrev pub invariant-loop-line : goal.invariant-loop-line
invariant-loop-line l = Judged (lines_text (map (line_kept l.indent) (lines_left l.initial.lines)))
    (map (line_kept l.indent) (lines_left l.lines))
