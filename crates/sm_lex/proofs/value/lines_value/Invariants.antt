use Rattle.std.proofs.Common.{length}
use Rattle.std.specs.Prelude.{map, string_bytes}
use Rattle.sm_lex.specs.Lines.{lines_text}
use Rattle.sm_lex.specs.steps.LexSteps.{lines_left, line_kept}
use Rattle.sm_lex.proofs.Written.{Written}
use Rattle.sm_lex.proofs.value.lines_value.Given as goal

abbrev pub decreases-loop-line : goal.decreases-loop-line
decreases-loop-line l = length (lines_left l.lines)

abbrev pub invariant-loop-line : goal.invariant-loop-line
invariant-loop-line l = Written (lines_text (map (line_kept l.indent) (lines_left l.initial.lines))) (string_bytes l.text)
    (map (line_kept l.indent) (lines_left l.lines))
