use Rattle.std.proofs.Common.{subst}
use Rattle.std.specs.Prelude.{map, None, Some}
use Rattle.sm_lex.specs.Lines.{lines_text}
use Rattle.sm_lex.specs.steps.LexSteps.{lines_left, line_of, line_kept, JudgesLine}
use Rattle.sm_lex.proofs.Judged.{judged_none, judged_line, bad_line}
use Rattle.sm_lex.proofs.judge.bad_escape.Goals as goal

pub loop-line-init : goal.loop-line-init
loop-line-init c = judged_none (map (line_kept c.args.indent) (lines_left c.args.lines))

pub returns-in-Some-bad_in_line : goal.returns-in-Some-bad_in_line
returns-in-Some-bad_in_line c =
    let rest = c.next.new.self in
    let at = c.in-Some-bad_in_line.at in
    let here = subst (λ l. JudgesLine c.is_done.result l (Some at)) c.kept_line.ensures c.in-Some-bad_in_line.ensures in
    bad_line (lines_text (map (line_kept c.args.indent) (lines_left c.args.lines))) c.args.indent (lines_left c.loop-line.lines)
    (line_of c.in-Some.line) rest.at at rest.rest.now rest.done c.in-Some.ensures c.loop-line.invariant
    (subst (λ b. JudgesLine b (line_kept c.args.indent (line_of c.in-Some.line)) (Some at)) c.is_done.ensures here)

pub loop-line-preserved : goal.loop-line-preserved
loop-line-preserved c =
    let rest = c.next.new.self in
    let here = subst (λ l. JudgesLine c.is_done.result l None) c.kept_line.ensures c.in_default-bad_in_line.ensures in
    judged_line (lines_text (map (line_kept c.args.indent) (lines_left c.args.lines))) c.args.indent (lines_left c.loop-line.lines)
    (line_of c.in-Some.line) rest.at rest.rest.now rest.done c.in-Some.ensures c.loop-line.invariant
    (subst (λ b. JudgesLine b (line_kept c.args.indent (line_of c.in-Some.line)) None) c.is_done.ensures here)
