use Rattle.std.proofs.Common.{subst, sym, ◌∙◌, ap}
use Rattle.sm_lex.specs.Lines.{indent}
use Rattle.sm_lex.specs.steps.LexSteps.{lines_left, line_of, indent_with}
use Rattle.sm_lex.proofs.Indents.{IndentOf, counts}
use Rattle.sm_lex.proofs.judge.indent_of.Goals as goal

pub loop-line-preserved : goal.loop-line-preserved
loop-line-preserved c =
    let rest = c.next.new.self in
    let bytes = c.as_bytes.ensures.value in
    let step = c.indent_with-least.ensures ∙ ap (λ b. indent_with c.loop-line.least b c.is_done.result) bytes
    ∙ ap (indent_with c.loop-line.least c.in-Some.line.text.now) c.is_done.ensures in
    subst (λ o. IndentOf (indent (lines_left c.args.lines)) o (lines_left rest)) (sym step)
    (counts (indent (lines_left c.args.lines)) rest.at c.loop-line.least (lines_left c.loop-line.lines) (line_of c.in-Some.line)
    rest.rest.now rest.done c.in-Some.ensures c.loop-line.invariant)
