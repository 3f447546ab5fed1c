use Rattle.std.proofs.Common.{sym, subst, ap, ◌∙◌, Err}
use Rattle.std.proofs.Common.{true≢false}
use Rattle.sm_http.specs.steps.Seeing.{FindsAny}
use Rattle.sm_http.proofs.HeadLines.{no_line_no_head, not_never}
use Rattle.sm_http.proofs.see.see_head.Goals as goal

pub returns-then-not-has_first_line : goal.returns-then-not-has_first_line
returns-then-not-has_first_line c =
    let none = sym c.has_first_line.ensures ∙ c.if-not-has_first_line.true in
    (no_line_no_head c.args.side c.args.bytes.now none, λ lost. true≢false (sym lost.0 ∙ none))

pub returns-in-Err-Part : goal.returns-in-Err-Part
returns-in-Err-Part c =
    let part = subst (λ r. FindsAny c.args.side c.args.bytes.now r)
    (c.in-Err-Part.is ∙ ap Err c.in-Err-Part.field-0-is) c.find_head.ensures in
    (part.0, λ lost. not_never c.args.side c.args.bytes.now part.1 lost.0 lost.1)
