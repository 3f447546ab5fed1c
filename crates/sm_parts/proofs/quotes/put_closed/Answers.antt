use Rattle.std.proofs.Common.{◌++◌, sym, ap, ◌∙◌, subst}
use Rattle.sm_parts.specs.HeaderLists.{behind_quotes}
use Rattle.sm_parts.specs.steps.Quoting.{IsTrimmedFront}
use Rattle.sm_parts.proofs.QuotedLists.{behind_other}
use Rattle.sm_parts.proofs.quotes.put_closed.Goals as goal

pub returns-in_ok-push-in-Some-2 : goal.returns-in_ok-push-in-Some-2
returns-in_ok-push-in-Some-2 c =
    c.in_ok-push-in-Some-2.ensures.items
    ∙ ap (λ es. c.args.entries.now.items ++ es)
    (sym (ap (behind_quotes c.args.text.items) c.in-Some.ensures.cases.0
    ∙ behind_other c.args.text.items c.in-Some.byte.now c.in-Some.next.now (subst IsTrimmedFront c.in-Some.ensures.cases.0 c.requires)
    c.if-byte-eq44.false))
