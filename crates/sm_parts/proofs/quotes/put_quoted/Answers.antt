use Rattle.std.proofs.Common.{subst}
use Rattle.std.proofs.lemmas.Result.{IfOk-weaker}
use Rattle.sm_parts.specs.steps.Quoting.{IsUnquoted}
use Rattle.sm_parts.proofs.QuotedLists.{inside_closed, trimmed_is}
use Rattle.sm_parts.proofs.quotes.put_quoted.Goals as goal

pub put_closed-requires : goal.put_closed-requires
put_closed-requires c = trimmed_is c.in-Some.behind.now c.trim_front.result.now c.trim_front.ensures

pub returns-in-Some : goal.returns-in-Some
returns-in-Some c =
    let said = subst (IsUnquoted c.args.inside.now) c.in-Some.is c.in-Ok.ensures in
    IfOk-weaker c.put_closed.result _ _
    (λ left h. inside_closed c.args.entries.now.items c.put_closed.new.entries.items c.args.inside.now c.in-Some.text.items
    c.in-Some.behind.now c.trim_front.result.now left said.0 said.1 c.trim_front.ensures h)
    c.put_closed.ensures
