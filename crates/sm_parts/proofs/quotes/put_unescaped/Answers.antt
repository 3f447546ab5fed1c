use Rattle.std.proofs.Common.{sym, ◌∙◌}
use Rattle.sm_parts.proofs.QuotedLists.{escaped_step, kept_step}
use Rattle.sm_parts.proofs.quotes.put_unescaped.Goals as goal

pub returns-then-is_escape : goal.returns-then-is_escape
returns-then-is_escape c =
    escaped_step c.args.text.now.items c.push.new.self.items c.args.behind.now c.in-Some.more.now c.args.byte c.in-Some.next.now
    c.in_ok-push-in-Some.ensures.items c.in-Some.ensures.cases.0 c.requires (sym c.is_escape.ensures ∙ c.if-is_escape.true)

pub returns-in_ok-push-in-Some-2 : goal.returns-in_ok-push-in-Some-2
returns-in_ok-push-in-Some-2 c =
    kept_step c.args.text.now.items c.push-in-Some.new.self.items c.args.behind.now c.in-Some.more.now c.args.byte c.in-Some.next.now
    c.in_ok-push-in-Some-2.ensures.items c.in-Some.ensures.cases.0 c.requires (sym c.is_escape.ensures ∙ c.if-is_escape.false)
