use Rattle.std.proofs.lemmas.Result.{IfOk-weaker}
use Rattle.sm_parts.proofs.QuotedLists.{entry_quoted, entry_trimmed, not_opened, nothing_put}
use Rattle.sm_parts.proofs.quotes.put_entry.Goals as goal

pub returns-then-byte-eq34 : goal.returns-then-byte-eq34
returns-then-byte-eq34 c =
    IfOk-weaker c.put_quoted.result _ _
    (λ left h. entry_quoted c.args.entries.now.items c.put_quoted.new.entries.items c.args.rest.now c.trim_front-text.result.now
    c.in-Some.inside.now c.in-Some.byte.now left c.trim_front-text.ensures c.in-Some.ensures.cases.0 c.if-byte-eq34.true h)
    c.put_quoted.ensures

pub put_unquoted-requires : goal.put_unquoted-requires
put_unquoted-requires c =
    not_opened c.args.rest.now c.trim_front-text.result.now c.in-Some.byte.now c.in-Some.inside.now c.trim_front-text.ensures
    c.in-Some.ensures.cases.0 c.if-byte-eq34.false

pub returns-else-byte-eq34 : goal.returns-else-byte-eq34
returns-else-byte-eq34 c =
    IfOk-weaker c.put_unquoted.result _ _
    (λ left h. entry_trimmed c.args.entries.now.items c.put_unquoted.new.entries.items c.args.rest.now c.trim_front-text.result.now left
    c.trim_front-text.ensures h)
    c.put_unquoted.ensures

pub returns-in-None : goal.returns-in-None
returns-in-None c =
    nothing_put c.args.entries.now.items c.args.rest.now c.trim_front-text.result.now c.trim_front-text.ensures c.in-None.ensures.cases
