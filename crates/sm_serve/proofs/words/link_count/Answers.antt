use Rattle.std.proofs.Common.{sym, ◌∙◌}
use Rattle.sm_serve.proofs.LinkCounts.{parsed_counts, plus_refused, unparsed_refused}
use Rattle.sm_serve.proofs.words.link_count.Goals as goal

pub returns-then-has_plus : goal.returns-then-has_plus
returns-then-has_plus c = plus_refused c.args.word.now (sym c.has_plus.ensures ∙ c.if-has_plus.true)

pub returns-in-Ok : goal.returns-in-Ok
returns-in-Ok c =
    parsed_counts c.args.word.now (sym c.has_plus.ensures ∙ c.if-has_plus.false) c.in-Ok.count c.in-Ok.ensures.value.0 c.within.result
    c.within.ensures

pub returns-in-Err : goal.returns-in-Err
returns-in-Err c = unparsed_refused c.args.word.now (sym c.has_plus.ensures ∙ c.if-has_plus.false) c.in-Err.ensures.value.0
