use Rattle.sm_select.proofs.TakenQuotes.{by_quotes, quotes_or_none}
use Rattle.sm_select.proofs.parser_taken.quoted_at.Goals as goal

pub returns-in-Some : goal.returns-in-Some
returns-in-Some c = by_quotes c.args.rest.now c.in-Some.taken c.in-Some.ensures

pub returns-in-None : goal.returns-in-None
returns-in-None c = quotes_or_none c.args.rest.now c.quoted_by-in-None.result c.in-None.ensures c.quoted_by-in-None.ensures
