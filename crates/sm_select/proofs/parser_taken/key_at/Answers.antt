use Rattle.sm_select.proofs.TakenTokens.{key_quoted, key_word}
use Rattle.sm_select.proofs.parser_taken.key_at.Goals as goal

pub returns-in-Some : goal.returns-in-Some
returns-in-Some c = key_word c.in-Some.taken.text.now c.args.rest.now c.in-Some.taken.behind.now c.in-Some.ensures

pub returns-in-None : goal.returns-in-None
returns-in-None c = key_quoted c.args.rest.now c.quoted_at.result c.in-None.ensures c.quoted_at.ensures
