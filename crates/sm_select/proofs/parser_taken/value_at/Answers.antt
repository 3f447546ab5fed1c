use Rattle.sm_select.proofs.TakenTokens.{value_id, value_number, value_quoted}
use Rattle.sm_select.proofs.parser_taken.value_at.Goals as goal

pub returns-in-Some : goal.returns-in-Some
returns-in-Some c = value_quoted c.in-Some.taken.text.now c.args.rest.now c.in-Some.taken.behind.now c.in-Some.ensures

pub returns-in-Some-number_at : goal.returns-in-Some-number_at
returns-in-Some-number_at c =
    value_number c.in-Some-number_at.taken.text.now c.args.rest.now c.in-Some-number_at.taken.behind.now c.in-None.ensures
    c.in-Some-number_at.ensures

pub returns-in-None-number_at : goal.returns-in-None-number_at
returns-in-None-number_at c = value_id c.args.rest.now c.id_at.result c.in-None.ensures c.in-None-number_at.ensures c.id_at.ensures
