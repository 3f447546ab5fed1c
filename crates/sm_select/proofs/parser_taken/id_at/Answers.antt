use Rattle.sm_select.proofs.TakenWords.{member_id, run_id, run_id_alone}
use Rattle.sm_select.proofs.parser_taken.id_at.Goals as goal

pub returns-then-is_id : goal.returns-then-is_id
returns-then-is_id c =
    let found = c.in-Some.ensures in
    member_id c.args.rest.now c.run_at-run.result.now c.run_at-run.ensures found.0 c.in-Some.taken.behind.now c.in-Some.taken.text.now
    found.3
    found.1 found.2 c.if-is_id.ensures

pub returns-else-is_id : goal.returns-else-is_id
returns-else-is_id c =
    let found = c.in-Some.ensures in
    run_id_alone c.args.rest.now c.run_at-run.result.now c.run_at-run.ensures c.run_id.result found.0 c.in-Some.taken.behind.now
    c.in-Some.taken.text.now found.3 found.1 c.if-is_id.ensures c.run_id.ensures

pub returns-in-None : goal.returns-in-None
returns-in-None c =
    run_id c.args.rest.now c.run_at-run.result.now c.run_at-run.ensures c.run_id-in-None.result c.in-None.ensures c.run_id-in-None.ensures
