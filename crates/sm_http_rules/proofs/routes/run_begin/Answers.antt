use Rattle.std.proofs.Common.{arith}
use Rattle.sm_http_rules.proofs.FirstsInOrder.{run_new}
use Rattle.sm_http_rules.proofs.routes.run_begin.Goals as goal

pub returns-clause-run : goal.returns-clause-run
returns-clause-run c =
    run_new c.args.rows.now c.args.begin c.args.place c.requires.run c.requires.order c.requires.place
    (λ same. omega (arith, same, c.if-rows-begin.false))
