use Rattle.std.proofs.Common.{arith, get_or}
use Rattle.sm_http_rules.proofs.SameRouteRows.{first_value, values_of_first}
use Rattle.sm_http_rules.proofs.same_routes.put_run.Goals as goal

pub put_under-requires : goal.put_under-requires
put_under-requires c k there = c.requires.within k (values_of_first c.run_len-count.result c.args.rows.now k there)

pub returns-clause-first : goal.returns-clause-first
returns-clause-first c = record {
  alone = λ few. absurd (omega (arith, few, c.if-count-eq1.false, c.run_len-count.ensures.some));
  several = λ more. (
    (get_or c.args.rows.now 0 c.index-rows-0.result).1,
    first_value c.args.rows.now c.run_len-count.result c.index-rows-0.result c.run_len-count.ensures.some c.run_len-count.ensures.within,
    c.put_under.ensures.put,
  );
}
