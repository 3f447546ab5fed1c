use Rattle.std.proofs.Common.{arith}
use Rattle.sm_time.specs.Civil.{date_in}
use Rattle.sm_time.proofs.CalendarLinks.{date_shown}
use Rattle.sm_time.proofs.civil.Civil.seconds.Goals as goal

pub overflow_sub-days : goal.overflow_sub-days
overflow_sub-days c =
    let shown = date_shown c.in-Ok.date (date_in c.args.self) c.days_since_min.result c.if-self-gt9999.false c.if-self-gt12.false
    c.if-self-gt31.false c.in-Ok.ensures.value c.days_since_min.ensures.value in
    omega (arith, shown.1)

pub returns-clause-value : goal.returns-clause-value
returns-clause-value c =
    let shown = date_shown c.in-Ok.date (date_in c.args.self) c.days_since_min.result c.if-self-gt9999.false c.if-self-gt12.false
    c.if-self-gt31.false c.in-Ok.ensures.value c.days_since_min.ensures.value in
    ((shown.0, omega arith, omega arith, omega arith), omega (arith, shown.1))
