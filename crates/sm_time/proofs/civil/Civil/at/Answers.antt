use Rattle.std.proofs.Common.{◌/◌, ◌%◌, arith, ap, sym}
use Rattle.jiff_core.proofs.SignedLemmas.{signed_arith}
use Rattle.jiff_core.proofs.DateLemmas.{civil}
use Rattle.sm_time.specs.Calendar.{Date}
use Rattle.sm_time.specs.declared.civil.Civil.{Civil}
use Rattle.sm_time.proofs.CalendarLinks.{jiff_date_at, year_back, small_year}
use Rattle.sm_time.proofs.civil.Civil.at.Goals as goal

pub overflow_cast-result : goal.overflow_cast-result
overflow_cast-result c =
    let date = c.from_days_since_min-date.result in
    let low = (jiff_date_at date (c.args.seconds / 86400) c.from_days_since_min-date.ensures).0 in
    rw (year_back date) (omega (arith, signed_arith, low, small_year date.year (civil date).0))

pub returns-clause-shown : goal.returns-clause-shown
returns-clause-shown c =
    let date = c.from_days_since_min-date.result in
    let same = (jiff_date_at date (c.args.seconds / 86400) c.from_days_since_min-date.ensures).1 in
    let n = c.args.seconds in
    let with : Date → Civil = λ d. record {
      year = d.year;
      month = d.month;
      day = d.day;
      hour = n % 86400 / 3600;
      minute =
          n % 3600 / 60;
      second = n % 60;
    } in
    rw (year_back date) (ap with (sym same))
