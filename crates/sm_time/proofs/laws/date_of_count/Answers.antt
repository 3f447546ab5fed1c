use Rattle.sm_time.proofs.CalendarFacts.{day_of, date_of_days}
use Rattle.sm_time.proofs.laws.date_of_count.Goals as goal

pub returns : goal.returns
returns c = λ d h. date_of_days d (day_of d h)
