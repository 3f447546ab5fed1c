use Rattle.sm_time.proofs.CalendarFacts.{days_of_date}
use Rattle.sm_time.proofs.laws.count_of_date.Goals as goal

pub returns : goal.returns
returns c = λ n. (days_of_date n).1
