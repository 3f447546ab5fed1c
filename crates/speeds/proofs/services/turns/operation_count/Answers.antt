use Rattle.sm_ids.specs.IdText.{printed}
use Rattle.sm_ids.specs.View.{id_of}
use Rattle.speeds.proofs.services.turns.operation_count.Goals as goal

pub count_after-requires : goal.count_after-requires
count_after-requires c = c.in-Some.ensures (printed (id_of c.in-Ok.service))
