use Rattle.sm_merge.proofs.EventsSorted.{errors_among}
use Rattle.sm_merge.proofs.events.in_order.Goals as goal

pub returns-clause-errors : goal.returns-clause-errors
returns-clause-errors c = errors_among c.args.events.items c.sorted_events.result c.sorted_events.ensures.kept c.requires
