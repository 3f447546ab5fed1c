use Rattle.std.proofs.Common.{take}
use Rattle.sm_rules.specs.RuleEvents.{Puts}
use Rattle.sm_passes.specs.Firsts.{ToldAmong, number_in}
use Rattle.sm_name_rules.proofs.case.put_each_twin.Given as goal

abbrev pub invariant-loop-row : goal.invariant-loop-row
invariant-loop-row l =
    Puts (ToldAmong l.graph (number_in l.firsts) (take l.row-index l.rows)) l.fn.events.items l.events.items
