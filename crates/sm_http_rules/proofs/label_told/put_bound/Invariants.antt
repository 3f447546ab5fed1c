use Rattle.std.proofs.Common.{take}
use Rattle.sm_model.specs.Reaching.{id_of_number}
use Rattle.sm_rules.specs.RuleEvents.{Puts}
use Rattle.sm_passes.specs.Firsts.{number_in}
use Rattle.sm_passes.specs.Putting.{ToldOf}
use Rattle.sm_http_rules.specs.steps.Labels.{ToldMember}
use Rattle.sm_http_rules.proofs.label_told.put_bound.Given as goal

abbrev pub invariant-loop-row : goal.invariant-loop-row
invariant-loop-row l =
    Puts (ToldOf (ToldMember l.graph (id_of_number l.graph l.operation) (number_in l.by_label) (number_in l.by_greedy))
    (take l.row-index l.bound)) l.fn.events.items
    l.events.items
