use Rattle.std.proofs.Common.{take}
use Rattle.sm_model.specs.GraphView.{maps_of}
use Rattle.sm_model.specs.Reaching.{id_of_number}
use Rattle.sm_rules.specs.RuleEvents.{Puts}
use Rattle.sm_passes.specs.Putting.{ToldOf}
use Rattle.sm_name_rules.specs.steps.Naming.{ToldWrong}
use Rattle.sm_name_rules.proofs.names.put_renames.Given as goal

abbrev pub invariant-loop-pair : goal.invariant-loop-pair
invariant-loop-pair l =
    Puts (ToldOf (ToldWrong (maps_of l.graph) (id_of_number l.graph l.service)) (take l.pair-index l.pairs)) l.fn.events.items
    l.events.items
