use Rattle.std.proofs.Common.{take}
use Rattle.sm_model.specs.GraphView.{maps_of}
use Rattle.sm_model.specs.Reaching.{id_of_number}
use Rattle.sm_compile.specs.steps.Naming.{texts_of_all}
use Rattle.sm_rules.specs.RuleEvents.{Puts}
use Rattle.sm_trait_rules.specs.steps.Excluding.{ToldGreater}
use Rattle.sm_passes.specs.Putting.{ToldOf}
use Rattle.sm_trait_rules.proofs.exclusive.put_group.Given as goal

abbrev pub invariant-loop-name : goal.invariant-loop-name
invariant-loop-name l =
    Puts (ToldOf (ToldGreater (maps_of l.graph) (id_of_number l.graph l.number) (texts_of_all l.group)) (take l.name-index l.group))
    l.fn.events.items l.events.items
