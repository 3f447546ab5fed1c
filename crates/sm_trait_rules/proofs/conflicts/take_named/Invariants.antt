use Rattle.std.proofs.Common.{take}
use Rattle.sm_model.specs.GraphView.{maps_of}
use Rattle.sm_model.specs.Reaching.{id_of_number}
use Rattle.sm_model.specs.Joins.{Joins}
use Rattle.sm_trait_rules.specs.steps.Conflicting.{HasText, IsGreaterIfHeld, IsOfSome}
use Rattle.sm_trait_rules.proofs.conflicts.take_named.Given as goal

abbrev pub invariant-loop-pair : goal.invariant-loop-pair
invariant-loop-pair l =
    Joins (HasText l.fn.told.texts)
    (IsOfSome (λ t. IsGreaterIfHeld (maps_of l.graph) (id_of_number l.graph l.number) l.name l.set.texts t.0) (take l.pair-index l.traits))
    (HasText l.told.texts)
