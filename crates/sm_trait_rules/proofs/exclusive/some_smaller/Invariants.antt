use Rattle.std.proofs.Common.{◌≡◌, drop}
use Rattle.std.specs.List.{list_any}
use Rattle.sm_model.specs.GraphView.{maps_of}
use Rattle.sm_model.specs.Reaching.{id_of_number}
use Rattle.sm_compile.specs.steps.Naming.{texts_of_all}
use Rattle.sm_trait_rules.specs.steps.Excluding.{is_smaller}
use Rattle.sm_trait_rules.proofs.exclusive.some_smaller.Given as goal

abbrev pub invariant-loop-other : goal.invariant-loop-other
invariant-loop-other l =
    list_any (is_smaller (maps_of l.graph) (id_of_number l.graph l.number) l.name) (texts_of_all (drop l.other-index l.group))
    ≡ list_any (is_smaller (maps_of l.graph) (id_of_number l.graph l.number) l.name) (texts_of_all l.group)
