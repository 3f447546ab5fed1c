-- Graphs in which none of the rules fails that a table of shapes or of a service needs (Smithy 2.0, "Model validation"). What holds of them
-- holds of each graph that is accepted.
use Rattle.sm_model.specs.Graphs.{GraphMaps}
use Rattle.sm_compile.specs.Compiled.{IdSet}
use Rattle.sm_rules.specs.Ready.{FailsNowhereIn, NoneFailsIn, RuleOn}

-- all ids
abbrev pub EachId : IdSet
EachId id = Unit {0}

-- a rule fails at no shape and at no member
abbrev pub NeverFails : GraphMaps → RuleOn → Type 0
NeverFails g Fails = FailsNowhereIn g EachId Fails

-- none of the rules does
abbrev pub NoneFails : GraphMaps → Type 0
NoneFails g = NoneFailsIn g EachId
