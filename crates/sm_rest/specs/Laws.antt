-- That what is compiled has texts of bytes alone in its targets: a law, the contract of a function of the module `laws`.
use Rattle.std.specs.Prelude.{◌≡◌, ℕ, List, Some}
use Rattle.sm_tree.specs.Json.{IsJson}
use Rattle.sm_tree.specs.Node.{Node}
use Rattle.sm_model.specs.Graphs.{GraphMaps}
use Rattle.sm_compile.specs.Sound.{trait_of}
use Rattle.sm_bind_read.specs.service.Compiled.{IsServiceOf}
use Rattle.sm_bind_read.specs.service.ServiceData.{ServiceData}
use Rattle.sm_rest.specs.RestServable.{HasTargetTexts}

-- the values of traits are JSON, as in every graph that statements of files come to
abbrev pub HasJsonTraits : GraphMaps → Type 0
HasJsonTraits g = (id trait : List ℕ) (n : Node) → trait_of g id trait ≡ Some n → IsJson n

abbrev pub TargetTextsWhereJson : Type 0
TargetTextsWhereJson = (g : GraphMaps) (id : List ℕ) (s : ServiceData) → HasJsonTraits g → IsServiceOf g id s → HasTargetTexts s
