-- Members that carry a trait, as tests.
use Rattle.std.specs.Prelude.{ℕ, Bool, List, is_some}
use Rattle.sm_model.specs.Graphs.{GraphMaps}
use Rattle.sm_compile.specs.Sound.{trait_of}
use Rattle.sm_rules.specs.declared.rule.Rule.TheVariants as rule

abbrev pub carries : GraphMaps → List ℕ → List ℕ → Bool
carries g trait id = is_some (trait_of g id trait)
