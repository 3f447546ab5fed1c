-- Traits that are known, as tests, and what is told of those that aren't.
use Rattle.std.specs.Prelude.{◌&&◌, ℕ, Bool, not, List, is_some}
use Rattle.sm_tree.specs.declared.tree.Tree.{Tree}
use Rattle.sm_model.specs.EventView.{EventTold}
use Rattle.sm_model.specs.Graphs.{GraphMaps}
use Rattle.sm_model.specs.PreludeShapes.{is_prelude_id}
use Rattle.sm_compile.specs.Sound.{trait_of}
use Rattle.sm_compile.specs.TraitIds.{trait_id}
use Rattle.sm_rules.specs.TraitRows.{has_row}
use Rattle.sm_rules.specs.RuleEvents.{rule_event}
use Rattle.sm_rules.specs.declared.rule.Rule.TheVariants.{TraitUnknown}
use Rattle.sm_passes.specs.Putting.{IsWhere}

-- the model says that it is a trait
abbrev pub is_defined : GraphMaps → List ℕ → Bool
is_defined g trait = is_some (trait_of g trait trait_id) && not (is_prelude_id trait)

abbrev pub is_unknown : GraphMaps → List ℕ → Bool
is_unknown g trait = not (has_row trait) && not (is_defined g trait)

-- of a trait with its value
abbrev pub ToldUnknown : GraphMaps → List ℕ → List ℕ × Tree → EventTold → Type 0
ToldUnknown g id t e = IsWhere (is_unknown g t.0) (rule_event TraitUnknown id t.0) e
