-- In the prelude such a rule tells nothing: laws of what tells at shapes outside of it.
use Rattle.std.proofs.Common.{◌≡◌, ℕ, true, List, sym, ◌∙◌}
use Rattle.sm_model.proofs.Worklist.{apart}
use Rattle.sm_model.specs.EventView.{EventTold}
use Rattle.sm_model.specs.Graphs.{GraphMaps}
use Rattle.sm_model.specs.PreludeShapes.{is_prelude_id}
use Rattle.sm_reference_rules.specs.steps.Missing.{TargetsNothing}
use Rattle.sm_rules.specs.RuleEvents.{IsEventAt}
use Rattle.sm_rules.specs.declared.rule.Rule.TheVariants.{TargetMissing}

pub none_targeted : (g : GraphMaps) (id : List ℕ) (e : EventTold) → is_prelude_id id ≡ true
    → IsEventAt TargetMissing (TargetsNothing g) id e → ⊥
none_targeted g id e of_prelude h = apart (sym (h.1).1.1 ∙ of_prelude)
