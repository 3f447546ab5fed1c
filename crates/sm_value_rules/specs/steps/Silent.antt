-- In the prelude such a rule tells nothing: laws of what tells at shapes outside of it.
use Rattle.std.proofs.Common.{◌≡◌, ℕ, true, List, sym, ◌∙◌}
use Rattle.sm_model.proofs.Worklist.{apart}
use Rattle.sm_model.specs.EventView.{EventTold}
use Rattle.sm_model.specs.Graphs.{GraphMaps}
use Rattle.sm_model.specs.PreludeShapes.{is_prelude_id}
use Rattle.sm_rules.specs.Constraints.{HasWrongBounds, wrong_length, wrong_range}
use Rattle.sm_rules.specs.RuleEvents.{IsEventAt}
use Rattle.sm_rules.specs.declared.rule.Rule.TheVariants.{ConstraintBounds}

pub none_wrong : (g : GraphMaps) (id detail : List ℕ) → is_prelude_id id ≡ true → HasWrongBounds g id detail → ⊥
none_wrong g id detail of_prelude (wrong_length n own read bad is) = apart (sym own ∙ of_prelude)
none_wrong g id detail of_prelude (wrong_range n own read bad is) = apart (sym own ∙ of_prelude)

pub no_bounds : (g : GraphMaps) (id : List ℕ) (e : EventTold) → is_prelude_id id ≡ true
    → IsEventAt ConstraintBounds (HasWrongBounds g) id e → ⊥
no_bounds g id e of_prelude h = none_wrong g id h.0 of_prelude h.1
