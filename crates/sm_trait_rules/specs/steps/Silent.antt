-- In the prelude such a rule tells nothing: laws of what tells at shapes outside of it.
use Rattle.std.proofs.Common.{◌≡◌, ℕ, true, List, sym, ◌∙◌, ap}
use Rattle.std.specs.Prelude.{not}
use Rattle.sm_model.proofs.Worklist.{apart}
use Rattle.sm_model.specs.EventView.{EventTold}
use Rattle.sm_model.specs.Graphs.{GraphMaps}
use Rattle.sm_model.specs.PreludeShapes.{is_prelude_id}
use Rattle.sm_rules.specs.RuleEvents.{IsEventAt}
use Rattle.sm_rules.specs.TraitShapes.{HasExcludedTrait}
use Rattle.sm_rules.specs.Traits.{HasExclusiveTraits, HasUnknownTrait}
use Rattle.sm_rules.specs.declared.rule.Rule.{Rule}
use Rattle.sm_rules.specs.declared.rule.Rule.TheVariants.{TraitConflict, TraitUnknown}
use Rattle.sm_trait_rules.specs.steps.Judging.{Judgement, ToldJudged}

pub no_exclusive : (g : GraphMaps) (id : List ℕ) (e : EventTold) → is_prelude_id id ≡ true
    → IsEventAt TraitConflict (HasExclusiveTraits g) id e → ⊥
no_exclusive g id e of_prelude h = apart (sym h.1.own.1 ∙ of_prelude)

pub no_excluded : (g : GraphMaps) (id : List ℕ) (e : EventTold) → is_prelude_id id ≡ true
    → IsEventAt TraitConflict (HasExcludedTrait g) id e → ⊥
no_excluded g id e of_prelude h = apart (sym h.1.own.1 ∙ of_prelude)

pub none_judged : (rule : Rule) (wrong : Judgement) (g : GraphMaps) (id : List ℕ) (e : EventTold) → is_prelude_id id ≡ true
    → ToldJudged rule wrong g id e → ⊥
none_judged rule wrong g id e of_prelude j = apart (sym (ap not of_prelude) ∙ j.2)

pub no_unknown : (g : GraphMaps) (id : List ℕ) (e : EventTold) → is_prelude_id id ≡ true
    → IsEventAt TraitUnknown (HasUnknownTrait g) id e → ⊥
no_unknown g id e of_prelude h = apart (sym h.1.carries.0 ∙ of_prelude)
