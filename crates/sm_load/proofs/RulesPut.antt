-- What passes put one after the other, rule by rule, in the order of the list of rules.
use Rattle.std.proofs.Common.{◌⊎◌, inl, inr, List, [], ◌∷◌, sym, subst}
use Rattle.sm_model.specs.Graphs.{GraphMaps}
use Rattle.sm_model.specs.declared.event.ModelEvent.{ModelEvent}
use Rattle.sm_model.proofs.OneRising.{contains_behind, contains_either, contains_head, contains_none}
use Rattle.sm_rules.specs.RuleEvents.{IsEventOf, Puts}
use Rattle.sm_rules.specs.RuleList.{all_rules}
use Rattle.sm_rules.specs.Rules.{Fails}
use Rattle.sm_rules.specs.declared.rule.Rule.{Rule}
use Rattle.sm_rules.proofs.AllRules.{each_listed}
use Rattle.sm_passes.proofs.EventsPut.{puts_both, puts_none, puts_same}
use Rattle.sm_load.specs.steps.Passes.{IsOfOne, IsOfRule}

module _ (g : GraphMaps) where
  pub none_put : (es : List ModelEvent) → Puts (IsOfOne g []) es es
  none_put es = puts_none (IsOfOne g []) es (λ e h. contains_none h.rule h.among)

  -- the pass of a rule, and then those of others
  pub put_first : (rules : List Rule) (r : Rule) (before mid now : List ModelEvent) → Puts (IsEventOf r (Fails r g)) before mid
      → Puts (IsOfOne g rules) mid now → Puts (IsOfOne g (r ∷ rules)) before now
  put_first rules r before mid now h k =
      puts_same (λ e. IsEventOf r (Fails r g) e ⊎ IsOfOne g rules e) (IsOfOne g (r ∷ rules)) before now (λ e. (
        λ either. elim either [
          | inl new ↦ record { rule = r; among = contains_head r rules; told = new }
          | inr old ↦ record { rule = old.rule; among = contains_behind r old.rule rules old.among; told = old.told }
        ],
        λ one. elim (contains_either r one.rule rules one.among) [
          | inl same ↦ inl (subst (λ x. IsEventOf x (Fails x g) e) (sym same) one.told)
          | inr old ↦ inr (record { rule = one.rule; among = old; told = one.told })
        ],
      )) (puts_both (IsEventOf r (Fails r g)) (IsOfOne g rules) before mid now h k)

  -- those of the whole list
  pub all_put : (before now : List ModelEvent) → Puts (IsOfOne g all_rules) before now → Puts (IsOfRule g) before now
  all_put before now h = puts_same (IsOfOne g all_rules) (IsOfRule g) before now (λ e. (
    λ one. (one.rule, one.told),
    λ h. record { rule = h.0; among = each_listed h.0; told = h.1 },
  )) h
