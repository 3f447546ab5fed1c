-- What two passes of one rule put, each a part of what it tells.
use Rattle.std.proofs.Common.{◌⊎◌, inl, inr, List, ℕ}
use Rattle.std.specs.Prelude.{◌↔◌}
use Rattle.sm_model.specs.declared.event.ModelEvent.{ModelEvent}
use Rattle.sm_rules.specs.RuleEvents.{IsEventOf, Puts, RuleFails}
use Rattle.sm_rules.specs.declared.rule.Rule.{Rule}
use Rattle.sm_passes.proofs.EventsPut.{puts_both, puts_same}

-- a rule tells what one part tells, or the other
pub puts_parts : (r : Rule) (One Other Whole : RuleFails) (before mid now : List ModelEvent)
    → ((id detail : List ℕ) → (One id detail ⊎ Other id detail) ↔ Whole id detail) → Puts (IsEventOf r One) before mid
    → Puts (IsEventOf r Other) mid now → Puts (IsEventOf r Whole) before now
puts_parts r One Other Whole before mid now parts h k =
    puts_same (λ e. IsEventOf r One e ⊎ IsEventOf r Other e) (IsEventOf r Whole) before now (λ e. (
      λ either. elim either [
        | inl one ↦ (one.0, one.1, (parts one.0 one.1).0 (inl one.2), one.3)
        | inr other ↦ (other.0, other.1, (parts other.0 other.1).0 (inr other.2), other.3)
      ],
      λ (id, detail, fails, is). elim ((parts id detail).1 fails) [
        | inl one ↦ inl (id, detail, one, is)
        | inr other ↦ inr (id, detail, other, is)
      ],
    )) (puts_both (IsEventOf r One) (IsEventOf r Other) before mid now h k)
