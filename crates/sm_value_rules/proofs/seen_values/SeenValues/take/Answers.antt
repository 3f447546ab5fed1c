use Rattle.std.proofs.Common.{◌≡◌, ℤ, refl, sym, ap, ◌∙◌, subst, FitsSigned, w64, to_z, of_z, to_z-of_z, rules, int_eq}
use Rattle.std.specs.Prelude.{◌||◌, not}
use Rattle.sm_model.specs.Joins.{Joins}
use Rattle.sm_value_rules.specs.declared.seen_values.SeenValues.{SeenValues}
use Rattle.sm_value_rules.specs.steps.SeenValues.{Holds, has_number, holds, value_node}
use Rattle.sm_value_rules.proofs.ValuesTaken.{number_taken, text_taken}
use Rattle.sm_value_rules.proofs.seen_values.SeenValues.take.Goals as goal

pub returns-in_ok-new-in-Text-clause-new : goal.returns-in_ok-new-in-Text-clause-new
returns-in_ok-new-in-Text-clause-new c =
    c.in_ok-new-in-Text.ensures.new ∙ ap (λ v. not (holds c.args.self.now v)) (sym (ap value_node c.in-Text.is))

pub returns-in_ok-new-in-Text-clause-held : goal.returns-in_ok-new-in-Text-clause-held
returns-in_ok-new-in-Text-clause-held c =
    let now : SeenValues = record { texts = c.take_text.new.texts; numbers = c.args.self.now.numbers } in
    subst (λ v. Joins (Holds c.args.self.now) (λ n. v ≡ n) (Holds now)) (sym (ap value_node c.in-Text.is))
    (text_taken c.args.self.now now c.in-Text.text.now c.in_ok-new-in-Text.ensures.held refl)

pub returns-in_ok-new-in-Number-clause-new : goal.returns-in_ok-new-in-Number-clause-new
returns-in_ok-new-in-Number-clause-new c =
    let fits : FitsSigned w64 c.in-Number.number = search rules in
    let same : to_z w64 (of_z w64 c.in-Number.number) ≡ c.in-Number.number = to_z-of_z fits in
    c.in_ok-new-in-Number.ensures.new ∙ ap (λ z. not (has_number c.args.self.now.numbers z)) same
    ∙ ap (λ v. not (holds c.args.self.now v)) (sym (ap value_node c.in-Number.is))

pub returns-in_ok-new-in-Number-clause-held : goal.returns-in_ok-new-in-Number-clause-held
returns-in_ok-new-in-Number-clause-held c =
    let fits : FitsSigned w64 c.in-Number.number = search rules in
    let same : to_z w64 (of_z w64 c.in-Number.number) ≡ c.in-Number.number = to_z-of_z fits in
    let now : SeenValues = record { texts = c.args.self.now.texts; numbers = c.take_number.new.numbers } in
    subst (λ v. Joins (Holds c.args.self.now) (λ n. v ≡ n) (Holds now)) (sym (ap value_node c.in-Number.is))
    (number_taken c.args.self.now now c.in-Number.number
    (subst (λ k. (z : ℤ) → has_number c.take_number.new.numbers z ≡ (has_number c.args.self.now.numbers z || int_eq k z)) same
    c.in_ok-new-in-Number.ensures.held) refl)
