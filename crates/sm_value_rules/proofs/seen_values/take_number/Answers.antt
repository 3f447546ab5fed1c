use Rattle.std.proofs.Common.{◌≡◌, true, false, ap, sym, ◌∙◌, subst, FitsSigned, w64, to_z, of_z, to_z-of_z, rules, int_cmp}
use Rattle.std.specs.Prelude.{not}
use Rattle.std.specs.BTreeSet as sorted
use Rattle.sm_value_rules.specs.steps.SeenValues.{has_number}
use Rattle.sm_value_rules.proofs.ValuesTaken.{number_again, number_more}
use Rattle.sm_value_rules.proofs.seen_values.take_number.Goals as goal

pub returns-then-contains-clause-new : goal.returns-then-contains-clause-new
returns-then-contains-clause-new c =
    let fits : FitsSigned w64 c.args.number = search rules in
    let same : to_z w64 (of_z w64 c.args.number) ≡ c.args.number = to_z-of_z fits in
    let there : has_number c.args.numbers.now c.args.number ≡ true =
    ap (has_number c.args.numbers.now) (sym same) ∙ sym c.contains.ensures ∙ c.if-contains.true in
    sym (ap not there)

pub returns-then-contains-clause-held : goal.returns-then-contains-clause-held
returns-then-contains-clause-held c =
    let fits : FitsSigned w64 c.args.number = search rules in
    let same : to_z w64 (of_z w64 c.args.number) ≡ c.args.number = to_z-of_z fits in
    number_again c.args.numbers.now c.args.number
    (ap (has_number c.args.numbers.now) (sym same) ∙ sym c.contains.ensures ∙ c.if-contains.true)

pub returns-in-Ok-clause-new : goal.returns-in-Ok-clause-new
returns-in-Ok-clause-new c =
    let fits : FitsSigned w64 c.args.number = search rules in
    let same : to_z w64 (of_z w64 c.args.number) ≡ c.args.number = to_z-of_z fits in
    let new : has_number c.args.numbers.now c.args.number ≡ false =
    ap (has_number c.args.numbers.now) (sym same) ∙ sym c.contains.ensures ∙ c.if-contains.false in
    sym (ap not new)

pub returns-in-Ok-clause-held : goal.returns-in-Ok-clause-held
returns-in-Ok-clause-held c =
    let fits : FitsSigned w64 c.args.number = search rules in
    let same : to_z w64 (of_z w64 c.args.number) ≡ c.args.number = to_z-of_z fits in
    number_more c.args.numbers.now c.insert.new.self c.args.number
    (subst (λ k. sorted.UpdatesBy int_cmp (int_cmp k) c.args.numbers.now c.insert.new.self true) same c.in-Ok.ensures.updates)
