use Rattle.std.proofs.Common.{◌≡◌, None, arith, inl, inr, subst, sym, ◌∙◌}
use Rattle.std.proofs.lemmas.Bool.{cases_lt}
use Rattle.std.proofs.lemmas.List.{get_or_past}
use Rattle.sm_name_rules.specs.steps.NameTwins.{earlier_in}
use Rattle.sm_name_rules.proofs.NamesNumbered.{not_some}
use Rattle.sm_name_rules.proofs.earlier.are_apart.Goals as goal

pub loop-first-preserved : goal.loop-first-preserved
loop-first-preserved c k less =
    let i = c.loop-first.first-index in
    elim (cases_lt k i) [
      | inl before ↦ c.loop-first.invariant k before
      | inr behind ↦
          let same : i ≡ k = omega (arith, less, behind) in
          subst (λ j. earlier_in c.args.earlier.now j ≡ None) same
          (not_some (earlier_in c.args.earlier.now i) (sym c.is_some.ensures ∙ c.if-is_some.false))
    ]

pub returns : goal.returns
returns c whole k =
    elim (cases_lt k c.loop-first.first-index) [
      | inl before ↦ c.loop-first.invariant k before
      | inr behind ↦ get_or_past c.args.earlier.now k None (omega (arith, behind, c.loop-first-test.false))
    ]
