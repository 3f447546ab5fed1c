use Rattle.std.proofs.Common.{subst, sym, ◌∙◌}
use Rattle.sm_model.specs.GraphView.{maps_of}
use Rattle.sm_model.proofs.Worklist.{apart}
use Rattle.sm_compile.proofs.LookedUp.{stands_is}
use Rattle.sm_value_rules.specs.steps.Valuing.{IsJudgedTrait}
use Rattle.sm_value_rules.proofs.ValuesTold.{judged_told, told_judged}
use Rattle.sm_value_rules.proofs.values.judged_trait.Goals as goal

pub returns-then-is_judged : goal.returns-then-is_judged
returns-then-is_judged c =
    let g = c.args.graph.now in
    let k = c.in-Some.number in
    let t = stands_is g 0 k c.args.name.now c.in-Some.ensures in (
      t.0,
      t.1,
      subst (IsJudgedTrait (maps_of g)) t.1 (judged_told g c.args.checked.now c.requires k (sym c.is_judged.ensures ∙ c.if-is_judged.true)),
    )

pub returns-else-is_judged : goal.returns-else-is_judged
returns-else-is_judged c =
    let g = c.args.graph.now in
    let k = c.in-Some.number in
    let t = stands_is g 0 k c.args.name.now c.in-Some.ensures in
    λ h.
    apart (sym c.if-is_judged.false ∙ c.is_judged.ensures
    ∙ told_judged g c.args.checked.now c.requires k t.0 (subst (IsJudgedTrait (maps_of g)) (sym t.1) h))
