use Rattle.std.proofs.Common.{◌≡◌, refl, ap, sym, true, false, ◌∙◌}
use Rattle.sm_model.specs.GraphView.{maps_of}
use Rattle.sm_load.specs.steps.Stages.{some_grave}
use Rattle.sm_load.proofs.GraphsJudged.{rejected_by, rejects_none}
use Rattle.sm_load.proofs.loading.judged.Goals as goal

pub returns-then-has_grave : goal.returns-then-has_grave
returns-then-has_grave c =
    let grave : some_grave c.args.events ≡ true = ap some_grave (sym c.as_slice.ensures) ∙ sym c.has_grave.ensures
    ∙ c.if-has_grave.true in (
      rejected_by (maps_of c.args.graph) c.args.events c.requires grave,
      c.requires,
    )

pub returns : goal.returns
returns c =
    let none : some_grave c.args.events ≡ false = ap some_grave (sym c.as_slice.ensures) ∙ sym c.has_grave.ensures
    ∙ c.if-has_grave.false in (
      refl,
      (rejects_none (maps_of c.args.graph) c.args.events c.requires none, c.requires),
    )
