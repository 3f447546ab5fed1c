use Rattle.std.proofs.Common.{◌≡◌, refl, ap, sym, true, false, ◌∙◌}
use Rattle.sm_model.specs.GraphView.{maps_of}
use Rattle.sm_transformed.specs.Transformed.{some_grave}
use Rattle.sm_transformed.proofs.JudgedGraphs.{rejected_by, rejects_none}
use Rattle.sm_transformed.proofs.judging.with_events.Goals as goal

pub returns-then-has_grave : goal.returns-then-has_grave
returns-then-has_grave c =
    let grave : some_grave c.args.events ≡ true = ap some_grave (sym c.as_slice.ensures) ∙ sym c.has_grave.ensures
    ∙ c.if-has_grave.true in (
      rejected_by (maps_of c.args.graph) c.args.events c.requires grave,
      c.requires,
    )

pub returns : goal.returns
returns c =
    let none : some_grave c.args.events ≡ false = ap some_grave (sym c.as_slice.ensures) ∙ sym c.has_grave.ensures
    ∙ c.if-has_grave.false in (
      refl,
      (rejects_none (maps_of c.args.graph) c.args.events c.requires none, c.requires),
    )
