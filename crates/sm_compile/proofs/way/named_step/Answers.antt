use Rattle.std.proofs.Common.{◌≡◌, Some, ap, refl, subst, ◌∙◌}
use Rattle.sm_model.specs.GraphView.{maps_of}
use Rattle.sm_model.specs.Reaching.{id_of_number}
use Rattle.sm_compile.specs.steps.Looked.{target_under}
use Rattle.sm_compile.proofs.StepsFound.{step_made}
use Rattle.sm_compile.proofs.way.named_step.Goals as goal

pub returns-in-Some : goal.returns-in-Some
returns-in-Some c =
    let g = c.args.graph.now in (
      refl,
      refl,
      step_made (maps_of g) (id_of_number g c.args.shape)
          (record { at = c.args.at; name = c.in-Some.name.now; to = id_of_number g c.args.to })
          (c.requires.stands ∙ ap Some c.in-Some.ensures)
          (subst (λ i. target_under (maps_of g) i ≡ Some (id_of_number g c.args.to)) c.in-Some.ensures c.requires.target),
    )
