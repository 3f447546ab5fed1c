use Rattle.std.proofs.Common.{sym, ◌∙◌}
use Rattle.sm_model.proofs.Worklist.{apart}
use Rattle.sm_compile.proofs.SoundShapes.{no_value, value_told}
use Rattle.sm_compile.proofs.soundness.is_value_shape.Goals as goal

pub returns-in-Some : goal.returns-in-Some
returns-in-Some c =
    let g = c.args.graph.now in
    let t = value_told g c.args.number c.in-Some.kind (sym c.in-Some.ensures) in
    (λ h. t.0 (sym c.has_values.ensures ∙ h), λ v. c.has_values.ensures ∙ t.1 v)

pub returns-in-None : goal.returns-in-None
returns-in-None c = (λ h. absurd (apart h), λ v. absurd (no_value c.args.graph.now c.args.number (sym c.in-None.ensures) v))
