use Rattle.std.proofs.Common.{◌≡◌, ◌∷◌, [], rules, subst, true}
use Rattle.sm_model.specs.GraphView.{maps_of}
use Rattle.sm_model.specs.declared.relation.Relation.TheVariants.{Output}
use Rattle.sm_select.specs.Images.{AreImage, turned}
use Rattle.sm_select.specs.Picks.{LeadsAlong}
use Rattle.sm_http_rules.proofs.HttpBodies.{outputs_marked}
use Rattle.sm_http_rules.proofs.in_body.with_output_body.Goals as goal

pub returns : goal.returns
returns c =
    let g = c.args.graph.now in
    let same : c.deref.result.now ≡ c.in_ok-bodied.bodied.items = search rules in
    outputs_marked g c.in_ok-bodied.bodied.items c.in_ok-bodied.ensures c.in_ok-marks.marks.items
    (subst (λ starts. AreImage g starts (turned true (LeadsAlong (maps_of g) (Output ∷ []))) c.in_ok-marks.marks.items) same
    c.in_ok-marks.ensures)
