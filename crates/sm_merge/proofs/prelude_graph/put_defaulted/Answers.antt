use Rattle.std.proofs.Common.{◌≡◌, ◌++◌, [], ◌∷◌, subst}
use Rattle.std.specs.Prelude.{OnOk}
use Rattle.sm_model.specs.GivenView.{given_view}
use Rattle.sm_model.specs.PreludeShapes.{shape_of_prelude}
use Rattle.sm_merge.proofs.prelude_graph.put_defaulted.Goals as goal

pub returns : goal.returns
returns c =
    subst (λ ts. OnOk c.put_shape.result
    (given_view c.put_shape.new.shapes.items ≡ given_view c.args.shapes.now.items ++ shape_of_prelude c.args.name.now c.args.kind ts ∷ []))
    c.in_ok-traits.ensures c.put_shape.ensures
