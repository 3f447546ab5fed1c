use Rattle.std.proofs.Common.{◌≡◌, ◌++◌, [], ◌∷◌, ap, subst, ◌∙◌}
use Rattle.std.specs.Prelude.{OnOk, codes}
use Rattle.sm_model.specs.GivenView.{given_view}
use Rattle.sm_model.specs.PreludeShapes.{api_id, shape_of_prelude}
use Rattle.sm_model.specs.declared.kind.Kind.TheVariants.{Structure}
use Rattle.sm_merge.proofs.prelude_graph.put_unit.Goals as goal

pub returns : goal.returns
returns c =
    subst (λ ts. OnOk c.put_shape.result
    (given_view c.put_shape.new.shapes.items ≡ given_view c.args.shapes.now.items ++ shape_of_prelude (codes "Unit") Structure ts ∷ []))
    (c.in_ok-traits.ensures ∙ ap (λ n. (api_id (codes "unitType"), n) ∷ []) c.empty_object.ensures) c.put_shape.ensures
