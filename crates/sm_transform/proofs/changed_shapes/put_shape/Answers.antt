use Rattle.std.proofs.Common.{◌≡◌, ◌+◌, ◌++◌, ◌∷◌, [], ap, sym, subst, ◌∙◌}
use Rattle.std.specs.Prelude.{is_some}
use Rattle.std.proofs.lemmas.List.{map-append}
use Rattle.sm_model.specs.GivenView.{given_view, shape_given_view}
use Rattle.sm_model.proofs.Worklist.{apart}
use Rattle.sm_transform.specs.steps.Changing.{AreShapesAfter}
use Rattle.sm_transform.proofs.ChangedGraph.{after_none, after_put}
use Rattle.sm_transform.proofs.CopiedShapes.{member_no_shape, shape_at}
use Rattle.sm_transform.proofs.StepsNeeded.{id_told}
use Rattle.sm_transform.proofs.changed_shapes.put_shape.Goals as goal

pub returns-then-not-keeps : goal.returns-then-not-keeps
returns-then-not-keeps g c =
    let graph = c.args.graph.now in
    let change = g.C.ChangesIds.after c.args.change.now in
    let name = c.as_str.ensures ∙ id_told graph c.args.number c.id.result.now c.id.ensures in
    after_none graph change c.requires.safe c.args.number (given_view c.args.shapes.now.items) c.requires.below
    (λ left shape. apart (sym c.if-not-keeps.true ∙ c.keeps.ensures ∙ ap (λ i. is_some (change i)) name ∙ left))

pub returns-then-is_member : goal.returns-then-is_member
returns-then-is_member g c =
    after_none c.args.graph.now (g.C.ChangesIds.after c.args.change.now) c.requires.safe c.args.number
    (given_view c.args.shapes.now.items) c.requires.below
    (λ left shape. member_no_shape c.args.graph.now c.args.number c.is_member.result c.is_member.ensures c.if-is_member.true shape)

pub returns : goal.returns
returns g c =
    let graph = c.args.graph.now in
    let change = g.C.ChangesIds.after c.args.change.now in
    let n = c.args.number in
    let s = c.in_ok-changed_shape.field-0 in
    let items : given_view c.push.new.self.items ≡ given_view c.args.shapes.now.items ++ shape_given_view s ∷ [] =
    (λ j. given_view (c.in_ok-push.ensures.items j)) ∙ map-append shape_given_view c.args.shapes.now.items (s ∷ []) in
    let name = c.as_str.ensures ∙ id_told graph n c.id.result.now c.id.ensures in
    subst (AreShapesAfter change graph (n + 1)) (sym items)
    (after_put graph change c.requires.safe n (given_view c.args.shapes.now.items) c.requires.below (shape_given_view s) c.requires.number
    (sym (c.keeps.ensures ∙ ap (λ i. is_some (change i)) name) ∙ c.if-not-keeps.false)
    (shape_at graph n c.is_member.result c.is_member.ensures c.if-is_member.false) c.in_ok-changed_shape.ensures)
