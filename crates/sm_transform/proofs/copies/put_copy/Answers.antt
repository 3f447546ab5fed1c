use Rattle.std.proofs.Common.{◌≡◌, ◌+◌, ◌++◌, ◌∷◌, [], sym, subst, ◌∙◌}
use Rattle.std.proofs.lemmas.List.{map-append}
use Rattle.sm_model.specs.GivenView.{given_view, shape_given_view}
use Rattle.sm_model.proofs.Worklist.{apart}
use Rattle.sm_transform.specs.steps.Copies.{AreCopiesBelow}
use Rattle.sm_transform.proofs.CopiedShapes.{copies_none, copies_put, member_no_shape, shape_at}
use Rattle.sm_transform.proofs.copies.put_copy.Goals as goal

pub returns-then-not-mark_at : goal.returns-then-not-mark_at
returns-then-not-mark_at c =
    copies_none c.args.graph.now c.args.marks.now c.args.number (given_view c.args.shapes.now.items) c.requires.below
    (λ marked shape. apart (sym c.if-not-mark_at.true ∙ c.mark_at.ensures ∙ marked))

pub returns-then-is_member : goal.returns-then-is_member
returns-then-is_member c =
    copies_none c.args.graph.now c.args.marks.now c.args.number (given_view c.args.shapes.now.items) c.requires.below
    (λ marked shape. member_no_shape c.args.graph.now c.args.number c.is_member.result c.is_member.ensures c.if-is_member.true shape)

pub returns : goal.returns
returns c =
    let g = c.args.graph.now in
    let marks = c.args.marks.now in
    let n = c.args.number in
    let s = c.in_ok-copied_shape.field-0 in
    let items : given_view c.push.new.self.items ≡ given_view c.args.shapes.now.items ++ shape_given_view s ∷ [] =
    (λ j. given_view (c.in_ok-push.ensures.items j)) ∙ map-append shape_given_view c.args.shapes.now.items (s ∷ []) in
    subst (AreCopiesBelow g marks (n + 1)) (sym items)
    (copies_put g marks n (given_view c.args.shapes.now.items) c.requires.below (shape_given_view s) c.requires.number
    (sym c.mark_at.ensures ∙ c.if-not-mark_at.false)
    (shape_at g n c.is_member.result c.is_member.ensures c.if-is_member.false) c.in_ok-copied_shape.ensures)
