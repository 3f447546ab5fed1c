use Rattle.std.proofs.Common.{◌++◌, ◌∷◌, [], arith, get_or, sym, subst, take}
use Rattle.std.proofs.lemmas.List.{take_more}
use Rattle.sm_model.specs.GivenView.{members_given_view}
use Rattle.sm_transform.specs.steps.Changing.{AreMembersAfter}
use Rattle.sm_transform.proofs.ChangedGraph.{after_more}
use Rattle.sm_transform.proofs.CopiedShapes.{contains_nth}
use Rattle.sm_transform.proofs.changed_shapes.changed_members.Goals as goal

pub changed_member-requires-clause-number : goal.changed_member-requires-clause-number
changed_member-requires-clause-number g c =
    c.requires.numbers _ (contains_nth c.args.numbers.now c.loop-number.number-index 0 (omega arith))

pub loop-number-preserved : goal.loop-number-preserved
loop-number-preserved g c =
    let at = c.loop-number in
    let change = g.C.ChangesIds.after c.args.change.now in
    let graph = c.args.graph.now in
    let ns = c.args.numbers.now in
    let i = at.number-index in
    let now = members_given_view c.put_member.new.members.items in
    subst (λ ks. AreMembersAfter change graph ks now) (sym (take_more ns i 0 (omega arith)))
    (subst (AreMembersAfter change graph (take i ns ++ get_or ns i 0 ∷ [])) (sym c.in_ok-put_member.ensures)
    (after_more change graph (take i ns) (members_given_view at.members.items) (get_or ns i 0) _ at.invariant
    c.in_ok-found.ensures))
