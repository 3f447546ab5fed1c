use Rattle.std.proofs.Common.{◌≡◌, ◌++◌, ◌∷◌, [], arith, get_or, sym, subst, take, ◌∙◌}
use Rattle.std.proofs.lemmas.List.{map-append, take_more}
use Rattle.sm_model.specs.GivenView.{member_given_view, members_given_view}
use Rattle.sm_transform.specs.steps.Copies.{AreMemberCopies}
use Rattle.sm_transform.proofs.CopiedShapes.{contains_nth, copies_more}
use Rattle.sm_transform.proofs.copies.copied_members.Goals as goal

pub copied_member-requires-clause-number : goal.copied_member-requires-clause-number
copied_member-requires-clause-number c =
    c.requires.numbers _ (contains_nth c.args.numbers.now c.loop-number.number-index 0 (omega arith))

pub loop-number-preserved : goal.loop-number-preserved
loop-number-preserved c =
    let at = c.loop-number in
    let g = c.args.graph.now in
    let ns = c.args.numbers.now in
    let i = at.number-index in
    let m = c.in_ok-copied_member.field-0 in
    let items : members_given_view c.push.new.self.items ≡ members_given_view at.members.items ++ member_given_view m ∷ [] =
    (λ j. members_given_view (c.in_ok-push.ensures.items j)) ∙ map-append member_given_view at.members.items (m ∷ []) in
    subst (λ ks. AreMemberCopies g ks (members_given_view c.push.new.self.items)) (sym (take_more ns i 0 (omega arith)))
    (subst (AreMemberCopies g (take i ns ++ get_or ns i 0 ∷ [])) (sym items)
    (copies_more g (take i ns) (members_given_view at.members.items) (get_or ns i 0) (member_given_view m) at.invariant
    c.in_ok-copied_member.ensures))
