use Rattle.std.proofs.Common.{◌≡◌, ◌+◌, ◌∷◌, [], arith, drop, get_or, subst}
use Rattle.std.specs.List.{Contains}
use Rattle.std.proofs.lemmas.List.{drop_all, drop_more}
use Rattle.sm_model.specs.steps.Linking.{AddsUpTo, MemberLinks, MembersLinks}
use Rattle.sm_model.proofs.Linking.{up_to_more, up_to_end}
use Rattle.sm_model.proofs.graph.Graph.put_members.Goals as goal

pub loop-member-preserved : goal.loop-member-preserved
loop-member-preserved c =
    let at = c.loop-member in
    let i = at.member-index in
    let s = c.args.shape in
    let ms = c.args.members.now in
    let next : drop i ms ≡ get_or ms i 0 ∷ drop (i + 1) ms = drop_more ms i 0 (omega arith) in
    up_to_more (MembersLinks s ms) (MemberLinks s (get_or ms i 0)) (MembersLinks s (drop (i + 1) ms)) (Contains c.args.links.now.items)
    (Contains at.links.items) _ c.in_ok-push_both.ensures
    (subst (λ rest. AddsUpTo (MembersLinks s ms) (MembersLinks s rest) c.args.links.now.items at.links.items) next at.invariant)

pub returns : goal.returns
returns c =
    let at = c.loop-member in
    let s = c.args.shape in
    let ms = c.args.members.now in
    let none : drop at.member-index ms ≡ [] = drop_all at.member-index ms (omega (arith, c.loop-member-test.false)) in
    up_to_end (MembersLinks s ms) (MembersLinks s []) (Contains c.args.links.now.items) (Contains at.links.items) (λ l h. h)
    (subst (λ rest. AddsUpTo (MembersLinks s ms) (MembersLinks s rest) c.args.links.now.items at.links.items) none at.invariant)
