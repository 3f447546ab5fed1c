use Rattle.std.proofs.Common.{◌≡◌, ◌++◌, false, ap, append-nil, subst, sym, ◌∙◌}
use Rattle.std.proofs.lemmas.Result.{on_ok_weaker}
use Rattle.sm_tree.specs.View.{members_view}
use Rattle.sm_model.specs.GraphView.{At, Targets}
use Rattle.sm_idl.specs.Written.{member_text}
use Rattle.sm_idl.proofs.WrittenIdl.{member_is, member_there_at, no_member_is, told_at}
use Rattle.sm_idl.proofs.write.member.put_member.Goals as goal

pub target_id-requires-clause-is_member : goal.target_id-requires-clause-is_member
target_id-requires-clause-is_member c =
    member_there_at c.args.graph.now c.args.member c.is_member.result c.is_member.ensures c.if-is_member.true

pub returns-then-is_member : goal.returns-then-is_member
returns-then-is_member c =
    let g = c.args.graph.now in
    let k = c.args.member in
    let target = c.as_str-target.result.now in
    let traits = members_view c.traits.result.now in
    let before = c.args.out.now.items in
    let same = subst (λ t. At g k (λ i e. t ≡ i)) (sym c.as_str-id.ensures) c.id.ensures in
    let aims = subst (λ t. At g k (λ i e. Targets t e)) (sym c.as_str-target.ensures) c.target_id.ensures in
    let text = member_is g k c.args.targets c.as_str-id.result.now target traits same aims c.traits.ensures in
    on_ok_weaker c.put_named_member.result
    (λ is. is ∙ ap (λ name. before ++ member_text c.args.targets name target traits) c.member_name-name.ensures ∙ ap (λ xs. before ++ xs) text)
    c.put_named_member.ensures

pub returns : goal.returns
returns c =
    let g = c.args.graph.now in
    let other = told_at g c.args.member c.is_member.result false c.is_member.ensures c.if-is_member.false in
    sym (append-nil _) ∙ ap (λ xs. c.args.out.now.items ++ xs) (sym (no_member_is g c.args.member c.args.targets other))
