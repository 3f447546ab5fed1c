use Rattle.std.proofs.Common.{◌≡◌, subst}
use Rattle.sm_model.specs.GraphView.{At, is_member_entry}
use Rattle.sm_model.proofs.Worklist.{apart}
use Rattle.sm_select.proofs.FilterFacts.{member_of_no_kind, shape_named}
use Rattle.sm_select.proofs.filters.is_of_kind.Goals as goal

pub returns-then-is_member : goal.returns-then-is_member
returns-then-is_member c =
    let g = c.args.graph.now in
    let k = c.args.number in
    let member = subst (λ b. At g k (λ id e. is_member_entry e ≡ b)) c.if-is_member.true c.is_member.ensures in
    (λ h. absurd (apart h), λ h. absurd (member_of_no_kind g k member c.args.named h))

pub returns-else-is_member : goal.returns-else-is_member
returns-else-is_member c =
    shape_named c.args.graph.now c.args.number c.is_taken.result c.args.named c.kind.result c.kind.ensures c.is_taken.ensures
