use Rattle.std.proofs.Common.{◌≡◌, subst, sym}
use Rattle.sm_model.specs.GraphView.{At, is_member_entry}
use Rattle.sm_compile.proofs.LookedUp.{is_shape, its_kind, no_kind}
use Rattle.sm_compile.proofs.look.kind_of.Goals as goal

pub returns-then-is_member : goal.returns-then-is_member
returns-then-is_member c =
    let g = c.args.graph.now in
    let k = c.args.number in
    sym (no_kind g k (subst (λ b. At g k (λ id e. is_member_entry e ≡ b)) c.if-is_member.true c.is_member.ensures))

pub kind-requires-clause-is_shape : goal.kind-requires-clause-is_shape
kind-requires-clause-is_shape c =
    let g = c.args.graph.now in
    let k = c.args.number in
    is_shape g k (subst (λ b. At g k (λ id e. is_member_entry e ≡ b)) c.if-is_member.false c.is_member.ensures)

pub returns-else-is_member : goal.returns-else-is_member
returns-else-is_member c = sym (its_kind c.args.graph.now c.args.number c.kind.result c.kind.ensures)
