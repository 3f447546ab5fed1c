use Rattle.std.proofs.Common.{◌≡◌, subst}
use Rattle.sm_model.specs.GraphView.{At, is_member_entry}
use Rattle.sm_compile.proofs.LookedUp.{is_shape}
use Rattle.sm_reference_rules.proofs.BodyReferences.{body_told, member_body}
use Rattle.sm_reference_rules.proofs.references.body_of.Goals as goal

pub returns-then-is_member : goal.returns-then-is_member
returns-then-is_member c =
    let g = c.args.graph.now in
    let k = c.args.number in
    member_body g k (subst (λ b. At g k (λ id e. is_member_entry e ≡ b)) c.if-is_member.true c.is_member.ensures)

pub properties-requires-clause-is_shape : goal.properties-requires-clause-is_shape
properties-requires-clause-is_shape c =
    let g = c.args.graph.now in
    let k = c.args.number in
    is_shape g k (subst (λ b. At g k (λ id e. is_member_entry e ≡ b)) c.if-is_member.false c.is_member.ensures)

pub returns-else-is_member : goal.returns-else-is_member
returns-else-is_member c = body_told c.args.graph.now c.args.number _ c.properties.ensures c.pairs_of.result c.pairs_of.ensures.node
