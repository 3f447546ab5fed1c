use Rattle.std.proofs.Common.{◌≡◌, Some, ap, subst, sym, ◌∙◌}
use Rattle.sm_model.specs.GraphView.{At, is_member_entry}
use Rattle.sm_compile.proofs.LookedUp.{is_member, its_target, no_target}
use Rattle.sm_reference_rules.proofs.missing.target_text.Goals as goal

pub target_id-requires-clause-is_member : goal.target_id-requires-clause-is_member
target_id-requires-clause-is_member c =
    let g = c.args.graph.now in
    let k = c.args.number in
    is_member g k (subst (λ b. At g k (λ id e. is_member_entry e ≡ b)) c.if-is_member.true c.is_member.ensures)

pub returns-then-is_member : goal.returns-then-is_member
returns-then-is_member c =
    ap Some c.as_str.ensures ∙ sym (its_target c.args.graph.now c.args.number c.target_id.result.now c.target_id.ensures)

pub returns-else-is_member : goal.returns-else-is_member
returns-else-is_member c =
    let g = c.args.graph.now in
    let k = c.args.number in
    sym (no_target g k (subst (λ b. At g k (λ id e. is_member_entry e ≡ b)) c.if-is_member.false c.is_member.ensures))
