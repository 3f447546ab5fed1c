use Rattle.std.proofs.Common.{◌≡◌, subst, sym, ◌∙◌}
use Rattle.std.proofs.lemmas.Option.{none-some}
use Rattle.sm_model.specs.GraphView.{At, is_member_entry}
use Rattle.sm_compile.proofs.LookedUp.{is_member, no_target, target_told}
use Rattle.sm_compile.proofs.look.target_of.Goals as goal

pub target-requires-clause-is_member : goal.target-requires-clause-is_member
target-requires-clause-is_member c =
    let g = c.args.graph.now in
    let k = c.args.number in
    is_member g k (subst (λ b. At g k (λ id e. is_member_entry e ≡ b)) c.if-is_member.true c.is_member.ensures)

pub returns-then-is_member : goal.returns-then-is_member
returns-then-is_member c =
    let g = c.args.graph.now in
    let k = c.args.number in
    target_told g k (subst (λ b. At g k (λ id e. is_member_entry e ≡ b)) c.if-is_member.true c.is_member.ensures) c.target.result
    c.target.ensures

pub returns-else-is_member : goal.returns-else-is_member
returns-else-is_member c id is =
    let g = c.args.graph.now in
    let k = c.args.number in
    absurd (none-some id (sym (no_target g k (subst (λ b. At g k (λ id e. is_member_entry e ≡ b)) c.if-is_member.false
    c.is_member.ensures)) ∙ is))
