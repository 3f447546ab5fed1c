use Rattle.std.proofs.Common.{◌≡◌, ap, subst, sym, ◌∙◌}
use Rattle.std.specs.Str.{bytes_eq}
use Rattle.sm_model.specs.GraphView.{At, is_member_entry}
use Rattle.sm_model.specs.PreludeShapes.{unit_id}
use Rattle.sm_compile.specs.steps.Looked.{is_unit}
use Rattle.sm_compile.proofs.LookedUp.{is_member, its_target, no_target}
use Rattle.sm_compile.proofs.look.targets_unit.Goals as goal

pub target_id-requires-clause-is_member : goal.target_id-requires-clause-is_member
target_id-requires-clause-is_member c =
    let g = c.args.graph.now in
    let k = c.args.member in
    is_member g k (subst (λ b. At g k (λ id e. is_member_entry e ≡ b)) c.if-is_member.true c.is_member.ensures)

pub returns-then-is_member : goal.returns-then-is_member
returns-then-is_member c =
    c.is_unit.ensures ∙ ap (λ t. bytes_eq t unit_id) c.as_str.ensures
    ∙ sym (ap is_unit (its_target c.args.graph.now c.args.member c.target_id.result.now c.target_id.ensures))

pub returns-else-is_member : goal.returns-else-is_member
returns-else-is_member c =
    let g = c.args.graph.now in
    let k = c.args.member in
    sym (ap is_unit (no_target g k (subst (λ b. At g k (λ id e. is_member_entry e ≡ b)) c.if-is_member.false c.is_member.ensures)))
