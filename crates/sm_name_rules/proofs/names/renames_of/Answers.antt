use Rattle.std.proofs.Common.{◌≡◌, ap, subst, ◌∙◌}
use Rattle.sm_tree.specs.View.{node_of}
use Rattle.sm_model.specs.GraphView.{At, is_member_entry}
use Rattle.sm_compile.proofs.LookedUp.{is_shape}
use Rattle.sm_name_rules.specs.steps.Naming.{pairs_where}
use Rattle.sm_name_rules.proofs.GivenNames.{its_renames, no_renames}
use Rattle.sm_name_rules.proofs.names.renames_of.Goals as goal

pub returns-then-is_member : goal.returns-then-is_member
returns-then-is_member c =
    let g = c.args.graph.now in
    let k = c.args.service in
    no_renames g k (subst (λ b. At g k (λ id e. is_member_entry e ≡ b)) c.if-is_member.true c.is_member.ensures)

pub properties-requires-clause-is_shape : goal.properties-requires-clause-is_shape
properties-requires-clause-is_shape c =
    let g = c.args.graph.now in
    let k = c.args.service in
    is_shape g k (subst (λ b. At g k (λ id e. is_member_entry e ≡ b)) c.if-is_member.false c.is_member.ensures)

pub returns-else-is_member : goal.returns-else-is_member
returns-else-is_member c =
    c.pairs_where.ensures ∙ ap pairs_where c.field_of.ensures
    ∙ its_renames c.args.graph.now c.args.service (node_of c.properties.result.now) c.properties.ensures
