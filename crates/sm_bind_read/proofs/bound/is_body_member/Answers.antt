use Rattle.std.proofs.Common.{sym, ap, ◌∙◌}
use Rattle.std.specs.Option.{option_map}
use Rattle.sm_shapes.specs.TableData.{binding_in}
use Rattle.sm_shapes.specs.TableView.{binding_data}
use Rattle.sm_messages.specs.service.WireMembers.{counted_binding}
use Rattle.sm_bind.specs.BindingsView.{bound_side}
use Rattle.sm_bind_read.specs.steps.Coming.{is_body_by}
use Rattle.sm_bind_read.proofs.BoundStands.{counts_itself, counts_none}
use Rattle.sm_bind_read.proofs.bound.is_body_member.Goals as goal

pub returns-then-counts : goal.returns-then-counts
returns-then-counts c =
    let side = bound_side c.args.place.now.side in
    let said = option_map binding_data c.member.result.now.binding in
    c.is_body_binding.ensures
    ∙ ap is_body_by (sym (ap (counted_binding side) (ap binding_in c.member.ensures)
    ∙ counts_itself side said (sym c.counts.ensures ∙ c.if-counts.true)))

pub returns-else-counts : goal.returns-else-counts
returns-else-counts c =
    let side = bound_side c.args.place.now.side in
    let said = option_map binding_data c.member.result.now.binding in
    sym (ap is_body_by (ap (counted_binding side) (ap binding_in c.member.ensures)
    ∙ counts_none side said (sym c.counts.ensures ∙ c.if-counts.false)))
