use Rattle.std.proofs.Common.{sym, ap, ◌∙◌}
use Rattle.std.specs.Option.{option_map}
use Rattle.sm_shapes.specs.TableView.{binding_data}
use Rattle.sm_bind.specs.BindingsView.{bound_side}
use Rattle.sm_bind_read.proofs.BoundStands.{counts_itself, counts_none, nothing_counts}
use Rattle.sm_bind_read.proofs.taken.counted.Goals as goal

pub returns-then-counts : goal.returns-then-counts
returns-then-counts c =
    sym (counts_itself (bound_side c.args.side) (option_map binding_data c.args.binding.now) (sym c.counts-counts.ensures ∙ c.if-counts.true)
    ∙ ap (option_map binding_data) c.in-Some.is)

pub returns-else-counts : goal.returns-else-counts
returns-else-counts c =
    sym (counts_none (bound_side c.args.side) (option_map binding_data c.args.binding.now) (sym c.counts-counts.ensures ∙ c.if-counts.false))

pub returns-in-None : goal.returns-in-None
returns-in-None c =
    sym (nothing_counts (bound_side c.args.side) (option_map binding_data c.args.binding.now) (ap (option_map binding_data) c.in-None.is))
