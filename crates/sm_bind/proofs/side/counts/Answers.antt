use Rattle.std.proofs.Common.{◌∙◌}
use Rattle.std.specs.Option.{option_map}
use Rattle.sm_shapes.specs.TableView.{binding_data}
use Rattle.sm_bind.specs.BindingsView.{bound_side}
use Rattle.sm_bind.proofs.Counted.{counted_is}
use Rattle.sm_bind.proofs.side.counts.Goals as goal

pub returns : goal.returns
returns c = c.some_counts.ensures ∙ counted_is (bound_side c.args.side) (option_map binding_data c.args.binding.now)
