use Rattle.std.proofs.Common.{ap, ◌∙◌}
use Rattle.sm_shapes.specs.ValueView.{each_field_view, val_of}
use Rattle.sm_bind_read.proofs.TakenLast.{map_turned}
use Rattle.sm_bind_read.proofs.bodies.turned.Goals as goal

pub returns : goal.returns
returns c = ap each_field_view c.reverse.ensures.items ∙ map_turned (λ f. (f.0, val_of f.1)) c.args.fields.items
