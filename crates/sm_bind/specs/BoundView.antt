-- What a structure on a side of messages stands for.
use Rattle.std.specs.Prelude.{map}
use Rattle.sm_shapes.specs.TableView.{table_data}
use Rattle.sm_bind.specs.BindingsView.{bound_side}
use Rattle.sm_bind.specs.Roles.{Bound}
use Rattle.sm_bind.specs.declared.place.BoundPlace.{BoundPlace}

abbrev pub bound_of : BoundPlace → Bound
bound_of p = record {
  table = table_data p.table.now;
  side = bound_side p.side;
  shape = p.shape;
  literals = map (λ l. l.0) p.literals.now;
}
