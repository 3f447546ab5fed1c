use Rattle.std.proofs.Common.{◌≡◌, length, sym, ap, ◌∙◌}
use Rattle.std.proofs.lemmas.List.{length-map}
use Rattle.sm_shapes.specs.Broken.{length_broken}
use Rattle.sm_shapes.specs.ConstraintView.{constraint_data}
use Rattle.sm_shapes.specs.Places.{constraints_of}
use Rattle.sm_shapes.specs.TableView.{table_data}
use Rattle.sm_shapes.specs.ValueView.{items_view, val_of}
use Rattle.sm_codec.specs.FrameView.{fault_at}
use Rattle.sm_codec.specs.PlaceView.{place_of}
use Rattle.sm_part_values.proofs.EntriesJoined.{list_broken}
use Rattle.sm_part_values.proofs.lists.close_list.Goals as goal

pub returns-in-Some : goal.returns-in-Some
returns-in-Some c =
    let vs = items_view c.args.items in
    let n = length c.as_slice.result.now in
    let long : n ≡ length vs = sym (length-map c.as_slice.result.now val_of) ∙ ap length c.as_slice.ensures in
    list_broken (table_data c.args.table.now) (place_of c.args.place) vs (length_broken (constraint_data c.constraints.result.now) n) c.in-Some.kind
    (fault_at c.fault_here.result)
    (ap (λ cs. length_broken cs n) c.constraints.ensures ∙ ap (length_broken (constraints_of (table_data c.args.table.now) (place_of c.args.place))) long)
    (sym c.in-Some.ensures) c.fault_here.ensures
