use Rattle.std.proofs.Common.{Some, sym, ap, ◌∙◌}
use Rattle.sm_shapes.specs.ValueView.{items_view, val_of}
use Rattle.sm_shapes.proofs.ValueViews.{list_value}
use Rattle.sm_codec.proofs.Entries.{vals_back}
use Rattle.sm_part_texts.specs.PlaceTexts.{listed}
use Rattle.sm_part_texts.proofs.texts.list_of.Goals as goal

pub returns-in-List : goal.returns-in-List
returns-in-List c =
    ap (λ v. listed (val_of v)) c.in-List.is ∙ ap listed (list_value c.in-List.items) ∙ ap Some (vals_back (items_view c.in-List.items))
    ∙ ap Some (sym c.as_slice.ensures)
