-- What statements of the code with absolute ids stand for.
use Rattle.std.specs.Prelude.{List, map}
use Rattle.sm_tree.specs.View.{node_of, pairs_view}
use Rattle.sm_model.specs.Graphs.{MemberGiven}
use Rattle.sm_model.specs.GivenView.{shape_given_view}
use Rattle.sm_model.specs.Said.{MemberSaid}
use Rattle.sm_merge.specs.Meaning.{Defined}
use Rattle.sm_merge.specs.Stated.{ShapeStated, Stated, apply_stated, member_stated, metadata_stated, shape_stated}
use Rattle.sm_merge.specs.declared.stated.ShapeRow.{ShapeRow}
use Rattle.sm_merge.specs.declared.stated.StatedRow.{StatedRow}
use Rattle.sm_merge.specs.declared.stated.StatedRow.TheVariants.{Metadata, Shape, Apply}

abbrev pub shape_row_view : ShapeRow → ShapeStated
shape_row_view s = record { shape = shape_given_view s.shape; mixins = s.mixins.items }

abbrev pub row_view : StatedRow → Stated
row_view (Metadata key value) = metadata_stated key (node_of value)
row_view (Shape s) = shape_stated (shape_row_view s)
row_view (Apply id traits) = apply_stated id (pairs_view traits)

abbrev pub rows_view : List StatedRow → List Stated
rows_view rows = map row_view rows

abbrev pub members_stated : Defined → List MemberSaid → List MemberGiven
members_stated defined ms = map (member_stated defined) ms
