-- What is known of a table that was made of a shape: it can be read by once its defaults are filled, and it is one.
use Rattle.std.proofs.Common.{◌<◌, ℕ, List, subst}
use Rattle.std.specs.Prelude.{Contains}
use Rattle.std.proofs.lemmas.Option.{slice_get_within}
use Rattle.sm_model.specs.Graphs.{GraphMaps}
use Rattle.sm_shapes.specs.Fitting.{Test}
use Rattle.sm_shapes.specs.TableData.{shape_count}
use Rattle.sm_codec.specs.Defaults.{filled}
use Rattle.sm_codec.specs.FilledLaws.{IsFilled}
use Rattle.sm_codec.proofs.FilledTables.{filled_is_shaped}
use Rattle.sm_compile.specs.Answers.{StoreSeen, TableSeen, IsTableSeen}
use Rattle.sm_compile.specs.Compiled.{SaysShape, IsFirstCarrier, texts_of}
use Rattle.sm_compile.specs.Reached.{IsReached}
use Rattle.sm_compile.proofs.RowsAlike.{each_length}

pub number_within : (g : GraphMaps) (shape : List ℕ) (test : Test) (before now : StoreSeen) (one : TableSeen)
    → IsTableSeen g shape test before now one → one.shape < shape_count one.table
number_within g shape test before now one h =
    subst (λ n. one.shape < n) (each_length (SaysShape g one.table.patterns h.numbering) h.numbering.shapes one.table.shapes
    h.compiled.says_shapes)
    (slice_get_within h.numbering.shapes one.shape shape h.shape)

pub is_filled : (g : GraphMaps) (shape : List ℕ) (test : Test) (before now : StoreSeen) (one : TableSeen)
    → IsTableSeen g shape test before now one → IsFilled (filled one.table test) test
is_filled g shape test before now one h = filled_is_shaped one.table test h.shaped h.no_default

-- a pattern that is carried is one of the table's
pub carried_within : (g : GraphMaps) (shape : List ℕ) (test : Test) (before now : StoreSeen) (one : TableSeen) (u id : List ℕ)
    → IsTableSeen g shape test before now one → IsFirstCarrier g (IsReached g shape) u id
    → Contains (texts_of one.table.patterns) u
carried_within g shape test before now one u id h first = h.compiled.patterns.all u id first.carries
