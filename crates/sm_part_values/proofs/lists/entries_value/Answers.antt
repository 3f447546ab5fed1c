use Rattle.std.proofs.Common.{true, map}
use Rattle.sm_shapes.specs.TableView.{table_data}
use Rattle.sm_codec.specs.Codec.{codec_of}
use Rattle.sm_codec.specs.Conventions.{json_convention}
use Rattle.sm_codec.specs.PlaceView.{place_of}
use Rattle.sm_part_values.specs.FormView.{form_of}
use Rattle.sm_part_values.specs.PartTexts.{entry_child}
use Rattle.sm_part_values.proofs.EntriesJoined.{list_refused}
use Rattle.sm_part_values.proofs.lists.entries_value.Goals as goal

pub returns-in-Err-clause-joins : goal.returns-in-Err-clause-joins
returns-in-Err-clause-joins g c =
    let codec = codec_of (table_data c.args.table.now) (json_convention true) g.P.Patterns.test in
    list_refused codec (place_of c.args.place) (map (entry_child (form_of c.args.form) codec) c.args.entries.now) c.in-Err.refusal
    c.in-Err.ensures.joins
