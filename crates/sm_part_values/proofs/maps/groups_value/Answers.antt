use Rattle.std.proofs.Common.{true}
use Rattle.sm_shapes.specs.TableView.{table_data}
use Rattle.sm_groups.specs.Groups.{groups_view}
use Rattle.sm_codec.specs.Codec.{codec_of}
use Rattle.sm_codec.specs.Conventions.{json_convention}
use Rattle.sm_codec.specs.PlaceView.{place_of}
use Rattle.sm_part_values.specs.FormView.{form_of}
use Rattle.sm_part_values.proofs.GroupsJoined.{groups_refused}
use Rattle.sm_part_values.proofs.maps.groups_value.Goals as goal

pub returns-in-Err-clause-joins : goal.returns-in-Err-clause-joins
returns-in-Err-clause-joins g c =
    groups_refused (form_of c.args.form) (codec_of (table_data c.args.table.now) (json_convention true) g.P.Patterns.test) (place_of c.args.place)
    c.args.lists (groups_view c.args.groups.now) c.in-Err.refusal c.in-Err.ensures.joins
