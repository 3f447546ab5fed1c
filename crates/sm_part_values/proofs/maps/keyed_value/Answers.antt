use Rattle.std.proofs.Common.{true, subst}
use Rattle.sm_shapes.specs.TableView.{table_data}
use Rattle.sm_groups.specs.Groups.{groups_view}
use Rattle.sm_codec.specs.Codec.{codec_of}
use Rattle.sm_codec.specs.Conventions.{json_convention}
use Rattle.sm_codec.specs.PlaceView.{place_of}
use Rattle.sm_part_values.specs.FormView.{form_of}
use Rattle.sm_part_values.specs.Joins.{JoinsTo}
use Rattle.sm_part_values.specs.steps.Maps.{groups_reading}
use Rattle.sm_part_values.proofs.GroupsJoined.{map_grouped}
use Rattle.sm_part_values.proofs.KeysGrouped.{groups_filled}
use Rattle.sm_part_values.proofs.maps.keyed_value.Goals as goal

pub returns-in-Ok-clause-joins : goal.returns-in-Ok-clause-joins
returns-in-Ok-clause-joins g c =
    let f = form_of c.args.form in
    let codec = codec_of (table_data c.args.table.now) (json_convention true) g.P.Patterns.test in
    let groups = c.in-Ok.groups.items in
    subst (λ r. JoinsTo r c.groups_value.result)
    (map_grouped f codec c.args.rows.items (groups_view groups) c.in-Ok.ensures (groups_filled groups) (place_of c.args.place) c.args.lists)
    (subst (λ gs. JoinsTo (groups_reading c.args.lists f codec (place_of c.args.place) (groups_view gs)) c.groups_value.result)
    c.as_slice.ensures.value c.groups_value.ensures.joins)
