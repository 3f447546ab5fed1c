use Rattle.std.proofs.Common.{true, sym, ap, subst, ◌∙◌}
use Rattle.sm_shapes.specs.Places.{member_place}
use Rattle.sm_shapes.specs.TableView.{table_data}
use Rattle.sm_codec.specs.Codec.{broken_at, codec_of}
use Rattle.sm_codec.specs.Conventions.{json_convention}
use Rattle.sm_codec.specs.FaultLists.{here, settled}
use Rattle.sm_codec.specs.Readings.{leaf_reading}
use Rattle.sm_part_values.specs.Joins.{JoinsTo}
use Rattle.sm_bind_read.proofs.payload.status_value.Goals as goal

pub returns-clause-joins : goal.returns-clause-joins
returns-clause-joins g c =
    let codec = codec_of (table_data c.args.table.now) (json_convention true) g.P.Patterns.test in
    let p = member_place c.args.member in
    let value = c.number_of.ensures in
    subst (λ r. JoinsTo r c.judged.result)
    ((λ i. settled (here (broken_at codec p (value i))) (value i)) ∙ ap (leaf_reading codec p) (sym c.see_status.ensures)) c.judged.ensures.joins
