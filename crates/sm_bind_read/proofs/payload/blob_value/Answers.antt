use Rattle.std.proofs.Common.{◌≡◌, true, cond, sym, ap, subst, ◌∙◌}
use Rattle.std.specs.Prelude.{Err, Ok}
use Rattle.sm_shapes.specs.Places.{member_place}
use Rattle.sm_shapes.specs.TableView.{table_data}
use Rattle.sm_shapes.specs.Values.{blob_val}
use Rattle.sm_shapes.specs.declared.fault.FaultKind.TheVariants.{WrongType}
use Rattle.sm_codec.specs.Codec.{broken_at, codec_of}
use Rattle.sm_codec.specs.Convention.{are_bytes}
use Rattle.sm_codec.specs.Conventions.{json_convention}
use Rattle.sm_codec.specs.FaultLists.{here, settled}
use Rattle.sm_codec.specs.Readings.{leaf_reading}
use Rattle.sm_part_values.specs.Joins.{JoinsTo}
use Rattle.sm_bind_read.proofs.payload.blob_value.Goals as goal

pub returns-clause-joins : goal.returns-clause-joins
returns-clause-joins g c =
    let codec = codec_of (table_data c.args.table.now) (json_convention true) g.P.Patterns.test in
    let p = member_place c.args.member in
    let bytes = c.args.bytes in
    let are : are_bytes bytes ≡ true = ap are_bytes (sym c.as_slice.ensures) ∙ c.see_bytes.ensures in
    let value = c.blob_of.ensures in
    subst (λ r. JoinsTo r c.judged.result)
    ((λ i. settled (here (broken_at codec p (value i))) (value i))
    ∙ ap (λ z. leaf_reading codec p (cond z (Ok (blob_val bytes)) (Err WrongType))) (sym are)) c.judged.ensures.joins
