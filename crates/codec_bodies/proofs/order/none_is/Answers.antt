use Rattle.std.proofs.Common.{refl, arith}
use Rattle.std.proofs.lemmas.List.{drop_more}
use Rattle.sm_shapes.specs.TableView.{table_data}
use Rattle.codec_bodies.specs.Checked.{name_by}
use Rattle.codec_bodies.proofs.CheckedParts.{none_more}
use Rattle.codec_bodies.proofs.order.none_is.Goals as goal

pub loop-member-preserved : goal.loop-member-preserved
loop-member-preserved c =
    none_more c.args.name.now (name_by c.args.json (table_data c.args.table.now)) _ _ _ _
    (drop_more c.args.members.now c.loop-member.member-index 0
    (omega (arith, c.loop-member-test.true, c.loop-member.auto.member-index-end)))
    (c.if-not-is_named_otherwise.ensures refl) c.loop-member.invariant
