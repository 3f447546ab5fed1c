use Rattle.std.proofs.Common.{arith}
use Rattle.std.proofs.lemmas.List.{drop_more}
use Rattle.sm_shapes.specs.TableView.{table_data, member_data}
use Rattle.codec_bodies.proofs.CheckedParts.{members_more}
use Rattle.codec_bodies.proofs.order.are_members_of.Goals as goal

pub loop-member-preserved : goal.loop-member-preserved
loop-member-preserved c =
    members_more (table_data c.args.table.now) c.args.shape _ (member_data c.in-Some.row.now) _ _ _
    (drop_more c.args.members.now c.loop-member.member-index 0
    (omega (arith, c.loop-member-test.true, c.loop-member.auto.member-index-end)))
    c.in-Some.ensures (omega (arith, c.if-row-shape.false)) c.loop-member.invariant
