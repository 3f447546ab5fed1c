use Rattle.std.proofs.Common.{drop}
use Rattle.sm_shapes.specs.InOrder.{AreMembersOf}
use Rattle.sm_shapes.specs.TableView.{table_data}
use Rattle.codec_bodies.proofs.order.are_members_of.Given as goal

abbrev pub invariant-loop-member : goal.invariant-loop-member
invariant-loop-member l = AreMembersOf (table_data l.table) l.shape (drop l.member-index l.members)
    → AreMembersOf (table_data l.table) l.shape l.members
