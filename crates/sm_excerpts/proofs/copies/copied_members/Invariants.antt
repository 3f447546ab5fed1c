use Rattle.std.proofs.Common.{◌≡◌, ◌++◌, drop, map}
use Rattle.sm_shapes.specs.TableView.{member_data}
use Rattle.sm_excerpts.specs.steps.Rows.{copies_of}
use Rattle.sm_excerpts.proofs.copies.copied_members.Given as goal

abbrev pub invariant-loop-member : goal.invariant-loop-member
invariant-loop-member l =
    map member_data l.copies.items ++ copies_of (map member_data l.rows) l.shape (drop l.member-index l.members)
    ≡ copies_of (map member_data l.rows) l.shape l.members
