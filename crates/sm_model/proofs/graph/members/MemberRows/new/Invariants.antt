use Rattle.std.proofs.Common.{◌≡◌, ◌++◌, ℕ, true, List, map}
use Rattle.std.specs.List.{list_all}
use Rattle.std.specs.Vec.Iter.{into_iter_items}
use Rattle.sm_model.specs.Given.{AreGivenMembers, given_names}
use Rattle.sm_model.specs.GivenView.{members_given_view}
use Rattle.sm_model.specs.Graphs.{given_members}
use Rattle.sm_model.specs.GraphRows.{is_sound_row, row_entry}
use Rattle.sm_model.proofs.graph.members.MemberRows.new.Given as goal

abbrev pub invariant-loop-member : goal.invariant-loop-member
invariant-loop-member l = record {
  names : l.names.items ++ given_names (members_given_view (into_iter_items l.member-iterator))
      ≡ given_names (members_given_view (into_iter_items l.initial.member-iterator));
  rows : (ids : List (List ℕ)) → map (row_entry ids) l.rows.items ++ given_members l.shape
      (members_given_view (into_iter_items l.member-iterator))
      ≡ given_members l.shape (members_given_view (into_iter_items l.initial.member-iterator));
  sound : (n : ℕ) → list_all (is_sound_row n) l.rows.items ≡ true;
  given : AreGivenMembers (members_given_view (into_iter_items l.member-iterator));
}
