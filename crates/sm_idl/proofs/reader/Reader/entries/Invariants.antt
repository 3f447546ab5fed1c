use Rattle.std.proofs.Common.{length}
use Rattle.sm_model.specs.Formed.{stated_names}
use Rattle.sm_model.specs.SaidView.{member_statements_view}
use Rattle.sm_idl.specs.steps.HomeView.{home_of_file}
use Rattle.sm_idl.specs.steps.Names.{Remembers}
use Rattle.sm_idl.specs.steps.ReaderView.{left}
use Rattle.sm_idl.proofs.MemberRows.{MembersSoFar}
use Rattle.sm_idl.proofs.reader.Reader.entries.Given as goal

abbrev pub invariant-loop-alloc : goal.invariant-loop-alloc
invariant-loop-alloc l = record {
  row : MembersSoFar (home_of_file l.home) l.kind l.members.items (left l.fn.self) (left l.self);
  seen : Remembers l.seen (stated_names (member_statements_view l.members.items));
}

abbrev pub decreases-loop-alloc : goal.decreases-loop-alloc
decreases-loop-alloc l = length (left l.self)
