use Rattle.std.proofs.Common.{◌≡◌, drop}
use Rattle.std.specs.List.{AllByRecursion}
use Rattle.sm_codec.specs.FrameView.{fault_at}
use Rattle.sm_messages.specs.MessageForm.{Content}
use Rattle.sm_bind.specs.BindingsView.{parts_data}
use Rattle.sm_bind.specs.BoundView.{bound_of}
use Rattle.sm_bind_read.specs.steps.Coming.{FaultComes, IsMemberOf, all_faults, came_of}
use Rattle.sm_bind_read.proofs.first_fault.first_fault.Given as goal

abbrev pub invariant-loop-member : goal.invariant-loop-member
invariant-loop-member g l = record {
  inside : AllByRecursion (IsMemberOf (bound_of l.place)) (drop l.member-index l.members);
  so_far : (content : Content)
      → FaultComes (bound_of l.place) (came_of (bound_of l.place) g.P.Patterns.test (parts_data l.parts) content) (fault_at l.fault) l.members
      → (all_faults (bound_of l.place) g.P.Patterns.test (parts_data l.parts) content l.members
      ≡ all_faults (bound_of l.place) g.P.Patterns.test (parts_data l.parts) content (drop l.member-index l.members))
      × FaultComes (bound_of l.place) (came_of (bound_of l.place) g.P.Patterns.test (parts_data l.parts) content) (fault_at l.fault)
      (drop l.member-index l.members);
  added : g.P.Patterns.added l.patterns ≡ g.P.Patterns.added l.fn.patterns;
  refused : g.P.Patterns.refused l.patterns ≡ g.P.Patterns.refused l.fn.patterns;
  refusals : g.P.Patterns.refusals l.patterns ≡ g.P.Patterns.refusals l.fn.patterns;
}
