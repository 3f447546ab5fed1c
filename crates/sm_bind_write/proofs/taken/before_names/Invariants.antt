use Rattle.std.proofs.Common.{◌≡◌, ◌≤◌, drop, length, map, min}
use Rattle.std.specs.List.{filter_map}
use Rattle.sm_messages.specs.service.WireMembers.{query_of}
use Rattle.sm_bind.specs.BoundView.{bound_of}
use Rattle.sm_bind.specs.Roles.{binding_on, is_among}
use Rattle.sm_bind_write.specs.steps.FreeKeys.{keys_before}
use Rattle.sm_bind_write.proofs.taken.before_names.Given as goal

abbrev pub invariant-loop-member : goal.invariant-loop-member
invariant-loop-member l = record {
  least : min l.len (keys_before (is_among (filter_map (λ k. query_of (binding_on (bound_of l.place) k)) (drop l.member-index l.members)))
      (map (λ e. e.0) l.entries))
      ≡ keys_before (is_among (filter_map (λ k. query_of (binding_on (bound_of l.place) k)) l.members)) (map (λ e. e.0) l.entries);
  within : l.len ≤ length l.entries;
}
