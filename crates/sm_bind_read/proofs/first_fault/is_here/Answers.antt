use Rattle.std.proofs.Common.{sym, subst, ◌∙◌, ◌≡◌, true}
use Rattle.std.specs.Prelude.{◌↔◌}
use Rattle.sm_shapes.specs.TableData.{name_at}
use Rattle.sm_codec.specs.FrameView.{fault_at}
use Rattle.sm_bind.specs.BindingsView.{parts_data}
use Rattle.sm_bind.specs.BoundView.{bound_of}
use Rattle.sm_bind_read.specs.steps.Coming.{IsAtMember, came_of}
use Rattle.sm_bind_read.proofs.PendingTakes.{stops_body, stops_bound, stops_refused}
use Rattle.sm_bind_read.proofs.first_fault.is_here.Goals as goal

pub is_body_member-requires : goal.is_body_member-requires
is_body_member-requires g c = c.requires.member.0

pub bound_value-requires-clause-member : goal.bound_value-requires-clause-member
bound_value-requires-clause-member g c = c.requires.member.0

pub bound_value-requires-clause-maps : goal.bound_value-requires-clause-maps
bound_value-requires-clause-maps g c = c.requires.member.1

pub returns-then-is_body_member-clause-next : goal.returns-then-is_body_member-clause-next
returns-then-is_body_member-clause-next g c = λ content ks h.
    let b = bound_of c.args.place.now in
    let at = subst (λ path. c.is_at_member.result ≡ true ↔ IsAtMember (name_at b.table c.args.member) path) c.as_slice.ensures
    (subst (λ w. c.is_at_member.result ≡ true ↔ IsAtMember w c.as_slice.result.now) c.name.ensures c.is_at_member.ensures) in
    stops_body b (came_of b g.P.Patterns.test (parts_data c.args.parts.now) content) c.args.member ks (fault_at c.args.fault.now)
    c.is_at_member.result (sym c.is_body_member.ensures ∙ c.if-is_body_member.true) at h

pub returns-in-Ok-clause-next : goal.returns-in-Ok-clause-next
returns-in-Ok-clause-next g c = λ content ks h.
    let b = bound_of c.args.place.now in
    stops_bound b (came_of b g.P.Patterns.test (parts_data c.args.parts.now) content) c.args.member ks (fault_at c.args.fault.now) _
    (sym c.is_body_member.ensures ∙ c.if-is_body_member.false) (c.in-Ok.ensures.joins content) h

pub returns-clause-next : goal.returns-clause-next
returns-clause-next g c = λ content ks h.
    let b = bound_of c.args.place.now in
    stops_refused b (came_of b g.P.Patterns.test (parts_data c.args.parts.now) content) c.args.member ks (fault_at c.args.fault.now)
    c.in-Err.refusal (c.in-Err.ensures.joins content)
