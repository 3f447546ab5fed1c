use Rattle.std.proofs.Common.{sym, ◌∙◌}
use Rattle.sm_bind.specs.BindingsView.{parts_data}
use Rattle.sm_bind.specs.BoundView.{bound_of}
use Rattle.sm_bind_read.specs.steps.Coming.{PendingComes, came_of}
use Rattle.sm_bind_read.proofs.PendingTakes.{from_joins, passes_by}
use Rattle.sm_bind_read.proofs.coming.next_value.Goals as goal

pub is_body_member-requires : goal.is_body_member-requires
is_body_member-requires g c = c.requires.member.0

pub next_body-requires-clause-member : goal.next_body-requires-clause-member
next_body-requires-clause-member g c = c.requires.member.0

pub bound_value-requires-clause-member : goal.bound_value-requires-clause-member
bound_value-requires-clause-member g c = c.requires.member.0

pub bound_value-requires-clause-maps : goal.bound_value-requires-clause-maps
bound_value-requires-clause-maps g c = c.requires.member.1

pub returns-then-is_body_member-clause-next : goal.returns-then-is_body_member-clause-next
returns-then-is_body_member-clause-next g c = λ content ks h.
    c.next_body.ensures (came_of (bound_of c.args.place.now) g.P.Patterns.test (parts_data c.args.parts.now) content) ks h

pub returns-else-is_body_member-clause-next : goal.returns-else-is_body_member-clause-next
returns-else-is_body_member-clause-next g c = λ content ks h.
    let b = bound_of c.args.place.now in
    let came = came_of b g.P.Patterns.test (parts_data c.args.parts.now) content in
    from_joins (came c.args.member) (PendingComes b came ks c.args.pending.now) c.bound_value.result (c.bound_value.ensures.joins content)
    (passes_by b came c.args.member ks c.args.pending.now (sym c.is_body_member.ensures ∙ c.if-is_body_member.false) h)
