use Rattle.std.proofs.Common.{◌+◌, drop, get_or, ap, subst, ◌∙◌}
use Rattle.std.specs.Prelude.{Ok}
use Rattle.sm_codec.specs.FrameView.{fault_at}
use Rattle.sm_bind.specs.BindingsView.{parts_data}
use Rattle.sm_bind.specs.BoundView.{bound_of}
use Rattle.sm_bind_read.specs.steps.Coming.{FaultComes, IsMemberOf, StopsAt, all_faults, came_of}
use Rattle.sm_bind_read.proofs.MembersJoined.{number_is, number_of, passed_over, refused_first, stopped_first}
use Rattle.sm_bind_read.proofs.first_fault.first_fault.Goals as goal

pub is_here-requires-clause-member : goal.is_here-requires-clause-member
is_here-requires-clause-member g c =
    (number_of (IsMemberOf (bound_of c.args.place.now)) c.args.members.now c.loop-member.member-index c.loop-member-test.true
    c.loop-member.invariant.inside).0

pub at_member-requires : goal.at_member-requires
at_member-requires g c =
    (number_of (IsMemberOf (bound_of c.args.place.now)) c.args.members.now c.loop-member.member-index c.loop-member-test.true
    c.loop-member.invariant.inside).0.0

pub loop-member-preserved : goal.loop-member-preserved
loop-member-preserved g c =
    let b = bound_of c.args.place.now in
    let test = g.P.Patterns.test in
    let parts = parts_data c.args.parts.now in
    let ms = c.args.members.now in
    let one = get_or ms c.loop-member.member-index 0 in
    let rest = drop (c.loop-member.member-index + 1) ms in
    let split = number_is ms c.loop-member.member-index c.loop-member-test.true in
    record {
      inside = (number_of (IsMemberOf b) ms c.loop-member.member-index c.loop-member-test.true c.loop-member.invariant.inside).1;
      so_far = λ content h.
          let before = c.loop-member.invariant.so_far content h in
          let next = subst (StopsAt b (came_of b test parts content) (fault_at c.args.fault) one rest) (ap Ok c.if-here.false)
          (c.in-Ok.ensures.next content rest
          (subst (λ ks. FaultComes b (came_of b test parts content) (fault_at c.args.fault) ks) split before.1)) in (
            before.0 ∙ ap (all_faults b test parts content) split ∙ passed_over b test parts content one rest next.0,
            next.1,
          );
      added = c.is_here.ensures.added ∙ c.loop-member.invariant.added;
      refused = c.is_here.ensures.refused ∙ c.loop-member.invariant.refused;
      refusals = c.is_here.ensures.refusals ∙ c.loop-member.invariant.refusals;
    }

pub returns-then-here-clause-joins : goal.returns-then-here-clause-joins
returns-then-here-clause-joins g c = λ content h.
    let b = bound_of c.args.place.now in
    let test = g.P.Patterns.test in
    let parts = parts_data c.args.parts.now in
    let ms = c.args.members.now in
    let one = get_or ms c.loop-member.member-index 0 in
    let rest = drop (c.loop-member.member-index + 1) ms in
    let split = number_is ms c.loop-member.member-index c.loop-member-test.true in
    let before = c.loop-member.invariant.so_far content h in
    stopped_first b test parts content ms one rest (fault_at c.args.fault) (before.0 ∙ ap (all_faults b test parts content) split)
    (subst (StopsAt b (came_of b test parts content) (fault_at c.args.fault) one rest) (ap Ok c.if-here.true)
    (c.in-Ok.ensures.next content rest
    (subst (λ ks. FaultComes b (came_of b test parts content) (fault_at c.args.fault) ks) split before.1)))

pub returns-in-Err-clause-joins : goal.returns-in-Err-clause-joins
returns-in-Err-clause-joins g c = λ content h.
    let b = bound_of c.args.place.now in
    let test = g.P.Patterns.test in
    let parts = parts_data c.args.parts.now in
    let ms = c.args.members.now in
    let one = get_or ms c.loop-member.member-index 0 in
    let rest = drop (c.loop-member.member-index + 1) ms in
    let split = number_is ms c.loop-member.member-index c.loop-member-test.true in
    let before = c.loop-member.invariant.so_far content h in
    refused_first b test parts content ms one rest rest (fault_at c.args.fault) (before.0 ∙ ap (all_faults b test parts content) split)
    c.in-Err.refusal c.at_member.result
    (c.in-Err.ensures.next content rest
    (subst (λ ks. FaultComes b (came_of b test parts content) (fault_at c.args.fault) ks) split before.1)) c.at_member.ensures
