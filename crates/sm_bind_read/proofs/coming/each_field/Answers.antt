use Rattle.std.proofs.Common.{◌+◌, drop, refl, get_or, sym, subst, ◌∙◌}
use Rattle.std.proofs.lemmas.List.{drop_all}
use Rattle.std.specs.Option.{option_map}
use Rattle.sm_shapes.specs.ValueView.{each_field_view, val_of}
use Rattle.sm_bind.specs.BindingsView.{parts_data}
use Rattle.sm_bind.specs.BoundView.{bound_of}
use Rattle.sm_bind_read.specs.steps.Coming.{IsMemberOf, PendingComes, came_of}
use Rattle.sm_bind_read.proofs.MembersJoined.{MembersSoFar, all_done, none_yet, number_is, number_of, one_more, refused_field}
use Rattle.sm_bind_read.proofs.coming.each_field.Goals as goal

pub loop-member-init : goal.loop-member-init
loop-member-init g c = record {
  inside = c.requires.members;
  so_far = λ content h. (
    subst (λ xs. MembersSoFar (bound_of c.args.place.now) g.P.Patterns.test (parts_data c.args.parts.now) content c.args.members.now
        c.args.members.now (each_field_view xs)) (sym c.new-fields.ensures.items)
        (none_yet (bound_of c.args.place.now) g.P.Patterns.test (parts_data c.args.parts.now) content c.args.members.now),
    h,
  );
  added = refl;
  refused = refl;
  refusals = refl;
}

pub next_value-requires-clause-member : goal.next_value-requires-clause-member
next_value-requires-clause-member g c =
    (number_of (IsMemberOf (bound_of c.args.place.now)) c.args.members.now c.loop-member.member-index c.loop-member-test.true
    c.loop-member.invariant.inside).0

pub at_member-requires : goal.at_member-requires
at_member-requires g c =
    (number_of (IsMemberOf (bound_of c.args.place.now)) c.args.members.now c.loop-member.member-index c.loop-member-test.true
    c.loop-member.invariant.inside).0.0

pub loop-member-preserved : goal.loop-member-preserved
loop-member-preserved g c =
    let b = bound_of c.args.place.now in
    let test = g.P.Patterns.test in
    let parts = parts_data c.args.parts.now in
    let ms = c.args.members.now in
    let one = get_or ms c.loop-member.member-index 0 in
    let rest = drop (c.loop-member.member-index + 1) ms in
    let split = number_is ms c.loop-member.member-index c.loop-member-test.true in
    record {
      inside = (number_of (IsMemberOf b) ms c.loop-member.member-index c.loop-member-test.true c.loop-member.invariant.inside).1;
      so_far = λ content h.
          let before = c.loop-member.invariant.so_far content h in
          let next = c.in-Ok.ensures.next content rest
          (subst (λ ks. PendingComes b (came_of b test parts content) ks c.loop-member.left) split before.1) in (
            subst (λ fs. MembersSoFar b test parts content ms rest fs) (sym c.in-Ok-put_field.ensures)
                (one_more b test parts content ms one rest (each_field_view c.loop-member.fields.items) (option_map val_of c.in-Ok.value)
                (subst (λ ks. MembersSoFar b test parts content ms ks (each_field_view c.loop-member.fields.items)) split before.0) next.0),
            next.1,
          );
      added = c.next_value.ensures.added ∙ c.loop-member.invariant.added;
      refused = c.next_value.ensures.refused ∙ c.loop-member.invariant.refused;
      refusals = c.next_value.ensures.refusals ∙ c.loop-member.invariant.refusals;
    }

pub returns-clause-joins : goal.returns-clause-joins
returns-clause-joins g c = λ content h.
    let ms = c.args.members.now in
    all_done (bound_of c.args.place.now) g.P.Patterns.test (parts_data c.args.parts.now) content ms (drop c.loop-member.member-index ms)
    (each_field_view c.loop-member.fields.items) (c.loop-member.invariant.so_far content h).0
    (drop_all c.loop-member.member-index ms c.loop-member-test.false)

pub returns-in-Err-clause-joins : goal.returns-in-Err-clause-joins
returns-in-Err-clause-joins g c = λ content h.
    let b = bound_of c.args.place.now in
    let test = g.P.Patterns.test in
    let parts = parts_data c.args.parts.now in
    let ms = c.args.members.now in
    let one = get_or ms c.loop-member.member-index 0 in
    let rest = drop (c.loop-member.member-index + 1) ms in
    let split = number_is ms c.loop-member.member-index c.loop-member-test.true in
    let before = c.loop-member.invariant.so_far content h in
    refused_field b test parts content ms one rest (each_field_view c.loop-member.fields.items)
    (subst (λ ks. MembersSoFar b test parts content ms ks (each_field_view c.loop-member.fields.items)) split before.0)
    (PendingComes b (came_of b test parts content) rest c.next_value.new.pending) c.in-Err.refusal
    c.at_member.result
    (c.in-Err.ensures.next content rest (subst (λ ks. PendingComes b (came_of b test parts content) ks c.loop-member.left) split before.1))
    c.at_member.ensures
