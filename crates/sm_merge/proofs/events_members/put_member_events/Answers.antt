use Rattle.std.proofs.Common.{◌≡◌, ◌<◌, ◌+◌, ◌++◌, suc, length, refl, sym, ap, subst, ◌∙◌, arith, append_assoc}
use Rattle.std.proofs.lemmas.Option.{slice_get_read}
use Rattle.sm_model.specs.EventView.{events_view}
use Rattle.sm_merge.specs.steps.Filling.{all_targets}
use Rattle.sm_merge.specs.steps.Firsts.{targets_view}
use Rattle.sm_merge.specs.steps.MixedIn.{AreBelow}
use Rattle.sm_merge.specs.steps.MixinsOnce.{mixins_once}
use Rattle.sm_merge.specs.steps.PlaceEvents.{first_among, first_in, others_among, others_at, others_below}
use Rattle.sm_merge.proofs.MixedMade.{below_read}
use Rattle.sm_merge.proofs.MixinsOnce.{below_once}
use Rattle.sm_merge.proofs.OthersPut.{others_entry}
use Rattle.sm_merge.proofs.events_members.put_member_events.Goals as goal

pub put_others-requires-clause-row : goal.put_others-requires-clause-row
put_others-requires-clause-row c =
    let low : c.loop-number.number < length c.args.rows.now = c.loop-number-test.true in
    let here = slice_get_read c.args.rows.now (length c.args.rows.now) c.loop-number.number c.index-rows-number.result refl low
    c.index-rows-number.is in
    c.requires.named.rows_are c.loop-number.number c.index-rows-number.result here

pub put_others-requires-clause-all : goal.put_others-requires-clause-all
put_others-requires-clause-all c = c.requires.named.all

pub put_others-requires-clause-below : goal.put_others-requires-clause-below
put_others-requires-clause-below c =
    subst (λ cs. AreBelow (length c.args.members.now) cs) (sym (c.as_slice-in-loop-number-2.ensures.value ∙ c.in_ok-mixins.ensures))
    (below_once (length c.args.members.now) c.as_slice.result.now
    (below_read (length c.args.rows.now) (length c.args.members.now) c.args.mixed.now c.loop-number.number c.index-mixed-number.result
    c.as_slice.result.now c.requires.below c.requires.size c.requires.members c.loop-number-test.true c.index-mixed-number.is
    c.as_slice.ensures.value))

pub loop-number-preserved : goal.loop-number-preserved
loop-number-preserved c =
    let low : c.loop-number.number < length c.args.rows.now = c.loop-number-test.true in
    let size : length c.args.mixed.now ≡ length c.args.rows.now = c.requires.size in
    let many : length c.args.members.now ≡ length c.args.rows.now = c.requires.members in
    let small : c.loop-number.number < length c.args.mixed.now = omega (arith, low, size) in
    let few : c.loop-number.number < length c.args.members.now = omega (arith, low, many) in
    let next : suc c.loop-number.number ≡ c.loop-number.number + 1 = omega arith in
    let at_row = slice_get_read c.args.rows.now (length c.args.rows.now) c.loop-number.number c.index-rows-number.result refl low
    c.index-rows-number.is in
    let at_mixed = slice_get_read c.args.mixed.now (length c.args.mixed.now) c.loop-number.number c.index-mixed-number.result refl small
    c.index-mixed-number.is in
    let at_members = slice_get_read c.args.members.now (length c.args.members.now) c.loop-number.number c.index-members-number.result
    refl few
    c.index-members-number.is in
    record {
      told = c.in_ok-put_others.ensures.told
          ∙ ap (λ l. events_view c.loop-number.events.items ++ l)
          (ap (λ cs. others_among c.index-rows-number.result.id (first_in c.in_ok-firsts.firsts)
          (all_targets c.args.members.now cs c.index-rows-number.result.members.items))
          (c.as_slice-in-loop-number-2.ensures.value ∙ c.in_ok-mixins.ensures ∙ ap mixins_once c.as_slice.ensures.value)
          ∙ others_entry c.args.rows.now c.args.mixed.now c.args.members.now c.loop-number.number c.index-rows-number.result
          c.index-mixed-number.result c.index-members-number.result (first_in c.in_ok-firsts.firsts) at_row at_mixed at_members
          (λ n. c.in_ok-firsts.ensures n ∙ ap (λ ms. first_among (targets_view ms) n) c.as_slice-in-loop-number.ensures.value))
          ∙ ap (λ l. l ++ others_at c.args.rows.now c.args.mixed.now c.args.members.now c.loop-number.number) c.loop-number.invariant.told
          ∙ append_assoc (events_view c.args.events.now.items)
          (others_below c.args.rows.now c.args.mixed.now c.args.members.now c.loop-number.number)
          (others_at c.args.rows.now c.args.mixed.now c.args.members.now c.loop-number.number)
          ∙ ap (λ k. events_view c.args.events.now.items ++ others_below c.args.rows.now c.args.mixed.now c.args.members.now k) next;
      errors = λ h. c.in_ok-put_others.ensures.errors (c.loop-number.invariant.errors h);
    }
