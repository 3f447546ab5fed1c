use Rattle.std.proofs.Common.{◌≡◌, ◌<◌, ◌+◌, ◌++◌, [], ap, drop, length, refl, subst, sym, ◌∙◌, rules}
use Rattle.std.proofs.lemmas.List.{drop_all}
use Rattle.std.proofs.lemmas.Option.{slice_get_read}
use Rattle.sm_model.specs.EventView.{events_view}
use Rattle.sm_merge.specs.steps.Filling.{all_targets}
use Rattle.sm_merge.specs.steps.Firsts.{targets_view}
use Rattle.sm_merge.specs.steps.NamedIds.{AreNames}
use Rattle.sm_merge.specs.steps.PlaceEvents.{first_in, others_among}
use Rattle.sm_merge.proofs.MembersMixed.{below_one, mixin_here}
use Rattle.sm_merge.proofs.OthersPut.{others_step}
use Rattle.sm_merge.proofs.events_members.put_others.Goals as goal

pub bounds-all-mixin : goal.bounds-all-mixin
bounds-all-mixin c =
    below_one (length c.args.all.now) c.args.mixed.now c.loop-mixin.mixin-index c.mixin-item.result c.requires.below c.loop-mixin-test.true
    c.mixin-item.is

pub offset_bounds-all-mixin : goal.offset_bounds-all-mixin
offset_bounds-all-mixin c =
    let small : c.mixin-item.result.number < length c.args.all.now =
    below_one (length c.args.all.now) c.args.mixed.now c.loop-mixin.mixin-index c.mixin-item.result c.requires.below c.loop-mixin-test.true
    c.mixin-item.is in
    search rules

pub put_mixed_others-requires-clause-shape : goal.put_mixed_others-requires-clause-shape
put_mixed_others-requires-clause-shape c = c.requires.row.id

pub put_mixed_others-requires-clause-names : goal.put_mixed_others-requires-clause-names
put_mixed_others-requires-clause-names c =
    let one = c.mixin-item.result in
    let small = below_one (length c.args.all.now) c.args.mixed.now c.loop-mixin.mixin-index one c.requires.below c.loop-mixin-test.true
    c.mixin-item.is in
    let here = slice_get_read c.args.all.now (length c.args.all.now) one.number c.index-all-mixin.result refl small c.index-all-mixin.is in
    subst (λ ms. AreNames (targets_view ms)) (sym c.as_slice-members.ensures.value)
    (c.requires.all one.number c.index-all-mixin.result here)

pub put_own_others-requires-clause-shape : goal.put_own_others-requires-clause-shape
put_own_others-requires-clause-shape c = c.requires.row.id

pub put_own_others-requires-clause-names : goal.put_own_others-requires-clause-names
put_own_others-requires-clause-names c = subst AreNames (sym c.as_slice.ensures.value) c.requires.row.own

pub loop-mixin-preserved : goal.loop-mixin-preserved
loop-mixin-preserved c =
    let mixed = c.args.mixed.now in
    let i = c.loop-mixin.mixin-index in
    let own = c.args.row.now.members.items in
    let id = c.args.row.now.id in
    let xs = targets_view c.as_slice-members.result.now in
    let ys = all_targets c.args.all.now (drop (i + 1) mixed) own in
    record {
      told = others_step (events_view c.loop-mixin.events.items) (events_view c.put_mixed_others.new.events.items)
          (events_view c.args.events.now.items ++ others_among id (first_in c.args.firsts.now) (all_targets c.args.all.now mixed own)) id
          (first_in c.args.firsts.now) xs ys c.in_ok-put_mixed_others.ensures.told
          (ap (λ zs. events_view c.loop-mixin.events.items ++ others_among id (first_in c.args.firsts.now) zs)
          (mixin_here c.args.all.now mixed i c.mixin-item.result c.index-all-mixin.result c.as_slice-members.result.now own
          c.requires.below c.loop-mixin-test.true c.mixin-item.is c.index-all-mixin.is c.as_slice-members.ensures.value)
          ∙ c.loop-mixin.invariant.told);
      errors = λ h. c.in_ok-put_mixed_others.ensures.errors (c.loop-mixin.invariant.errors h);
    }

pub returns : goal.returns
returns c =
    let id = c.args.row.now.id in
    let ended : drop c.loop-mixin.mixin-index c.args.mixed.now ≡ [] =
    drop_all c.loop-mixin.mixin-index c.args.mixed.now c.loop-mixin-test.false in
    record {
      told = c.in_ok-put_own_others.ensures.told
          ∙ ap (λ os. events_view c.loop-mixin.events.items ++ others_among c.args.row.now.id (first_in c.args.firsts.now) os)
          c.as_slice.ensures.value
          ∙ ap (λ cs. events_view c.loop-mixin.events.items ++ others_among c.args.row.now.id (first_in c.args.firsts.now)
          (all_targets c.args.all.now cs c.args.row.now.members.items)) (sym ended)
          ∙ c.loop-mixin.invariant.told;
      errors = λ h. c.in_ok-put_own_others.ensures.errors (c.loop-mixin.invariant.errors h);
    }
