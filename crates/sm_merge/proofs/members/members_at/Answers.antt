use Rattle.std.proofs.Common.{◌≡◌, ◌<◌, length, refl, sym, ap, subst, ◌∙◌, arith}
use Rattle.std.proofs.lemmas.Option.{slice_get_read}
use Rattle.std.proofs.lemmas.Result.{IfOk-weaker}
use Rattle.sm_merge.specs.steps.Filling as filled
use Rattle.sm_merge.specs.steps.Filling.{HasMixedMembers, all_targets}
use Rattle.sm_merge.specs.steps.Firsts.{firsts, targets_view}
use Rattle.sm_merge.specs.steps.MixedIn.{AreBelow}
use Rattle.sm_merge.specs.steps.MixinsOnce.{mixins_once}
use Rattle.sm_merge.proofs.MembersMixed.{entry_made}
use Rattle.sm_merge.proofs.MixedMade.{below_read}
use Rattle.sm_merge.proofs.MixinsOnce.{below_once, same_firsts}
use Rattle.sm_merge.proofs.members.members_at.Goals as goal

pub members_of-requires : goal.members_of-requires
members_of-requires c =
    subst (AreBelow (length c.args.all.now)) (sym (c.as_slice-2.ensures.value ∙ c.in_ok-mixins.ensures))
    (below_once (length c.args.all.now) c.as_slice.result.now
    (below_read (length c.args.rows.now) (length c.args.all.now) c.args.mixed.now c.args.number c.index-mixed-number.result
    c.as_slice.result.now c.requires.below c.requires.size c.requires.many c.requires.inside c.index-mixed-number.is
    c.as_slice.ensures.value))

pub returns : goal.returns
returns c =
    let low : c.args.number < length c.args.rows.now = c.requires.inside in
    let size : length c.args.mixed.now ≡ length c.args.rows.now = c.requires.size in
    let small : c.args.number < length c.args.mixed.now = omega (arith, low, size) in
    let at_mixed = slice_get_read c.args.mixed.now (length c.args.mixed.now) c.args.number c.index-mixed-number.result refl small
    c.index-mixed-number.is in
    let at_row = slice_get_read c.args.rows.now (length c.args.rows.now) c.args.number c.index-rows-number.result refl low
    c.index-rows-number.is in
    IfOk-weaker c.members_of.result
    (λ ms. targets_view ms.items ≡ firsts (all_targets c.args.all.now c.as_slice-2.result.now c.index-rows-number.result.members.items))
    (HasMixedMembers c.args.rows.now c.args.mixed.now c.args.number c.args.all.now)
    (λ ms made.
    entry_made c.args.rows.now c.args.mixed.now c.args.number c.args.all.now ms c.index-rows-number.result
    c.index-mixed-number.result at_row
    at_mixed (made
    ∙ (λ i. firsts (all_targets c.args.all.now ((c.as_slice-2.ensures.value ∙ c.in_ok-mixins.ensures
    ∙ ap mixins_once c.as_slice.ensures.value) i) c.index-rows-number.result.members.items))
    ∙ same_firsts (filled.members_at c.args.all.now) c.index-rows-number.result.members.items c.index-mixed-number.result.items))
    c.members_of.ensures
