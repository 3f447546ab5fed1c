use Rattle.std.proofs.Common.{◌≡◌, ◌<◌, length, refl, sym, ap, subst, ◌∙◌, arith}
use Rattle.std.specs.Prelude.{slice_get}
use Rattle.std.proofs.lemmas.Option.{slice_get_read}
use Rattle.std.proofs.lemmas.Result.{IfOk-weaker}
use Rattle.sm_merge.specs.steps.Filling.{AreTraitsFrom, HasMixedTraits, id_in}
use Rattle.sm_merge.specs.steps.Firsts.{targets_view}
use Rattle.sm_merge.specs.steps.MixedIn.{AreBelow, vec_items}
use Rattle.sm_merge.specs.declared.parts.BareShape.{BareShape}
use Rattle.sm_merge.proofs.MixedMade.{below_read}
use Rattle.sm_merge.proofs.MixinsOnce.{below_last, last_traits}
use Rattle.sm_merge.proofs.effective.entry_at.Goals as goal

pub traits_of-requires-clause-below : goal.traits_of-requires-clause-below
traits_of-requires-clause-below c =
    subst (AreBelow (length c.args.all.now)) (sym (c.as_slice-2.ensures.value ∙ c.in_ok-mixins.ensures))
    (below_last (length c.args.all.now) c.as_slice.result.now
    (below_read (length c.args.rows.now) (length c.args.all.now) c.args.mixed.now c.args.number c.index-mixed-number.result
    c.as_slice.result.now c.requires.below c.requires.size c.requires.many c.requires.inside c.index-mixed-number.is
    c.as_slice.ensures.value))

pub returns : goal.returns
returns c =
    let number = c.args.number in
    let low : number < length c.args.rows.now = c.requires.inside in
    let size : length c.args.mixed.now ≡ length c.args.rows.now = c.requires.size in
    let small : number < length c.args.mixed.now = omega (arith, low, size) in
    let many : length c.args.members.now ≡ length c.args.rows.now = c.requires.members in
    let few : number < length c.args.members.now = omega (arith, low, many) in
    let at_mixed = slice_get_read c.args.mixed.now (length c.args.mixed.now) number c.index-mixed-number.result refl small
    c.index-mixed-number.is in
    let at_members = slice_get_read c.args.members.now (length c.args.members.now) number c.index-members-number.result refl few
    c.index-members-number.is in
    let at_row = slice_get_read c.args.rows.now (length c.args.rows.now) number c.index-rows-number.result refl low
    c.index-rows-number.is in
    IfOk-weaker c.traits_of.result
    (AreTraitsFrom c.args.traits.now c.as_str-id.result.now (targets_view c.as_slice-given.result.now) c.as_slice-2.result.now
    c.args.all.now)
    (HasMixedTraits c.args.traits.now c.args.rows.now c.args.members.now c.args.mixed.now number c.args.all.now)
    (λ entry from.
    subst (λ k. AreTraitsFrom c.args.traits.now k (targets_view (vec_items (slice_get c.args.members.now number)))
    (vec_items (slice_get c.args.mixed.now number)) c.args.all.now entry)
    (c.as_str-id.ensures ∙ ap (λ (r : BareShape). r.id) (sym c.index-rows-number.is) ∙ sym (ap id_in at_row))
    (subst (λ ms. AreTraitsFrom c.args.traits.now c.as_str-id.result.now (targets_view ms) (vec_items (slice_get c.args.mixed.now number))
    c.args.all.now entry)
    (c.as_slice-given.ensures.value ∙ sym (ap vec_items at_members))
    (subst (λ cs. AreTraitsFrom c.args.traits.now c.as_str-id.result.now (targets_view c.as_slice-given.result.now) cs c.args.all.now entry)
    (c.as_slice.ensures.value ∙ sym (ap vec_items at_mixed))
    (last_traits c.args.traits.now c.as_str-id.result.now (targets_view c.as_slice-given.result.now) c.as_slice.result.now c.args.all.now
    entry
    (subst (λ cs. AreTraitsFrom c.args.traits.now c.as_str-id.result.now (targets_view c.as_slice-given.result.now) cs c.args.all.now entry)
    (c.as_slice-2.ensures.value ∙ c.in_ok-mixins.ensures) from)))))
    c.traits_of.ensures
