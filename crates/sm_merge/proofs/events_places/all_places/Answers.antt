use Rattle.std.proofs.Common.{◌≡◌, ◌<◌, length, refl, sym, subst, arith}
use Rattle.std.proofs.lemmas.Option.{slice_get_read}
use Rattle.sm_ids.specs.IdText.{IsShapeId}
use Rattle.sm_merge.specs.steps.Firsts.{targets_view}
use Rattle.sm_merge.specs.steps.NamedIds.{AreNames}
use Rattle.sm_merge.specs.declared.parts.BareShape.{BareShape}
use Rattle.sm_merge.proofs.events_places.all_places.Goals as goal

pub put_places-requires-clause-shape : goal.put_places-requires-clause-shape
put_places-requires-clause-shape c =
    let low : c.loop-number.number < length c.args.rows.now = c.loop-number-test.true in
    let here = slice_get_read c.args.rows.now (length c.args.rows.now) c.loop-number.number c.index-rows-number.result refl low
    c.index-rows-number.is in
    subst (λ (r : BareShape). IsShapeId r.id) c.index-rows-number.is
    (c.requires.named.rows_are c.loop-number.number c.index-rows-number.result here).id

pub put_places-requires-clause-names : goal.put_places-requires-clause-names
put_places-requires-clause-names c =
    let low : c.loop-number.number < length c.args.rows.now = c.loop-number-test.true in
    let many : length c.args.members.now ≡ length c.args.rows.now = c.requires.members in
    let few : c.loop-number.number < length c.args.members.now = omega (arith, low, many) in
    let here = slice_get_read c.args.members.now (length c.args.members.now) c.loop-number.number c.index-members-number.result refl few
    c.index-members-number.is in
    subst (λ ms. AreNames (targets_view ms)) (sym c.as_slice-list.ensures.value)
    (c.requires.named.all c.loop-number.number c.index-members-number.result here)
