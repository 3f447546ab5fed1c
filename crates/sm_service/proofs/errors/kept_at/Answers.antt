use Rattle.std.proofs.Common.{sym, ap, ◌∙◌, arith}
use Rattle.std.specs.Prelude.{slice_get}
use Rattle.std.proofs.lemmas.Option.{slice_get_past}
use Rattle.sm_service.specs.ErrorsView.{but_at}
use Rattle.sm_service.proofs.KeptErrors.{got_at_place, kept_at_place, kept_whole}
use Rattle.sm_service.proofs.errors.kept_at.Goals as goal

pub overflow_sub-errors : goal.overflow_sub-errors
overflow_sub-errors c = let kept = kept_whole c.args.places.now c.args.errors.now c.requires in omega (arith, kept)

pub returns-then-place-errors : goal.returns-then-place-errors
returns-then-place-errors c =
    got_at_place c.get.result c.args.errors.now c.moved_place.result c.get.ensures.lookup.3 ∙ ap (slice_get c.args.errors.now) c.moved_place.ensures
    ∙ sym (kept_at_place c.args.places.now c.args.errors.now c.args.place c.requires)

pub returns-else-place-errors : goal.returns-else-place-errors
returns-else-place-errors c =
    let kept = kept_whole c.args.places.now c.args.errors.now c.requires in
    sym (slice_get_past (but_at c.args.places.now 0 c.args.errors.now) c.args.place (omega (arith, kept, c.if-place-errors.false)))
