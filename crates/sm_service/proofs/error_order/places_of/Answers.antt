use Rattle.std.proofs.Common.{◌++◌, [], ◌∷◌, ap, sym, ◌∙◌}
use Rattle.sm_service.proofs.NamesInOrder.{places_more}
use Rattle.sm_service.proofs.error_order.places_of.Goals as goal

pub loop-place-preserved : goal.loop-place-preserved
loop-place-preserved c =
    let place = c.loop-place.place in
    c.in_ok-push.ensures.items ∙ ap (λ ks. ks ++ place ∷ []) c.loop-place.invariant ∙ sym (places_more place)
