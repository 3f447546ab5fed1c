use Rattle.std.proofs.Common.{◌+◌, ◌++◌, [], ◌∷◌, ap, sym, ◌∙◌}
use Rattle.sm_excerpts.proofs.NumbersRun.{numbers_more}
use Rattle.sm_excerpts.proofs.orders.numbers_from.Goals as goal

pub loop-place-preserved : goal.loop-place-preserved
loop-place-preserved c =
    let first = c.args.first in
    let place = c.loop-place.place in
    c.in_ok-push.ensures.items ∙ ap (λ ks. ks ++ (first + place) ∷ []) c.loop-place.invariant ∙ sym (numbers_more first place)
