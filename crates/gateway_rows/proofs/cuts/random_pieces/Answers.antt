-- One more cut, of a remainder and one.
use Rattle.std.proofs.Common.{◌<◌, All, sym, subst, arith}
use Rattle.std.proofs.lemmas.List.Elements.{All-push}
use Rattle.gateway_rows.proofs.cuts.random_pieces.Goals as goal

pub loop-preserved : goal.loop-preserved
loop-preserved c =
    subst (All (λ cut. 0 < cut)) (sym c.in_ok-push.ensures.items) (All-push (λ cut. 0 < cut) _ _ c.loop.invariant (omega arith))
