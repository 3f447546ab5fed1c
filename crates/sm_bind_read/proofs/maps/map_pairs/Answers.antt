use Rattle.std.proofs.Common.{◌≡◌, subst}
use Rattle.std.specs.Prelude.{IfOk}
use Rattle.sm_bind.specs.BoundView.{bound_of}
use Rattle.sm_bind_read.specs.steps.Taken.{has_text}
use Rattle.sm_bind_read.proofs.MapRows.{free_of_map}
use Rattle.sm_bind_read.proofs.maps.map_pairs.Goals as goal

pub returns : goal.returns
returns c =
    subst (λ ps. IfOk c.free_pairs.result (λ rows. rows.items ≡ ps))
    (free_of_map (bound_of c.args.place.now) (has_text c.in_ok-taken.taken) c.in_ok-taken.ensures c.args.pairs.now) c.free_pairs.ensures
