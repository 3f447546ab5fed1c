use Rattle.std.proofs.Common.{sym}
use Rattle.sm_model.specs.GraphView.{maps_of}
use Rattle.sm_model.specs.Reaching.{id_of_number}
use Rattle.sm_model.proofs.Worklist.{apart}
use Rattle.sm_compile.proofs.UnservedTold.{none_unserved}
use Rattle.sm_compile.proofs.unserved.is_unserved.Goals as goal

pub returns-in-None : goal.returns-in-None
returns-in-None c =
    let g = c.args.graph.now in (
      λ h. absurd (apart h),
      λ u. absurd (none_unserved (maps_of g) (id_of_number g c.args.shape) (sym c.in-None.ensures) u),
    )
