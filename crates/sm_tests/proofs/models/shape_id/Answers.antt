use Rattle.std.proofs.Common.{codes, None, refl}
use Rattle.sm_tests.proofs.models.shape_id.Goals as goal

pub returns-in-Ok : goal.returns-in-Ok
returns-in-Ok c = (
  record { namespace = codes "a"; name = c.args.name.now; member = None },
  record { is_id = record { namespace = refl; name = c.requires; member = λ m e. cc }; spelled = c.in-Ok.ensures },
  refl,
)
