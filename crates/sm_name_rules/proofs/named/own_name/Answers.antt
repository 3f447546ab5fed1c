use Rattle.std.proofs.Common.{refl}
use Rattle.sm_ids.specs.View.{id_of}
use Rattle.sm_name_rules.proofs.named.own_name.Goals as goal

pub returns : goal.returns
returns c = (id_of c.as_ref.result, c.as_ref.ensures, refl)
