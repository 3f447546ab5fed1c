use Rattle.std.proofs.Common.{refl}
use Rattle.sm_json.proofs.laws.escapes_are_meant.Goals as goal

pub returns : goal.returns
returns c = record { marks = refl; letters = refl; first_control = refl; last_control = refl; other = refl; solidus = refl }
