use Rattle.std.proofs.Common.{refl}
use Rattle.sm_tree.proofs.Sources.{takes_again, no_refusal}
use Rattle.sm_json.proofs.pieces.JsonReader.flush.Goals as goal

pub returns-in-Some-clause-flushes : goal.returns-in-Some-clause-flushes
returns-in-Some-clause-flushes g c fresh = absurd (no_refusal _ c.in-Some.refusal fresh c.in-Some.is)

pub returns-in-Some-clause-again : goal.returns-in-Some-clause-again
returns-in-Some-clause-again g c = rw c.in-Some.is (refl, refl, refl)

pub returns-in-Some-clause-takes : goal.returns-in-Some-clause-takes
returns-in-Some-clause-takes g c = takes_again _ c.in-Some.refusal

pub returns-in-None-clause-again : goal.returns-in-None-clause-again
returns-in-None-clause-again g c = rw c.in-None.is tt
