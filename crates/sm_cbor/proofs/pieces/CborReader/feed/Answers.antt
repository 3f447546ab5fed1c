use Rattle.std.proofs.Common.{refl}
use Rattle.sm_tree.proofs.Sources.{stays_refused, takes_again, no_refusal}
use Rattle.sm_cbor.specs.Stands.{cbor_source}
use Rattle.sm_cbor.proofs.pieces.CborReader.feed.Goals as goal

pub returns-in-Some-clause-feeds : goal.returns-in-Some-clause-feeds
returns-in-Some-clause-feeds g c fresh = absurd (no_refusal _ c.in-Some.refusal fresh c.in-Some.is)

pub returns-in-Some-clause-again : goal.returns-in-Some-clause-again
returns-in-Some-clause-again g c = rw c.in-Some.is (refl, refl, refl)

pub returns-in-Some-clause-longer : goal.returns-in-Some-clause-longer
returns-in-Some-clause-longer g c = stays_refused cbor_source c.args.self.now c.args.piece.now

pub returns-in-Some-clause-takes : goal.returns-in-Some-clause-takes
returns-in-Some-clause-takes g c = takes_again _ c.in-Some.refusal

pub returns-in-None-clause-again : goal.returns-in-None-clause-again
returns-in-None-clause-again g c = rw c.in-None.is tt

pub returns-in-None-clause-longer : goal.returns-in-None-clause-longer
returns-in-None-clause-longer g c = stays_refused cbor_source c.args.self.now c.args.piece.now
