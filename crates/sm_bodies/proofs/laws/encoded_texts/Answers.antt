use Rattle.sm_bodies.proofs.BodiesWritten.{encodes_json, encodes_cbor}
use Rattle.sm_bodies.proofs.laws.encoded_texts.Goals as goal

pub returns-clause-json : goal.returns-clause-json
returns-clause-json c = encodes_json

pub returns-clause-cbor : goal.returns-clause-cbor
returns-clause-cbor c = encodes_cbor
