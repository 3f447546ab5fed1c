use Rattle.sm_codec.proofs.JsonLaws.{json_laws}
use Rattle.sm_codec.proofs.CborLaws.{cbor_laws}
use Rattle.sm_codec.proofs.NodeLaws.{node_laws}
use Rattle.sm_codec.proofs.laws.written_leaf_reads.Goals as goal

pub returns : goal.returns
returns c = record {
  json = λ json_names. (json_laws json_names).written_reads;
  cbor = cbor_laws.written_reads;
  nodes = λ raw_blobs. (node_laws raw_blobs).written_reads;
}
