-- What a body of Smithy RPC v2 CBOR stands for that comes in pieces.
use Rattle.std.specs.Prelude.{ℕ, Bool, List, []}
use Rattle.sm_cbor.specs.Stands.{cbor_source}
use Rattle.sm_cbor.specs.declared.pieces.CborReader.{CborReader}
use Rattle.sm_shapes.specs.Fitting.{Test}
use Rattle.sm_codec.specs.Conventions.{cbor_convention}
use Rattle.sm_http.specs.declared.message.Head.{Head}
use Rattle.sm_http.specs.declared.message.Message.{Message}
use Rattle.sm_service.specs.ServiceData.{ServiceData}
use Rattle.sm_messages.specs.Begun.{BegunFor, BodyState, failed, fed, held}
use Rattle.sm_messages.specs.Goals.{Asked}
use Rattle.sm_messages.specs.WrittenHeads.{with_fields}
use Rattle.sm_rpc.specs.Messages.{rpc_form}
use Rattle.sm_rpc.specs.declared.body.RpcBody.{RpcBody}
use Rattle.sm_rpc.specs.declared.body.RpcBody.TheVariants.{Failed, Fed, Held}

abbrev pub rpc_state : RpcBody → BodyState CborReader
rpc_state Failed = failed
rpc_state (Held o m) = held o m
rpc_state (Fed o r d) = fed o r d

-- it was begun for a message of this head, whose body is empty or not, and these bytes have come to it
abbrev pub RpcBegun : ServiceData → Test → Asked → RpcBody → Head → Bool → List ℕ → Type 0
RpcBegun s test asked body head empty bytes =
    BegunFor cbor_source cbor_convention rpc_form s test asked head empty bytes (rpc_state body)

-- what is kept of a head: its start
abbrev pub kept_message : Head → Message
kept_message head = with_fields head.start [] []
