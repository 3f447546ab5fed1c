-- What Smithy RPC v2 CBOR writes is framed as itself.
use Rattle.std.proofs.Common.{◌≡◌, ℕ, ◌<◌, true, List, [], ◌∷◌, ◌++◌, length, refl, arith}
use Rattle.std.specs.Prelude.{codes}
use Rattle.std.specs.List.{list_all}
use Rattle.std.proofs.lemmas.List.Elements.{All-cons, All-nil, Contains-get_or}
use Rattle.httparse.specs.Grammar.{IsToken, is_token_byte}
use Rattle.sm_shapes.specs.Values.{Val}
use Rattle.sm_http.specs.declared.message.MessageSide.TheVariants.{Request as of_requests, Response as of_responses}
use Rattle.sm_http.specs.Laws.{WrittenIsRead}
use Rattle.sm_http.specs.Written.{IsWritableField, IsWritableMessage}
use Rattle.sm_bind_laws.specs.service.Servable.{Servable}
use Rattle.sm_bind_laws.specs.service.ServiceData.{ServiceData}
use Rattle.sm_bind_laws.specs.messages.Goals.{Role, goal_of, is_input, no_operation, operation_at, the_error, the_input, the_output}
use Rattle.sm_bind_laws.specs.messages.TreeBodies.{error_of}
use Rattle.sm_bind_laws.specs.messages.WrittenHeads.{fault_status, field_of}
use Rattle.sm_rpc.specs.Heads.{accept_field, cbor_type, path_of, protocol_field, protocol_name, protocol_value}
use Rattle.sm_rpc.specs.Messages.{body_of, rpc_form, rpc_written}
use Rattle.sm_framed_laws.specs.Framing.{IsWithinLimits, WrittenIsFramed, side_by}
use Rattle.sm_gateway.specs.GatewayData.{is_visible}
use Rattle.sm_framed_laws.proofs.PlainTexts.{ascii_utf8, identifier_visible, joined, token_is, visible_uris}
use Rattle.sm_framed_laws.proofs.WrittenHeads.{fault_final, framed_by, request_writable, response_writable, type_token, visible_field}

type_writable : IsWritableField (field_of (codes "content-type") cbor_type)
type_writable = visible_field (codes "content-type") cbor_type type_token refl

protocol_writable : IsWritableField protocol_field
unfolding is_token_byte
protocol_writable = visible_field protocol_name protocol_value (token_is protocol_name refl) refl

accept_writable : IsWritableField accept_field
unfolding is_token_byte
accept_writable = visible_field (codes "accept") cbor_type (token_is (codes "accept") refl) refl

post_token : IsToken (codes "POST")
unfolding is_token_byte
post_token = token_is (codes "POST") refl

module _ (s : ServiceData) (servable : Servable s) (host : List ℕ) (shown : list_all is_visible host ≡ true) where
  path_visible : (o : ℕ) → o < length s.operations → list_all is_visible (path_of s o) ≡ true
  path_visible o within =
      let operation = servable.each (operation_at s o) (Contains-get_or s.operations o no_operation within) in
      joined is_visible (codes "/service/" ++ s.name ++ codes "/operation/") (operation_at s o).name
      (joined is_visible (codes "/service/" ++ s.name) (codes "/operation/")
      (joined is_visible (codes "/service/") s.name refl (identifier_visible s.name servable.name)) refl)
      (identifier_visible (operation_at s o).name operation.name)

  goal_writable : (o : ℕ) (r : Role) (v : Val) → o < length s.operations → IsWithinLimits (rpc_written s (goal_of o r) host v)
      → IsWritableMessage (side_by (is_input r)) (rpc_written s (goal_of o r) host v)
  goal_writable o the_input v within short =
      let seen = path_visible o within in
      request_writable (codes "POST") (path_of s o) host cbor_type (protocol_field ∷ accept_field ∷ []) (body_of s (goal_of o the_input) v)
      post_token (omega arith) (visible_uris (path_of s o) seen) (ascii_utf8 (path_of s o) seen) shown type_writable
      (All-cons IsWritableField protocol_field (accept_field ∷ []) protocol_writable
      (All-cons IsWritableField accept_field [] accept_writable (All-nil IsWritableField)))
      (record { coding = refl; length = refl; connection = refl }) short
  goal_writable o the_output v within short =
      response_writable 200 cbor_type (protocol_field ∷ []) (body_of s (goal_of o the_output) v)
      (record { low = omega arith; high = omega arith }) refl refl type_writable
      (All-cons IsWritableField protocol_field [] protocol_writable (All-nil IsWritableField)) (record { coding = refl; length = refl; connection = refl }) short
  goal_writable o (the_error e) v within short =
      let client = (error_of s (goal_of o (the_error e))).client in
      let status = fault_final client in
      response_writable (fault_status client) cbor_type (protocol_field ∷ []) (body_of s (goal_of o (the_error e)) v)
      status.0 status.1 status.2 type_writable
      (All-cons IsWritableField protocol_field [] protocol_writable (All-nil IsWritableField)) (record { coding = refl; length = refl; connection = refl }) short

pub rpc_framed : WrittenIsRead of_requests → WrittenIsRead of_responses → WrittenIsFramed rpc_form
rpc_framed asked answered s test g host v serves served fits carried is short = λ rest.
    framed_by asked answered g.role (rpc_written s g host v) rest
    (goal_writable s serves.servable host (is.2) g.operation g.role v served.operation.within short)
