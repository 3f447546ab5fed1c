-- What AWS JSON writes is framed as itself.
use Rattle.std.proofs.Common.{◌≡◌, ℕ, ◌<◌, true, List, [], ◌∷◌, length, refl, arith}
use Rattle.std.specs.Prelude.{codes}
use Rattle.std.specs.List.{list_all}
use Rattle.std.proofs.lemmas.List.Elements.{All-cons, All-nil, Contains-get_or}
use Rattle.httparse.specs.Grammar.{IsToken, is_token_byte}
use Rattle.sm_bytes.specs.Ascii.{full_stop}
use Rattle.sm_shapes.specs.Values.{Val}
use Rattle.sm_http.specs.declared.message.MessageSide.TheVariants.{Request as of_requests, Response as of_responses}
use Rattle.sm_http.specs.Laws.{WrittenIsRead}
use Rattle.sm_http.specs.Written.{IsWritableField, IsWritableMessage}
use Rattle.sm_bind_laws.specs.service.Servable.{Servable}
use Rattle.sm_bind_laws.specs.service.ServiceData.{ServiceData}
use Rattle.sm_bind_laws.specs.messages.Goals.{Role, goal_of, is_input, no_operation, operation_at, the_error, the_input, the_output}
use Rattle.sm_bind_laws.specs.messages.TreeBodies.{error_of}
use Rattle.sm_bind_laws.specs.messages.WrittenHeads.{field_of, fault_status}
use Rattle.sm_awsjson.specs.Heads.{json_type, target_field, target_name, target_of}
use Rattle.sm_awsjson.specs.Messages.{aws_form, aws_written, body_of}
use Rattle.sm_awsjson.specs.declared.version.AwsVersion.{AwsVersion}
use Rattle.sm_awsjson.specs.declared.version.AwsVersion.TheVariants.{V10, V11}
use Rattle.sm_framed_laws.specs.Framing.{IsWithinLimits, WrittenIsFramed, side_by}
use Rattle.sm_gateway.specs.GatewayData.{is_visible}
use Rattle.sm_framed_laws.proofs.PlainTexts.{ascii_utf8, identifier_visible, joined, token_is, visible_uris}
use Rattle.sm_framed_laws.proofs.WrittenHeads.{fault_final, framed_by, request_writable, response_writable, type_token, visible_field}

type_writable : (version : AwsVersion) → IsWritableField (field_of (codes "content-type") (json_type version))
type_writable V10 = visible_field (codes "content-type") (json_type V10) type_token refl
type_writable V11 = visible_field (codes "content-type") (json_type V11) type_token refl

target_token : IsToken target_name
unfolding is_token_byte
target_token = token_is target_name refl

post_token : IsToken (codes "POST")
unfolding is_token_byte
post_token = token_is (codes "POST") refl

module _ (version : AwsVersion) (s : ServiceData) (servable : Servable s) (host : List ℕ) (shown : list_all is_visible host ≡ true) where
  target_visible : (o : ℕ) → o < length s.operations → list_all is_visible (target_of s o) ≡ true
  target_visible o within =
      let operation = servable.each (operation_at s o) (Contains-get_or s.operations o no_operation within) in
      joined is_visible s.name (full_stop ∷ (operation_at s o).name) (identifier_visible s.name servable.name)
      (identifier_visible (operation_at s o).name operation.name)

  goal_writable : (o : ℕ) (r : Role) (v : Val) → o < length s.operations → IsWithinLimits (aws_written version s (goal_of o r) host v)
      → IsWritableMessage (side_by (is_input r)) (aws_written version s (goal_of o r) host v)
  goal_writable o the_input v within short =
      request_writable (codes "POST") (codes "/") host (json_type version) (target_field s o ∷ []) (body_of version s (goal_of o the_input) v)
      post_token (omega arith) (visible_uris (codes "/") refl) (ascii_utf8 (codes "/") refl) shown (type_writable version)
      (All-cons IsWritableField (target_field s o) [] (visible_field target_name (target_of s o) target_token (target_visible o within))
      (All-nil IsWritableField)) (record { coding = refl; length = refl; connection = refl }) short
  goal_writable o the_output v within short =
      response_writable 200 (json_type version) [] (body_of version s (goal_of o the_output) v) (record { low = omega arith; high = omega arith })
      refl refl (type_writable version) (All-nil IsWritableField) (record { coding = refl; length = refl; connection = refl }) short
  goal_writable o (the_error e) v within short =
      let client = (error_of s (goal_of o (the_error e))).client in
      let status = fault_final client in
      response_writable (fault_status client) (json_type version) [] (body_of version s (goal_of o (the_error e)) v) status.0 status.1 status.2
      (type_writable version) (All-nil IsWritableField) (record { coding = refl; length = refl; connection = refl }) short

pub aws_framed : WrittenIsRead of_requests → WrittenIsRead of_responses → (version : AwsVersion) → WrittenIsFramed (aws_form version)
aws_framed asked answered version s test g host v serves served fits carried is short = λ rest.
    framed_by asked answered g.role (aws_written version s g host v) rest
    (goal_writable version s serves.servable host (is.2) g.operation g.role v served.operation.within short)
