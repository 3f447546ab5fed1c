-- The payload as rules on bindings see it.
use Rattle.std.proofs.Common.{◌≡◌, false, [], ◌∷◌, refl}
use Rattle.std.specs.Prelude.{Option, None, Some}
use Rattle.sm_rules.specs.Bindings.{a_payload}
use Rattle.sm_shapes.specs.TableData.{BindingData, label, query, query_params, header, prefix_headers, payload, response_code}
use Rattle.sm_messages.specs.service.WireMembers.{is_bound_by}
use Rattle.sm_codec.specs.Encoded.{are_none}
use Rattle.sm_bind.specs.Roles.{is_bound_payload}
use Rattle.sm_bind_write.specs.CarriedParts.{uncarried_absent}

pub payload_bound : (o : Option BindingData) → is_bound_payload o ≡ is_bound_by o a_payload
payload_bound None = refl
payload_bound (Some label) = refl
payload_bound (Some (query name)) = refl
payload_bound (Some query_params) = refl
payload_bound (Some (header name)) = refl
payload_bound (Some (prefix_headers prefix)) = refl
payload_bound (Some payload) = refl
payload_bound (Some response_code) = refl

-- of an absent member that isn't carried the member itself isn't
pub absent_is : (o : Option BindingData) → are_none (uncarried_absent o) ≡ false → uncarried_absent o ≡ [] ∷ []
absent_is None h = absurd cc
absent_is (Some label) h = absurd cc
absent_is (Some (query name)) h = absurd cc
absent_is (Some query_params) h = absurd cc
absent_is (Some (header name)) h = absurd cc
absent_is (Some (prefix_headers prefix)) h = absurd cc
absent_is (Some payload) h = absurd cc
absent_is (Some response_code) h = refl
