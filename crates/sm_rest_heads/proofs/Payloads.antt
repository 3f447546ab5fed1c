-- The payload among members that code finds is the one that counts on each side.
use Rattle.std.proofs.Common.{◌≡◌, ℕ, cond, List, [], ◌∷◌, None, Option, Some, refl, ap, ◌∙◌}
use Rattle.sm_rules.specs.Bindings.{BoundSide, an_error, an_input, an_output}
use Rattle.sm_shapes.specs.TableData.{BindingData, TableData, binding_at, label, query, query_params, header, prefix_headers, payload}
use Rattle.sm_shapes.specs.TableData.{response_code}
use Rattle.sm_bind.specs.Roles.{bound_on, is_bound_payload}
use Rattle.sm_bind.proofs.Counted.{kept_is, kept_on}
use Rattle.sm_rest_heads.specs.BodyParts.{payload_among, payload_or, payload_part}
use Rattle.sm_rest_heads.specs.steps.Payloads.{first_payload, payload_stands}

payload_kept : (side : BoundSide) (o : Option BindingData) (k : ℕ) (other : Option ℕ)
    → payload_or (kept_on side o) k other ≡ cond (is_bound_payload o) (Some k) other
payload_kept an_input None k other = refl
payload_kept an_output None k other = refl
payload_kept an_error None k other = refl
payload_kept an_input (Some label) k other = refl
payload_kept an_output (Some label) k other = refl
payload_kept an_error (Some label) k other = refl
payload_kept an_input (Some (query name)) k other = refl
payload_kept an_output (Some (query name)) k other = refl
payload_kept an_error (Some (query name)) k other = refl
payload_kept an_input (Some query_params) k other = refl
payload_kept an_output (Some query_params) k other = refl
payload_kept an_error (Some query_params) k other = refl
payload_kept an_input (Some (header name)) k other = refl
payload_kept an_output (Some (header name)) k other = refl
payload_kept an_error (Some (header name)) k other = refl
payload_kept an_input (Some (prefix_headers prefix)) k other = refl
payload_kept an_output (Some (prefix_headers prefix)) k other = refl
payload_kept an_error (Some (prefix_headers prefix)) k other = refl
payload_kept an_input (Some payload) k other = refl
payload_kept an_output (Some payload) k other = refl
payload_kept an_error (Some payload) k other = refl
payload_kept an_input (Some response_code) k other = refl
payload_kept an_output (Some response_code) k other = refl
payload_kept an_error (Some response_code) k other = refl

pub first_counts : (t : TableData) (side : BoundSide) (s : ℕ) (ks : List ℕ) → payload_among (bound_on t side s) ks ≡ first_payload t ks
first_counts t side s [] = refl
first_counts t side s (k ∷ ks) =
    ap (λ o. payload_or o k (payload_among (bound_on t side s) ks)) (kept_is side (binding_at t k))
    ∙ payload_kept side (binding_at t k) k (payload_among (bound_on t side s) ks)
    ∙ ap (cond (is_bound_payload (binding_at t k)) (Some k)) (first_counts t side s ks)

pub stands_same : (t : TableData) (side : BoundSide) (s : ℕ) (o : Option ℕ) → payload_stands t o ≡ payload_part (bound_on t side s) o
stands_same t side s None = refl
stands_same t side s (Some k) = refl
