-- Which bindings count on a side, and the payload among members.
use Rattle.std.proofs.Common.{◌≡◌, ℕ, Bool, true, false, cond, List, [], ◌∷◌, refl, ap, ◌∙◌, sym}
use Rattle.std.specs.Prelude.{Option, None, Some, is_some}
use Rattle.sm_rules.specs.Bindings.{BoundSide, an_error, an_input, an_output}
use Rattle.sm_shapes.specs.Places.{kind_of, member_place}
use Rattle.sm_shapes.specs.TableData.{BindingData, TableData, binding_at, label, query, query_params, header, prefix_headers, payload}
use Rattle.sm_shapes.specs.TableData.{response_code, target_at}
use Rattle.sm_service.specs.WireMembers.{counted_binding}
use Rattle.sm_bind.specs.Documents.{is_tree_kind, payload_shape, shape_by}
use Rattle.sm_bind.specs.Roles.{bound_on, is_bound_payload}
use Rattle.sm_bind.specs.steps.Growing.{counts_on, payload_among}

-- the binding itself where it counts
abbrev pub kept_on : BoundSide → Option BindingData → Option BindingData
kept_on side b = cond (counts_on side b) b None

pub kept_is : (side : BoundSide) (b : Option BindingData) → counted_binding side b ≡ kept_on side b
kept_is an_input None = refl
kept_is an_output None = refl
kept_is an_error None = refl
kept_is an_input (Some label) = refl
kept_is an_output (Some label) = refl
kept_is an_error (Some label) = refl
kept_is an_input (Some (query name)) = refl
kept_is an_output (Some (query name)) = refl
kept_is an_error (Some (query name)) = refl
kept_is an_input (Some query_params) = refl
kept_is an_output (Some query_params) = refl
kept_is an_error (Some query_params) = refl
kept_is an_input (Some (header name)) = refl
kept_is an_output (Some (header name)) = refl
kept_is an_error (Some (header name)) = refl
kept_is an_input (Some (prefix_headers prefix)) = refl
kept_is an_output (Some (prefix_headers prefix)) = refl
kept_is an_error (Some (prefix_headers prefix)) = refl
kept_is an_input (Some payload) = refl
kept_is an_output (Some payload) = refl
kept_is an_error (Some payload) = refl
kept_is an_input (Some response_code) = refl
kept_is an_output (Some response_code) = refl
kept_is an_error (Some response_code) = refl

kept_some : (side : BoundSide) (b : Option BindingData) → counts_on side b ≡ is_some (kept_on side b)
kept_some an_input None = refl
kept_some an_output None = refl
kept_some an_error None = refl
kept_some side (Some b) = by (counts_on side (Some b))
  where
    by : (n : Bool) → n ≡ is_some (cond n (Some b) None)
    by true = refl
    by false = refl

pub counted_is : (side : BoundSide) (b : Option BindingData) → counts_on side b ≡ is_some (counted_binding side b)
counted_is side b = kept_some side b ∙ ap is_some (sym (kept_is side b))

-- a payload counts on each side, so the first among all is the first that counts
payload_kept : (side : BoundSide) (o : Option BindingData) (t : TableData) (k : ℕ) (other : Option ℕ)
    → shape_by (kept_on side o) t k other
    ≡ cond (is_bound_payload o) (cond (is_tree_kind (kind_of t (member_place k))) (Some (target_at t k)) None) other
payload_kept an_input None t k other = refl
payload_kept an_output None t k other = refl
payload_kept an_error None t k other = refl
payload_kept an_input (Some label) t k other = refl
payload_kept an_output (Some label) t k other = refl
payload_kept an_error (Some label) t k other = refl
payload_kept an_input (Some (query name)) t k other = refl
payload_kept an_output (Some (query name)) t k other = refl
payload_kept an_error (Some (query name)) t k other = refl
payload_kept an_input (Some query_params) t k other = refl
payload_kept an_output (Some query_params) t k other = refl
payload_kept an_error (Some query_params) t k other = refl
payload_kept an_input (Some (header name)) t k other = refl
payload_kept an_output (Some (header name)) t k other = refl
payload_kept an_error (Some (header name)) t k other = refl
payload_kept an_input (Some (prefix_headers prefix)) t k other = refl
payload_kept an_output (Some (prefix_headers prefix)) t k other = refl
payload_kept an_error (Some (prefix_headers prefix)) t k other = refl
payload_kept an_input (Some payload) t k other = refl
payload_kept an_output (Some payload) t k other = refl
payload_kept an_error (Some payload) t k other = refl
payload_kept an_input (Some response_code) t k other = refl
payload_kept an_output (Some response_code) t k other = refl
payload_kept an_error (Some response_code) t k other = refl

pub payload_same : (t : TableData) (side : BoundSide) (s : ℕ) (ks : List ℕ) → payload_shape (bound_on t side s) ks ≡ payload_among t ks
payload_same t side s [] = refl
payload_same t side s (k ∷ ks) =
    ap (λ o. shape_by o t k (payload_shape (bound_on t side s) ks)) (kept_is side (binding_at t k))
    ∙ payload_kept side (binding_at t k) t k (payload_shape (bound_on t side s) ks)
    ∙ ap (cond (is_bound_payload (binding_at t k)) (cond (is_tree_kind (kind_of t (member_place k))) (Some (target_at t k)) None))
    (payload_same t side s ks)
