-- The payload among fields.
use Rattle.std.proofs.Common.{◌≡◌, ℕ, Bool, true, false, cond, refl, ap, ◌∙◌}
use Rattle.std.specs.Prelude.{Option, None, Some}
use Rattle.sm_rules.specs.Bindings.{BoundSide, an_error, an_input, an_output}
use Rattle.sm_shapes.specs.TableData.{BindingData, binding_at, label, query, query_params, header, prefix_headers, payload, response_code}
use Rattle.sm_shapes.specs.Values.{Val}
use Rattle.sm_bind_write.specs.service.WireMembers.{counted_binding}
use Rattle.sm_bind_write.specs.messages.MessageForm.{Content}
use Rattle.sm_bind_write.specs.bind.Roles.{Bound, binding_on, is_bound_payload}
use Rattle.sm_bind_write.specs.bind.steps.Growing.{counts_on}
use Rattle.sm_bind_write.proofs.bind.Counted.{kept_is}
use Rattle.sm_bind_write.specs.WrittenParts.{payload_by}

payload_itself : (side : BoundSide) (o : Option BindingData) → is_bound_payload o ≡ true → counted_binding side o ≡ Some payload
payload_itself side o h = kept_is side o ∙ counts side o h
  where
    counts : (side : BoundSide) (o : Option BindingData) → is_bound_payload o ≡ true → cond (counts_on side o) o None ≡ Some payload
    counts an_input (Some payload) h = refl
    counts an_output (Some payload) h = refl
    counts an_error (Some payload) h = refl
    counts side o h = absurd cc

-- the binding of a payload counts on each side
pub payload_counts : (b : Bound) (k : ℕ) → is_bound_payload (binding_at b.table k) ≡ true → binding_on b k ≡ Some payload
payload_counts b k h = payload_itself b.side (binding_at b.table k) h

-- and what is bound to another part is none
other_by : (o : Option BindingData) (b : Bound) (k : ℕ) (v : Val) (other : Content) (n : Bool) → is_bound_payload o ≡ false
    → payload_by (cond n o None) b k v other ≡ other
other_by o b k v other false h = refl
other_by None b k v other true h = refl
other_by (Some label) b k v other true h = refl
other_by (Some (query name)) b k v other true h = refl
other_by (Some query_params) b k v other true h = refl
other_by (Some (header name)) b k v other true h = refl
other_by (Some (prefix_headers prefix)) b k v other true h = refl
other_by (Some payload) b k v other true h = absurd cc
other_by (Some response_code) b k v other true h = refl

pub payload_other : (b : Bound) (k : ℕ) (v : Val) (other : Content) → is_bound_payload (binding_at b.table k) ≡ false
    → payload_by (binding_on b k) b k v other ≡ other
payload_other b k v other h =
    ap (λ o. payload_by o b k v other) (kept_is b.side (binding_at b.table k))
    ∙ other_by (binding_at b.table k) b k v other (counts_on b.side (binding_at b.table k)) h
