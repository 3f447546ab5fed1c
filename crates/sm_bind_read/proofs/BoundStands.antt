-- What stands for a bound member, by the binding that it has.
use Rattle.std.proofs.Common.{◌≡◌, ℕ, Bool, true, false, cond, refl, sym, ap, ◌∙◌}
use Rattle.std.proofs.lemmas.Bool.{true≢false}
use Rattle.std.specs.Prelude.{None, Option, Some, is_some}
use Rattle.std.specs.List.{list_any}
use Rattle.sm_rules.specs.Bindings.{BoundSide, an_error, an_input, an_output, bindings_of}
use Rattle.sm_shapes.specs.TableData.{BindingData, TableData, binding_at, label, query, query_params, header, prefix_headers, payload}
use Rattle.sm_shapes.specs.TableData.{response_code}
use Rattle.sm_messages.specs.service.WireMembers.{counted_binding, is_bound_by}
use Rattle.sm_bind.specs.Documents.{IsBodyBy, IsBodyShape}
use Rattle.sm_bind.specs.Roles.{Bound, binding_on, bound_on, has_document, is_bound_payload}
use Rattle.sm_bind.specs.steps.Growing.{counts_on}
use Rattle.sm_bind.proofs.Counted.{kept_is, kept_on}
use Rattle.sm_bind_read.specs.steps.Coming.{is_body, is_body_by}

-- the binding counts of a member for which the body doesn't stand
kept : (z : Bool) (o : Option BindingData) → is_body_by (cond z o None) ≡ false → cond z o None ≡ o
kept true o h = refl
kept false o h = absurd (true≢false h)

pub counts_there : (b : Bound) (k : ℕ) → is_body b k ≡ false → binding_on b k ≡ binding_at b.table k
counts_there b k h = kept (list_any (is_bound_by (binding_at b.table k)) (bindings_of b.side)) (binding_at b.table k) h

-- the binding that counts, by whether one does
counted_there : (z : Bool) (o : Option BindingData) → is_some (cond z o None) ≡ true → cond z o None ≡ o
counted_there true o h = refl
counted_there false o h = absurd (true≢false (sym h))

counted_gone : (z : Bool) (o : Option BindingData) → is_some (cond z o None) ≡ false → cond z o None ≡ None
counted_gone true None h = refl
counted_gone true (Some x) h = absurd (true≢false h)
counted_gone false o h = refl

pub counts_itself : (side : BoundSide) (o : Option BindingData) → is_some (counted_binding side o) ≡ true → counted_binding side o ≡ o
counts_itself side o h = counted_there (list_any (is_bound_by o) (bindings_of side)) o h

pub counts_none : (side : BoundSide) (o : Option BindingData) → is_some (counted_binding side o) ≡ false → counted_binding side o ≡ None
counts_none side o h = counted_gone (list_any (is_bound_by o) (bindings_of side)) o h

-- a payload counts on each side
none_kept : (z : Bool) (x : BindingData) → is_bound_payload (Some x) ≡ false → is_bound_payload (cond z (Some x) None) ≡ false
none_kept true x h = h
none_kept false x h = refl

kept_payload : (side : BoundSide) → is_bound_payload (kept_on side (Some payload)) ≡ true
kept_payload an_input = refl
kept_payload an_output = refl
kept_payload an_error = refl

nothing_kept : (z : Bool) → is_bound_payload (cond z None None) ≡ false
nothing_kept true = refl
nothing_kept false = refl

kept_either : (side : BoundSide) (o : Option BindingData) → is_bound_payload (kept_on side o) ≡ is_bound_payload o
kept_either side None = nothing_kept (counts_on side None)
kept_either side (Some payload) = kept_payload side
kept_either side (Some label) = none_kept (counts_on side (Some label)) label refl
kept_either side (Some (query name)) = none_kept (counts_on side (Some (query name))) (query name) refl
kept_either side (Some query_params) = none_kept (counts_on side (Some query_params)) query_params refl
kept_either side (Some (header name)) = none_kept (counts_on side (Some (header name))) (header name) refl
kept_either side (Some (prefix_headers prefix)) = none_kept (counts_on side (Some (prefix_headers prefix))) (prefix_headers prefix) refl
kept_either side (Some response_code) = none_kept (counts_on side (Some response_code)) response_code refl

pub payload_counts : (side : BoundSide) (o : Option BindingData) → is_bound_payload (counted_binding side o) ≡ is_bound_payload o
payload_counts side o = ap is_bound_payload (kept_is side o) ∙ kept_either side o

pub nothing_counts : (side : BoundSide) (o : Option BindingData) → o ≡ None → counted_binding side o ≡ None
nothing_counts side o e = ap (counted_binding side) e ∙ by (list_any (is_bound_by None) (bindings_of side))
  where
    by : (z : Bool) → cond {A = Option BindingData} z None None ≡ None
    by true = refl
    by false = refl

-- what a body stands for asks for no literals
with_literals : (b : Bound) (z : Bool) (d : TableData) (o : Option ℕ) → IsBodyBy z d (bound_on b.table b.side b.shape) o → IsBodyBy z d b o
with_literals b true d None h = h
with_literals b true d (Some s) h = h
with_literals b false d o h = h

pub body_stands : (b : Bound) (d : TableData) (o : Option ℕ) → IsBodyShape d (bound_on b.table b.side b.shape) o
    → IsBodyBy (has_document b) d b o
body_stands b d o h = with_literals b (has_document b) d o h
