-- The status that is written: the bound one, which is one of success, or the usual one. Pairs of a query are written for inputs alone.
use Rattle.std.proofs.Common.{◌≡◌, ℕ, pos, negsuc, true, ◌&&◌, [], ◌++◌, None, Some, refl, ap, ◌∙◌, arith}
use Rattle.std.specs.Prelude.{Option, int_le, nat_le, not, unwrap_or}
use Rattle.std.proofs.lemmas.Bool.Decides.{nat_tests}
use Rattle.sm_time.proofs.StampForms.{and_first, and_second}
use Rattle.sm_rules.specs.Bindings.{BoundSide, an_error, an_input, an_output}
use Rattle.sm_shapes.specs.TableData.{BindingData, TableData, binding_at, label, query, query_params, header, prefix_headers, payload}
use Rattle.sm_shapes.specs.TableData.{response_code}
use Rattle.sm_shapes.specs.Values.{FieldVals, Val, field, int_val, no_fields}
use Rattle.sm_bind_laws.specs.service.WireMembers.{counted_binding}
use Rattle.sm_http.specs.declared.message.Start.TheVariants.{Response}
use Rattle.sm_bind_laws.specs.messages.Heads as heads
use Rattle.sm_bind_laws.specs.bind.Roles.{Bound, binding_on}
use Rattle.sm_bind_laws.specs.bind_write.CarriedParts.{has_body, is_bodiless, is_status, uncarried_bound}
use Rattle.sm_bind_laws.specs.bind_write.WrittenParts.{member_pairs, member_params, member_status, status_among, written_pairs}
use Rattle.sm_bind_laws.specs.bind_write.WrittenParts.{written_params}
use Rattle.sm_bind_laws.proofs.FieldsEach.{EachField}
use Rattle.sm_part_texts.proofs.TextsHad.{passed_here}

-- a bound status that is carried
number_right : (n : ℕ) → int_le (pos 200) (pos n) ≡ true → int_le (pos n) (pos 299) ≡ true → (nat_le 200 n && nat_le n 299) ≡ true
number_right n least most = grind (arith, nat_tests)

value_right : (b : Bound) (v : Val) (n : ℕ) → is_status b v ≡ true → member_status (Some response_code) v ≡ Some n
    → heads.is_success (Response n) ≡ true
value_right b (int_val (pos m)) n is e =
    let least = and_first (int_le (pos 200) (pos m)) (int_le (pos m) (pos 299) && not (is_bodiless (pos m) && has_body b)) is in
    let rest = and_second (int_le (pos 200) (pos m)) (int_le (pos m) (pos 299) && not (is_bodiless (pos m) && has_body b)) is in
    let most = and_first (int_le (pos m) (pos 299)) (not (is_bodiless (pos m) && has_body b)) rest in
    ap (λ k. nat_le 200 k && nat_le k 299) (same m n e) ∙ number_right m least most
  where
    same : (m n : ℕ) → Some m ≡ Some n → n ≡ m
    same m n e = cc
value_right b (int_val (negsuc m)) n is e = absurd cc
value_right b v n is e = absurd cc

-- of fields that are carried
abbrev AreCarriedIn : Bound → FieldVals → Type 0
AreCarriedIn b fs = EachField (λ k v. uncarried_bound (binding_on b k) b k v ≡ []) fs

told_by : (b : Bound) (k : ℕ) (v : Val) (rest : ℕ) (o : Option BindingData) → uncarried_bound o b k v ≡ []
    → heads.is_success (Response rest) ≡ true → heads.is_success (Response (unwrap_or (member_status o v) rest)) ≡ true
told_by b k v rest (Some response_code) carried h = by (member_status (Some response_code) v) refl
  where
    by : (o : Option ℕ) → member_status (Some response_code) v ≡ o → heads.is_success (Response (unwrap_or o rest)) ≡ true
    by None e = h
    by (Some n) e = value_right b v n (passed_here (is_status b v) carried) e
told_by b k v rest None carried h = h
told_by b k v rest (Some label) carried h = h
told_by b k v rest (Some (query name)) carried h = h
told_by b k v rest (Some query_params) carried h = h
told_by b k v rest (Some (header name)) carried h = h
told_by b k v rest (Some (prefix_headers prefix)) carried h = h
told_by b k v rest (Some payload) carried h = h

pub status_right : (b : Bound) (usual : ℕ) (fs : FieldVals) → AreCarriedIn b fs → heads.is_success (Response usual) ≡ true
    → heads.is_success (Response (status_among b usual fs)) ≡ true
status_right b usual no_fields carried h = h
status_right b usual (field k v fs) carried h =
    told_by b k v (status_among b usual fs) (binding_on b k) carried.0 (status_right b usual fs carried.1 h)

-- what counts on a side that isn't that of inputs, and on one that isn't that of outputs
abbrev IsNoQuery : Option BindingData → Type 0
IsNoQuery (Some (query name)) = ⊥
IsNoQuery (Some query_params) = ⊥
IsNoQuery o = Unit {0}

abbrev IsNoStatus : Option BindingData → Type 0
IsNoStatus (Some response_code) = ⊥
IsNoStatus o = Unit {0}

no_query : (side : BoundSide) (o : Option BindingData) → (side ≡ an_input → ⊥) → IsNoQuery (counted_binding side o)
no_query an_input o other = absurd (other refl)
no_query an_output None other = tt
no_query an_output (Some label) other = tt
no_query an_output (Some (query name)) other = tt
no_query an_output (Some query_params) other = tt
no_query an_output (Some (header name)) other = tt
no_query an_output (Some (prefix_headers prefix)) other = tt
no_query an_output (Some payload) other = tt
no_query an_output (Some response_code) other = tt
no_query an_error None other = tt
no_query an_error (Some label) other = tt
no_query an_error (Some (query name)) other = tt
no_query an_error (Some query_params) other = tt
no_query an_error (Some (header name)) other = tt
no_query an_error (Some (prefix_headers prefix)) other = tt
no_query an_error (Some payload) other = tt
no_query an_error (Some response_code) other = tt

no_status : (side : BoundSide) (o : Option BindingData) → (side ≡ an_output → ⊥) → IsNoStatus (counted_binding side o)
no_status an_output o other = absurd (other refl)
no_status an_input None other = tt
no_status an_input (Some label) other = tt
no_status an_input (Some (query name)) other = tt
no_status an_input (Some query_params) other = tt
no_status an_input (Some (header name)) other = tt
no_status an_input (Some (prefix_headers prefix)) other = tt
no_status an_input (Some payload) other = tt
no_status an_input (Some response_code) other = tt
no_status an_error None other = tt
no_status an_error (Some label) other = tt
no_status an_error (Some (query name)) other = tt
no_status an_error (Some query_params) other = tt
no_status an_error (Some (header name)) other = tt
no_status an_error (Some (prefix_headers prefix)) other = tt
no_status an_error (Some payload) other = tt
no_status an_error (Some response_code) other = tt

pairs_none : (o : Option BindingData) (t : TableData) (k : ℕ) (v : Val) → IsNoQuery o → member_pairs o t k v ≡ []
pairs_none (Some (query name)) t k v h = absurd h
pairs_none None t k v h = refl
pairs_none (Some label) t k v h = refl
pairs_none (Some query_params) t k v h = refl
pairs_none (Some (header name)) t k v h = refl
pairs_none (Some (prefix_headers prefix)) t k v h = refl
pairs_none (Some payload) t k v h = refl
pairs_none (Some response_code) t k v h = refl

params_none : (o : Option BindingData) (t : TableData) (k : ℕ) (v : Val) → IsNoQuery o → member_params o t k v ≡ []
params_none (Some query_params) t k v h = absurd h
params_none None t k v h = refl
params_none (Some label) t k v h = refl
params_none (Some (query name)) t k v h = refl
params_none (Some (header name)) t k v h = refl
params_none (Some (prefix_headers prefix)) t k v h = refl
params_none (Some payload) t k v h = refl
params_none (Some response_code) t k v h = refl

status_none : (o : Option BindingData) (v : Val) → IsNoStatus o → member_status o v ≡ None
status_none (Some response_code) v h = absurd h
status_none None v h = refl
status_none (Some label) v h = refl
status_none (Some (query name)) v h = refl
status_none (Some query_params) v h = refl
status_none (Some (header name)) v h = refl
status_none (Some (prefix_headers prefix)) v h = refl
status_none (Some payload) v h = refl

module _ (b : Bound) where
  all_pairs_none : (fs : FieldVals) → (b.side ≡ an_input → ⊥) → written_pairs b fs ≡ []
  all_pairs_none no_fields other = refl
  all_pairs_none (field k v fs) other =
      ap (λ ps. ps ++ written_pairs b fs) (pairs_none (binding_on b k) b.table k v (no_query b.side (binding_at b.table k) other))
      ∙ all_pairs_none fs other

  all_params_none : (fs : FieldVals) → (b.side ≡ an_input → ⊥) → written_params b fs ≡ []
  all_params_none no_fields other = refl
  all_params_none (field k v fs) other =
      ap (λ ps. ps ++ written_params b fs) (params_none (binding_on b k) b.table k v (no_query b.side (binding_at b.table k) other))
      ∙ all_params_none fs other

  -- no pair is written on another side than that of inputs
  pub no_pairs : (fs : FieldVals) → (b.side ≡ an_input → ⊥) → written_pairs b fs ++ written_params b fs ≡ []
  no_pairs fs other = ap (λ ps. ps ++ written_params b fs) (all_pairs_none fs other) ∙ all_params_none fs other

  -- and no status is bound on another than that of outputs
  pub usual_alone : (usual : ℕ) (fs : FieldVals) → (b.side ≡ an_output → ⊥) → status_among b usual fs ≡ usual
  usual_alone usual no_fields other = refl
  usual_alone usual (field k v fs) other =
      ap (λ o. unwrap_or o (status_among b usual fs)) (status_none (binding_on b k) v (no_status b.side (binding_at b.table k) other))
      ∙ usual_alone usual fs other
