-- A response of restJson1 with a status that has no body has none: no member stands in its body.
use Rattle.std.proofs.Common.{◌≡◌, inl, inr, ℕ, ℤ, pos, negsuc, Bool, true, false, ◌&&◌, ◌||◌, cond, List, [], ◌∷◌, None, Some}
use Rattle.std.proofs.Common.{refl, sym, ap, ◌∙◌, arith, subst}
use Rattle.std.specs.Prelude.{◌==◌, Option, int_le, not, unwrap_or}
use Rattle.std.specs.List.{list_any}
use Rattle.std.proofs.lemmas.Bool.Decides.{nat_tests}
use Rattle.sm_rules.specs.Bindings.{a_payload, an_output}
use Rattle.sm_shapes.specs.TableData.{BindingData, binding_at, label, query, query_params, header, prefix_headers, payload, response_code}
use Rattle.sm_tree.specs.Node.{object}
use Rattle.sm_shapes.specs.Values.{FieldVals, Val, field, int_val, no_fields, structure_val}
use Rattle.sm_shapes.proofs.NamedMembers.{IsAmong}
use Rattle.sm_bind_laws.specs.service.HttpServable.{IsSuccessCode}
use Rattle.sm_bind_laws.specs.service.WireMembers.{is_bound_by, stands_in_body, stands_in_document, wire_member_at, wire_members}
use Rattle.sm_bind_laws.specs.messages.MessageForm.{a_tree, nothing}
use Rattle.sm_bind_laws.specs.bind.Roles.{Bound, binding_on, bound_members, is_in_document}
use Rattle.sm_bind_laws.specs.bind_write.CarriedParts.{has_body, is_bodiless, is_status, uncarried_bound}
use Rattle.sm_bind_laws.specs.bind_write.WrittenParts.{document_pairs, member_status, payload_among, payload_by, status_among, written_content}
use Rattle.sm_bind_laws.proofs.FieldsEach.{EachField}
use Rattle.sm_bind_laws.proofs.OwnParts.{own_binding, there_of}
use Rattle.sm_part_texts.proofs.TextsHad.{passed_here}
use Rattle.sm_framed_laws.proofs.PlainTexts.{and_right}

first_no : (a b : Bool) → (a || b) ≡ false → a ≡ false
first_no true b h = absurd cc
first_no false b h = refl

second_no : (a b : Bool) → (a || b) ≡ false → b ≡ false
second_no true b h = absurd cc
second_no false b h = h

-- where no member stands in the body
module _ (b : Bound) where
  abbrev in_body : ℕ → Bool
  in_body k = stands_in_body b.side (wire_member_at b.table k)

  -- neither in the document
  none_there : (ks : List ℕ) → list_any in_body ks ≡ false → list_any (is_in_document b) ks ≡ false
  none_there [] h = refl
  none_there (k ∷ ks) h =
      let own = first_no (in_body k) (list_any in_body ks) h in
      ap (λ t. t || list_any (is_in_document b) ks)
      (second_no (is_bound_by (binding_at b.table k) a_payload) (stands_in_document b.side (wire_member_at b.table k)) own)
      ∙ none_there ks (second_no (in_body k) (list_any in_body ks) h)

  each_no : (ks : List ℕ) (k : ℕ) → IsAmong k ks → list_any in_body ks ≡ false → in_body k ≡ false
  each_no [] k i h = absurd i
  each_no (j ∷ ks) k (inl e) h = subst (λ n. in_body n ≡ false) (sym e) (first_no (in_body j) (list_any in_body ks) h)
  each_no (j ∷ ks) k (inr i) h = each_no ks k i (second_no (in_body j) (list_any in_body ks) h)

  -- nor as the payload
  no_payload : (k : ℕ) → in_body k ≡ false → binding_on b k ≡ Some payload → ⊥
  no_payload k h e =
      let own = own_binding b.side (binding_at b.table k) payload e in
      clash (is_bound_by (binding_at b.table k) a_payload)
      (first_no (is_bound_by (binding_at b.table k) a_payload) (stands_in_document b.side (wire_member_at b.table k)) h)
      (ap (λ o. is_bound_by o a_payload) own)
    where
      clash : (t : Bool) → t ≡ false → t ≡ true → ⊥
      clash t h g = cc

  payload_no : (k : ℕ) (v : Val) (o : Option BindingData) → binding_on b k ≡ o → (o ≡ Some payload → ⊥)
      → payload_by o b k v nothing ≡ nothing
  payload_no k v (Some payload) e other = absurd (other refl)
  payload_no k v None e other = refl
  payload_no k v (Some label) e other = refl
  payload_no k v (Some (query name)) e other = refl
  payload_no k v (Some query_params) e other = refl
  payload_no k v (Some (header name)) e other = refl
  payload_no k v (Some (prefix_headers prefix)) e other = refl
  payload_no k v (Some response_code) e other = refl

  payloads_no : (fs : FieldVals) → has_body b ≡ false → EachField (λ k v. IsAmong k (bound_members b)) fs → payload_among b fs ≡ nothing
  payloads_no no_fields h inside = refl
  payloads_no (field k v fs) h inside =
      ap (payload_by (binding_on b k) b k v) (payloads_no fs h inside.1)
      ∙ payload_no k v (binding_on b k) refl (no_payload k (each_no (bound_members b) k inside.0 h))

  pub no_content : (fs : FieldVals) → has_body b ≡ false → EachField (λ k v. IsAmong k (bound_members b)) fs
      → written_content b (structure_val fs) ≡ nothing
  no_content fs h inside =
      ap (λ t. cond t (a_tree (object (document_pairs b fs))) (payload_among b fs)) (none_there (bound_members b) h) ∙ payloads_no fs h inside

  -- the status that is written is of a body where there is one
  abbrev MeetsBody : ℕ → Type 0
  MeetsBody n = n == 204 ≡ true → has_body b ≡ false

  bodiless : (z : ℤ) → is_bodiless z ≡ true → not (is_bodiless z && has_body b) ≡ true → has_body b ≡ false
  bodiless z is h = by (has_body b) (ap (λ t. not (t && has_body b)) (sym is) ∙ h)
    where
      by : (t : Bool) → not t ≡ true → t ≡ false
      by true h = absurd cc
      by false h = refl

  number_meets : (n : ℕ) → is_status b (int_val (pos n)) ≡ true → MeetsBody n
  number_meets n h is =
      let rest = and_right (int_le (pos 200) (pos n)) (int_le (pos n) (pos 299) && not (is_bodiless (pos n) && has_body b)) h in
      bodiless (pos n) (code_bodiless n is) (and_right (int_le (pos n) (pos 299)) (not (is_bodiless (pos n) && has_body b)) rest)
    where
      same : (n : ℕ) → n == 204 ≡ true → 204 ≡ n
      same n is = grind (arith, nat_tests)

      code_bodiless : (n : ℕ) → n == 204 ≡ true → is_bodiless (pos n) ≡ true
      code_bodiless n is = subst (λ m. is_bodiless (pos m) ≡ true) (same n is) refl

  value_meets : (v : Val) (n : ℕ) → is_status b v ≡ true → member_status (Some response_code) v ≡ Some n → MeetsBody n
  value_meets (int_val (pos m)) n is e = subst MeetsBody (same m n e) (number_meets m is)
    where
      same : (m n : ℕ) → Some m ≡ Some n → m ≡ n
      same m n e = cc
  value_meets (int_val (negsuc m)) n is e = absurd cc
  value_meets v n is e = absurd cc

  told_meets : (k : ℕ) (v : Val) (rest : ℕ) (o : Option BindingData) → uncarried_bound o b k v ≡ [] → MeetsBody rest
      → MeetsBody (unwrap_or (member_status o v) rest)
  told_meets k v rest (Some response_code) carried h = by (member_status (Some response_code) v) refl
    where
      by : (o : Option ℕ) → member_status (Some response_code) v ≡ o → MeetsBody (unwrap_or o rest)
      by None e = h
      by (Some n) e = value_meets v n (passed_here (is_status b v) carried) e
  told_meets k v rest None carried h = h
  told_meets k v rest (Some label) carried h = h
  told_meets k v rest (Some (query name)) carried h = h
  told_meets k v rest (Some query_params) carried h = h
  told_meets k v rest (Some (header name)) carried h = h
  told_meets k v rest (Some (prefix_headers prefix)) carried h = h
  told_meets k v rest (Some payload) carried h = h

  pub status_meets : (usual : ℕ) (fs : FieldVals) → EachField (λ k v. uncarried_bound (binding_on b k) b k v ≡ []) fs
      → MeetsBody usual → MeetsBody (status_among b usual fs)
  status_meets usual no_fields carried h = h
  status_meets usual (field k v fs) carried h =
      told_meets k v (status_among b usual fs) (binding_on b k) carried.0 (status_meets usual fs carried.1 h)

  -- and so is the code of an operation
  none_of : (ks : List ℕ) → ((k : ℕ) → IsAmong k ks → in_body k ≡ true → ⊥) → list_any in_body ks ≡ false
  none_of [] h = refl
  none_of (k ∷ ks) h = by (in_body k) refl (none_of ks (λ j i. h j (inr i)))
    where
      by : (t : Bool) → in_body k ≡ t → list_any in_body ks ≡ false → (t || list_any in_body ks) ≡ false
      by true e rest = absurd (h k (inl refl) e)
      by false e rest = rest

  pub code_meets : (code : ℕ) → b.side ≡ an_output → IsSuccessCode (wire_members b.table b.shape) code → MeetsBody code
  code_meets code side is at =
      none_of (bound_members b) (λ k i e. is.body (wire_member_at b.table k) (there_of (wire_member_at b.table) k (bound_members b) i)
      (subst (λ z. stands_in_body z (wire_member_at b.table k) ≡ true) side e) (inl (same code at)))
    where
      same : (n : ℕ) → n == 204 ≡ true → n ≡ 204
      same n e = grind (arith, nat_tests)
