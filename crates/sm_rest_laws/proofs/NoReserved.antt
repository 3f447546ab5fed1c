-- Fields that are written for members have no name that means something else, so what a head says besides is said of none of them.
use Rattle.std.proofs.Common.{◌≡◌, ℕ, true, false, Bool, List, [], ◌∷◌, ◌++◌, refl, ap, ◌∙◌, subst, sym}
use Rattle.std.specs.Prelude.{None, Option, Some, if◌then◌else◌}
use Rattle.std.specs.List.{AllByRecursion}
use Rattle.std.specs.Str.{str_eq_ignore_ascii_case, str_to_ascii_lowercase}
use Rattle.std.proofs.lemmas.Slice.Eq.{bytes_eq-Decides}
use Rattle.sm_shapes.specs.Fitting.{Test}
use Rattle.sm_shapes.specs.Places.{Place, member_place, value_place}
use Rattle.sm_shapes.specs.TableData.{BindingData, label, query, query_params, header, prefix_headers, payload, response_code}
use Rattle.sm_shapes.specs.Values.{EntryVals, FieldVals, Val, entry, field, no_entries, no_fields}
use Rattle.sm_shapes.proofs.NamedMembers.{IsAmong, among_contains}
use Rattle.sm_http.specs.FieldValues.{values_named}
use Rattle.sm_http.specs.declared.message.Field.{Field}
use Rattle.sm_part_texts.specs.PlaceTexts.{prefixed_fields}
use Rattle.sm_bind_laws.specs.bind.Roles.{Bound, binding_on, bound_members, is_among, reserved_names}
use Rattle.sm_bind_laws.specs.bind_write.CarriedParts.{prefixed_failing, uncarried_bound}
use Rattle.sm_bind_laws.specs.bind_write.WrittenParts.{entries_in, member_headers, over_fields}
use Rattle.sm_bind_laws.specs.BoundRight.{IsBoundRight}
use Rattle.sm_bind_laws.specs.FoundParts.{is_reserved}
use Rattle.sm_bind_laws.proofs.FieldsEach.{EachField}
use Rattle.sm_bind_laws.proofs.HeadersFound.{entry_free, lower_joined, lower_twice, prefix_map}

abbrev pub NoneReserved : List Field → Type 0
NoneReserved fs = AllByRecursion (λ f. is_reserved f ≡ false) fs

both_free : (fs gs : List Field) → NoneReserved fs → NoneReserved gs → NoneReserved (fs ++ gs)
both_free [] gs h more = more
both_free (f ∷ fs) gs h more = (h.0, both_free fs gs h.1 more)

module _ (b : Bound) (test : Test) (labels : List (List ℕ)) (right : IsBoundRight b test labels) where
  entries_free : (prefix : List ℕ) (p : Place) (es : EntryVals) → prefixed_failing b (str_to_ascii_lowercase prefix) p es ≡ []
      → NoneReserved (prefixed_fields b.table p (str_to_ascii_lowercase prefix) es)
  entries_free prefix p no_entries h = tt
  entries_free prefix p (entry key v es) h =
      let free = entry_free b (str_to_ascii_lowercase prefix) p key v es h in
      (ap (is_among reserved_names) (lower_joined prefix key free.0.lower) ∙ free.0.reserved, entries_free prefix p es free.1)

  prefixed_free : (k : ℕ) (prefix : List ℕ) (v : Val) → uncarried_bound (Some (prefix_headers prefix)) b k v ≡ []
      → NoneReserved (member_headers (Some (prefix_headers prefix)) b.table k v)
  prefixed_free k prefix v h =
      let p = value_place b.table (member_place k) in
      let m = prefix_map b (str_to_ascii_lowercase prefix) p v h in
      subst (λ w. NoneReserved (prefixed_fields b.table p (str_to_ascii_lowercase prefix) (entries_in w))) (sym m.is_map)
      (entries_free prefix p m.entries m.none)

  field_free : (k : ℕ) (v : Val) → IsAmong k (bound_members b) → (o : Option BindingData) → binding_on b k ≡ o
      → uncarried_bound o b k v ≡ []
      → NoneReserved (member_headers o b.table k v)
  field_free k v inside None e h = tt
  field_free k v inside (Some label) e h = tt
  field_free k v inside (Some (query name)) e h = tt
  field_free k v inside (Some query_params) e h = tt
  field_free k v inside (Some (header name)) e h =
      (ap (is_among reserved_names) (lower_twice name) ∙ right.headers k name (among_contains k (bound_members b) inside) e, tt)
  field_free k v inside (Some (prefix_headers prefix)) e h = prefixed_free k prefix v h
  field_free k v inside (Some payload) e h = tt
  field_free k v inside (Some response_code) e h = tt

  pub none_reserved : (fs : FieldVals) → EachField (λ k v. IsAmong k (bound_members b)) fs
      → EachField (λ k v. uncarried_bound (binding_on b k) b k v ≡ []) fs
      → NoneReserved (over_fields (λ k v. member_headers (binding_on b k) b.table k v) fs)
  none_reserved no_fields inside carried = tt
  none_reserved (field k v fs) inside carried =
      both_free (member_headers (binding_on b k) b.table k v) (over_fields (λ k v. member_headers (binding_on b k) b.table k v) fs)
      (field_free k v inside.0 (binding_on b k) refl carried.0) (none_reserved fs inside.1 carried.1)

-- such fields have no value under a name that means something else
pub none_named : (name : List ℕ) (fs : List Field) → is_among reserved_names (str_to_ascii_lowercase name) ≡ true → NoneReserved fs
    → values_named name fs ≡ []
none_named name [] is free = refl
none_named name (f ∷ fs) is free = by (str_eq_ignore_ascii_case f.name name) refl (none_named name fs is free.1)
  where
    clash : is_among reserved_names (str_to_ascii_lowercase f.name) ≡ true → ⊥
    clash h = let no = free.0 in cc

    by : (t : Bool) → str_eq_ignore_ascii_case f.name name ≡ t → values_named name fs ≡ []
        → (if t then f.value ∷ values_named name fs else values_named name fs) ≡ []
    by true e rest =
        let same = (bytes_eq-Decides (str_to_ascii_lowercase f.name) (str_to_ascii_lowercase name)).0 e in
        absurd (clash (ap (is_among reserved_names) same ∙ is))
    by false e rest = rest
