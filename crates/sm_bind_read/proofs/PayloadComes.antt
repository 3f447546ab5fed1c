-- What the members come to where no document is, from what the payload comes to.
use Rattle.std.proofs.Common.{◌≡◌, inl, ℕ, zero, suc, ◌<◌, ◌≤◌, ◌+◌, Bool, true, false, cond, List, [], ◌∷◌, ◌++◌, map, drop, get_or, length, refl, sym, ap}
use Rattle.std.proofs.Common.{◌∙◌, subst, arith}
use Rattle.std.specs.Prelude.{◌||◌, None, Option, Some, is_some, not, slice_index_or}
use Rattle.std.proofs.lemmas.Bool.{true≢false}
use Rattle.std.specs.List.{AllByRecursion, Contains, count_by, list_any}
use Rattle.std.specs.Option.{option_map}
use Rattle.std.proofs.lemmas.List.Sums.{sum_by-cons}
use Rattle.sm_shapes.specs.Places.{kind_of, member_place}
use Rattle.sm_shapes.specs.TableData.{BindingData, TableData, binding_at, label, query, query_params, header, prefix_headers, payload}
use Rattle.sm_shapes.specs.TableData.{members_at, response_code, target_at}
use Rattle.sm_shapes.specs.Values.{Val}
use Rattle.sm_codec.specs.FaultLists.{FaultAt}
use Rattle.sm_codec.specs.Readings.{absent_reading, when_closed}
use Rattle.sm_model.proofs.OneRising.{contains_behind, contains_head}
use Rattle.sm_rules.specs.Bindings.{a_payload, bindings_of}
use Rattle.sm_messages.specs.service.HttpServable.{HaveOwnParts}
use Rattle.sm_messages.specs.service.WireMembers.{WireMember, is_bound_by, wire_member_at, wire_members}
use Rattle.sm_bind.specs.Documents.{is_tree_kind, payload_shape, shape_by}
use Rattle.sm_bind.specs.Roles.{Bound, binding_on, is_bound_payload, is_in_document}
use Rattle.sm_bind_read.specs.steps.Bodies.{is_payload_on, payload_place}
use Rattle.sm_bind_read.specs.steps.Coming.{BodyComes, Came, Either, FaultComes, FieldsAre, IsFaultOf, is_body, is_body_by}

-- where no member is in the document, the body stands for payloads alone
only_payload : (o : Option BindingData) → not (is_some o) ≡ false → is_body_by o ≡ is_bound_payload o
only_payload None h = absurd cc
only_payload (Some payload) h = refl
only_payload (Some label) h = refl
only_payload (Some (query name)) h = refl
only_payload (Some query_params) h = refl
only_payload (Some (header name)) h = refl
only_payload (Some (prefix_headers prefix)) h = refl
only_payload (Some response_code) h = refl

-- a payload carries its trait
payload_bound : (o : Option BindingData) → is_bound_payload o ≡ true → is_bound_by o a_payload ≡ true
payload_bound None h = absurd cc
payload_bound (Some payload) h = refl
payload_bound (Some label) h = absurd cc
payload_bound (Some (query name)) h = absurd cc
payload_bound (Some query_params) h = absurd cc
payload_bound (Some (header name)) h = absurd cc
payload_bound (Some (prefix_headers prefix)) h = absurd cc
payload_bound (Some response_code) h = absurd cc

pub payload_is : (o : Option BindingData) → is_bound_payload o ≡ true → o ≡ Some payload
payload_is None h = absurd cc
payload_is (Some payload) h = refl
payload_is (Some label) h = absurd cc
payload_is (Some (query name)) h = absurd cc
payload_is (Some query_params) h = absurd cc
payload_is (Some (header name)) h = absurd cc
payload_is (Some (prefix_headers prefix)) h = absurd cc
payload_is (Some response_code) h = absurd cc

counted : (z : Bool) (o : Option BindingData) → is_bound_payload (cond z o None) ≡ true → is_bound_by o a_payload ≡ true
counted true o h = payload_bound o h
counted false o h = absurd cc

other_shape : (o : Option BindingData) (t : TableData) (k : ℕ) (other : Option ℕ) → is_bound_payload o ≡ false → shape_by o t k other ≡ other
other_shape None t k other h = refl
other_shape (Some payload) t k other h = absurd cc
other_shape (Some label) t k other h = refl
other_shape (Some (query name)) t k other h = refl
other_shape (Some query_params) t k other h = refl
other_shape (Some (header name)) t k other h = refl
other_shape (Some (prefix_headers prefix)) t k other h = refl
other_shape (Some response_code) t k other h = refl

no_place : (o : Option ℕ) → option_map suc o ≡ Some 0 → ⊥
no_place None h = absurd cc
no_place (Some i) h = absurd cc

one_less : (o : Option ℕ) (m : ℕ) → option_map suc o ≡ Some (suc m) → o ≡ Some m
one_less None m h = absurd cc
one_less (Some i) m h = let same : i ≡ m = cc in ap Some same

none_there : (o : Option ℕ) → option_map suc o ≡ None → o ≡ None
none_there None h = refl
none_there (Some i) h = absurd cc

pub shifted : (o : Option ℕ) (i : ℕ) → option_map (λ n. n + (i + 1)) o ≡ option_map (λ n. n + i) (option_map suc o)
shifted None i = refl
shifted (Some m) i = ap Some (let e : m + (i + 1) ≡ suc m + i = omega arith in e)

not_none : (n : ℕ) (w : Val) (front : List (ℕ × Val)) → [] ≡ front ++ (n, w) ∷ [] → ⊥
not_none n w [] e = absurd cc
not_none n w (f ∷ front) e = absurd cc

module _ (b : Bound) where
  payload_trait : (k : ℕ) → is_payload_on b k ≡ true → is_bound_by (wire_member_at b.table k).binding a_payload ≡ true
  payload_trait k h = counted (list_any (is_bound_by (binding_at b.table k)) (bindings_of b.side)) (binding_at b.table k) h

  abbrev Wanted : List ℕ → ℕ
  Wanted ks = count_by (λ m. is_bound_by m.binding a_payload) (map (wire_member_at b.table) ks)

  wanted_is : (k : ℕ) (ks : List ℕ) → Wanted (k ∷ ks) ≡ cond (is_bound_by (wire_member_at b.table k).binding a_payload) 1 0 + Wanted ks
  wanted_is k ks =
      sum_by-cons (λ (m : WireMember). cond (is_bound_by m.binding a_payload) 1 0) (wire_member_at b.table k) (map (wire_member_at b.table) ks)

  abbrev NoPayload : List ℕ → Type 0
  NoPayload ks = AllByRecursion (λ k. is_payload_on b k ≡ false) ks

  abbrev NoDocument : List ℕ → Type 0
  NoDocument ks = AllByRecursion (λ k. is_in_document b k ≡ false) ks

  -- none where none is counted
  none_by : (k : ℕ) (ks : List ℕ) → (Wanted ks ≤ 0 → NoPayload ks) → (z y : Bool) → is_payload_on b k ≡ z
      → is_bound_by (wire_member_at b.table k).binding a_payload ≡ y → cond y 1 0 + Wanted ks ≤ 0
      → (is_payload_on b k ≡ false) × NoPayload ks
  none_by k ks behind z true e f few = absurd (omega (arith, few))
  none_by k ks behind true false e f few = absurd (true≢false (sym (payload_trait k e) ∙ f))
  none_by k ks behind false false e f few = (e, behind (omega (arith, few)))

  none_counted : (ks : List ℕ) → Wanted ks ≤ 0 → NoPayload ks
  none_counted [] few = tt
  none_counted (k ∷ ks) few =
      none_by k ks (none_counted ks) (is_payload_on b k) (is_bound_by (wire_member_at b.table k).binding a_payload) refl refl
      (subst (λ n. n ≤ 0) (wanted_is k ks) few)

  few_behind : (k : ℕ) (ks : List ℕ) (y : Bool) → cond y 1 0 + Wanted ks ≤ 1 → Wanted ks ≤ 1
  few_behind k ks true few = omega (arith, few)
  few_behind k ks false few = omega (arith, few)

  none_behind : (k : ℕ) (ks : List ℕ) → is_payload_on b k ≡ true → Wanted (k ∷ ks) ≤ 1 → NoPayload ks
  none_behind k ks e few =
      none_counted ks (by (is_bound_by (wire_member_at b.table k).binding a_payload) (payload_trait k e) (subst (λ n. n ≤ 1) (wanted_is k ks) few))
    where
      by : (y : Bool) → y ≡ true → cond y 1 0 + Wanted ks ≤ 1 → Wanted ks ≤ 0
      by true h few = omega (arith, few)
      by false h few = absurd (true≢false (sym h))

  -- and none in the document
  pub no_document : (ks : List ℕ) → list_any (is_in_document b) ks ≡ false → NoDocument ks
  no_document [] h = tt
  no_document (k ∷ ks) h = by (is_in_document b k) refl (no_document ks) h
    where
      by : (z : Bool) → is_in_document b k ≡ z → (list_any (is_in_document b) ks ≡ false → NoDocument ks)
          → (z || list_any (is_in_document b) ks) ≡ false → (is_in_document b k ≡ false) × NoDocument ks
      by true e behind h = absurd (true≢false h)
      by false e behind h = (e, behind h)

  -- beside a document none is the payload
  abbrev HasDocument : List ℕ → Type 0
  HasDocument ks = (k : ℕ) × Contains ks k × (is_in_document b k ≡ true)

  some_document : (ks : List ℕ) → list_any (is_in_document b) ks ≡ true → HasDocument ks
  some_document [] h = absurd (true≢false (sym h))
  some_document (k ∷ ks) h = by (is_in_document b k) refl (some_document ks) h
    where
      by : (z : Bool) → is_in_document b k ≡ z → (list_any (is_in_document b) ks ≡ true → HasDocument ks)
          → (z || list_any (is_in_document b) ks) ≡ true → HasDocument (k ∷ ks)
      by true e behind h = (k, contains_head k ks, e)
      by false e behind h = let found = behind h in (found.0, contains_behind k found.0 ks found.1, found.2)

  pub wire_there : (k : ℕ) (ks : List ℕ) → Contains ks k → Contains (map (wire_member_at b.table) ks) (wire_member_at b.table k)
  wire_there k ks found = by ks found.0 found.1 found.2
    where
      by : (js : List ℕ) (i : ℕ) → i < length js → slice_index_or js i k ≡ k
          → Contains (map (wire_member_at b.table) js) (wire_member_at b.table k)
      by [] i lt e = absurd (omega (arith, lt))
      by (j ∷ js) zero lt e =
          subst (λ n. Contains (map (wire_member_at b.table) (j ∷ js)) (wire_member_at b.table n)) e
          (contains_head (wire_member_at b.table j) (map (wire_member_at b.table) js))
      by (j ∷ js) (suc i) lt e =
          contains_behind (wire_member_at b.table j) (wire_member_at b.table k) (map (wire_member_at b.table) js)
          (by js i (omega (arith, lt)) e)

  pub payload_alone : HaveOwnParts b.side (wire_members b.table b.shape) → list_any (is_in_document b) (members_at b.table b.shape) ≡ true
      → (ks : List ℕ) → ((k : ℕ) → Contains ks k → Contains (members_at b.table b.shape) k) → NoPayload ks
  payload_alone own doc [] inside = tt
  payload_alone own doc (k ∷ ks) inside =
      let other = some_document (members_at b.table b.shape) doc in (
        by (is_payload_on b k) refl (own.alone (wire_member_at b.table k) (wire_member_at b.table other.0)
            (wire_there k (members_at b.table b.shape) (inside k (contains_head k ks)))
            (wire_there other.0 (members_at b.table b.shape) other.1)),
        payload_alone own doc ks (λ j found. inside j (contains_behind k j ks found)),
      )
    where
      by : (z : Bool) → is_payload_on b k ≡ z
          → (is_bound_by (wire_member_at b.table k).binding a_payload ≡ true
          → is_in_document b (some_document (members_at b.table b.shape) doc).0 ≡ true → ⊥) → is_payload_on b k ≡ false
      by true e never = absurd (never (payload_trait k e) (some_document (members_at b.table b.shape) doc).2)
      by false e never = e

  -- nothing is taken where the body stands for none of them
  either_false : (z : Bool) (A B : Type 0) → z ≡ false → B → Either z A B
  either_false true A B h x = absurd (true≢false h)
  either_false false A B h x = x

  either_true : (z : Bool) (A B : Type 0) → z ≡ true → A → Either z A B
  either_true true A B h x = x
  either_true false A B h x = absurd (true≢false (sym h))

  module _ (came : ℕ → Came) where
    pub none_taken : (there : Bool) (js : List ℕ) (fs : List (ℕ × Val)) (ks : List ℕ) → NoDocument ks → NoPayload ks
        → BodyComes b came there js ks fs
    none_taken there js fs [] outside none = tt
    none_taken there js fs (k ∷ ks) outside none =
        either_false (is_body b k) _ _ (only_payload (binding_on b k) outside.0 ∙ none.0) (none_taken there js fs ks outside.1 none.1)

    -- where all of them are absent
    abbrev pub IsAbsent : ℕ → Type 0
    IsAbsent k = is_body b k ≡ true → came k ≡ absent_reading (when_closed b.table k)

    pub all_absent : (js : List ℕ) (fs : List (ℕ × Val)) (ks : List ℕ) → AllByRecursion IsAbsent ks → BodyComes b came false js ks fs
    all_absent js fs [] absent = tt
    all_absent js fs (k ∷ ks) absent = by (is_body b k) refl absent.0 (all_absent js fs ks absent.1)
      where
        by : (z : Bool) → is_body b k ≡ z → IsAbsent k → BodyComes b came false js ks fs
            → Either z ((came k ≡ absent_reading (when_closed b.table k)) × BodyComes b came false js ks fs) (BodyComes b came false js ks fs)
        by true e absent behind = (absent e, behind)
        by false e absent behind = behind

    -- the payload has a value, which is the one field
    pub payload_taken : (ks : List ℕ) (n : ℕ) (v : Val) → NoDocument ks → Wanted ks ≤ 1 → payload_place b ks ≡ Some n
        → FieldsAre (came (get_or ks n 0)) (Some v) → BodyComes b came true (drop n ks) ks ((get_or ks n 0, v) ∷ [])
    payload_taken [] n v outside few e is = absurd cc
    payload_taken (k ∷ ks) n v outside few e is =
        by (is_payload_on b k) refl n e is (payload_taken ks)
      where
        by : (z : Bool) → is_payload_on b k ≡ z → (m : ℕ) → cond z (Some 0) (option_map suc (payload_place b ks)) ≡ Some m
            → FieldsAre (came (get_or (k ∷ ks) m 0)) (Some v)
            → ((m : ℕ) (v : Val) → NoDocument ks → Wanted ks ≤ 1 → payload_place b ks ≡ Some m → FieldsAre (came (get_or ks m 0)) (Some v)
            → BodyComes b came true (drop m ks) ks ((get_or ks m 0, v) ∷ []))
            → BodyComes b came true (drop m (k ∷ ks)) (k ∷ ks) ((get_or (k ∷ ks) m 0, v) ∷ [])
        by true p zero e is behind =
            either_true (is_body b k) _ _ (only_payload (binding_on b k) outside.0 ∙ p) (
              k,
              ks,
              Some v,
              [],
              refl,
              is,
              refl,
              (λ n w front e same. not_none n w front e),
              none_taken true ks [] ks outside.1 (none_behind k ks p few),
            )
        by true p (suc m) e is behind = absurd cc
        by false p zero e is behind = absurd (no_place (payload_place b ks) e)
        by false p (suc m) e is behind =
            either_false (is_body b k) _ _ (only_payload (binding_on b k) outside.0 ∙ p)
            (behind m v outside.1 (few_behind k ks (is_bound_by (wire_member_at b.table k).binding a_payload) (subst (λ n. n ≤ 1) (wanted_is k ks) few)) (one_less (payload_place b ks) m e) is)

    -- and it has a fault
    pub payload_faulty : (ks : List ℕ) (n : ℕ) (f : FaultAt) → NoDocument ks → payload_place b ks ≡ Some n
        → IsFaultOf b came f (get_or ks n 0) → FaultComes b came f ks
    payload_faulty [] n f outside e is = absurd cc
    payload_faulty (k ∷ ks) n f outside e is = by (is_payload_on b k) refl n e is (payload_faulty ks)
      where
        by : (z : Bool) → is_payload_on b k ≡ z → (m : ℕ) → cond z (Some 0) (option_map suc (payload_place b ks)) ≡ Some m
            → IsFaultOf b came f (get_or (k ∷ ks) m 0)
            → ((m : ℕ) (f : FaultAt) → NoDocument ks → payload_place b ks ≡ Some m → IsFaultOf b came f (get_or ks m 0)
            → FaultComes b came f ks) → FaultComes b came f (k ∷ ks)
        by true p zero e is behind = either_true (is_body b k) _ _ (only_payload (binding_on b k) outside.0 ∙ p) (inl is)
        by true p (suc m) e is behind = absurd cc
        by false p zero e is behind = absurd (no_place (payload_place b ks) e)
        by false p (suc m) e is behind =
            either_false (is_body b k) _ _ (only_payload (binding_on b k) outside.0 ∙ p) (behind m f outside.1 (one_less (payload_place b ks) m e) is)

  -- the payload at its place
  pub placed : (ks : List ℕ) (n : ℕ) → payload_place b ks ≡ Some n
      → (n < length ks) × (is_payload_on b (get_or ks n 0) ≡ true)
      × (payload_shape b ks ≡ cond (is_tree_kind (kind_of b.table (member_place (get_or ks n 0)))) (Some (target_at b.table (get_or ks n 0))) None)
  placed [] n e = absurd cc
  placed (k ∷ ks) n e = by (is_payload_on b k) refl n e (placed ks)
    where
      by : (z : Bool) → is_payload_on b k ≡ z → (m : ℕ) → cond z (Some 0) (option_map suc (payload_place b ks)) ≡ Some m
          → ((m : ℕ) → payload_place b ks ≡ Some m → (m < length ks) × (is_payload_on b (get_or ks m 0) ≡ true)
          × (payload_shape b ks
          ≡ cond (is_tree_kind (kind_of b.table (member_place (get_or ks m 0)))) (Some (target_at b.table (get_or ks m 0))) None))
          → (m < length (k ∷ ks)) × (is_payload_on b (get_or (k ∷ ks) m 0) ≡ true)
          × (payload_shape b (k ∷ ks)
          ≡ cond (is_tree_kind (kind_of b.table (member_place (get_or (k ∷ ks) m 0)))) (Some (target_at b.table (get_or (k ∷ ks) m 0))) None)
      by true p zero e behind = (
        omega arith,
        p,
        ap (λ o. shape_by o b.table k (payload_shape b ks)) (payload_is (binding_on b k) p),
      )
      by true p (suc m) e behind = absurd cc
      by false p zero e behind = absurd (no_place (payload_place b ks) e)
      by false p (suc m) e behind =
          let rest = behind m (one_less (payload_place b ks) m e) in (
            (let lt = rest.0 in omega (arith, lt)),
            rest.1,
            other_shape (binding_on b k) b.table k (payload_shape b ks) p ∙ rest.2,
          )

  -- where there is none
  pub not_placed : (ks : List ℕ) → payload_place b ks ≡ None → NoPayload ks × (payload_shape b ks ≡ None)
  not_placed [] e = (tt, refl)
  not_placed (k ∷ ks) e = by (is_payload_on b k) refl e (not_placed ks)
    where
      by : (z : Bool) → is_payload_on b k ≡ z → cond z (Some 0) (option_map suc (payload_place b ks)) ≡ None
          → (payload_place b ks ≡ None → NoPayload ks × (payload_shape b ks ≡ None))
          → ((is_payload_on b k ≡ false) × NoPayload ks) × (payload_shape b (k ∷ ks) ≡ None)
      by true p e behind = absurd cc
      by false p e behind =
          let rest = behind (none_there (payload_place b ks) e) in
          ((p, rest.0), other_shape (binding_on b k) b.table k (payload_shape b ks) p ∙ rest.1)
