-- What the members come to that stand in a document, from what the document comes to by the structure with their copies.
use Rattle.std.proofs.Common.{◌≡◌, ◌⊎◌, inl, inr, ℕ, ◌<◌, Bool, true, false, cond, List, [], ◌∷◌, ◌++◌, map, filter, get_or, refl, sym, ap, ◌∙◌, subst, arith}
use Rattle.std.proofs.Common.{reverse}
use Rattle.std.proofs.lemmas.List.{reverse-append, reverse-reverse}
use Rattle.std.specs.Prelude.{Err, None, Ok, Option, Some, is_some, not}
use Rattle.std.specs.List.{AllByRecursion, AllZip}
use Rattle.std.specs.List.Sorted.{IsStrictlySortedBy}
use Rattle.std.specs.Ordering.{nat_cmp}
use Rattle.sm_tree.specs.Node.{Members, object}
use Rattle.sm_tree.specs.declared.path.Step.{Step}
use Rattle.sm_tree.specs.declared.path.Step.TheVariants.{Member}
use Rattle.sm_shapes.specs.Fitting.{Test}
use Rattle.sm_shapes.specs.InOrder.{Shaped}
use Rattle.sm_shapes.specs.Names.{AllDiffer, NoneIs}
use Rattle.sm_shapes.specs.Places.{root_place}
use Rattle.sm_shapes.specs.TableData.{BindingData, TableData, label, query, query_params, header, prefix_headers, payload, response_code}
use Rattle.sm_shapes.specs.TableData.{json_name_at, member_count, name_at}
use Rattle.sm_shapes.specs.Values.{Val}
use Rattle.sm_codec.specs.Codec.{Codec}
use Rattle.sm_codec.specs.FaultLists.{FaultAt, under}
use Rattle.sm_codec.specs.Readings.{member_faults, member_fields, member_reading, members_faults, members_fields, named_children, under_names}
use Rattle.sm_codec.specs.Readings.{when_closed}
use Rattle.sm_codec.proofs.MemberParts.{AllAbove, above_from}
use Rattle.sm_messages.specs.MessageForm.{a_tree}
use Rattle.sm_excerpts.specs.Excerpts.{Extends, IsCopy}
use Rattle.sm_bind.specs.PartsData.{PartsData}
use Rattle.sm_bind.specs.Roles.{Bound, binding_on, is_bound_payload, is_in_document}
use Rattle.sm_bind_read.specs.PartFaults.{bound_codec}
use Rattle.sm_bind_read.specs.Parts.{bound_children}
use Rattle.sm_bind_read.specs.steps.Bodies.{is_payload_on}
use Rattle.sm_bind_read.specs.steps.Coming.{BodyComes, Came, Either, FaultComes, FieldsAre, IsAtMember, IsFaultOf, IsNotLast, came_of}
use Rattle.sm_bind_read.specs.steps.Coming.{is_body_by}
use Rattle.sm_bind_read.proofs.MembersJoined.{fields_from}
use Rattle.sm_bind_read.proofs.TablesExtended.{named_alike, of_documents}

none_from : (o : Option BindingData) → not (is_some o) ≡ true → o ≡ None
none_from None h = refl
none_from (Some x) h = absurd cc

-- beside a document no member is the payload
body_is : (o : Option BindingData) → is_bound_payload o ≡ false → is_body_by o ≡ not (is_some o)
body_is None h = refl
body_is (Some payload) h = absurd cc
body_is (Some label) h = refl
body_is (Some (query name)) h = refl
body_is (Some query_params) h = refl
body_is (Some (header name)) h = refl
body_is (Some (prefix_headers prefix)) h = refl
body_is (Some response_code) h = refl

pub err_from : (reading : Came) (g : FaultAt) (gs : List FaultAt) → member_faults reading ≡ g ∷ gs → reading ≡ Err (g ∷ gs)
err_from (Ok o) g gs h = absurd cc
err_from (Err fs) g gs h = ap Err h

none_under : (step : Step) (xs ys : List FaultAt) → under step xs ++ ys ≡ [] → (xs ≡ []) × (ys ≡ [])
none_under step [] ys h = (refl, h)
none_under step (x ∷ xs) ys h = absurd cc

one_turned : (j : ℕ) (o : Option Val) → reverse (member_fields j (Ok o)) ≡ member_fields j (Ok o)
one_turned j None = refl
one_turned j (Some v) = refl

-- numbers that rise
abbrev pub AllRise : List ℕ → Type 0
AllRise [] = Unit {0}
AllRise (j ∷ js) = AllAbove j js × AllRise js

pub all_rise : (js : List ℕ) → IsStrictlySortedBy nat_cmp js → AllRise js
unfolding IsStrictlySortedBy
all_rise [] h = tt
all_rise (j ∷ js) h = (above_from j js h.0, all_rise js h.1)

module _ (b : Bound) (d : TableData) (x : Extends d b.table) (shaped : Shaped b.table) (test : Test) (parts : PartsData) (ms : Members) (s : ℕ) where
  abbrev came : ℕ → Came
  came = came_of b test parts (a_tree (object ms))

  abbrev cd : Codec
  cd = of_documents d b.table x shaped test

  -- what a copy comes to
  abbrev pub its_came : ℕ → Came
  its_came j = member_reading (when_closed d) j (under_names cd (root_place s) (named_children cd ms) j)

  abbrev pub its_faults : List ℕ → List FaultAt
  its_faults js = members_faults d (when_closed d) (under_names cd (root_place s) (named_children cd ms)) js

  abbrev pub its_fields : List ℕ → List (ℕ × Val)
  its_fields js = members_fields (when_closed d) (under_names cd (root_place s) (named_children cd ms)) js

  same_came : (j k : ℕ) → k < member_count b.table → IsCopy d b.table j k → is_in_document b k ≡ true → its_came j ≡ came k
  same_came j k lt copy inside =
      named_alike d b.table x shaped test j k lt copy (json_name_at d j) (json_name_at b.table k) copy.json_name ms
      ∙ ap (λ o. member_reading (when_closed b.table) k (bound_children o b (bound_codec b test) parts (a_tree (object ms)) k))
      (sym (none_from (binding_on b k) inside))

  -- fields have the numbers of their members
  abbrev FieldsAbove : ℕ → List (ℕ × Val) → Type 0
  FieldsAbove j [] = Unit {0}
  FieldsAbove j (f ∷ fs) = (j < f.0) × FieldsAbove j fs

  one_above : (j i : ℕ) → j < i → (reading : Came) (fs : List (ℕ × Val)) → FieldsAbove j fs → FieldsAbove j (member_fields i reading ++ fs)
  one_above j i lt (Ok None) fs h = h
  one_above j i lt (Ok (Some v)) fs h = (lt, h)
  one_above j i lt (Err gs) fs h = h

  fields_above : (j : ℕ) (js : List ℕ) → AllAbove j js → FieldsAbove j (its_fields js)
  fields_above j [] h = tt
  fields_above j (i ∷ js) h = one_above j i h.0 (its_came i) (its_fields js) (fields_above j js h.1)

  first_above : (j n : ℕ) (v : Val) (rest fs : List (ℕ × Val)) → FieldsAbove j fs → fs ≡ (n, v) ∷ rest → n ≡ j → ⊥
  first_above j n v rest [] h e same = absurd cc
  first_above j n v rest (f ∷ fs) h e same =
      let number : f.0 ≡ n = ap (λ xs. (get_or xs 0 f).0) e in let lt = h.0 in omega (arith, lt, number, same)

  not_last : (j : ℕ) (js : List ℕ) → AllAbove j js → IsNotLast j (reverse (its_fields js))
  not_last j js above n v front e same =
      first_above j n v (reverse front) (its_fields js) (fields_above j js above)
      (sym (reverse-reverse (its_fields js)) ∙ ap reverse e ∙ reverse-append front ((n, v) ∷ [])) same

  -- where the document has no fault: at a member that stands in it, and at any
  abbrev FieldInside : ℕ → List ℕ → List ℕ → Type 0
  FieldInside k ks js = (j : ℕ) × (rest : List ℕ) × (o : Option Val) × (left : List (ℕ × Val)) × (js ≡ j ∷ rest) × FieldsAre (came k) o
      × (reverse (its_fields js) ≡ left ++ member_fields j (Ok o)) × IsNotLast j left × BodyComes b came true rest ks left

  abbrev FieldsBehind : List ℕ → Type 0
  FieldsBehind ks = (js : List ℕ) → AllZip (IsCopy d b.table) js (filter (is_in_document b) ks) → AllRise js → its_faults js ≡ []
      → BodyComes b came true js ks (reverse (its_fields js))

  field_inside : (k : ℕ) (ks : List ℕ) → k < member_count b.table → is_in_document b k ≡ true → FieldsBehind ks → (js : List ℕ)
      → AllZip (IsCopy d b.table) js (k ∷ filter (is_in_document b) ks) → AllRise js → its_faults js ≡ [] → FieldInside k ks js
  field_inside k ks lt e behind [] copies rise none = absurd copies
  field_inside k ks lt e behind (j ∷ rest) copies rise none =
      let both = none_under (Member (name_at d j)) (member_faults (its_came j)) (its_faults rest) none in
      let found = fields_from (its_came j) both.0 in
      let same = same_came j k lt copies.0 e in (
        j,
        rest,
        found.0,
        reverse (its_fields rest),
        refl,
        subst (λ r. FieldsAre r found.0) same found.1,
        reverse-append (member_fields j (its_came j)) (its_fields rest)
            ∙ ap (λ fs. reverse (its_fields rest) ++ reverse fs) (found.1.1 j)
            ∙ ap (λ fs. reverse (its_fields rest) ++ fs) (one_turned j found.0),
        not_last j rest rise.0,
        behind rest copies.1 rise.1 both.1,
      )

  field_by : (k : ℕ) (ks : List ℕ) → k < member_count b.table → FieldsBehind ks → (z : Bool) → is_in_document b k ≡ z → (js : List ℕ)
      → AllZip (IsCopy d b.table) js (cond z (k ∷ filter (is_in_document b) ks) (filter (is_in_document b) ks)) → AllRise js
      → its_faults js ≡ [] → Either z (FieldInside k ks js) (BodyComes b came true js ks (reverse (its_fields js)))
  field_by k ks lt behind true e js copies rise none = field_inside k ks lt e behind js copies rise none
  field_by k ks lt behind false e js copies rise none = behind js copies rise none

  pub fields_come : (ks : List ℕ) → AllByRecursion (λ k. k < member_count b.table) ks → AllByRecursion (λ k. is_payload_on b k ≡ false) ks
      → FieldsBehind ks
  fields_come [] there alone js copies rise none = tt
  fields_come (k ∷ ks) there alone js copies rise none =
      subst (λ z. Either z (FieldInside k ks js) (BodyComes b came true js ks (reverse (its_fields js)))) (sym (body_is (binding_on b k) alone.0))
      (field_by k ks there.0 (fields_come ks there.1 alone.1) (is_in_document b k) refl js copies rise none)

  -- no fault of other members is at this one
  step_name : (v w : List ℕ) → Member v ≡ Member w → v ≡ w
  step_name v w e = cc

  first_at : (w : List ℕ) (j : ℕ) (gs more : List FaultAt) (f : FaultAt) (rest : List FaultAt) → (name_at d j ≡ w → ⊥)
      → under (Member (name_at d j)) gs ++ more ≡ f ∷ rest → IsAtMember w f.0 → (more ≡ f ∷ rest → ⊥) → ⊥
  first_at w j [] more f rest other h at behind = behind h
  first_at w j (g ∷ gs) more f rest other h at behind =
      let first : (Member (name_at d j) ∷ g.0, g.1) ≡ f = ap (λ xs. get_or xs 0 f) h in
      other (step_name (name_at d j) w (ap (λ y. get_or y.0 0 (Member w)) first ∙ ap (λ p. get_or p 0 (Member w)) at.1))

  not_at : (w : List ℕ) (js : List ℕ) (f : FaultAt) (rest : List FaultAt) → NoneIs w (map (name_at d) js) → its_faults js ≡ f ∷ rest
      → IsAtMember w f.0 → ⊥
  not_at w [] f rest none h at = absurd cc
  not_at w (j ∷ js) f rest none h at =
      first_at w j (member_faults (its_came j)) (its_faults js) f rest none.0 h at (λ more. not_at w js f rest none.1 more at)

  -- where it has one: at a member that stands in it, and at any
  abbrev FaultInside : FaultAt → ℕ → List ℕ → Type 0
  FaultInside f k ks =
      IsFaultOf b came f k ⊎ ((member_faults (came k) ≡ []) × (IsAtMember (name_at b.table k) f.0 → ⊥) × FaultComes b came f ks)

  abbrev FaultBehind : FaultAt → List FaultAt → List ℕ → Type 0
  FaultBehind f rest ks = (js : List ℕ) → AllZip (IsCopy d b.table) js (filter (is_in_document b) ks) → AllDiffer (map (name_at d) js)
      → its_faults js ≡ f ∷ rest → FaultComes b came f ks

  fault_split : (f : FaultAt) (rest : List FaultAt) (k j : ℕ) (ks js : List ℕ) → IsCopy d b.table j k → its_came j ≡ came k
      → AllZip (IsCopy d b.table) js (filter (is_in_document b) ks) → AllDiffer (map (name_at d) (j ∷ js)) → FaultBehind f rest ks
      → (gs : List FaultAt) → member_faults (its_came j) ≡ gs → under (Member (name_at d j)) gs ++ its_faults js ≡ f ∷ rest → FaultInside f k ks
  fault_split f rest k j ks js copy same copies differ behind [] none more = inr (
    sym (ap member_faults same) ∙ none,
    (λ at. not_at (name_at d j) js f rest differ.0 more (subst (λ w. IsAtMember w f.0) (sym copy.name) at)),
    behind js copies differ.1 more,
  )
  fault_split f rest k j ks js copy same copies differ behind (g ∷ gs) some more = inl (
    g,
    (gs, sym same ∙ err_from (its_came j) g gs some),
    sym (ap (λ xs. get_or xs 0 f) more) ∙ ap (λ w. (Member w ∷ g.0, g.1)) copy.name,
  )

  fault_inside : (f : FaultAt) (rest : List FaultAt) (k : ℕ) (ks : List ℕ) → k < member_count b.table → is_in_document b k ≡ true
      → FaultBehind f rest ks → (js : List ℕ) → AllZip (IsCopy d b.table) js (k ∷ filter (is_in_document b) ks)
      → AllDiffer (map (name_at d) js) → its_faults js ≡ f ∷ rest → FaultInside f k ks
  fault_inside f rest k ks lt e behind [] copies differ h = absurd copies
  fault_inside f rest k ks lt e behind (j ∷ js) copies differ h =
      fault_split f rest k j ks js copies.0 (same_came j k lt copies.0 e) copies.1 differ behind (member_faults (its_came j)) refl h

  fault_by : (f : FaultAt) (rest : List FaultAt) (k : ℕ) (ks : List ℕ) → k < member_count b.table → FaultBehind f rest ks → (z : Bool)
      → is_in_document b k ≡ z → (js : List ℕ)
      → AllZip (IsCopy d b.table) js (cond z (k ∷ filter (is_in_document b) ks) (filter (is_in_document b) ks))
      → AllDiffer (map (name_at d) js) → its_faults js ≡ f ∷ rest → Either z (FaultInside f k ks) (FaultComes b came f ks)
  fault_by f rest k ks lt behind true e js copies differ h = fault_inside f rest k ks lt e behind js copies differ h
  fault_by f rest k ks lt behind false e js copies differ h = behind js copies differ h

  pub fault_comes : (f : FaultAt) (rest : List FaultAt) (ks : List ℕ) → AllByRecursion (λ k. k < member_count b.table) ks
      → AllByRecursion (λ k. is_payload_on b k ≡ false) ks → FaultBehind f rest ks
  fault_comes f rest [] there alone [] copies differ h = absurd cc
  fault_comes f rest [] there alone (j ∷ js) copies differ h = absurd copies
  fault_comes f rest (k ∷ ks) there alone js copies differ h =
      subst (λ z. Either z (FaultInside f k ks) (FaultComes b came f ks)) (sym (body_is (binding_on b k) alone.0))
      (fault_by f rest k ks there.0 (fault_comes f rest ks there.1 alone.1) (is_in_document b k) refl js copies differ h)
