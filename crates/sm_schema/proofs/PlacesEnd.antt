-- Breadth first, the places of a shape come to an end: each turn leaves one place less to be looked at, of those that are there and of those
-- of the table that aren't there yet. So a shape has a schema.
use Rattle.std.proofs.Common.{◌≡◌, ◌⊎◌, inl, inr, ℕ, zero, suc, ◌+◌, ◌<◌, ◌≤◌, Bool, true, false, cond, Option, Some, None}
use Rattle.std.proofs.Common.{List, [], ◌∷◌, ◌++◌, length, slice_get, refl, sym, ap, ◌∙◌, arith, length-append}
use Rattle.std.proofs.lemmas.Bool.{cases_eq}
use Rattle.sm_shapes.specs.InOrder.{Shaped}
use Rattle.sm_shapes.specs.Places.{Place, root_place, member_place, members_of_place, shape_of}
use Rattle.sm_shapes.specs.TableData.{TableData, shape_count, member_count, kind_at, target_at}
use Rattle.sm_codec.specs.Codec.{InTable}
use Rattle.sm_codec.proofs.PlacesIn.{shape_in}
use Rattle.sm_schema.specs.Definitions.{has_place, has_shapes, member_defined, with_place, with_members, Listed}
use Rattle.sm_schema.specs.Described.{schema_tree}
use Rattle.sm_schema.specs.SchemaLaws.{SomeSchema}
use Rattle.sm_schema.specs.steps.Numbered.{AllIn, AllMembers, listing}
use Rattle.sm_schema.proofs.NumberedPlaces.{all_in_at, all_in_last, all_members_of}
use Rattle.sm_schema.proofs.PlacesListed.{has_behind, has_last}

-- how many of the first numbers a test denies
abbrev missing : (ℕ → Bool) → ℕ → ℕ
missing f zero = 0
missing f (suc n) = cond (f n) 0 1 + missing f n

fewer : (f g : ℕ → Bool) (n : ℕ) → ((i : ℕ) → f i ≡ true → g i ≡ true) → missing g n ≤ missing f n
fewer f g zero more = omega arith
fewer f g (suc n) more = by (f n) (g n) (more n) (fewer f g n more)
  where
    by : (b c : Bool) → (b ≡ true → c ≡ true) → missing g n ≤ missing f n → cond c 0 1 + missing g n ≤ cond b 0 1 + missing f n
    by true true h less = omega (arith, less)
    by true false h less = let never = h refl in absurd cc
    by false true h less = omega (arith, less)
    by false false h less = omega (arith, less)

one_fewer : (f g : ℕ → Bool) (n i : ℕ) → ((j : ℕ) → f j ≡ true → g j ≡ true) → i < n → f i ≡ false → g i ≡ true
    → missing g n + 1 ≤ missing f n
one_fewer f g zero i more lt denied told = absurd (omega (arith, lt))
one_fewer f g (suc n) i more lt denied told = by (λ below. one_fewer f g n i more below denied told) (cases_eq i n)
  where
    last : (b c : Bool) → b ≡ false → c ≡ true → cond c 0 1 + missing g n + 1 ≤ cond b 0 1 + missing f n
    last true c h k = absurd cc
    last false true h k = omega (arith, fewer f g n more)
    last false false h k = absurd cc

    before : (b c : Bool) → (b ≡ true → c ≡ true) → missing g n + 1 ≤ missing f n
        → cond c 0 1 + missing g n + 1 ≤ cond b 0 1 + missing f n
    before true true h less = omega (arith, less)
    before true false h less = let never = h refl in absurd cc
    before false true h less = omega (arith, less)
    before false false h less = omega (arith, less)

    by : (i < n → missing g n + 1 ≤ missing f n) → (i ≡ n) ⊎ (i ≡ n → ⊥)
        → cond (g n) 0 1 + missing g n + 1 ≤ cond (f n) 0 1 + missing f n
    by less (inl e) = last (f n) (g n) (ap f (sym e) ∙ denied) (ap g (sym e) ∙ told)
    by less (inr other) = before (f n) (g n) (more n) (less (omega (arith, lt, other)))

-- how many places of the table aren't there
abbrev absent : TableData → List Place → ℕ
absent t ps =
    missing (λ s. has_place (root_place s) ps) (shape_count t) + missing (λ k. has_place (member_place k) ps) (member_count t)

put_absent : (t : TableData) (ps : List Place) (p : Place) → InTable t p → has_place p ps ≡ false
    → absent t (ps ++ p ∷ []) + 1 ≤ absent t ps
put_absent t ps (root_place s) inside new =
    let shapes = one_fewer (λ x. has_place (root_place x) ps) (λ x. has_place (root_place x) (ps ++ root_place s ∷ [])) (shape_count t) s
    (λ x is. has_behind (root_place x) ps (root_place s ∷ []) is) inside new (has_last (root_place s) ps) in
    let members = fewer (λ x. has_place (member_place x) ps) (λ x. has_place (member_place x) (ps ++ root_place s ∷ [])) (member_count t)
    (λ x is. has_behind (member_place x) ps (root_place s ∷ []) is) in
    omega (arith, shapes, members)
put_absent t ps (member_place k) inside new =
    let members = one_fewer (λ x. has_place (member_place x) ps) (λ x. has_place (member_place x) (ps ++ member_place k ∷ [])) (member_count t) k
    (λ x is. has_behind (member_place x) ps (member_place k ∷ []) is) inside new (has_last (member_place k) ps) in
    let shapes = fewer (λ x. has_place (root_place x) ps) (λ x. has_place (root_place x) (ps ++ member_place k ∷ [])) (shape_count t)
    (λ x is. has_behind (root_place x) ps (member_place k ∷ []) is) in
    omega (arith, shapes, members)

-- a place that is put, and then those of members: what is there and what is absent are no more together
put_place : (t : TableData) (ps : List Place) (p : Place) → InTable t p
    → AllIn t ps → AllIn t (with_place ps p) × (length (with_place ps p) + absent t (with_place ps p) ≤ length ps + absent t ps)
put_place t ps p inside all = by (has_place p ps) refl
  where
    by : (b : Bool) → has_place p ps ≡ b → AllIn t (cond b ps (ps ++ p ∷ []))
        × (length (cond b ps (ps ++ p ∷ [])) + absent t (cond b ps (ps ++ p ∷ [])) ≤ length ps + absent t ps)
    by true e = (all, omega arith)
    by false e = (all_in_last t ps p all inside, omega (arith, length-append ps (p ∷ []), put_absent t ps p inside e))

defined_in : (t : TableData) (k : ℕ) → Shaped t → k < member_count t → InTable t (member_defined t k)
defined_in t k shaped within = by (has_shapes t k (kind_at t (target_at t k)))
  where
    by : (b : Bool) → InTable t (cond b (root_place (target_at t k)) (member_place k))
    by true = shaped.targets k within
    by false = within

put_members : (t : TableData) (ps : List Place) (ks : List ℕ) → Shaped t → AllMembers t ks → AllIn t ps
    → AllIn t (with_members t ps ks) × (length (with_members t ps ks) + absent t (with_members t ps ks) ≤ length ps + absent t ps)
put_members t ps [] shaped members all = (all, omega arith)
put_members t ps (k ∷ ks) shaped members all =
    let first = put_place t ps (member_defined t k) (defined_in t k shaped members.0) all in
    let later = put_members t (with_place ps (member_defined t k)) ks shaped members.1 first.0 in
    (later.0, omega (arith, first.1, later.1))

got : (o : Option Place) → (o ≡ None) ⊎ ((p : Place) × (o ≡ Some p))
got None = inl refl
got (Some p) = inr (p, refl)

at_within : (ps : List Place) (k : ℕ) (p : Place) → slice_get ps k ≡ Some p → k < length ps
at_within [] k p h = absurd cc
at_within (q ∷ ps) zero p h = omega arith
at_within (q ∷ ps) (suc k) p h = omega (arith, at_within ps k p h)

-- the places from the k-th on come to an end, within so many turns
abbrev Ends : TableData → List Place → ℕ → Type 0
Ends t ps k = (turns : ℕ) × (all : List Place) × Listed t turns ps k all

ends : (t : TableData) → Shaped t → (left : ℕ) (ps : List Place) (k : ℕ) → AllIn t ps → length ps + absent t ps ≤ left + k → Ends t ps k
ends t shaped zero ps k inside many = by (got (slice_get ps k))
  where
    by : (slice_get ps k ≡ None) ⊎ ((p : Place) × (slice_get ps k ≡ Some p)) → Ends t ps k
    by (inl none) = (0, ps, (none, refl))
    by (inr (p, there)) = absurd (omega (arith, many, at_within ps k p there))
ends t shaped (suc left) ps k inside many =
    by (λ p all fewer. ends t shaped left (with_members t ps (members_of_place t p)) (suc k) all fewer) (got (slice_get ps k))
  where
    by : ((p : Place) → AllIn t (with_members t ps (members_of_place t p))
        → length (with_members t ps (members_of_place t p)) + absent t (with_members t ps (members_of_place t p)) ≤ left + suc k
        → Ends t (with_members t ps (members_of_place t p)) (suc k))
        → (slice_get ps k ≡ None) ⊎ ((p : Place) × (slice_get ps k ≡ Some p)) → Ends t ps k
    by later (inl none) = (0, ps, (none, refl))
    by later (inr (p, there)) =
        let in_table = all_in_at t ps k p inside there in
        let put = put_members t ps (members_of_place t p) shaped
        (all_members_of t (shape_of t p) (members_of_place t p) (shaped.members (shape_of t p) (shape_in t p shaped in_table))) inside in
        let rest = later p put.0 (omega (arith, many, put.1)) in
        (suc rest.0, rest.1, (p, there, rest.2))

pub some_schema : SomeSchema
some_schema t json_names s shaped within =
    let listed = ends t shaped (1 + absent t (root_place s ∷ [])) (root_place s ∷ []) 0 (within, tt) (omega arith) in (
      schema_tree (listing t json_names listed.1),
      record { places = listed.1; turns = listed.0; listed = listed.2; is = refl },
    )
