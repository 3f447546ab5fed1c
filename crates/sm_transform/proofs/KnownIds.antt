-- What a graph knows in a namespace, number by number.
use Rattle.std.proofs.Common.{◌≡◌, ◌⊎◌, inl, inr, ℕ, ◌+◌, Bool, true, false, List, [], ◌∷◌, length, refl, sym, ap, subst, ◌∙◌}
use Rattle.std.proofs.Common.{arith}
use Rattle.std.specs.Prelude.{◌↔◌, ◌||◌}
use Rattle.std.specs.FinMap as fin
use Rattle.std.specs.List.{list_any}
use Rattle.std.proofs.lemmas.Bool.{cases_lt}
use Rattle.std.proofs.lemmas.Slice.Eq.{bytes_eq-Decides}
use Rattle.sm_ids.specs.TextParts.{namespace_part}
use Rattle.sm_tree.specs.Node.{Members, Node, member, members_of, no_members, object}
use Rattle.sm_tree.specs.Same.{HasName, HasPair}
use Rattle.sm_model.specs.Formed.{StandsAmong}
use Rattle.sm_model.specs.Given.{are_under}
use Rattle.sm_model.specs.Graphs.{Entry, member_entry, shape_entry, traits_in}
use Rattle.sm_model.specs.GraphView.{At, HasBodyNode, HasKind, IsShapeNumber, entries_of, is_member_entry, maps_of}
use Rattle.sm_model.specs.Properties.{form_named, property_forms}
use Rattle.sm_model.specs.Reaching.{id_of_number}
use Rattle.sm_model.specs.Relations.{HasBodyPair, HasEntry}
use Rattle.sm_model.specs.declared.graph.Graph.{Graph}
use Rattle.sm_model.specs.declared.kind.Kind.{Kind}
use Rattle.sm_model.proofs.GraphFacts.{entry_under, id_at}
use Rattle.sm_model.proofs.LinkNumbers.{at_from, at_opened, stands_at}
use Rattle.sm_model.proofs.NumberedIds.{entry_here, number_of, of_entry, one_entry}
use Rattle.sm_model.proofs.Worklist.{apart}
use Rattle.sm_transform.specs.Included.{CarriesTrait}
use Rattle.sm_transform.specs.Namespaces.{is_of_namespace}
use Rattle.sm_transform.specs.Renamed.{HasNamespace, IsKnownIn, key_known, shape_known, trait_known}
use Rattle.sm_transform.specs.steps.Knowing.{HasBodyKey, HasFieldKey, HasKeyIn, HasKeyOf, HasTraitIn, IsInNamespaceAt, IsKeyField, KnowsAt}
use Rattle.sm_transform.specs.steps.Knowing.{SomeBelow}
use Rattle.sm_transform.proofs.FoundEntries.{get_stands, key_found}
use Rattle.sm_transform.proofs.RenamedIds.{body_object, one_object}
use Rattle.sm_transform.proofs.StepsNeeded.{in_graph}

-- one of some names passes
any_some : (p : List ℕ → Bool) (ks : List (List ℕ)) → list_any p ks ≡ true → (k : List ℕ) × StandsAmong k ks × (p k ≡ true)
any_some p [] h = absurd (apart h)
any_some p (k ∷ ks) h = by (any_some p ks) (p k) refl h
  where
    by : (list_any p ks ≡ true → (j : List ℕ) × StandsAmong j ks × (p j ≡ true)) → (b : Bool) → p k ≡ b → (b || list_any p ks) ≡ true
        → (j : List ℕ) × StandsAmong j (k ∷ ks) × (p j ≡ true)
    by rest true is some = (k, inl refl, is)
    by rest false is some = let later = rest some in (later.0, inr later.1, later.2)

some_any : (p : List ℕ → Bool) (ks : List (List ℕ)) (k : List ℕ) → StandsAmong k ks → p k ≡ true → list_any p ks ≡ true
some_any p [] k among is = absurd among
some_any p (j ∷ ks) k (inl same) is = ap (λ b. b || list_any p ks) (subst (λ x. p x ≡ true) same is)
some_any p (j ∷ ks) k (inr later) is = by (p j) (some_any p ks k later is)
  where
    by : (b : Bool) → list_any p ks ≡ true → (b || list_any p ks) ≡ true
    by true h = refl
    by false h = h

pub any_later : (p : List ℕ → Bool) (k : List ℕ) (ks : List (List ℕ)) → p k ≡ false → list_any p (k ∷ ks) ≡ list_any p ks
any_later p k ks is = ap (λ b. b || list_any p ks) is

pub any_here : (p : List ℕ → Bool) (k : List ℕ) (ks : List (List ℕ)) → p k ≡ true → true ≡ list_any p (k ∷ ks)
any_here p k ks is = sym (ap (λ b. b || list_any p ks) is)

module _ (namespace : List ℕ) where
  pub of_is : (id : List ℕ) → (is_of_namespace namespace id ≡ true) ↔ (namespace_part id ≡ namespace)
  of_is id = ((bytes_eq-Decides (namespace_part id) namespace).0, (bytes_eq-Decides (namespace_part id) namespace).1)

  -- traits
  pub traits_know : (g : Graph) (n : ℕ) (ts : List (List ℕ × Node)) → At g n (λ id e. fin.entries (traits_in e) ≡ ts)
      → (list_any (is_of_namespace namespace) (are_under ts) ≡ true) ↔ HasTraitIn g namespace n
  traits_know g n ts told =
      let e = entry_here g n (λ id x. fin.entries (traits_in x) ≡ ts) told in (
        λ h.
            let s = any_some (is_of_namespace namespace) (are_under ts) h in
            let found = key_found (traits_in e.0) s.0 (subst (λ ps. StandsAmong s.0 (are_under ps)) (sym e.2) s.1) in
            (s.0, record { entry = e.0; there = e.1; value = found.0; found = found.1 }, (of_is s.0).0 s.2),
        λ h.
            let c = h.1 in
            let one = one_entry (maps_of g) (id_of_number g n) c.entry e.0 c.there e.1 in
            let stands = get_stands (traits_in c.entry) h.0 c.value c.found in
            some_any (is_of_namespace namespace) (are_under ts) h.0
            (subst (λ ps. StandsAmong h.0 (are_under ps)) e.2
            (subst (λ x. StandsAmong h.0 (are_under (fin.entries (traits_in x)))) one stands))
            ((of_is h.0).1 h.2),
      )

  -- keys of an object
  name_stands : (ps : List (List ℕ × Node)) (k : List ℕ) → HasName k (members_of ps) ↔ StandsAmong k (are_under ps)
  name_stands [] k = (λ h. h, λ h. h)
  name_stands (p ∷ ps) k = (
    λ h. elim h [ inl same ↦ inl same | inr later ↦ inr ((name_stands ps k).0 later) ],
    λ h. elim h [ inl same ↦ inl same | inr later ↦ inr ((name_stands ps k).1 later) ],
  )

  pub object_knows : (n : Node) (ps : List (List ℕ × Node)) → n ≡ object (members_of ps)
      → (list_any (is_of_namespace namespace) (are_under ps) ≡ true) ↔ HasKeyOf namespace n
  object_knows n ps is = (
    λ h.
        let s = any_some (is_of_namespace namespace) (are_under ps) h in
        (members_of ps, is, (s.0, (name_stands ps s.0).1 s.1, (of_is s.0).0 s.2)),
    λ h.
        let k = h.2 in
        let same : h.0 ≡ members_of ps = one_object h.0 (members_of ps) (sym h.1 ∙ is) in
        some_any (is_of_namespace namespace) (are_under ps) k.0 ((name_stands ps k.0).0 (subst (HasName k.0) same k.1)) ((of_is k.0).1 k.2),
  )

  -- fields, one after the other
  pub field_either : (kind : Kind) (k : List ℕ) (n : Node) (ms : Members)
      → HasFieldKey kind namespace (member k n ms) ↔ (IsKeyField kind k n namespace ⊎ HasFieldKey kind namespace ms)
  field_either kind k n ms = (
    λ h. elim h.2 [
      | inl same ↦ inl (subst (λ x. IsKeyField kind x n namespace) same.0 (subst (λ x. IsKeyField kind h.0 x namespace) same.1 h.3))
      | inr later ↦ inr (h.0, h.1, later, h.3)
    ],
    λ h. elim h [
      | inl here ↦ (k, n, inl (refl, refl), here)
      | inr later ↦ (later.0, later.1, inr later.2, later.3)
    ],
  )

  pub no_field : (kind : Kind) → HasFieldKey kind namespace no_members → ⊥
  no_field kind h = h.2

  -- a body
  pub body_knows : (kind : Kind) (n : Node) (ms : Members) → n ≡ object ms → HasFieldKey kind namespace ms ↔ HasBodyKey kind namespace n
  body_knows kind n ms is = (
    λ h. (ms, is, h),
    λ h. subst (HasFieldKey kind namespace) (one_object h.0 ms (sym h.1 ∙ is)) h.2,
  )

  module _ (g : Graph) (n : ℕ) where
    pub member_knows : (b : Bool) → At g n (λ i e. is_member_entry e ≡ b) → b ≡ true → At g n (λ id e. HasKeyIn namespace e) → ⊥
    member_knows b told is h =
        let x = entry_here g n (λ id e. HasKeyIn namespace e) h in
        by x.0 x.2 (of_entry g n (λ i e. is_member_entry e ≡ b) told x.0 x.1)
      where
        by : (e : Entry) → HasKeyIn namespace e → is_member_entry e ≡ b → ⊥
        by (shape_entry s) k said = apart (said ∙ is)
        by (member_entry m) k said = k

    pub key_at : (kind : Kind) (p : Node) → At g n (λ i e. HasKind kind e) → At g n (λ i e. HasBodyNode p e)
        → HasBodyKey kind namespace p ↔ At g n (λ id e. HasKeyIn namespace e)
    key_at kind p kinds bodies =
        let o = at_opened g n (λ i e. HasKind kind e) kinds in
        let has : HasEntry (maps_of g) (id_of_number g n) o.entry =
        ap (fin.get (maps_of g).shapes) (id_at g n o.id o.entry o.there) ∙ entry_under g n o.id o.entry o.there in
        let body = of_entry g n (λ i e. HasBodyNode p e) bodies o.entry has in (
          λ h. at_from g n (λ id e. HasKeyIn namespace e) o.id o.entry o.there (on o.entry o.is body h),
          λ h.
              let k = at_opened g n (λ id e. HasKeyIn namespace e) h in
              back o.entry o.is body (of_entry g n (λ id e. HasKeyIn namespace e) h o.entry has),
        )
      where
        on : (e : Entry) → HasKind kind e → HasBodyNode p e → HasBodyKey kind namespace p → HasKeyIn namespace e
        on (shape_entry s) is body_is h =
            let (name, x, pair, (form, found)) = h.2 in
            let at = found.2 in
            let whole : HasBodyPair name (object found.0) s.properties =
            subst (HasBodyPair name (object found.0)) (sym (body_is ∙ h.1)) (subst (λ y. HasPair name y h.0) found.1 pair) in (
              at.0,
              record {
                field = name;
                pairs = found.0;
                body = whole;
                form = ap (λ k. form_named name (property_forms k)) is ∙ form;
                among = at.1;
              },
              at.2,
            )
        on (member_entry m) is body_is h = absurd is

        back : (e : Entry) → HasKind kind e → HasBodyNode p e → HasKeyIn namespace e → HasBodyKey kind namespace p
        back (shape_entry s) is body_is (k, r, of) =
            let o = body_object r.field (object r.pairs) s.properties r.body in (
              o.0,
              sym body_is ∙ o.1,
              (
                r.field,
                object r.pairs,
                o.2,
                (ap (λ x. form_named r.field (property_forms x)) (sym is) ∙ r.form, (r.pairs, refl, (k, r.among, of))),
              ),
            )
        back (member_entry m) is body_is h = absurd is

-- all numbers
pub below_nothing : (Holds : ℕ → Type 0) → SomeBelow Holds 0 → ⊥
below_nothing Holds h = omega (arith, h.1)

pub below_next : (Holds : ℕ → Type 0) (n : ℕ) → (SomeBelow Holds n → ⊥) → (Holds n → ⊥) → SomeBelow Holds (n + 1) → ⊥
below_next Holds n none not_here h = elim (cases_lt h.0 n) [
  | inl less ↦ none (h.0, less, h.2)
  | inr ge ↦ let is : h.0 ≡ n = omega (arith, ge, h.1) in not_here (subst Holds is h.2)
]

module _ (g : Graph) (namespace : List ℕ) where
  pub namespace_some : SomeBelow (IsInNamespaceAt g namespace) (length (entries_of g)) ↔ HasNamespace (maps_of g) namespace
  namespace_some = (
    λ h. (id_of_number g h.0, in_graph g h.0 h.1, h.2),
    λ h. let n = number_of g h.0 h.1 in (n.0, n.1, ap namespace_part n.2 ∙ h.2),
  )

  known_at : (k : ℕ) → IsShapeNumber g k → KnowsAt g namespace k → IsKnownIn (maps_of g) namespace
  known_at k lt (inl of) = shape_known (id_of_number g k) (in_graph g k lt) of
  known_at k lt (inr (inl (t, carries, of))) = trait_known (id_of_number g k) t carries of
  known_at k lt (inr (inr h)) =
      let e = entry_here g k (λ id x. HasKeyIn namespace x) h in
      by e.0 e.1 e.2
    where
      by : (e : Entry) → HasEntry (maps_of g) (id_of_number g k) e → HasKeyIn namespace e → IsKnownIn (maps_of g) namespace
      by (shape_entry s) has (name, r, of) = key_known name (record { id = id_of_number g k; s = s; there = has; renames = r }) of
      by (member_entry m) has none = absurd none

  known_some : IsKnownIn (maps_of g) namespace → SomeBelow (KnowsAt g namespace) (length (entries_of g))
  known_some (shape_known id there of) = let n = number_of g id there in (n.0, n.1, inl (ap namespace_part n.2 ∙ of))
  known_some (trait_known id t carries of) =
      let n = number_of g id (carries.entry, carries.there) in
      (n.0, n.1, inr (inl (t, subst (λ i. CarriesTrait (maps_of g) i t) (sym n.2) carries, of)))
  known_some (key_known name r of) =
      let n = number_of g r.id (shape_entry r.s, r.there) in
      let s = stands_at g n.0 n.1 in
      let same : s.1 ≡ shape_entry r.s =
      one_entry (maps_of g) s.0 s.1 (shape_entry r.s) (entry_under g n.0 s.0 s.1 s.2)
      (ap (fin.get (maps_of g).shapes) (sym (id_at g n.0 s.0 s.1 s.2) ∙ n.2) ∙ r.there) in (
        n.0,
        n.1,
        inr (inr (at_from g n.0 (λ id x. HasKeyIn namespace x) s.0 s.1 s.2
            (subst (HasKeyIn namespace) (sym same) (name, r.renames, of)))),
      )

  pub known_is : SomeBelow (KnowsAt g namespace) (length (entries_of g)) ↔ IsKnownIn (maps_of g) namespace
  known_is = (λ h. known_at h.0 h.1 h.2, known_some)
