-- Operations whose output has a member in the body, by marks.
use Rattle.std.proofs.Common.{◌≡◌, ◌⊎◌, inl, inr, ℕ, Bool, true, false, List, [], ◌∷◌, length, Option, Some, refl, sym, ap, ◌∙◌, subst}
use Rattle.std.specs.Prelude.{◌↔◌, ◌&&◌, ◌||◌, is_some, not}
use Rattle.std.specs.FinMap as fin
use Rattle.std.specs.List.{Contains, list_any}
use Rattle.sm_model.specs.Graphs.{Entry, member_entry, ShapeEntry, MemberEntry, GraphMaps}
use Rattle.sm_model.specs.GraphView.{entries_of, maps_of}
use Rattle.sm_model.specs.Reaching.{AreMarks, id_of_number}
use Rattle.sm_model.specs.Relations.{IsRelated}
use Rattle.sm_model.specs.declared.graph.Graph.{Graph}
use Rattle.sm_model.specs.declared.relation.Relation.{Relation}
use Rattle.sm_model.specs.declared.relation.Relation.TheVariants.{Output}
use Rattle.sm_model.proofs.NumberedIds.{number_of}
use Rattle.sm_model.proofs.OneRising.{contains_behind, contains_either, contains_head, contains_none}
use Rattle.sm_model.proofs.Searching.{and_left, and_right}
use Rattle.sm_model.proofs.Worklist.{apart}
use Rattle.sm_select.specs.Images.{AreImage, IsImage, turned}
use Rattle.sm_select.specs.Picks.{LeadsAlong}
use Rattle.sm_select.proofs.MarkedNumbers.{marks_same}
use Rattle.sm_compile.specs.Looked.{listed_in, listed_under}
use Rattle.sm_compile.specs.Sound.{trait_in}
use Rattle.sm_compile.specs.TraitIds.{http_header_id, http_prefix_headers_id, http_payload_id, http_response_code_id}
use Rattle.sm_rules.specs.Bindings.{an_output, has_binding, is_in_body, a_payload, a_header, some_prefix_headers, a_response_code}
use Rattle.sm_rules.specs.Http.{HasOutputBody}
use Rattle.sm_rules.specs.Words.{IsMemberOf}
use Rattle.sm_passes.specs.Owned.{is_own_shape, is_member_in}
use Rattle.sm_http_rules.specs.steps.InBody.{has_body_member, is_body_member}
use Rattle.sm_passes.proofs.OwnShapes.{member_in, own_told, told_own}

-- one that passes
module _ {X : Type 0} (p : X → Bool) where
  pub any_found : (xs : List X) → list_any p xs ≡ true → (x : X) × Contains xs x × (p x ≡ true)
  any_found [] h = absurd (apart h)
  any_found (y ∷ xs) h = by (p y) refl h (any_found xs)
    where
      by : (b : Bool) → p y ≡ b → (b || list_any p xs) ≡ true → (list_any p xs ≡ true → (x : X) × Contains xs x × (p x ≡ true))
          → (x : X) × Contains (y ∷ xs) x × (p x ≡ true)
      by true is h rest = (y, contains_head y xs, is)
      by false is h rest = let r = rest h in (r.0, contains_behind y r.0 xs r.1, r.2)

  pub found_any : (xs : List X) (x : X) → Contains xs x → p x ≡ true → list_any p xs ≡ true
  found_any [] x c h = absurd (contains_none x c)
  found_any (y ∷ xs) x c h = by (contains_either y x xs c) (λ more. found_any xs x more h)
    where
      or_true : (b : Bool) → (b || true) ≡ true
      or_true true = refl
      or_true false = refl

      by : (y ≡ x) ⊎ Contains xs x → (Contains xs x → list_any p xs ≡ true) → (p y || list_any p xs) ≡ true
      by (inl same) rest = ap (λ b. b || list_any p xs) (ap p same ∙ h)
      by (inr more) rest = ap (λ b. p y || b) (rest more) ∙ or_true (p y)

or_false : (b : Bool) → (b || false) ≡ b
or_false true = refl
or_false false = refl

module _ (g : GraphMaps) where
  -- at a member the tests are those of the definition
  body_at : (id : List ℕ) (m : MemberEntry) → fin.get g.shapes id ≡ Some (member_entry m)
      → is_body_member g id ≡ is_in_body an_output m.traits
  body_at id m is = ap at is ∙ same
    where
      carried : Option Entry → List ℕ → Bool
      carried o trait = is_some (trait_in trait o)

      at : Option Entry → Bool
      at o =
          is_member_in o && (carried o http_payload_id || not (carried o http_header_id || (carried o http_prefix_headers_id
          || (carried o http_payload_id || carried o http_response_code_id))))

      same : at (Some (member_entry m)) ≡ is_in_body an_output m.traits
      same = ap (λ b. has_binding m.traits a_payload || not (has_binding m.traits a_header || (has_binding m.traits some_prefix_headers
          || (has_binding m.traits a_payload || b)))) (sym (or_false (has_binding m.traits a_response_code)))

  -- a shape with a member in the body
  abbrev pub HasBodyMember : List ℕ → Type 0
  HasBodyMember shape = (id : List ℕ) × (s : ShapeEntry) × (m : MemberEntry) × IsMemberOf g shape s id m
      × (is_in_body an_output m.traits ≡ true)

  pub body_told : (shape : List ℕ) → has_body_member g shape ≡ true → HasBodyMember shape
  body_told shape h =
      let own = own_told g shape (and_left (is_own_shape g shape) _ h) in
      let found = any_found (is_body_member g) (listed_under g shape) (and_right (is_own_shape g shape) _ h) in
      let m = member_in (fin.get g.shapes found.0) (and_left (is_member_in (fin.get g.shapes found.0)) _ found.2) in (
        found.0,
        own.0,
        m.0,
        record { home = own.1; among = subst (λ ids. Contains ids found.0) (ap listed_in own.1.0) found.1; there = m.1 },
        sym (body_at found.0 m.0 m.1) ∙ found.2,
      )

  pub told_body : (shape : List ℕ) → HasBodyMember shape → has_body_member g shape ≡ true
  told_body shape h =
      let id = h.0 in
      let of = h.3 in
      ap (λ b. b && list_any (is_body_member g) (listed_under g shape)) (told_own g shape h.1 of.home)
      ∙ found_any (is_body_member g) (listed_under g shape) id (subst (λ ids. Contains ids id) (sym (ap listed_in of.home.0)) of.among)
      (body_at id h.2 of.there ∙ h.4)

only_output : (relation : Relation) → Contains (Output ∷ []) relation → Output ≡ relation
only_output relation c = elim (contains_either Output relation [] c) [ inl same ↦ same | inr none ↦ absurd (contains_none relation none) ]

module _ (g : Graph) (bodied : List Bool)
    (are : AreMarks (length (entries_of g)) (λ k. has_body_member (maps_of g) (id_of_number g k) ≡ true) bodied) where
  from_output : (k : ℕ) → IsImage g bodied (turned true (LeadsAlong (maps_of g) (Output ∷ []))) k
      ↔ HasOutputBody (maps_of g) (id_of_number g k)
  from_output k = (
    λ h.
        let a = h.0 in
        let along = h.2 in
        let told = body_told (maps_of g) (id_of_number g a) ((are.marked a).0 h.1).1 in (
          id_of_number g a,
          told.0,
          told.1,
          told.2,
          subst (λ r. IsRelated r (maps_of g) (id_of_number g k) (id_of_number g a)) (sym (only_output along.0 along.1)) along.2,
          told.3,
          told.4,
        ),
    λ h.
        let related = h.4 in
        let n = number_of g h.0 related.3 in
        let body = told_body (maps_of g) h.0 (h.1, h.2, h.3, h.5, h.6) in (
          n.0,
          (are.marked n.0).1 (n.1, subst (λ id. has_body_member (maps_of g) id ≡ true) (sym n.2) body),
          (Output, contains_head Output [], subst (IsRelated Output (maps_of g) (id_of_number g k)) (sym n.2) related),
        ),
  )

  pub outputs_marked : (marks : List Bool) → AreImage g bodied (turned true (LeadsAlong (maps_of g) (Output ∷ []))) marks
      → AreMarks (length (entries_of g)) (λ k. HasOutputBody (maps_of g) (id_of_number g k)) marks
  outputs_marked marks h =
      marks_same (IsImage g bodied (turned true (LeadsAlong (maps_of g) (Output ∷ []))))
      (λ k. HasOutputBody (maps_of g) (id_of_number g k)) (length (entries_of g)) marks (λ k small. from_output k) h
