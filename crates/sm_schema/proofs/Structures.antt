-- An object at a place of structures: without a fault it is accepted, and accepted it has none.
use Rattle.std.proofs.Common.{◌≡◌, ◌⊎◌, inl, inr, ℕ, ◌^◌, ◌<◌, Bool, true, false, ◌&&◌, not, cond, Some, None, is_some, List}
use Rattle.std.proofs.Common.{[], ◌∷◌, length, map, codes, refl, sym, ap, ◌∙◌, subst}
use Rattle.std.specs.List.{list_all}
use Rattle.std.proofs.lemmas.Bool.{and_parts, and_from}
use Rattle.sm_tree.specs.Node.{Node, Nodes, Members, text, object, no_nodes, node, member}
use Rattle.sm_tree.specs.Parts.{tree_named}
use Rattle.sm_tree.specs.Same.{HasPair, AreDistinct}
use Rattle.sm_tree.specs.declared.path.Step.TheVariants.{Member}
use Rattle.sm_shapes.specs.Fitting.{Test}
use Rattle.sm_shapes.specs.Names.{AllDiffer}
use Rattle.sm_shapes.specs.Places.{Place, member_place, shape_of, members_of_place}
use Rattle.sm_shapes.specs.TableData.{name_at, required_at, default_at}
use Rattle.sm_shapes.specs.Values.{structure_val, fields_of}
use Rattle.sm_codec.specs.Codec.{Codec, InTable}
use Rattle.sm_codec.specs.FaultLists.{FaultAt, under, faults_in}
use Rattle.sm_codec.specs.Named.{is_null}
use Rattle.sm_codec.specs.Readings.{children_of, named_children, absent_reading, present_reading, member_reading}
use Rattle.sm_codec.specs.Readings.{member_faults, members_faults, members_fields, under_names, when_closed, structure_reading, reading}
use Rattle.sm_codec.proofs.NoFaults.{none_first, none_behind, none_joined, none_under}
use Rattle.sm_schema.specs.Equal.{trees_named}
use Rattle.sm_schema.specs.Keywords.{accepted_by, are_names}
use Rattle.sm_schema.specs.Valid.{accepts, all_hold, properties_of}
use Rattle.sm_schema.specs.Definitions.{Listing, reference}
use Rattle.sm_schema.specs.Described.{nullable_if, must_stand, name_of, schemas_under, member_schema, required_names, with_required}
use Rattle.sm_schema.specs.Described.{structure_definition}
use Rattle.sm_schema.specs.SchemaLaws.{AllTold}
use Rattle.sm_schema.proofs.Comparisons.{and_true}
use Rattle.sm_schema.proofs.LeafPlaces.{faults_settled}
use Rattle.sm_schema.proofs.Pairs.{AllPairs, of_pair, pair_of, alone_named, never_two, first_named, children_named}
use Rattle.sm_schema.proofs.PlacesListed.{IsListed, IsOne}
use Rattle.sm_schema.proofs.Instances.{root, codec, asked_by, says, IsAccepted, IsClean, referred, unreferred, null_refused, null_taken}
use Rattle.sm_schema.proofs.Instances.{other_taken}
use Rattle.sm_schema.proofs.MemberNames.{schema_found, schema_of_member, absent_clean, absent_none, present_faults}
use Rattle.sm_schema.proofs.Properties.{property_of, all_properties, each_property}

module _ (d : Listing) (test : Test) (few : length d.places < 2 ^ 64) where
  abbrev c : Codec
  c = codec d test few

  abbrev pub pass : Members → Members → Bool
  pass ms schemas = list_all (λ q. accepted_by (tree_named q.name schemas) q.value) (properties_of test (root d test few) ms)

  required_says : (refers : List ℕ → Bool) (ms beside : Members) (names : Nodes)
      → all_hold (asked_by d test few refers (object ms)) beside (with_required names) ≡ are_names names ms
  required_says refers ms beside no_nodes = refl
  required_says refers ms beside (node n names) = and_true (are_names (node n names) ms)

  structure_says : (refers : List ℕ → Bool) (ms : Members) (p : Place)
      → accepts (asked_by d test few refers (object ms)) (structure_definition d p)
      ≡ (pass ms (schemas_under d (shape_of d.table p) (member_schema d) (members_of_place d.table p))
      && are_names (required_names d (shape_of d.table p) (members_of_place d.table p)) ms)
  structure_says refers ms p =
      let schemas = schemas_under d (shape_of d.table p) (member_schema d) (members_of_place d.table p) in
      let names = required_names d (shape_of d.table p) (members_of_place d.table p) in
      ap (λ b. pass ms schemas && b)
      (required_says refers ms
      (member (codes "type") (text (codes "object")) (member (codes "properties") (object schemas) (with_required names))) names)

  -- what stands for a member
  abbrev pub trees_at : Place → Members → ℕ → List Node
  trees_at p ms k = trees_named (name_of d (shape_of d.table p) k) ms

  abbrev member_of : ℕ → List Node → List FaultAt
  member_of k ns = member_faults (member_reading (when_closed d.table) k (children_of c ns))

  stands_so : (p : Place) (ms : Members) (k : ℕ) (ns : List Node) → trees_at p ms k ≡ ns
      → member_faults (member_reading (when_closed d.table) k (under_names c p (named_children c ms) k)) ≡ member_of k ns
  stands_so p ms k ns e =
      ap (λ cs. member_faults (member_reading (when_closed d.table) k cs))
      (children_named c (name_of d (shape_of d.table p) k) ms ∙ ap (children_of c) e)

  each_member : (p : Place) (ms : Members) (ks : List ℕ) (k : ℕ) → IsOne k ks
      → members_faults d.table (when_closed d.table) (under_names c p (named_children c ms)) ks ≡ [] → member_of k (trees_at p ms k) ≡ []
  each_member p ms [] k is h = absurd is
  each_member p ms (j ∷ ks) k (inl e) h =
      let fs = member_faults (member_reading (when_closed d.table) j (under_names c p (named_children c ms) j)) in
      subst (λ x. member_of x (trees_at p ms x) ≡ []) (sym e)
      (sym (stands_so p ms j (trees_at p ms j) refl)
      ∙ none_under (Member (name_at d.table j)) fs (none_first (under (Member (name_at d.table j)) fs)
      (members_faults d.table (when_closed d.table) (under_names c p (named_children c ms)) ks) h))
  each_member p ms (j ∷ ks) k (inr is) h =
      let fs = member_faults (member_reading (when_closed d.table) j (under_names c p (named_children c ms) j)) in
      each_member p ms ks k is (none_behind (under (Member (name_at d.table j)) fs)
      (members_faults d.table (when_closed d.table) (under_names c p (named_children c ms)) ks) h)

  all_members : (p : Place) (ms : Members) (ks : List ℕ) → ((k : ℕ) → IsOne k ks → member_of k (trees_at p ms k) ≡ [])
      → members_faults d.table (when_closed d.table) (under_names c p (named_children c ms)) ks ≡ []
  all_members p ms [] h = refl
  all_members p ms (j ∷ ks) h =
      let fs = member_faults (member_reading (when_closed d.table) j (under_names c p (named_children c ms) j)) in
      none_joined (under (Member (name_at d.table j)) fs)
      (members_faults d.table (when_closed d.table) (under_names c p (named_children c ms)) ks)
      (ap (under (Member (name_at d.table j))) (stands_so p ms j (trees_at p ms j) refl ∙ h j (inl refl)))
      (all_members p ms ks (λ k is. h k (inr is)))

  -- a tree under a member's name that is no fault is accepted
  member_taken : (k : ℕ) (n : Node) → IsAccepted d test few n → InTable d.table (member_place k)
      → IsListed d.table d.places (member_place k) → member_of k (n ∷ []) ≡ [] → says d test few n (member_schema d k) ≡ true
  member_taken k n is inside listed h = by (is_null n) refl (must_stand d.table k) refl h
    where
      no : (b : Bool) → b ≡ true → b ≡ false → ⊥
      no b x y = cc

      by : (b : Bool) → is_null n ≡ b → (must : Bool) → must_stand d.table k ≡ must
          → member_faults (cond b (absent_reading (when_closed d.table k)) (present_reading (reading c n (member_place k)))) ≡ []
          → says d test few n (nullable_if (not must) (reference d (member_place k))) ≡ true
      by true e true m g = absurd (no (must_stand d.table k) m (absent_clean (default_at d.table k) (required_at d.table k) g))
      by true e false m g = null_taken d test few n (member_place k) listed e
      by false e true m g =
          referred d test few n (member_place k) is inside listed (sym (present_faults (reading c n (member_place k))) ∙ g)
      by false e false m g =
          other_taken d test few n (member_place k) e
          ∙ referred d test few n (member_place k) is inside listed (sym (present_faults (reading c n (member_place k))) ∙ g)

  -- an accepted tree under a member's name is no fault
  member_clean : (k : ℕ) (n : Node) → IsClean d test few n → InTable d.table (member_place k)
      → IsListed d.table d.places (member_place k) → AllTold d.table (member_place k) → says d test few n (member_schema d k) ≡ true
      → member_of k (n ∷ []) ≡ []
  member_clean k n is inside listed told h = by (is_null n) refl (must_stand d.table k) refl h
    where
      by : (b : Bool) → is_null n ≡ b → (must : Bool) → must_stand d.table k ≡ must
          → says d test few n (nullable_if (not must) (reference d (member_place k))) ≡ true
          → member_faults (cond b (absent_reading (when_closed d.table k)) (present_reading (reading c n (member_place k)))) ≡ []
      by true e true m g = absurd (null_refused d test few n (member_place k) listed e g)
      by true e false m g = absent_none (default_at d.table k) (required_at d.table k) m
      by false e true m g =
          present_faults (reading c n (member_place k)) ∙ unreferred d test few n (member_place k) is inside listed told g
      by false e false m g =
          present_faults (reading c n (member_place k))
          ∙ unreferred d test few n (member_place k) is inside listed told (sym (other_taken d test few n (member_place k) e) ∙ g)

  -- a member that must stand does
  stands_there : (k : ℕ) (name : List ℕ) (ms : Members) (ns : List Node) → trees_named name ms ≡ ns → member_of k ns ≡ []
      → must_stand d.table k ≡ true → is_some (tree_named name ms) ≡ true
  stands_there k name ms [] e h must = absurd (no (must_stand d.table k) must (absent_clean (default_at d.table k) (required_at d.table k) h))
    where
      no : (b : Bool) → b ≡ true → b ≡ false → ⊥
      no b x y = cc
  stands_there k name ms (n ∷ ns) e h must = ap is_some (first_named name ms (n ∷ ns) e)

  names_stand : (s : ℕ) (ms : Members) (ks : List ℕ)
      → ((k : ℕ) → IsOne k ks → must_stand d.table k ≡ true → is_some (tree_named (name_of d s k) ms) ≡ true)
      → are_names (required_names d s ks) ms ≡ true
  names_stand s ms [] h = refl
  names_stand s ms (k ∷ ks) h =
      by (must_stand d.table k) refl (names_stand s ms ks (λ j is. h j (inr is)))
    where
      by : (b : Bool) → must_stand d.table k ≡ b → are_names (required_names d s ks) ms ≡ true
          → are_names (cond b (node (text (name_of d s k)) (required_names d s ks)) (required_names d s ks)) ms ≡ true
      by true e more =
          and_from (is_some (tree_named (name_of d s k) ms)) (are_names (required_names d s ks) ms) (h k (inl refl) e) more
      by false e more = more

  name_stands : (s : ℕ) (ms : Members) (ks : List ℕ) (k : ℕ) → IsOne k ks → are_names (required_names d s ks) ms ≡ true
      → must_stand d.table k ≡ true → is_some (tree_named (name_of d s k) ms) ≡ true
  name_stands s ms [] k is h must = absurd is
  name_stands s ms (j ∷ ks) k is h must =
      by (must_stand d.table j) refl is h (λ i g. name_stands s ms ks k i g must)
    where
      no : (b : Bool) → b ≡ true → b ≡ false → ⊥
      no b x y = cc

      by : (b : Bool) → must_stand d.table j ≡ b → (k ≡ j) ⊎ IsOne k ks
          → are_names (cond b (node (text (name_of d s j)) (required_names d s ks)) (required_names d s ks)) ms ≡ true
          → (IsOne k ks → are_names (required_names d s ks) ms ≡ true → is_some (tree_named (name_of d s k) ms) ≡ true)
          → is_some (tree_named (name_of d s k) ms) ≡ true
      by true e (inl same) g more =
          subst (λ x. is_some (tree_named (name_of d s x) ms) ≡ true) (sym same)
          (and_parts (is_some (tree_named (name_of d s j) ms)) (are_names (required_names d s ks) ms) g).0
      by true e (inr i) g more =
          more i (and_parts (is_some (tree_named (name_of d s j) ms)) (are_names (required_names d s ks) ms) g).1
      by false e (inl same) g more = absurd (no (must_stand d.table j) (subst (λ x. must_stand d.table x ≡ true) same must) e)
      by false e (inr i) g more = more i g

  pub structure_accepted : (p : Place) (refers : List ℕ → Bool) (ms : Members) → AreDistinct ms → AllPairs (IsAccepted d test few) ms
      → ((k : ℕ) → IsOne k (members_of_place d.table p) → InTable d.table (member_place k) × IsListed d.table d.places (member_place k))
      → faults_in (structure_reading c p (named_children c ms)) ≡ []
      → accepts (asked_by d test few refers (object ms)) (structure_definition d p) ≡ true
  structure_accepted p refers ms distinct all within h =
      let s = shape_of d.table p in
      let ks = members_of_place d.table p in
      let stands = under_names c p (named_children c ms) in
      let none = sym (faults_settled (members_faults d.table (when_closed d.table) stands ks)
      (structure_val (fields_of (members_fields (when_closed d.table) stands ks)))) ∙ h in
      structure_says refers ms p
      ∙ and_from (pass ms (schemas_under d s (member_schema d) ks)) (are_names (required_names d s ks) ms)
      (all_properties test (root d test few) (λ q. accepted_by (tree_named q.name (schemas_under d s (member_schema d) ks)) q.value) ms
      (λ name n is. pair_taken name n is none (schema_found d s (member_schema d) ks name)))
      (names_stand s ms ks (λ k is must. stands_there k (name_of d s k) ms (trees_at p ms k) refl (each_member p ms ks k is none) must))
    where
      pair_taken : (name : List ℕ) (n : Node) → HasPair name n ms
          → members_faults d.table (when_closed d.table) (under_names c p (named_children c ms)) (members_of_place d.table p) ≡ []
          → (tree_named name (schemas_under d (shape_of d.table p) (member_schema d) (members_of_place d.table p)) ≡ None)
          ⊎ ((k : ℕ) × IsOne k (members_of_place d.table p) × (name_of d (shape_of d.table p) k ≡ name)
          × (tree_named name (schemas_under d (shape_of d.table p) (member_schema d) (members_of_place d.table p))
          ≡ Some (member_schema d k)))
          → accepted_by (tree_named name (schemas_under d (shape_of d.table p) (member_schema d) (members_of_place d.table p)))
          (property_of test (root d test few) name n).value ≡ true
      pair_taken name n is none (inl e) = ap (λ o. accepted_by o (property_of test (root d test few) name n).value) e
      pair_taken name n is none (inr (k, one, same, e)) =
          ap (λ o. accepted_by o (property_of test (root d test few) name n).value) e
          ∙ member_taken k n (of_pair (IsAccepted d test few) name n ms all is) (within k one).0 (within k one).1
          (subst (λ ns. member_of k ns ≡ []) (ap (λ x. trees_named x ms) same ∙ alone_named name n ms distinct is)
          (each_member p ms (members_of_place d.table p) k one none))

  pub structure_clean : (p : Place) (refers : List ℕ → Bool) (ms : Members) → AreDistinct ms → AllPairs (IsClean d test few) ms
      → AllDiffer (map (name_of d (shape_of d.table p)) (members_of_place d.table p))
      → ((k : ℕ) → IsOne k (members_of_place d.table p) → InTable d.table (member_place k) × IsListed d.table d.places (member_place k)
      × AllTold d.table (member_place k))
      → accepts (asked_by d test few refers (object ms)) (structure_definition d p) ≡ true
      → faults_in (structure_reading c p (named_children c ms)) ≡ []
  structure_clean p refers ms distinct all differ within h =
      let s = shape_of d.table p in
      let ks = members_of_place d.table p in
      let stands = under_names c p (named_children c ms) in
      let w = and_parts (pass ms (schemas_under d s (member_schema d) ks)) (are_names (required_names d s ks) ms)
      (sym (structure_says refers ms p) ∙ h) in
      faults_settled (members_faults d.table (when_closed d.table) stands ks)
      (structure_val (fields_of (members_fields (when_closed d.table) stands ks)))
      ∙ all_members p ms ks (λ k is. by k is w.0 (λ must. name_stands s ms ks k is w.1 must) (trees_at p ms k) refl)
    where
      no : (b : Bool) → b ≡ true → b ≡ false → ⊥
      no b x y = cc

      must_not : (k : ℕ) (b : Bool) → must_stand d.table k ≡ b → (must_stand d.table k ≡ true → ⊥) → must_stand d.table k ≡ false
      must_not k true e h = absurd (h e)
      must_not k false e h = e

      by : (k : ℕ) → IsOne k (members_of_place d.table p)
          → pass ms (schemas_under d (shape_of d.table p) (member_schema d) (members_of_place d.table p)) ≡ true
          → (must_stand d.table k ≡ true → is_some (tree_named (name_of d (shape_of d.table p) k) ms) ≡ true)
          → (ns : List Node) → trees_at p ms k ≡ ns → member_of k ns ≡ []
      by k is passes required [] e =
          absent_none (default_at d.table k) (required_at d.table k)
          (must_not k (must_stand d.table k) refl
          (λ must. no (is_some (tree_named (name_of d (shape_of d.table p) k) ms)) (required must)
          (ap is_some (first_named (name_of d (shape_of d.table p) k) ms [] e))))
      by k is passes required (n ∷ []) e =
          let name = name_of d (shape_of d.table p) k in
          let schemas = schemas_under d (shape_of d.table p) (member_schema d) (members_of_place d.table p) in
          let pair = pair_of name n [] ms e in
          member_clean k n (of_pair (IsClean d test few) name n ms all pair) (within k is).0 (within k is).1 (within k is).2
          (sym (ap (λ o. accepted_by o (property_of test (root d test few) name n).value)
          (schema_of_member d (shape_of d.table p) (member_schema d) (members_of_place d.table p) k differ is))
          ∙ each_property test (root d test few) (λ q. accepted_by (tree_named q.name schemas) q.value) ms passes name n pair)
      by k is passes required (n ∷ m ∷ ns) e = absurd (never_two (name_of d (shape_of d.table p) k) n m ns ms distinct e)
