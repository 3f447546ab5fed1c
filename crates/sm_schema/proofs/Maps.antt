-- An object at a place of maps: without a fault it is accepted, and accepted it has none.
use Rattle.std.proofs.Common.{◌≡◌, inl, inr, ℕ, ◌^◌, ◌<◌, ℤ, pos, Bool, true, false, ◌&&◌, ◌||◌, cond, Option, Some, None, is_some}
use Rattle.std.proofs.Common.{List, [], ◌∷◌, ◌++◌, length, codes, refl, sym, ap, ◌∙◌, subst}
use Rattle.std.specs.Prelude.{Ok, Err, IsUtf8}
use Rattle.std.specs.List.{list_all}
use Rattle.std.specs.Str.{is_utf8}
use Rattle.std.proofs.lemmas.Bool.{and_parts, and_from}
use Rattle.sm_tree.specs.Json.{AreJsonMembers}
use Rattle.sm_tree.specs.Node.{Node, Members, text, object, no_members, member}
use Rattle.sm_tree.specs.Parts.{tree_named}
use Rattle.sm_tree.specs.Same.{HasPair, AreDistinct}
use Rattle.sm_tree.specs.declared.path.Step.TheVariants.{Key}
use Rattle.sm_shapes.specs.Broken.{is_at_least, is_at_most, is_between, length_broken}
use Rattle.sm_shapes.specs.Fitting.{Test}
use Rattle.sm_shapes.specs.InOrder.{IsTextKind}
use Rattle.sm_shapes.specs.Places.{Place, kind_of, constraints_of, format_of, sparse_of, key_place, value_place}
use Rattle.sm_shapes.specs.Values.{text_val, map_val, entries_of}
use Rattle.sm_shapes.specs.declared.kinds.ShapeKind.{ShapeKind}
use Rattle.sm_shapes.specs.declared.kinds.ShapeKind.TheVariants as kinds
use Rattle.sm_shapes.specs.declared.fault.FaultKind.TheVariants.{Length, WrongType}
use Rattle.sm_codec.specs.Codec.{Codec, InTable, broken_at}
use Rattle.sm_codec.specs.FaultLists.{here, under, Reading, faults_in}
use Rattle.sm_codec.specs.Named.{named, names_of, in_byte_order}
use Rattle.sm_codec.specs.Readings.{Child, child_of, children_of, named_children, entry_reading, key_faults, pair_faults, keys_faults}
use Rattle.sm_codec.specs.Readings.{pairs_faults, pairs_values, map_faults, map_reading, leaf_by, leaf_reading, one_here}
use Rattle.sm_codec.specs.Sorts.{sort_by}
use Rattle.sm_codec.proofs.KeyOrder.{IsIn, ordered_is, is_ordered}
use Rattle.sm_codec.proofs.NoFaults.{none_first, none_behind, none_joined, none_under, none_here}
use Rattle.sm_schema.specs.Equal.{count_pairs}
use Rattle.sm_schema.specs.Keywords.{schemas_of}
use Rattle.sm_schema.specs.Valid.{accepts, all_hold, asked, leaf_instance, properties_of}
use Rattle.sm_schema.specs.Definitions.{Listing, reference}
use Rattle.sm_schema.specs.Described.{with_bound, map_definition, nullable_if}
use Rattle.sm_schema.specs.SchemaLaws.{AllTold}
use Rattle.sm_schema.proofs.Comparisons.{and_true, ints_le}
use Rattle.sm_schema.proofs.LeafDefinitions.{nil_unless, nil_is, is_nil_of}
use Rattle.sm_schema.proofs.LeafPlaces.{faults_settled, leaf_accepted, leaf_spelled, IsOther}
use Rattle.sm_schema.proofs.Pairs.{AllPairs, of_pair, alone_named, children_named}
use Rattle.sm_schema.proofs.PlacesListed.{IsListed}
use Rattle.sm_schema.proofs.References.{behind, refers_to}
use Rattle.sm_schema.proofs.Instances.{root, codec, asked_by, IsAccepted, IsClean, entry_accepted, entry_clean}
use Rattle.sm_schema.proofs.Properties.{all_properties, each_property, among_names, pair_among, ordered_length}

module _ (d : Listing) (test : Test) (few : length d.places < 2 ^ 64) where
  abbrev c : Codec
  c = codec d test few

  abbrev at_object : (List ℕ → Bool) → Members → Members → Members → Bool
  at_object refers ms beside keywords = all_hold (asked_by d test few refers (object ms)) beside keywords

  least_pairs : (refers : List ℕ → Bool) (ms beside more : Members) (o : Option ℤ)
      → at_object refers ms beside (with_bound (codes "minProperties") o more)
      ≡ (is_at_least o (pos (count_pairs ms)) && at_object refers ms beside more)
  least_pairs refers ms beside more None = refl
  least_pairs refers ms beside more (Some z) = ap (λ b. b && at_object refers ms beside more) (ints_le z (pos (count_pairs ms)))

  greatest_pairs : (refers : List ℕ → Bool) (ms beside more : Members) (o : Option ℤ)
      → at_object refers ms beside (with_bound (codes "maxProperties") o more)
      ≡ (is_at_most o (pos (count_pairs ms)) && at_object refers ms beside more)
  greatest_pairs refers ms beside more None = refl
  greatest_pairs refers ms beside more (Some z) = ap (λ b. b && at_object refers ms beside more) (ints_le (pos (count_pairs ms)) z)

  abbrev names_pass : Members → Node → Bool
  names_pass ms schema = list_all (λ q. q.name_accepted schema) (properties_of test (root d test few) ms)

  abbrev values_pass : Members → Node → Bool
  values_pass ms schema = list_all (λ q. q.value.accepted schema) (properties_of test (root d test few) ms)

  -- "properties" doesn't stand beside
  no_properties : (a names values : Node) (min max : Option ℤ)
      → tree_named (codes "properties") (member (codes "type") a (member (codes "propertyNames") names
      (member (codes "additionalProperties") values
      (with_bound (codes "minProperties") min (with_bound (codes "maxProperties") max no_members))))) ≡ None
  no_properties a names values None None = refl
  no_properties a names values None (Some z) = refl
  no_properties a names values (Some y) None = refl
  no_properties a names values (Some y) (Some z) = refl

  parts : (a b l m x y : Bool) → x ≡ (l && y) → y ≡ (m && true) → (a && (b && x)) ≡ (a && (b && (l && m)))
  parts a b l m x y h g = ap (λ z. a && (b && z)) (h ∙ ap (λ z. l && z) (g ∙ and_true m))

  pub map_says : (refers : List ℕ → Bool) (ms : Members) (p : Place)
      → accepts (asked_by d test few refers (object ms)) (map_definition d p)
      ≡ (names_pass ms (reference d (key_place d.table p))
      && (values_pass ms (nullable_if (sparse_of d.table p) (reference d (value_place d.table p)))
      && is_between (constraints_of d.table p) (pos (count_pairs ms))))
  map_says refers ms p =
      let held = constraints_of d.table p in
      let names = reference d (key_place d.table p) in
      let values = nullable_if (sparse_of d.table p) (reference d (value_place d.table p)) in
      let most = with_bound (codes "maxProperties") held.max no_members in
      let least = with_bound (codes "minProperties") held.min most in
      let all = member (codes "type") (text (codes "object")) (member (codes "propertyNames") names
      (member (codes "additionalProperties") values least)) in
      ap (λ o. names_pass ms names
      && (list_all (λ q. is_some (tree_named q.name (schemas_of o)) || q.value.accepted values) (properties_of test (root d test few) ms)
      && at_object refers ms all least)) (no_properties (text (codes "object")) names values held.min held.max)
      ∙ parts (names_pass ms names) (values_pass ms values) (is_at_least held.min (pos (count_pairs ms)))
      (is_at_most held.max (pos (count_pairs ms))) (at_object refers ms all least) (at_object refers ms all most)
      (least_pairs refers ms all most held.min) (greatest_pairs refers ms all no_members held.max)

  -- keys
  abbrev key_at : Place → Place
  key_at p = key_place d.table p

  key_same : (q : Place) (u : List ℕ) (b : Bool)
      → faults_in (leaf_reading c q (cond b (Ok (text_val u)) (Err WrongType)))
      ≡ cond b (here (broken_at c q (text_val u))) (one_here WrongType)
  key_same q u true = faults_settled (here (broken_at c q (text_val u))) (text_val u)
  key_same q u false = refl

  key_leaf : (p : Place) (u : List ℕ) (kind : ShapeKind) → IsTextKind kind
      → faults_in (leaf_by (sort_by kind (format_of d.table (key_at p))) c (key_at p) (text u)) ≡ key_faults c p u
  key_leaf p u kind (inl e) =
      subst (λ k. faults_in (leaf_by (sort_by k (format_of d.table (key_at p))) c (key_at p) (text u)) ≡ key_faults c p u) (sym e)
      (key_same (key_at p) u (is_utf8 u))
  key_leaf p u kind (inr e) =
      subst (λ k. faults_in (leaf_by (sort_by k (format_of d.table (key_at p))) c (key_at p) (text u)) ≡ key_faults c p u) (sym e)
      (key_same (key_at p) u (is_utf8 u))

  name_taken : (p : Place) (u : List ℕ) → IsTextKind (kind_of d.table (key_at p)) → IsListed d.table d.places (key_at p)
      → key_faults c p u ≡ [] → accepts (asked test (root d test few) (leaf_instance (text u))) (reference d (key_at p)) ≡ true
  name_taken p u texts listed h =
      refers_to d test few (leaf_instance (text u)) (key_at p) listed
      ∙ leaf_accepted d test (key_at p) (behind d test few (leaf_instance (text u))).refers [] [] (kind_of d.table (key_at p)) (text u) refl
      (key_leaf p u (kind_of d.table (key_at p)) texts ∙ h)

  not_other : (kind other : ShapeKind) → IsTextKind kind → (kinds.Text ≡ other → ⊥) → (kinds.Enum ≡ other → ⊥) → kind ≡ other → ⊥
  not_other kind other (inl e) a b h = a (sym e ∙ h)
  not_other kind other (inr e) a b h = b (sym e ∙ h)

  text_no_blob : kinds.Text ≡ kinds.Blob → ⊥
  text_no_blob h = cc

  enum_no_blob : kinds.Enum ≡ kinds.Blob → ⊥
  enum_no_blob h = cc

  text_no_time : kinds.Text ≡ kinds.Timestamp → ⊥
  text_no_time h = cc

  enum_no_time : kinds.Enum ≡ kinds.Timestamp → ⊥
  enum_no_time h = cc

  is_other : (kind : ShapeKind) (u : List ℕ) → IsTextKind kind → IsOther kind (text u)
  is_other kind u (inl e) = subst (λ k. IsOther k (text u)) (sym e) tt
  is_other kind u (inr e) = subst (λ k. IsOther k (text u)) (sym e) tt

  name_clean : (p : Place) (u : List ℕ) → IsTextKind (kind_of d.table (key_at p)) → IsListed d.table d.places (key_at p) → IsUtf8 u
      → accepts (asked test (root d test few) (leaf_instance (text u))) (reference d (key_at p)) ≡ true → key_faults c p u ≡ []
  name_clean p u texts listed utf8 h =
      let kind = kind_of d.table (key_at p) in
      sym (key_leaf p u kind texts)
      ∙ leaf_spelled d test (key_at p) (behind d test few (leaf_instance (text u))).refers [] [] kind (text u) refl
      (not_other kind kinds.Blob texts text_no_blob enum_no_blob) (not_other kind kinds.Timestamp texts text_no_time enum_no_time)
      (is_other kind u texts) utf8 tt (sym (refers_to d test few (leaf_instance (text u)) (key_at p) listed) ∙ h)

  -- the faults of each key
  keys_at : (p : Place) (ps : List (List ℕ × Child)) (keys : List (List ℕ)) (key : List ℕ) → IsIn key keys
      → keys_faults c p ps keys ≡ [] → pair_faults c p key (named key ps) ≡ []
  keys_at p ps [] key is h = absurd is
  keys_at p ps (k ∷ keys) key (inl e) h =
      let fs = under (Key k) (pair_faults c p k (named k ps)) in
      subst (λ x. pair_faults c p x (named x ps) ≡ []) (sym e)
      (none_under (Key k) (pair_faults c p k (named k ps)) (none_first fs (keys_faults c p ps keys) h))
  keys_at p ps (k ∷ keys) key (inr is) h =
      keys_at p ps keys key is (none_behind (under (Key k) (pair_faults c p k (named k ps))) (keys_faults c p ps keys) h)

  keys_clean : (p : Place) (ps : List (List ℕ × Child)) (keys : List (List ℕ))
      → ((key : List ℕ) → IsIn key keys → pair_faults c p key (named key ps) ≡ []) → keys_faults c p ps keys ≡ []
  keys_clean p ps [] h = refl
  keys_clean p ps (k ∷ keys) h =
      none_joined (under (Key k) (pair_faults c p k (named k ps))) (keys_faults c p ps keys) (ap (under (Key k)) (h k (inl refl)))
      (keys_clean p ps keys (λ key is. h key (inr is)))

  abbrev value_at : Place → Node → Reading
  value_at p n = entry_reading (sparse_of d.table p) (value_place d.table p) (child_of c n)

  -- a pair of an object in which no name repeats
  one_pair : (p : Place) (ms : Members) (name : List ℕ) (n : Node) → AreDistinct ms → HasPair name n ms
      → pair_faults c p name (named name (named_children c ms)) ≡ (key_faults c p name ++ faults_in (value_at p n))
  one_pair p ms name n distinct is =
      ap (pair_faults c p name) (children_named c name ms ∙ ap (children_of c) (alone_named name n ms distinct is))

  pub map_accepted : (p : Place) (refers : List ℕ → Bool) (ms : Members) → IsTextKind (kind_of d.table (key_at p)) → AreDistinct ms
      → AllPairs (IsAccepted d test few) ms → InTable d.table (value_place d.table p) → IsListed d.table d.places (key_at p)
      → IsListed d.table d.places (value_place d.table p) → faults_in (map_reading c p (named_children c ms)) ≡ []
      → accepts (asked_by d test few refers (object ms)) (map_definition d p) ≡ true
  map_accepted p refers ms texts distinct all inside key_listed value_listed h =
      let ps = named_children c ms in
      let lengths = here (length_broken (constraints_of d.table p) (length (in_byte_order (names_of ps)))) in
      let none = sym (faults_settled (map_faults c p ps) (map_val (entries_of (pairs_values c p ps)))) ∙ h in
      let pairs = none_first (pairs_faults c p ps) lengths none in
      let long = none_here (length_broken (constraints_of d.table p) (length (in_byte_order (names_of ps))))
      (none_behind (pairs_faults c p ps) lengths none) in
      let each : (name : List ℕ) (n : Node) → HasPair name n ms → key_faults c p name ++ faults_in (value_at p n) ≡ [] =
      λ name n is. sym (one_pair p ms name n distinct is)
      ∙ keys_at p ps (in_byte_order (names_of ps)) name (is_ordered name (names_of ps) (among_names c name n ms is)) pairs in
      map_says refers ms p
      ∙ and_from (names_pass ms (reference d (key_at p))) _
      (all_properties test (root d test few) (λ q. q.name_accepted (reference d (key_at p))) ms
      (λ name n is. name_taken p name texts key_listed (none_first (key_faults c p name) (faults_in (value_at p n)) (each name n is))))
      (and_from (values_pass ms (nullable_if (sparse_of d.table p) (reference d (value_place d.table p)))) _
      (all_properties test (root d test few)
      (λ q. q.value.accepted (nullable_if (sparse_of d.table p) (reference d (value_place d.table p)))) ms
      (λ name n is. entry_accepted d test few (sparse_of d.table p) n (value_place d.table p)
      (of_pair (IsAccepted d test few) name n ms all is) inside value_listed
      (none_behind (key_faults c p name) (faults_in (value_at p n)) (each name n is))))
      (sym (nil_unless (is_between (constraints_of d.table p) (pos (count_pairs ms))) Length)
      ∙ is_nil_of (length_broken (constraints_of d.table p) (count_pairs ms))
      (ap (length_broken (constraints_of d.table p)) (sym (ordered_length c ms distinct)) ∙ long)))

  utf8_name : (ms : Members) (name : List ℕ) (n : Node) → AreJsonMembers ms → HasPair name n ms → IsUtf8 name
  utf8_name no_members name n json is = absurd is
  utf8_name (member k m ms) name n json (inl e) = subst IsUtf8 (sym e.0) json.0
  utf8_name (member k m ms) name n json (inr is) = utf8_name ms name n json.2 is

  pub map_clean : (p : Place) (refers : List ℕ → Bool) (ms : Members) → IsTextKind (kind_of d.table (key_at p)) → AreDistinct ms
      → AreJsonMembers ms → AllPairs (IsClean d test few) ms → InTable d.table (value_place d.table p)
      → IsListed d.table d.places (key_at p) → IsListed d.table d.places (value_place d.table p) → AllTold d.table (value_place d.table p)
      → accepts (asked_by d test few refers (object ms)) (map_definition d p) ≡ true
      → faults_in (map_reading c p (named_children c ms)) ≡ []
  map_clean p refers ms texts distinct json all inside key_listed value_listed told h =
      let ps = named_children c ms in
      let key_schema = reference d (key_at p) in
      let value_schema = nullable_if (sparse_of d.table p) (reference d (value_place d.table p)) in
      let one = and_parts (names_pass ms key_schema) _ (sym (map_says refers ms p) ∙ h) in
      let two = and_parts (values_pass ms value_schema) (is_between (constraints_of d.table p) (pos (count_pairs ms))) one.1 in
      let each : (name : List ℕ) (n : Node) → HasPair name n ms → pair_faults c p name (named name ps) ≡ [] =
      λ name n is. one_pair p ms name n distinct is
      ∙ none_joined (key_faults c p name) (faults_in (value_at p n))
      (name_clean p name texts key_listed (utf8_name ms name n json is)
      (each_property test (root d test few) (λ q. q.name_accepted key_schema) ms one.0 name n is))
      (entry_clean d test few (sparse_of d.table p) n (value_place d.table p) (of_pair (IsClean d test few) name n ms all is) inside
      value_listed told (each_property test (root d test few) (λ q. q.value.accepted value_schema) ms two.0 name n is)) in
      faults_settled (map_faults c p ps) (map_val (entries_of (pairs_values c p ps)))
      ∙ none_joined (pairs_faults c p ps) (here (length_broken (constraints_of d.table p) (length (in_byte_order (names_of ps)))))
      (keys_clean p ps (in_byte_order (names_of ps))
      (λ key is. let found = pair_among c key ms (ordered_is key (names_of ps) is) in each key found.0 found.1))
      (ap here (ap (length_broken (constraints_of d.table p)) (ordered_length c ms distinct)
      ∙ nil_is (length_broken (constraints_of d.table p) (count_pairs ms))
      (nil_unless (is_between (constraints_of d.table p) (pos (count_pairs ms))) Length ∙ two.1)))
