-- The laws of schemas: by induction on the tree, over all places that have a definition.
use Rattle.std.proofs.Common.{◌≡◌, inl, inr, ℕ, ◌^◌, ◌<◌, Bool, true, false, List, [], ◌∷◌, length, map, refl, sym, ap, ◌∙◌}
use Rattle.std.proofs.Common.{subst, codes, slice_index_or}
use Rattle.sm_tree.specs.Json.{IsJson, AreJson, AreJsonMembers}
use Rattle.sm_tree.specs.Node.{Node, Nodes, Members, null, bool, int, number, text, bytes, tag, opaque, list, object, no_nodes, node}
use Rattle.sm_tree.specs.Node.{no_members, member}
use Rattle.sm_tree.specs.Same.{HasDistinctNames, HaveDistinctNames, AreDistinct}
use Rattle.sm_shapes.specs.Fitting.{Test}
use Rattle.sm_shapes.specs.InOrder.{Shaped, DefaultsPass, HasItsMembers}
use Rattle.sm_shapes.specs.Names.{AllDiffer}
use Rattle.sm_shapes.specs.Places.{Place, root_place, member_place, shape_of, kind_of, members_of_place, format_of}
use Rattle.sm_shapes.specs.declared.kinds.ShapeKind.{ShapeKind}
use Rattle.sm_shapes.specs.declared.kinds.ShapeKind.TheVariants as kinds
use Rattle.sm_codec.specs.Codec.{Codec, InTable}
use Rattle.sm_codec.specs.FaultLists.{faults_in}
use Rattle.sm_codec.specs.Readings.{children, named_children, leaf_by, list_by, object_by}
use Rattle.sm_codec.specs.Sorts.{sort_by}
use Rattle.sm_codec.proofs.JsonLaws.{json_laws}
use Rattle.sm_codec.proofs.PlacesIn.{shape_in, members_stand, entry_in, value_in, key_text}
use Rattle.sm_schema.specs.Keywords.{is_of_type}
use Rattle.sm_tree.specs.Size.{node_size}
use Rattle.sm_shapes.specs.TableData.{TableData}
use Rattle.sm_schema.specs.Valid.{accepts, is_valid, refers_by, instance_of, elements_of, properties_of}
use Rattle.sm_schema.specs.Definitions.{Listed, Listing}
use Rattle.sm_schema.specs.Described.{definition, definition_by, name_of, schema_tree, IsSchema}
use Rattle.sm_schema.specs.SchemaLaws.{AllTold, HasNoNumber, HaveNoNumber, HaveNoNumberUnder}
use Rattle.sm_schema.specs.SchemaLaws.{HasFew, SpelledIsValid, ValidIsSpelled, OneSchema}
use Rattle.sm_schema.proofs.Instances.{codec, asked_by, IsAccepted, IsClean}
use Rattle.sm_schema.proofs.LeafPlaces.{leaf_accepted, leaf_spelled, IsOther}
use Rattle.sm_schema.proofs.LeafDefinitions.{asked_of}
use Rattle.sm_schema.proofs.Lists.{list_accepted, list_clean}
use Rattle.sm_schema.proofs.Maps.{map_accepted, map_clean}
use Rattle.sm_schema.proofs.MemberNames.{one_contained, one_in_table}
use Rattle.sm_schema.proofs.Pairs.{AllNodes, AllPairs}
use Rattle.sm_schema.proofs.PlacesListed.{IsListed, IsOne, root_listed, member_listed, first_listed, listed_once}
use Rattle.sm_schema.proofs.References.{whole_says}
use Rattle.sm_schema.proofs.Structures.{structure_accepted, structure_clean}
use Rattle.sm_schema.proofs.Unions.{union_accepted, union_clean}

-- a leaf is of no type of a kind with parts
other_of : (n : Node) → is_of_type (codes "array") n ≡ false → is_of_type (codes "object") n ≡ false → (kind : ShapeKind) → IsOther kind n
other_of n a o kinds.Blob = tt
other_of n a o kinds.Boolean = tt
other_of n a o kinds.Text = tt
other_of n a o kinds.Enum = tt
other_of n a o kinds.Byte = tt
other_of n a o kinds.Short = tt
other_of n a o kinds.Integer = tt
other_of n a o kinds.IntEnum = tt
other_of n a o kinds.Long = tt
other_of n a o kinds.Timestamp = tt
other_of n a o kinds.List = a
other_of n a o kinds.Map = o
other_of n a o kinds.Structure = o
other_of n a o kinds.Union = o
other_of n a o kinds.LeftOut = tt

module _ (d : Listing) (test : Test) (few : length d.places < 2 ^ 64) (turns s : ℕ) (shaped : Shaped d.table)
    (listed : Listed d.table turns (root_place s ∷ []) 0 d.places) where
  abbrev c : Codec
  c = codec d test few

  entry_one : (ks : List ℕ) → HasItsMembers d.table kinds.List ks → IsOne (slice_index_or ks 0 0) ks
  entry_one [] h = absurd h
  entry_one (k ∷ []) h = inl refl
  entry_one (j ∷ k ∷ ks) h = absurd h

  pair_ones : (ks : List ℕ) → HasItsMembers d.table kinds.Map ks → IsOne (slice_index_or ks 0 0) ks × IsOne (slice_index_or ks 1 0) ks
  pair_ones [] h = absurd h
  pair_ones (k ∷ []) h = absurd h
  pair_ones (j ∷ k ∷ []) h = (inl refl, inr (inl refl))
  pair_ones (j ∷ k ∷ l ∷ ks) h = absurd h

  own : (p : Place) (kind : ShapeKind) → InTable d.table p → kind_of d.table p ≡ kind → HasItsMembers d.table kind (members_of_place d.table p)
  own p kind inside e =
      subst (λ x. HasItsMembers d.table x (members_of_place d.table p)) e
      (shaped.own (shape_of d.table p) (shape_in d.table p shaped inside))

  within : (p : Place) → InTable d.table p → IsListed d.table d.places p → (k : ℕ) → IsOne k (members_of_place d.table p)
      → InTable d.table (member_place k) × IsListed d.table d.places (member_place k)
  within p inside is k one = (
    one_in_table d.table (shape_of d.table p) k (members_of_place d.table p) (members_stand d.table p shaped inside) one,
    member_listed d.table turns s d.places listed p k is one,
  )

  told_within : (p : Place) (k : ℕ) → AllTold d.table p → IsOne k (members_of_place d.table p) → AllTold d.table (member_place k)
  told_within p k told one ks q leads = told (k ∷ ks) q (one_contained k (members_of_place d.table p) one, leads)

  differ : (p : Place) → InTable d.table p → AllDiffer (map (name_of d (shape_of d.table p)) (members_of_place d.table p))
  differ p inside = (json_laws d.json_names).names d.table shaped (shape_of d.table p) (shape_in d.table p shaped inside)

  module _ (defaults : DefaultsPass d.table test) where
    list_kind : (p : Place) (refers : List ℕ → Bool) (ns : Nodes) (kind : ShapeKind) → kind_of d.table p ≡ kind → InTable d.table p
        → IsListed d.table d.places p → AllNodes (IsAccepted d test few) ns
        → faults_in (list_by (sort_by kind (format_of d.table p)) c p (list ns) (children c ns)) ≡ []
        → accepts (asked_by d test few refers (list ns)) (definition_by kind d p) ≡ true
    list_kind p refers ns kinds.List e inside is all h =
        list_accepted d test few p refers ns shaped defaults all (entry_in d.table p shaped inside e)
        (within p inside is (slice_index_or (members_of_place d.table p) 0 0) (entry_one (members_of_place d.table p) (own p kinds.List inside e))).1 h
    list_kind p refers ns kinds.Blob e inside is all h =
        leaf_accepted d test p refers (elements_of test (schema_tree d) ns) [] kinds.Blob (list ns) e h
    list_kind p refers ns kinds.Boolean e inside is all h =
        leaf_accepted d test p refers (elements_of test (schema_tree d) ns) [] kinds.Boolean (list ns) e h
    list_kind p refers ns kinds.Text e inside is all h =
        leaf_accepted d test p refers (elements_of test (schema_tree d) ns) [] kinds.Text (list ns) e h
    list_kind p refers ns kinds.Enum e inside is all h =
        leaf_accepted d test p refers (elements_of test (schema_tree d) ns) [] kinds.Enum (list ns) e h
    list_kind p refers ns kinds.Byte e inside is all h =
        leaf_accepted d test p refers (elements_of test (schema_tree d) ns) [] kinds.Byte (list ns) e h
    list_kind p refers ns kinds.Short e inside is all h =
        leaf_accepted d test p refers (elements_of test (schema_tree d) ns) [] kinds.Short (list ns) e h
    list_kind p refers ns kinds.Integer e inside is all h =
        leaf_accepted d test p refers (elements_of test (schema_tree d) ns) [] kinds.Integer (list ns) e h
    list_kind p refers ns kinds.IntEnum e inside is all h =
        leaf_accepted d test p refers (elements_of test (schema_tree d) ns) [] kinds.IntEnum (list ns) e h
    list_kind p refers ns kinds.Long e inside is all h =
        leaf_accepted d test p refers (elements_of test (schema_tree d) ns) [] kinds.Long (list ns) e h
    list_kind p refers ns kinds.Timestamp e inside is all h =
        leaf_accepted d test p refers (elements_of test (schema_tree d) ns) [] kinds.Timestamp (list ns) e h
    list_kind p refers ns kinds.Map e inside is all h =
        leaf_accepted d test p refers (elements_of test (schema_tree d) ns) [] kinds.Map (list ns) e h
    list_kind p refers ns kinds.Structure e inside is all h =
        leaf_accepted d test p refers (elements_of test (schema_tree d) ns) [] kinds.Structure (list ns) e h
    list_kind p refers ns kinds.Union e inside is all h =
        leaf_accepted d test p refers (elements_of test (schema_tree d) ns) [] kinds.Union (list ns) e h
    list_kind p refers ns kinds.LeftOut e inside is all h =
        leaf_accepted d test p refers (elements_of test (schema_tree d) ns) [] kinds.LeftOut (list ns) e h

    object_kind : (p : Place) (refers : List ℕ → Bool) (ms : Members) (kind : ShapeKind) → kind_of d.table p ≡ kind → InTable d.table p
        → IsListed d.table d.places p → AreDistinct ms → AllPairs (IsAccepted d test few) ms
        → faults_in (object_by (sort_by kind (format_of d.table p)) c p (object ms) (named_children c ms)) ≡ []
        → accepts (asked_by d test few refers (object ms)) (definition_by kind d p) ≡ true
    object_kind p refers ms kinds.Map e inside is distinct all h =
        let ones = pair_ones (members_of_place d.table p) (own p kinds.Map inside e) in
        map_accepted d test few p refers ms (key_text d.table p shaped inside e) distinct all (value_in d.table p shaped inside e)
        (within p inside is (slice_index_or (members_of_place d.table p) 0 0) ones.0).1
        (within p inside is (slice_index_or (members_of_place d.table p) 1 0) ones.1).1 h
    object_kind p refers ms kinds.Structure e inside is distinct all h =
        structure_accepted d test few p refers ms distinct all (within p inside is) h
    object_kind p refers ms kinds.Union e inside is distinct all h =
        union_accepted d test few p refers ms distinct all (within p inside is) h
    object_kind p refers ms kinds.Blob e inside is distinct all h =
        leaf_accepted d test p refers [] (properties_of test (schema_tree d) ms) kinds.Blob (object ms) e h
    object_kind p refers ms kinds.Boolean e inside is distinct all h =
        leaf_accepted d test p refers [] (properties_of test (schema_tree d) ms) kinds.Boolean (object ms) e h
    object_kind p refers ms kinds.Text e inside is distinct all h =
        leaf_accepted d test p refers [] (properties_of test (schema_tree d) ms) kinds.Text (object ms) e h
    object_kind p refers ms kinds.Enum e inside is distinct all h =
        leaf_accepted d test p refers [] (properties_of test (schema_tree d) ms) kinds.Enum (object ms) e h
    object_kind p refers ms kinds.Byte e inside is distinct all h =
        leaf_accepted d test p refers [] (properties_of test (schema_tree d) ms) kinds.Byte (object ms) e h
    object_kind p refers ms kinds.Short e inside is distinct all h =
        leaf_accepted d test p refers [] (properties_of test (schema_tree d) ms) kinds.Short (object ms) e h
    object_kind p refers ms kinds.Integer e inside is distinct all h =
        leaf_accepted d test p refers [] (properties_of test (schema_tree d) ms) kinds.Integer (object ms) e h
    object_kind p refers ms kinds.IntEnum e inside is distinct all h =
        leaf_accepted d test p refers [] (properties_of test (schema_tree d) ms) kinds.IntEnum (object ms) e h
    object_kind p refers ms kinds.Long e inside is distinct all h =
        leaf_accepted d test p refers [] (properties_of test (schema_tree d) ms) kinds.Long (object ms) e h
    object_kind p refers ms kinds.Timestamp e inside is distinct all h =
        leaf_accepted d test p refers [] (properties_of test (schema_tree d) ms) kinds.Timestamp (object ms) e h
    object_kind p refers ms kinds.List e inside is distinct all h =
        leaf_accepted d test p refers [] (properties_of test (schema_tree d) ms) kinds.List (object ms) e h
    object_kind p refers ms kinds.LeftOut e inside is distinct all h =
        leaf_accepted d test p refers [] (properties_of test (schema_tree d) ms) kinds.LeftOut (object ms) e h

    mutual
      accepted : (n : Node) → HasDistinctNames n → IsAccepted d test few n
      accepted null distinct p refers inside is h = leaf_accepted d test p refers [] [] (kind_of d.table p) null refl h
      accepted (bool b) distinct p refers inside is h = leaf_accepted d test p refers [] [] (kind_of d.table p) (bool b) refl h
      accepted (int z) distinct p refers inside is h = leaf_accepted d test p refers [] [] (kind_of d.table p) (int z) refl h
      accepted (number u) distinct p refers inside is h = leaf_accepted d test p refers [] [] (kind_of d.table p) (number u) refl h
      accepted (text u) distinct p refers inside is h = leaf_accepted d test p refers [] [] (kind_of d.table p) (text u) refl h
      accepted (bytes u) distinct p refers inside is h = leaf_accepted d test p refers [] [] (kind_of d.table p) (bytes u) refl h
      accepted (tag k n) distinct p refers inside is h = leaf_accepted d test p refers [] [] (kind_of d.table p) (tag k n) refl h
      accepted (opaque b) distinct p refers inside is h = leaf_accepted d test p refers [] [] (kind_of d.table p) (opaque b) refl h
      accepted (list ns) distinct p refers inside is h =
          list_kind p refers ns (kind_of d.table p) refl inside is (entries_accepted ns distinct) h
      accepted (object ms) distinct p refers inside is h =
          object_kind p refers ms (kind_of d.table p) refl inside is distinct (pairs_accepted ms distinct) h

      entries_accepted : (ns : Nodes) → HaveDistinctNames ns → AllNodes (IsAccepted d test few) ns
      entries_accepted no_nodes distinct = tt
      entries_accepted (node n ns) distinct = (accepted n distinct.0, entries_accepted ns distinct.1)

      pairs_accepted : (ms : Members) → AreDistinct ms → AllPairs (IsAccepted d test few) ms
      pairs_accepted no_members distinct = tt
      pairs_accepted (member k n ms) distinct = (accepted n distinct.1, pairs_accepted ms distinct.2)

  clean_list_kind : (p : Place) (refers : List ℕ → Bool) (ns : Nodes) (kind : ShapeKind) → kind_of d.table p ≡ kind → InTable d.table p
      → IsListed d.table d.places p → AllTold d.table p → AreJson ns → HaveNoNumber ns → AllNodes (IsClean d test few) ns
      → accepts (asked_by d test few refers (list ns)) (definition_by kind d p) ≡ true
      → faults_in (list_by (sort_by kind (format_of d.table p)) c p (list ns) (children c ns)) ≡ []
  clean_list_kind p refers ns kinds.List e inside is told json none all h =
      let one = entry_one (members_of_place d.table p) (own p kinds.List inside e) in
      list_clean d test few p refers ns all (entry_in d.table p shaped inside e)
      (within p inside is (slice_index_or (members_of_place d.table p) 0 0) one).1
      (told_within p (slice_index_or (members_of_place d.table p) 0 0) told one)
      (λ unique. (told [] p refl).2 e unique) h
  clean_list_kind p refers ns kinds.Blob e inside is told json none all h =
      leaf_spelled d test p refers (elements_of test (schema_tree d) ns) [] kinds.Blob (list ns) e (told [] p refl).0 (told [] p refl).1 tt json none h
  clean_list_kind p refers ns kinds.Boolean e inside is told json none all h =
      leaf_spelled d test p refers (elements_of test (schema_tree d) ns) [] kinds.Boolean (list ns) e (told [] p refl).0 (told [] p refl).1 tt json none h
  clean_list_kind p refers ns kinds.Text e inside is told json none all h =
      leaf_spelled d test p refers (elements_of test (schema_tree d) ns) [] kinds.Text (list ns) e (told [] p refl).0 (told [] p refl).1 tt json none h
  clean_list_kind p refers ns kinds.Enum e inside is told json none all h =
      leaf_spelled d test p refers (elements_of test (schema_tree d) ns) [] kinds.Enum (list ns) e (told [] p refl).0 (told [] p refl).1 tt json none h
  clean_list_kind p refers ns kinds.Byte e inside is told json none all h =
      leaf_spelled d test p refers (elements_of test (schema_tree d) ns) [] kinds.Byte (list ns) e (told [] p refl).0 (told [] p refl).1 tt json none h
  clean_list_kind p refers ns kinds.Short e inside is told json none all h =
      leaf_spelled d test p refers (elements_of test (schema_tree d) ns) [] kinds.Short (list ns) e (told [] p refl).0 (told [] p refl).1 tt json none h
  clean_list_kind p refers ns kinds.Integer e inside is told json none all h =
      leaf_spelled d test p refers (elements_of test (schema_tree d) ns) [] kinds.Integer (list ns) e (told [] p refl).0 (told [] p refl).1 tt json none h
  clean_list_kind p refers ns kinds.IntEnum e inside is told json none all h =
      leaf_spelled d test p refers (elements_of test (schema_tree d) ns) [] kinds.IntEnum (list ns) e (told [] p refl).0 (told [] p refl).1 tt json none h
  clean_list_kind p refers ns kinds.Long e inside is told json none all h =
      leaf_spelled d test p refers (elements_of test (schema_tree d) ns) [] kinds.Long (list ns) e (told [] p refl).0 (told [] p refl).1 tt json none h
  clean_list_kind p refers ns kinds.Timestamp e inside is told json none all h =
      leaf_spelled d test p refers (elements_of test (schema_tree d) ns) [] kinds.Timestamp (list ns) e (told [] p refl).0 (told [] p refl).1 tt json none h
  clean_list_kind p refers ns kinds.Map e inside is told json none all h =
      leaf_spelled d test p refers (elements_of test (schema_tree d) ns) [] kinds.Map (list ns) e (told [] p refl).0 (told [] p refl).1 refl json none h
  clean_list_kind p refers ns kinds.Structure e inside is told json none all h =
      leaf_spelled d test p refers (elements_of test (schema_tree d) ns) [] kinds.Structure (list ns) e (told [] p refl).0 (told [] p refl).1 refl json none h
  clean_list_kind p refers ns kinds.Union e inside is told json none all h =
      leaf_spelled d test p refers (elements_of test (schema_tree d) ns) [] kinds.Union (list ns) e (told [] p refl).0 (told [] p refl).1 refl json none h
  clean_list_kind p refers ns kinds.LeftOut e inside is told json none all h =
      leaf_spelled d test p refers (elements_of test (schema_tree d) ns) [] kinds.LeftOut (list ns) e (told [] p refl).0 (told [] p refl).1 tt json none h

  each : (p : Place) → InTable d.table p → IsListed d.table d.places p → AllTold d.table p → (k : ℕ)
      → IsOne k (members_of_place d.table p)
      → InTable d.table (member_place k) × IsListed d.table d.places (member_place k) × AllTold d.table (member_place k)
  each p inside is told k one = let w = within p inside is k one in (w.0, w.1, told_within p k told one)

  clean_object_kind : (p : Place) (refers : List ℕ → Bool) (ms : Members) (kind : ShapeKind) → kind_of d.table p ≡ kind → InTable d.table p
      → IsListed d.table d.places p → AllTold d.table p → AreDistinct ms → AreJsonMembers ms → HaveNoNumberUnder ms
      → AllPairs (IsClean d test few) ms
      → accepts (asked_by d test few refers (object ms)) (definition_by kind d p) ≡ true
      → faults_in (object_by (sort_by kind (format_of d.table p)) c p (object ms) (named_children c ms)) ≡ []
  clean_object_kind p refers ms kinds.Map e inside is told distinct json none all h =
      let ones = pair_ones (members_of_place d.table p) (own p kinds.Map inside e) in
      map_clean d test few p refers ms (key_text d.table p shaped inside e) distinct json all (value_in d.table p shaped inside e)
      (within p inside is (slice_index_or (members_of_place d.table p) 0 0) ones.0).1
      (within p inside is (slice_index_or (members_of_place d.table p) 1 0) ones.1).1
      (told_within p (slice_index_or (members_of_place d.table p) 1 0) told ones.1) h
  clean_object_kind p refers ms kinds.Structure e inside is told distinct json none all h =
      structure_clean d test few p refers ms distinct all (differ p inside) (each p inside is told) h
  clean_object_kind p refers ms kinds.Union e inside is told distinct json none all h =
      union_clean d test few p refers ms distinct all (differ p inside) (each p inside is told) h
  clean_object_kind p refers ms kinds.Blob e inside is told distinct json none all h =
      leaf_spelled d test p refers [] (properties_of test (schema_tree d) ms) kinds.Blob (object ms) e (told [] p refl).0 (told [] p refl).1 tt json none h
  clean_object_kind p refers ms kinds.Boolean e inside is told distinct json none all h =
      leaf_spelled d test p refers [] (properties_of test (schema_tree d) ms) kinds.Boolean (object ms) e (told [] p refl).0 (told [] p refl).1 tt json none h
  clean_object_kind p refers ms kinds.Text e inside is told distinct json none all h =
      leaf_spelled d test p refers [] (properties_of test (schema_tree d) ms) kinds.Text (object ms) e (told [] p refl).0 (told [] p refl).1 tt json none h
  clean_object_kind p refers ms kinds.Enum e inside is told distinct json none all h =
      leaf_spelled d test p refers [] (properties_of test (schema_tree d) ms) kinds.Enum (object ms) e (told [] p refl).0 (told [] p refl).1 tt json none h
  clean_object_kind p refers ms kinds.Byte e inside is told distinct json none all h =
      leaf_spelled d test p refers [] (properties_of test (schema_tree d) ms) kinds.Byte (object ms) e (told [] p refl).0 (told [] p refl).1 tt json none h
  clean_object_kind p refers ms kinds.Short e inside is told distinct json none all h =
      leaf_spelled d test p refers [] (properties_of test (schema_tree d) ms) kinds.Short (object ms) e (told [] p refl).0 (told [] p refl).1 tt json none h
  clean_object_kind p refers ms kinds.Integer e inside is told distinct json none all h =
      leaf_spelled d test p refers [] (properties_of test (schema_tree d) ms) kinds.Integer (object ms) e (told [] p refl).0 (told [] p refl).1 tt json none h
  clean_object_kind p refers ms kinds.IntEnum e inside is told distinct json none all h =
      leaf_spelled d test p refers [] (properties_of test (schema_tree d) ms) kinds.IntEnum (object ms) e (told [] p refl).0 (told [] p refl).1 tt json none h
  clean_object_kind p refers ms kinds.Long e inside is told distinct json none all h =
      leaf_spelled d test p refers [] (properties_of test (schema_tree d) ms) kinds.Long (object ms) e (told [] p refl).0 (told [] p refl).1 tt json none h
  clean_object_kind p refers ms kinds.Timestamp e inside is told distinct json none all h =
      leaf_spelled d test p refers [] (properties_of test (schema_tree d) ms) kinds.Timestamp (object ms) e (told [] p refl).0 (told [] p refl).1 tt json none h
  clean_object_kind p refers ms kinds.List e inside is told distinct json none all h =
      leaf_spelled d test p refers [] (properties_of test (schema_tree d) ms) kinds.List (object ms) e (told [] p refl).0 (told [] p refl).1 refl json none h
  clean_object_kind p refers ms kinds.LeftOut e inside is told distinct json none all h =
      leaf_spelled d test p refers [] (properties_of test (schema_tree d) ms) kinds.LeftOut (object ms) e (told [] p refl).0 (told [] p refl).1 tt json none h

  clean_leaf : (n : Node) (p : Place) (refers : List ℕ → Bool) → IsOther (kind_of d.table p) n → AllTold d.table p → IsJson n → HasNoNumber n
      → accepts (asked_of test refers n [] []) (definition d p) ≡ true
      → faults_in (leaf_by (sort_by (kind_of d.table p) (format_of d.table p)) c p n) ≡ []
  clean_leaf n p refers other told json none h =
      leaf_spelled d test p refers [] [] (kind_of d.table p) n refl (told [] p refl).0 (told [] p refl).1 other json none h

  mutual
    clean : (n : Node) → HasDistinctNames n → IsJson n → HasNoNumber n → IsClean d test few n
    clean null distinct json none p refers inside is told h = clean_leaf null p refers (other_of null refl refl (kind_of d.table p)) told json none h
    clean (bool b) distinct json none p refers inside is told h = clean_leaf (bool b) p refers (other_of (bool b) refl refl (kind_of d.table p)) told json none h
    clean (int z) distinct json none p refers inside is told h = clean_leaf (int z) p refers (other_of (int z) refl refl (kind_of d.table p)) told json none h
    clean (number u) distinct json none p refers inside is told h = absurd none
    clean (text u) distinct json none p refers inside is told h = clean_leaf (text u) p refers (other_of (text u) refl refl (kind_of d.table p)) told json none h
    clean (bytes u) distinct json none p refers inside is told h = absurd json
    clean (tag k n) distinct json none p refers inside is told h = absurd json
    clean (opaque b) distinct json none p refers inside is told h = absurd json
    clean (list ns) distinct json none p refers inside is told h =
        clean_list_kind p refers ns (kind_of d.table p) refl inside is told json none (entries_clean ns distinct json none) h
    clean (object ms) distinct json none p refers inside is told h =
        clean_object_kind p refers ms (kind_of d.table p) refl inside is told distinct json none (pairs_clean ms distinct json none) h

    entries_clean : (ns : Nodes) → HaveDistinctNames ns → AreJson ns → HaveNoNumber ns → AllNodes (IsClean d test few) ns
    entries_clean no_nodes distinct json none = tt
    entries_clean (node n ns) distinct json none = (clean n distinct.0 json.0 none.0, entries_clean ns distinct.1 json.1 none.1)

    pairs_clean : (ms : Members) → AreDistinct ms → AreJsonMembers ms → HaveNoNumberUnder ms → AllPairs (IsClean d test few) ms
    pairs_clean no_members distinct json none = tt
    pairs_clean (member k n ms) distinct json none = (clean n distinct.1 json.1 none.0, pairs_clean ms distinct.2 json.2 none.1)

abbrev listing : TableData → Bool → List Place → Listing
listing t json_names places = record { table = t; json_names = json_names; places = places }

-- the whole schema says what the definition of the shape says
root_says : (t : TableData) (json_names : Bool) (test : Test) (s : ℕ) (schema n : Node) (is : IsSchema t json_names s schema)
    (few : HasFew t json_names s schema is)
    → accepts (asked_by (listing t json_names is.places) test few
    (λ w. refers_by test (schema_tree (listing t json_names is.places))
    (instance_of test (schema_tree (listing t json_names is.places)) n) (node_size (schema_tree (listing t json_names is.places))) w) n)
    (definition (listing t json_names is.places) (root_place s)) ≡ is_valid test schema n
root_says t json_names test s schema n is few =
    let d = listing t json_names is.places in
    let first = first_listed t is.turns s is.places is.listed in
    sym (whole_says d test few (instance_of test (schema_tree d) n) (root_place s) first.0 first.1)
    ∙ ap (λ x. is_valid test x n) (sym is.is)

pub spelled_is_valid : SpelledIsValid
spelled_is_valid t json_names test s schema n shaped defaults inside is few document h =
    let d = listing t json_names is.places in
    sym (root_says t json_names test s schema n is few)
    ∙ accepted d test few is.turns s shaped is.listed defaults n document.1 (root_place s) _ inside
    (root_listed t is.turns s is.places is.listed) h

pub valid_is_spelled : ValidIsSpelled
valid_is_spelled t json_names test s schema n shaped inside is few told document none h =
    let d = listing t json_names is.places in
    clean d test few is.turns s shaped is.listed n document.1 document.0 none (root_place s) _ inside
    (root_listed t is.turns s is.places is.listed) told (root_says t json_names test s schema n is few ∙ h)

pub one_schema : OneSchema
one_schema t json_names s a b is also =
    is.is ∙ ap (λ ps. schema_tree (listing t json_names ps))
    (listed_once t is.turns also.turns (root_place s ∷ []) 0 is.places also.places is.listed also.listed) ∙ sym also.is
