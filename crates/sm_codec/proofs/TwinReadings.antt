-- A tree comes to the same at places that are twins, but for the numbers of members: an induction on the tree.
use Rattle.std.proofs.Common.{◌≡◌, ℕ, suc, Bool, true, false, ◌&&◌, cond, List, [], ◌∷◌, ◌++◌, map, length, refl, sym, ap, ◌∙◌, subst}
use Rattle.std.proofs.Common.{arith}
use Rattle.std.specs.Prelude.{Option, Some, None, Result, Ok, Err, slice_index_or}
use Rattle.std.specs.List.{AllByRecursion}
use Rattle.std.specs.Option.{option_map}
use Rattle.std.specs.Str.{bytes_eq, is_utf8}
use Rattle.std.proofs.lemmas.List.{map-append}
use Rattle.sm_tree.specs.Node.{Node, Nodes, Members, null, bool, int, number, text, bytes, tag, opaque, list, object, no_nodes, node}
use Rattle.sm_tree.specs.Node.{no_members, member}
use Rattle.sm_tree.specs.declared.path.Step.TheVariants.{Member, Index, Key}
use Rattle.sm_shapes.specs.Broken.{has_twice, length_broken}
use Rattle.sm_shapes.specs.Fitting.{Test}
use Rattle.sm_shapes.specs.Places.{Place, member_place, constraints_of, entry_place, key_place, kind_of, members_of_place}
use Rattle.sm_shapes.specs.Places.{shape_of, sparse_of, unique_of, value_place}
use Rattle.sm_shapes.specs.TableData.{TableData, default_at, name_at, required_at}
use Rattle.sm_shapes.specs.Values.{Val, entries_of, fields_of, list_val, map_val, null_val, structure_val, text_val, vals_of}
use Rattle.sm_shapes.specs.declared.fault.FaultKind.{FaultKind}
use Rattle.sm_shapes.specs.declared.fault.FaultKind.TheVariants.{WrongType, Null, Unique, UnionCount}
use Rattle.sm_shapes.specs.declared.kinds.ShapeKind.TheVariants as kind
use Rattle.sm_codec.specs.Codec.{Codec, broken_at, codec_of, sort_at}
use Rattle.sm_codec.specs.Convention.{Convention, IsConvention}
use Rattle.sm_codec.specs.FaultLists.{FaultAt, Reading, faults_in, here, settled, under, values_in}
use Rattle.sm_codec.specs.Named.{in_byte_order, named, names_of}
use Rattle.sm_codec.specs.Readings.{ByMember, Child, absent_reading, absent_with, all_standing, children, entries_faults, entries_values}
use Rattle.sm_codec.specs.Readings.{entry_reading, key_faults, keyed, keys_faults, keys_values, leaf_by, leaf_reading, list_by, list_faults}
use Rattle.sm_codec.specs.Readings.{list_reading, map_faults, map_reading, member_faults, member_fields, member_reading, members_faults}
use Rattle.sm_codec.specs.Readings.{members_fields, named_children, object_by, one_here, pair_faults, pair_values, present_reading, reading}
use Rattle.sm_codec.specs.Readings.{repeated_faults, repeats, standing, standing_fields, structure_reading, under_names}
use Rattle.sm_codec.specs.Readings.{union_faults, union_reading, union_reading_of, unique_faults, when_closed}
use Rattle.sm_codec.specs.Sorts.{Sort, simple, a_list, a_map, a_structure, a_union, left_out, sort_by, sort_of}
use Rattle.sm_codec.specs.steps.Twins.{AreTwins, HaveTwins, moved, moved_reading}
use Rattle.sm_codec.proofs.PlacesIn.{kind_of_sort}
use Rattle.sm_codec.proofs.Renumbered.{entries_moved, fields_moved, moved_entry, moved_field, twice_moved, vals_moved}
use Rattle.sm_codec.proofs.TwinPlaces.{breaks_alike, faults_kept, lengths_alike, settled_moved}
use Rattle.sm_codec.proofs.TwinPlaces.{Came, ChildTwins, moved_member, simple_stays, values_kept}

module _ (t u : TableData) (l : Convention) (test : Test) (f back : ℕ → ℕ) (Good : ℕ → Type 0) where
  abbrev c : Codec
  c = codec_of t l test

  abbrev d : Codec
  d = codec_of u l test

  abbrev Two : Place → Place → Type 0
  Two p q = AreTwins t u test f Good p q

  abbrev Twin : Child → Child → Type 0
  Twin a b = ChildTwins t u test f Good a b

  abbrev Twins : List Child → List Child → Type 0
  Twins [] [] = Unit {0}
  Twins [] (b ∷ ys) = ⊥
  Twins (a ∷ xs) [] = ⊥
  Twins (a ∷ xs) (b ∷ ys) = Twin a b × Twins xs ys

  abbrev PairTwins : List (List ℕ × Child) → List (List ℕ × Child) → Type 0
  PairTwins [] [] = Unit {0}
  PairTwins [] (y ∷ qs) = ⊥
  PairTwins (x ∷ ps) [] = ⊥
  PairTwins (x ∷ ps) (y ∷ qs) = (x.0 ≡ y.0) × Twin x.1 y.1 × PairTwins ps qs

  -- members that stand
  abbrev StandTwins : List (ℕ × Child) → List (ℕ × Child) → Type 0
  StandTwins [] [] = Unit {0}
  StandTwins [] (n ∷ ns) = ⊥
  StandTwins (m ∷ ms) [] = ⊥
  StandTwins (m ∷ ms) (n ∷ ns) = (f m.0 ≡ n.0) × Good m.0 × Twin m.1 n.1 × StandTwins ms ns

  twins_length : (xs ys : List Child) → Twins xs ys → length xs ≡ length ys
  twins_length [] [] h = refl
  twins_length [] (b ∷ ys) h = absurd h
  twins_length (a ∷ xs) [] h = absurd h
  twins_length (a ∷ xs) (b ∷ ys) h = ap suc (twins_length xs ys h.1)

  twins_names : (ps qs : List (List ℕ × Child)) → PairTwins ps qs → names_of ps ≡ names_of qs
  twins_names [] [] h = refl
  twins_names [] (y ∷ qs) h = absurd h
  twins_names (x ∷ ps) [] h = absurd h
  twins_names (x ∷ ps) (y ∷ qs) h = let one = h.0 in let more = twins_names ps qs h.2 in λ i. one i ∷ more i

  named_twins : (w : List ℕ) (ps qs : List (List ℕ × Child)) → PairTwins ps qs → Twins (named w ps) (named w qs)
  named_twins w [] [] h = tt
  named_twins w [] (y ∷ qs) h = absurd h
  named_twins w (x ∷ ps) [] h = absurd h
  named_twins w (x ∷ ps) (y ∷ qs) h =
      subst (λ k. Twins (named w (x ∷ ps)) (cond (bytes_eq k w) (y.1 ∷ named w qs) (named w qs))) h.0
      (by (named_twins w ps qs h.2) (bytes_eq x.0 w))
    where
      by : Twins (named w ps) (named w qs) → (b : Bool)
          → Twins (cond b (x.1 ∷ named w ps) (named w ps)) (cond b (y.1 ∷ named w qs) (named w qs))
      by rest true = (h.1, rest)
      by rest false = rest

  -- leaves
  module _ (laws : IsConvention l) where
    leaf_alike : (p q : Place) → Two p q → (r : Result Val FaultKind) → ((v : Val) → r ≡ Ok v → moved f v ≡ v)
        → moved_reading f (leaf_reading c p r) ≡ leaf_reading d q r
    leaf_alike p q h (Ok v) stays =
        let breaks = breaks_alike t u test (constraints_of t p) (constraints_of u q) h.constraints (kind_of t p) (kind_of u q) h.kind v in
        let value = stays v refl in
        settled_moved f (here (broken_at c p v)) v ∙ (λ i. settled (here (breaks i)) (value i))
    leaf_alike p q h (Err kind) stays = refl

    leaf_sorted : (p q : Place) → Two p q → (n : Node) (s : Sort) → moved_reading f (leaf_by s c p n) ≡ leaf_by s d q n
    leaf_sorted p q h n (simple x) = leaf_alike p q h (l.read x n) (λ v e. simple_stays f x v (laws.of_type x n v e))
    leaf_sorted p q h n a_list = refl
    leaf_sorted p q h n a_map = refl
    leaf_sorted p q h n a_structure = refl
    leaf_sorted p q h n a_union = refl
    leaf_sorted p q h n left_out = refl

  one_sort : (p q : Place) → Two p q → sort_of t p ≡ sort_of u q
  one_sort p q h = λ i. sort_by (h.kind i) (h.format i)

  -- entries of lists and values of maps
  entry_alike : (p q : Place) → Two p q → (x y : Bool) → x ≡ y → (a b : Child) → Twin a b
      → moved_reading f (entry_reading x p a) ≡ entry_reading y q b
  entry_alike p q w x y e a b h =
      by a.null x ∙ (λ i. cond (h.nulls i) (cond (e i) (Ok null_val) (Err (one_here Null))) (h.readings p q w i))
    where
      by : (n s : Bool) → moved_reading f (cond n (cond s (Ok null_val) (Err (one_here Null))) (a.reading p))
          ≡ cond n (cond s (Ok null_val) (Err (one_here Null))) (moved_reading f (a.reading p))
      by true true = refl
      by true false = refl
      by false s = refl

  entry_faults : (p q : Place) → Two p q → (x y : Bool) → x ≡ y → (a b : Child) → Twin a b
      → faults_in (entry_reading x p a) ≡ faults_in (entry_reading y q b)
  entry_faults p q w x y e a b h = faults_kept f (entry_reading x p a) ∙ ap faults_in (entry_alike p q w x y e a b h)

  -- lists
  entries_alike : (p q : Place) → sparse_of t p ≡ sparse_of u q → Two (entry_place t p) (entry_place u q) → (i : ℕ) (xs ys : List Child)
      → Twins xs ys → entries_faults c p i xs ≡ entries_faults d q i ys
  entries_alike p q e w i [] [] h = refl
  entries_alike p q e w i [] (b ∷ ys) h = absurd h
  entries_alike p q e w i (a ∷ xs) [] h = absurd h
  entries_alike p q e w i (a ∷ xs) (b ∷ ys) h =
      let one = entry_faults (entry_place t p) (entry_place u q) w (sparse_of t p) (sparse_of u q) e a b h.0 in
      let more = entries_alike p q e w (suc i) xs ys h.1 in λ j. under (Index i) (one j) ++ more j

  entries_valued : (p q : Place) → sparse_of t p ≡ sparse_of u q → Two (entry_place t p) (entry_place u q) → (xs ys : List Child)
      → Twins xs ys → map (moved f) (entries_values c p xs) ≡ entries_values d q ys
  entries_valued p q e w [] [] h = refl
  entries_valued p q e w [] (b ∷ ys) h = absurd h
  entries_valued p q e w (a ∷ xs) [] h = absurd h
  entries_valued p q e w (a ∷ xs) (b ∷ ys) h =
      let r = entry_reading (sparse_of t p) (entry_place t p) a in
      let one = values_kept f r
      ∙ ap values_in (entry_alike (entry_place t p) (entry_place u q) w (sparse_of t p) (sparse_of u q) e a b h.0) in
      let more = entries_valued p q e w xs ys h.1 in
      map-append (moved f) (values_in r) (entries_values c p xs) ∙ (λ j. one j ++ more j)

  module _ (inverse : (k : ℕ) → back (f k) ≡ k) where
    unique_alike : (p q : Place) → unique_of t p ≡ unique_of u q → (fs : List FaultAt) (vs ws : List Val) → map (moved f) vs ≡ ws
        → unique_faults c p fs vs ≡ unique_faults d q fs ws
    unique_alike p q x [] vs ws e =
        let twice = sym (twice_moved f back inverse vs) ∙ ap has_twice e in λ i. cond (x i && twice i) (one_here Unique) []
    unique_alike p q x (g ∷ fs) vs ws e = refl

    list_alike : (p q : Place) → Two p q → Two (entry_place t p) (entry_place u q) → (xs ys : List Child) → Twins xs ys
        → moved_reading f (list_reading c p xs) ≡ list_reading d q ys
    list_alike p q w e xs ys h =
        let entries = entries_alike p q w.sparse e 0 xs ys h in
        let values = entries_valued p q w.sparse e xs ys h in
        let count = lengths_alike t u test (constraints_of t p) (constraints_of u q) w.constraints (length xs)
        ∙ ap (length_broken (constraints_of u q)) (twins_length xs ys h) in
        let unique = unique_alike p q w.unique (entries_faults c p 0 xs) (entries_values c p xs) (entries_values d q ys) values
        ∙ ap (λ fs. unique_faults d q fs (entries_values d q ys)) entries in
        let value = sym (vals_moved f (entries_values c p xs)) ∙ ap vals_of values in
        settled_moved f (list_faults c p xs) (list_val (vals_of (entries_values c p xs)))
        ∙ (λ i. settled (entries i ++ here (count i) ++ unique i) (list_val (value i)))

  -- maps
  key_alike : (p q : Place) → Two (key_place t p) (key_place u q) → (key : List ℕ) → key_faults c p key ≡ key_faults d q key
  key_alike p q w key =
      let x = key_place t p in
      let y = key_place u q in
      let breaks = breaks_alike t u test (constraints_of t x) (constraints_of u y) w.constraints (kind_of t x) (kind_of u y) w.kind
      (text_val key) in
      λ i. cond (is_utf8 key) (here (breaks i)) (one_here WrongType)

  keyed_moved : (key : List ℕ) (r : Reading) → map (moved_entry f) (keyed key r) ≡ keyed key (moved_reading f r)
  keyed_moved key (Ok v) = refl
  keyed_moved key (Err fs) = refl

  module _ (p q : Place) (e : sparse_of t p ≡ sparse_of u q) (k : Two (key_place t p) (key_place u q))
      (w : Two (value_place t p) (value_place u q)) where
    pair_alike : (key : List ℕ) (xs ys : List Child) → Twins xs ys → pair_faults c p key xs ≡ pair_faults d q key ys
    pair_alike key [] [] h = refl
    pair_alike key [] (b ∷ ys) h = absurd h
    pair_alike key (a ∷ xs) [] h = absurd h
    pair_alike key (a ∷ []) (b ∷ []) h =
        let one = key_alike p q k key in
        let more = entry_faults (value_place t p) (value_place u q) w (sparse_of t p) (sparse_of u q) e a b h.0 in λ i. one i ++ more i
    pair_alike key (a ∷ []) (b ∷ y ∷ ys) h = absurd h.1
    pair_alike key (a ∷ x ∷ xs) (b ∷ []) h = absurd h.1
    pair_alike key (a ∷ x ∷ xs) (b ∷ y ∷ ys) h = refl

    pair_valued : (key : List ℕ) (xs ys : List Child) → Twins xs ys → map (moved_entry f) (pair_values c p key xs) ≡ pair_values d q key ys
    pair_valued key [] [] h = refl
    pair_valued key [] (b ∷ ys) h = absurd h
    pair_valued key (a ∷ xs) [] h = absurd h
    pair_valued key (a ∷ []) (b ∷ []) h =
        keyed_moved key (entry_reading (sparse_of t p) (value_place t p) a)
        ∙ ap (keyed key) (entry_alike (value_place t p) (value_place u q) w (sparse_of t p) (sparse_of u q) e a b h.0)
    pair_valued key (a ∷ []) (b ∷ y ∷ ys) h = absurd h.1
    pair_valued key (a ∷ x ∷ xs) (b ∷ []) h = absurd h.1
    pair_valued key (a ∷ x ∷ xs) (b ∷ y ∷ ys) h = refl

    module _ (ps qs : List (List ℕ × Child)) (h : PairTwins ps qs) where
      keys_alike : (keys : List (List ℕ)) → keys_faults c p ps keys ≡ keys_faults d q qs keys
      keys_alike [] = refl
      keys_alike (key ∷ keys) =
          let one = pair_alike key (named key ps) (named key qs) (named_twins key ps qs h) in
          let more = keys_alike keys in λ i. under (Key key) (one i) ++ more i

      keys_valued : (keys : List (List ℕ)) → map (moved_entry f) (keys_values c p ps keys) ≡ keys_values d q qs keys
      keys_valued [] = refl
      keys_valued (key ∷ keys) =
          let one = pair_valued key (named key ps) (named key qs) (named_twins key ps qs h) in
          let more = keys_valued keys in
          map-append (moved_entry f) (pair_values c p key (named key ps)) (keys_values c p ps keys) ∙ (λ i. one i ++ more i)

      map_alike : Two p q → moved_reading f (map_reading c p ps) ≡ map_reading d q qs
      map_alike two =
          let ks = in_byte_order (names_of ps) in
          let names = ap in_byte_order (twins_names ps qs h) in
          let pairs = keys_alike ks ∙ ap (keys_faults d q qs) names in
          let values = keys_valued ks ∙ ap (keys_values d q qs) names in
          let count = lengths_alike t u test (constraints_of t p) (constraints_of u q) two.constraints (length ks)
          ∙ ap (λ xs. length_broken (constraints_of u q) (length xs)) names in
          let value = sym (entries_moved f (keys_values c p ps ks)) ∙ ap entries_of values in
          settled_moved f (map_faults c p ps) (map_val (entries_of (keys_values c p ps ks)))
          ∙ (λ i. settled (pairs i ++ here (count i)) (map_val (value i)))

  -- members
  module _ (laws : IsConvention l) (have : HaveTwins t u test f Good) where
    wire_alike : (s r k : ℕ) → Good k → l.name t s k ≡ l.name u r (f k)
    wire_alike s r k good = laws.own_row t u s r k (f k) (have.name k good) (have.json_name k good)

    absent_alike : (k : ℕ) → Good k → moved_member f (absent_reading (when_closed t k)) ≡ absent_reading (when_closed u (f k))
    absent_alike k good =
        let default = have.default k good in
        let required = have.required k good in
        by (default_at t k) (required_at t k) ∙ (λ i. absent_reading (absent_with (default i) (required i)))
      where
        by : (o : Option Val) (r : Bool)
            → moved_member f (absent_reading (absent_with o r)) ≡ absent_reading (absent_with (option_map (moved f) o) r)
        by (Some v) r = refl
        by None true = refl
        by None false = refl

    present_moved : (r : Reading) → moved_member f (present_reading r) ≡ present_reading (moved_reading f r)
    present_moved (Ok v) = refl
    present_moved (Err fs) = refl

    cond_moved : (b : Bool) (x y : Came) → moved_member f (cond b x y) ≡ cond b (moved_member f x) (moved_member f y)
    cond_moved true x y = refl
    cond_moved false x y = refl

    member_alike : (k : ℕ) → Good k → (xs ys : List Child) → Twins xs ys
        → moved_member f (member_reading (when_closed t) k xs) ≡ member_reading (when_closed u) (f k) ys
    member_alike k good [] [] h = absent_alike k good
    member_alike k good [] (b ∷ ys) h = absurd h
    member_alike k good (a ∷ xs) [] h = absurd h
    member_alike k good (a ∷ []) (b ∷ []) h =
        let absent = absent_alike k good in
        let present = present_moved (a.reading (member_place k))
        ∙ ap present_reading (h.0.readings (member_place k) (member_place (f k)) (have.member k good)) in
        cond_moved a.null (absent_reading (when_closed t k)) (present_reading (a.reading (member_place k)))
        ∙ (λ i. cond (h.0.nulls i) (absent i) (present i))
    member_alike k good (a ∷ []) (b ∷ y ∷ ys) h = absurd h.1
    member_alike k good (a ∷ x ∷ xs) (b ∷ []) h = absurd h.1
    member_alike k good (a ∷ x ∷ xs) (b ∷ y ∷ ys) h = refl

    member_kept : (r : Came) → member_faults r ≡ member_faults (moved_member f r)
    member_kept (Ok o) = refl
    member_kept (Err fs) = refl

    fields_kept : (k : ℕ) (r : Came) → map (moved_field f) (member_fields k r) ≡ member_fields (f k) (moved_member f r)
    fields_kept k (Ok None) = refl
    fields_kept k (Ok (Some v)) = refl
    fields_kept k (Err fs) = refl

    module _ (sa sb : ByMember) (stand : (k : ℕ) → Good k → Twins (sa k) (sb (f k))) where
      members_alike : (ks : List ℕ) → AllByRecursion Good ks
          → members_faults t (when_closed t) sa ks ≡ members_faults u (when_closed u) sb (map f ks)
      members_alike [] g = refl
      members_alike (k ∷ ks) g =
          let name = have.name k g.0 in
          let one = member_kept (member_reading (when_closed t) k (sa k))
          ∙ ap member_faults (member_alike k g.0 (sa k) (sb (f k)) (stand k g.0)) in
          let more = members_alike ks g.1 in λ i. under (Member (name i)) (one i) ++ more i

      members_valued : (ks : List ℕ) → AllByRecursion Good ks
          → map (moved_field f) (members_fields (when_closed t) sa ks) ≡ members_fields (when_closed u) sb (map f ks)
      members_valued [] g = refl
      members_valued (k ∷ ks) g =
          let r = member_reading (when_closed t) k (sa k) in
          let one = fields_kept k r ∙ ap (member_fields (f k)) (member_alike k g.0 (sa k) (sb (f k)) (stand k g.0)) in
          let more = members_valued ks g.1 in
          map-append (moved_field f) (member_fields k r) (members_fields (when_closed t) sa ks) ∙ (λ i. one i ++ more i)

      -- unions
      repeated_alike : (xs ys : List Child) → Twins xs ys → repeated_faults xs ≡ repeated_faults ys
      repeated_alike [] [] h = refl
      repeated_alike [] (b ∷ ys) h = absurd h
      repeated_alike (a ∷ xs) [] h = absurd h
      repeated_alike (a ∷ []) (b ∷ []) h = refl
      repeated_alike (a ∷ []) (b ∷ y ∷ ys) h = absurd h.1
      repeated_alike (a ∷ x ∷ xs) (b ∷ []) h = absurd h.1
      repeated_alike (a ∷ x ∷ xs) (b ∷ y ∷ ys) h = refl

      repeats_alike : (ks : List ℕ) → AllByRecursion Good ks → repeats t sa ks ≡ repeats u sb (map f ks)
      repeats_alike [] g = refl
      repeats_alike (k ∷ ks) g =
          let name = have.name k g.0 in
          let one = repeated_alike (sa k) (sb (f k)) (stand k g.0) in
          let more = repeats_alike ks g.1 in λ i. under (Member (name i)) (one i) ++ more i

      stand_alike : (k : ℕ) → Good k → (xs ys : List Child) → Twins xs ys → StandTwins (standing k xs) (standing (f k) ys)
      stand_alike k good [] [] h = tt
      stand_alike k good [] (b ∷ ys) h = absurd h
      stand_alike k good (a ∷ xs) [] h = absurd h
      stand_alike k good (a ∷ []) (b ∷ []) h =
          subst (λ n. StandTwins (standing k (a ∷ [])) (cond n [] ((f k, b) ∷ []))) h.0.nulls (by a.null)
        where
          by : (n : Bool) → StandTwins (cond n [] ((k, a) ∷ [])) (cond n [] ((f k, b) ∷ []))
          by true = tt
          by false = (refl, good, h.0, tt)
      stand_alike k good (a ∷ []) (b ∷ y ∷ ys) h = absurd h.1
      stand_alike k good (a ∷ x ∷ xs) (b ∷ []) h = absurd h.1
      stand_alike k good (a ∷ x ∷ xs) (b ∷ y ∷ ys) h = tt

      stand_behind : (ms ns more others : List (ℕ × Child)) → StandTwins ms ns → StandTwins more others
          → StandTwins (ms ++ more) (ns ++ others)
      stand_behind [] [] more others h g = g
      stand_behind [] (n ∷ ns) more others h g = absurd h
      stand_behind (m ∷ ms) [] more others h g = absurd h
      stand_behind (m ∷ ms) (n ∷ ns) more others h g = (h.0, h.1, h.2, stand_behind ms ns more others h.3 g)

      all_alike : (ks : List ℕ) → AllByRecursion Good ks → StandTwins (all_standing sa ks) (all_standing sb (map f ks))
      all_alike [] g = tt
      all_alike (k ∷ ks) g =
          stand_behind (standing k (sa k)) (standing (f k) (sb (f k))) (all_standing sa ks) (all_standing sb (map f ks))
          (stand_alike k g.0 (sa k) (sb (f k)) (stand k g.0)) (all_alike ks g.1)

    one_alike : (m n : ℕ × Child) → f m.0 ≡ n.0 → Good m.0 → Twin m.1 n.1
        → moved_reading f (m.1.reading (member_place m.0)) ≡ n.1.reading (member_place n.0)
    one_alike m n e good h =
        h.readings (member_place m.0) (member_place (f m.0)) (have.member m.0 good) ∙ ap (λ k. n.1.reading (member_place k)) e

    chosen_alike : (none fs : List FaultAt) (ms ns : List (ℕ × Child)) → StandTwins ms ns
        → union_faults t none fs ms ≡ union_faults u none fs ns
    chosen_alike none (g ∷ fs) ms ns h = refl
    chosen_alike none [] [] [] h = refl
    chosen_alike none [] [] (n ∷ ns) h = absurd h
    chosen_alike none [] (m ∷ ms) [] h = absurd h
    chosen_alike none [] (m ∷ []) (n ∷ []) h =
        let name = have.name m.0 h.1 ∙ ap (name_at u) h.0 in
        let faults = faults_kept f (m.1.reading (member_place m.0)) ∙ ap faults_in (one_alike m n h.0 h.1 h.2) in
        λ i. under (Member (name i)) (faults i)
    chosen_alike none [] (m ∷ []) (n ∷ o ∷ ns) h = absurd h.3
    chosen_alike none [] (m ∷ o ∷ ms) (n ∷ []) h = absurd h.3
    chosen_alike none [] (m ∷ o ∷ ms) (n ∷ r ∷ ns) h = refl

    chosen_valued : (ms ns : List (ℕ × Child)) → StandTwins ms ns → map (moved_field f) (standing_fields ms) ≡ standing_fields ns
    chosen_valued [] [] h = refl
    chosen_valued [] (n ∷ ns) h = absurd h
    chosen_valued (m ∷ ms) [] h = absurd h
    chosen_valued (m ∷ ms) (n ∷ ns) h =
        let came = present_reading (m.1.reading (member_place m.0)) in
        let came_other = present_moved (m.1.reading (member_place m.0)) ∙ ap present_reading (one_alike m n h.0 h.1 h.2) in
        let one = fields_kept m.0 came ∙ (λ i. member_fields (h.0 i) (came_other i)) in
        let more = chosen_valued ms ns h.3 in
        map-append (moved_field f) (member_fields m.0 came) (standing_fields ms) ∙ (λ i. one i ++ more i)

    union_moved : (fs : List FaultAt) (vs : List (ℕ × Val))
        → moved_reading f (union_reading_of fs vs) ≡ union_reading_of fs (map (moved_field f) vs)
    union_moved (g ∷ fs) vs = refl
    union_moved [] [] = refl
    union_moved [] (v ∷ vs) = refl

    module _ (p q : Place) (two : Two p q) (ps qs : List (List ℕ × Child)) (h : PairTwins ps qs) where
      abbrev sa : ByMember
      sa = under_names c p ps

      abbrev sb : ByMember
      sb = under_names d q qs

      abbrev ks : List ℕ
      ks = members_of_place t p

      stands_by_name : (k : ℕ) → Good k → Twins (sa k) (sb (f k))
      stands_by_name k good =
          subst (λ w. Twins (named (l.name t (shape_of t p) k) ps) (named w qs)) (wire_alike (shape_of t p) (shape_of u q) k good)
          (named_twins (l.name t (shape_of t p) k) ps qs h)

      structure_alike : moved_reading f (structure_reading c p ps) ≡ structure_reading d q qs
      structure_alike =
          let faults = members_alike sa sb stands_by_name ks two.good ∙ ap (members_faults u (when_closed u) sb) two.members in
          let values = members_valued sa sb stands_by_name ks two.good ∙ ap (members_fields (when_closed u) sb) two.members in
          let value = sym (fields_moved f (members_fields (when_closed t) sa ks)) ∙ ap fields_of values in
          settled_moved f (members_faults t (when_closed t) sa ks) (structure_val (fields_of (members_fields (when_closed t) sa ks)))
          ∙ (λ i. settled (faults i) (structure_val (value i)))

      union_alike : moved_reading f (union_reading c p ps) ≡ union_reading d q qs
      union_alike =
          let ms = all_standing sa ks in
          let ns = all_standing sb (map f ks) in
          let stands = all_alike sa sb stands_by_name ks two.good in
          let repeat = repeats_alike sa sb stands_by_name ks two.good in
          let faults = chosen_alike (one_here UnionCount) (repeats t sa ks) ms ns stands
          ∙ (λ i. union_faults u (one_here UnionCount) (repeat i) ns) in
          let values = chosen_valued ms ns stands in
          union_moved (union_faults t (one_here UnionCount) (repeats t sa ks) ms) (standing_fields ms)
          ∙ (λ i. union_reading_of (faults i) (values i))
          ∙ (λ i. union_reading_of (union_faults u (one_here UnionCount) (repeats u sb (two.members i)) (all_standing sb (two.members i)))
          (standing_fields (all_standing sb (two.members i))))

    -- the places in a list and in a map
    first_twins : (js : List ℕ) (n : ℕ) → AllByRecursion Good js → length js ≡ suc n
        → Two (member_place (slice_index_or js 0 0)) (member_place (slice_index_or (map f js) 0 0))
    first_twins [] n g many = absurd (omega (arith, many))
    first_twins (k ∷ js) n g many = have.member k g.0

    second_twins : (js : List ℕ) → AllByRecursion Good js → length js ≡ 2
        → Two (member_place (slice_index_or js 1 0)) (member_place (slice_index_or (map f js) 1 0))
    second_twins [] g many = absurd (omega (arith, many))
    second_twins (k ∷ []) g many = absurd (omega (arith, many))
    second_twins (k ∷ j ∷ js) g many = have.member j g.1.0

    entry_twins : (p q : Place) → Two p q → kind_of t p ≡ kind.List → Two (entry_place t p) (entry_place u q)
    entry_twins p q h e =
        subst (λ js. Two (entry_place t p) (member_place (slice_index_or js 0 0))) h.members
        (first_twins (members_of_place t p) 0 h.good (h.one e))

    key_twins : (p q : Place) → Two p q → kind_of t p ≡ kind.Map → Two (key_place t p) (key_place u q)
    key_twins p q h e =
        subst (λ js. Two (key_place t p) (member_place (slice_index_or js 0 0))) h.members
        (first_twins (members_of_place t p) 1 h.good (h.two e))

    value_twins : (p q : Place) → Two p q → kind_of t p ≡ kind.Map → Two (value_place t p) (value_place u q)
    value_twins p q h e =
        subst (λ js. Two (value_place t p) (member_place (slice_index_or js 1 0))) h.members
        (second_twins (members_of_place t p) h.good (h.two e))

    module _ (inverse : (k : ℕ) → back (f k) ≡ k) where
      leaves : (n : Node) (p q : Place) → Two p q → moved_reading f (leaf_by (sort_at c p) c p n) ≡ leaf_by (sort_at d q) d q n
      leaves n p q h = leaf_sorted laws p q h n (sort_of t p) ∙ ap (λ s. leaf_by s d q n) (one_sort p q h)

      list_sorted : (n : Node) (p q : Place) → Two p q → (xs ys : List Child) → Twins xs ys → (s : Sort) → sort_of t p ≡ s
          → moved_reading f (list_by s c p n xs) ≡ list_by s d q n ys
      list_sorted n p q h xs ys w a_list e = list_alike inverse p q h (entry_twins p q h (kind_of_sort t p a_list e)) xs ys w
      list_sorted n p q h xs ys w (simple x) e = leaf_sorted laws p q h n (simple x)
      list_sorted n p q h xs ys w a_map e = refl
      list_sorted n p q h xs ys w a_structure e = refl
      list_sorted n p q h xs ys w a_union e = refl
      list_sorted n p q h xs ys w left_out e = refl

      object_sorted : (n : Node) (p q : Place) → Two p q → (ps qs : List (List ℕ × Child)) → PairTwins ps qs → (s : Sort) → sort_of t p ≡ s
          → moved_reading f (object_by s c p n ps) ≡ object_by s d q n qs
      object_sorted n p q h ps qs w a_map e =
          let is = kind_of_sort t p a_map e in
          map_alike p q h.sparse (key_twins p q h is) (value_twins p q h is) ps qs w h
      object_sorted n p q h ps qs w a_structure e = structure_alike p q h ps qs w
      object_sorted n p q h ps qs w a_union e = union_alike p q h ps qs w
      object_sorted n p q h ps qs w (simple x) e = leaf_sorted laws p q h n (simple x)
      object_sorted n p q h ps qs w a_list e = refl
      object_sorted n p q h ps qs w left_out e = refl

      mutual
        pub same_reading : (n : Node) (p q : Place) → Two p q → moved_reading f (reading c n p) ≡ reading d n q
        same_reading null p q h = leaves null p q h
        same_reading (bool b) p q h = leaves (bool b) p q h
        same_reading (int z) p q h = leaves (int z) p q h
        same_reading (number w) p q h = leaves (number w) p q h
        same_reading (text w) p q h = leaves (text w) p q h
        same_reading (bytes w) p q h = leaves (bytes w) p q h
        same_reading (tag k n) p q h = leaves (tag k n) p q h
        same_reading (opaque k) p q h = leaves (opaque k) p q h
        same_reading (list ns) p q h =
            list_sorted (list ns) p q h (children c ns) (children d ns) (children_twins ns) (sort_of t p) refl
            ∙ ap (λ s. list_by s d q (list ns) (children d ns)) (one_sort p q h)
        same_reading (object ms) p q h =
            object_sorted (object ms) p q h (named_children c ms) (named_children d ms) (pairs_twins ms) (sort_of t p) refl
            ∙ ap (λ s. object_by s d q (object ms) (named_children d ms)) (one_sort p q h)

        children_twins : (ns : Nodes) → Twins (children c ns) (children d ns)
        children_twins no_nodes = tt
        children_twins (node n ns) = (record { nulls = refl; readings = λ p q h. same_reading n p q h }, children_twins ns)

        pairs_twins : (ms : Members) → PairTwins (named_children c ms) (named_children d ms)
        pairs_twins no_members = tt
        pairs_twins (member k n ms) = (refl, record { nulls = refl; readings = λ p q h. same_reading n p q h }, pairs_twins ms)
