-- A list at a place of lists: without a fault it is accepted, and accepted it has none.
use Rattle.std.proofs.Common.{◌≡◌, ℕ, suc, ◌^◌, ◌<◌, ℤ, pos, Bool, true, false, ◌&&◌, ◌||◌, not, cond, Option, Some}
use Rattle.std.proofs.Common.{None, List, [], ◌∷◌, ◌++◌, length, codes, refl, sym, ap, ◌∙◌, subst}
use Rattle.std.specs.Prelude.{Ok, Err}
use Rattle.std.specs.List.{list_all, list_any}
use Rattle.std.specs.Str.{is_utf8}
use Rattle.std.proofs.lemmas.Bool.Decides.{Decides-int_eq}
use Rattle.std.proofs.lemmas.Slice.Eq.{bytes_eq-Decides}
use Rattle.sm_codec.proofs.ChildLists.{null_is}
use Rattle.std.proofs.lemmas.Bool.{and_parts, and_from, or_parts, or_from, false_from_ne_true}
use Rattle.sm_tree.specs.Node.{Node, Nodes, Members, null, bool, int, number, text, bytes, tag, opaque, list, object, no_nodes, node, member}
use Rattle.sm_tree.specs.declared.path.Step.TheVariants.{Index}
use Rattle.sm_shapes.specs.Broken.{is_at_least, is_at_most, is_between, length_broken, has_twice}
use Rattle.sm_shapes.specs.Fitting.{Test}
use Rattle.sm_shapes.specs.InOrder.{Shaped, DefaultsPass}
use Rattle.sm_shapes.specs.Places.{Place, kind_of, constraints_of, unique_of, sparse_of, entry_place, format_of}
use Rattle.sm_shapes.specs.Values.{Val, null_val, bool_val, int_val, text_val, blob_val, time_val, map_val, structure_val, union_val, list_val, vals_of, same_val}
use Rattle.sm_shapes.specs.declared.kinds.ShapeKind.{ShapeKind}
use Rattle.sm_shapes.specs.declared.kinds.ShapeKind.TheVariants as kinds
use Rattle.sm_time.specs.declared.format.Format.{Format}
use Rattle.sm_shapes.specs.declared.fault.FaultKind.TheVariants.{Length, Unique, Null, WrongType, Width}
use Rattle.sm_codec.specs.declared.simple.Simple.{Simple}
use Rattle.sm_codec.specs.declared.simple.Simple.TheVariants as the
use Rattle.sm_codec.specs.Convention.{fits_bits}
use Rattle.sm_codec.specs.Conventions.{json_read}
use Rattle.sm_codec.specs.Sorts.{simple, sort_by}
use Rattle.sm_codec.specs.Codec.{Codec, InTable, sort_at, broken_at}
use Rattle.sm_codec.specs.FaultLists.{FaultAt, here, under, Reading, faults_in, values_in}
use Rattle.sm_codec.specs.Readings.{child_of, children, entry_reading, entries_faults, entries_values, unique_faults, list_faults}
use Rattle.sm_codec.specs.Named.{is_null}
use Rattle.sm_codec.specs.Readings.{list_reading, one_here, reading, leaf_reading, leaf_by, list_by, object_by, named_children}
use Rattle.sm_shapes.proofs.SameVals.{same_is, same_itself}
use Rattle.sm_codec.proofs.NoFaults.{none_first, none_behind, none_joined, none_under, none_here, IsReading, reading_is}
use Rattle.sm_codec.proofs.NoFaults.{clean_reading, ok_reading, same_reading, settled_ok}
use Rattle.sm_schema.specs.Equal.{count_entries, equal_trees}
use Rattle.sm_schema.specs.Keywords.{none_equals, all_differ}
use Rattle.sm_schema.specs.Valid.{accepts, all_hold, elements_of}
use Rattle.sm_schema.specs.Definitions.{Listing, reference}
use Rattle.sm_schema.specs.SchemaLaws.{AllTold, IsPlainKind}
use Rattle.sm_schema.specs.Described.{with_bound, with_unique, list_definition, nullable_if}
use Rattle.sm_schema.proofs.Comparisons.{and_true, ints_le}
use Rattle.sm_schema.proofs.LeafDefinitions.{nil_unless, nil_is, is_nil_of}
use Rattle.sm_schema.proofs.LeafPlaces.{faults_settled}
use Rattle.sm_schema.proofs.Pairs.{AllNodes, count_children}
use Rattle.sm_schema.proofs.EqualTrees.{equal_null, equal_values_of}
use Rattle.sm_schema.proofs.PlacesListed.{IsListed}
use Rattle.sm_schema.proofs.Instances.{root, codec, asked_by, says, IsAccepted, IsClean, entry_accepted, entry_clean}

module _ (d : Listing) (test : Test) (few : length d.places < 2 ^ 64) where
  least_items : (refers : List ℕ → Bool) (ns : Nodes) (beside more : Members) (o : Option ℤ)
      → all_hold (asked_by d test few refers (list ns)) beside (with_bound (codes "minItems") o more)
      ≡ (is_at_least o (pos (count_entries ns)) && all_hold (asked_by d test few refers (list ns)) beside more)
  least_items refers ns beside more None = refl
  least_items refers ns beside more (Some z) =
      ap (λ b. b && all_hold (asked_by d test few refers (list ns)) beside more) (ints_le z (pos (count_entries ns)))

  greatest_items : (refers : List ℕ → Bool) (ns : Nodes) (beside more : Members) (o : Option ℤ)
      → all_hold (asked_by d test few refers (list ns)) beside (with_bound (codes "maxItems") o more)
      ≡ (is_at_most o (pos (count_entries ns)) && all_hold (asked_by d test few refers (list ns)) beside more)
  greatest_items refers ns beside more None = refl
  greatest_items refers ns beside more (Some z) =
      ap (λ b. b && all_hold (asked_by d test few refers (list ns)) beside more) (ints_le (pos (count_entries ns)) z)

  unique_items : (refers : List ℕ → Bool) (ns : Nodes) (beside : Members) (unique : Bool)
      → all_hold (asked_by d test few refers (list ns)) beside (with_unique unique) ≡ (not unique || all_differ ns)
  unique_items refers ns beside true = and_true (all_differ ns)
  unique_items refers ns beside false = refl

  abbrev items_of : Nodes → Node → Bool
  items_of ns schema = list_all (λ part. part.accepted schema) (elements_of test (root d test few) ns)

  parts : (a b c u : Bool) (x y : Bool) → x ≡ (b && y) → y ≡ (c && u) → (a && x) ≡ (a && ((b && c) && u))
  parts a true c u x y h g = ap (λ z. a && z) (h ∙ g)
  parts a false c u x y h g = ap (λ z. a && z) h

  -- what the definition of a list says of one
  pub list_says : (refers : List ℕ → Bool) (ns : Nodes) (p : Place)
      → accepts (asked_by d test few refers (list ns)) (list_definition d p)
      ≡ (items_of ns (nullable_if (sparse_of d.table p) (reference d (entry_place d.table p)))
      && (is_between (constraints_of d.table p) (pos (count_entries ns)) && (not (unique_of d.table p) || all_differ ns)))
  list_says refers ns p =
      let c = constraints_of d.table p in
      let items = nullable_if (sparse_of d.table p) (reference d (entry_place d.table p)) in
      let last = with_unique (unique_of d.table p) in
      let most = with_bound (codes "maxItems") c.max last in
      let least = with_bound (codes "minItems") c.min most in
      let all = member (codes "type") (text (codes "array")) (member (codes "items") items least) in
      parts (items_of ns items) (is_at_least c.min (pos (count_entries ns))) (is_at_most c.max (pos (count_entries ns)))
      (not (unique_of d.table p) || all_differ ns)
      (all_hold (asked_by d test few refers (list ns)) all least) (all_hold (asked_by d test few refers (list ns)) all most)
      (least_items refers ns all most c.min)
      (greatest_items refers ns all last c.max
      ∙ ap (λ b. is_at_most c.max (pos (count_entries ns)) && b) (unique_items refers ns all (unique_of d.table p)))

  abbrev c : Codec
  c = codec d test few

  abbrev entry_at : Place → Node → Reading
  entry_at p n = entry_reading (sparse_of d.table p) (entry_place d.table p) (child_of c n)

  items_accepted : (p : Place) (i : ℕ) (ns : Nodes) → AllNodes (IsAccepted d test few) ns → InTable d.table (entry_place d.table p)
      → IsListed d.table d.places (entry_place d.table p) → entries_faults c p i (children c ns) ≡ []
      → items_of ns (nullable_if (sparse_of d.table p) (reference d (entry_place d.table p))) ≡ true
  items_accepted p i no_nodes all inside listed h = refl
  items_accepted p i (node n ns) all inside listed h =
      let fs = under (Index i) (faults_in (entry_at p n)) in
      let more = entries_faults c p (suc i) (children c ns) in
      and_from _ _
      (entry_accepted d test few (sparse_of d.table p) n (entry_place d.table p) all.0 inside listed
      (none_under (Index i) (faults_in (entry_at p n)) (none_first fs more h)))
      (items_accepted p (suc i) ns all.1 inside listed (none_behind fs more h))

  items_clean : (p : Place) (i : ℕ) (ns : Nodes) → AllNodes (IsClean d test few) ns → InTable d.table (entry_place d.table p)
      → IsListed d.table d.places (entry_place d.table p) → AllTold d.table (entry_place d.table p)
      → items_of ns (nullable_if (sparse_of d.table p) (reference d (entry_place d.table p))) ≡ true
      → entries_faults c p i (children c ns) ≡ []
  items_clean p i no_nodes all inside listed told h = refl
  items_clean p i (node n ns) all inside listed told h =
      let schema = nullable_if (sparse_of d.table p) (reference d (entry_place d.table p)) in
      let w = and_parts (says d test few n schema) (items_of ns schema) h in
      none_joined (under (Index i) (faults_in (entry_at p n))) (entries_faults c p (suc i) (children c ns))
      (ap (under (Index i)) (entry_clean d test few (sparse_of d.table p) n (entry_place d.table p) all.0 inside listed told w.0))
      (items_clean p (suc i) ns all.1 inside listed told w.1)

  -- an entry without a fault has a value
  entry_is : (p : Place) (n : Node) → IsReading (entry_at p n)
  entry_is p n = by (is_null n) (sparse_of d.table p)
    where
      by : (b sparse : Bool) → IsReading (cond b (cond sparse (Ok null_val) (Err (one_here Null))) (reading c n (entry_place d.table p)))
      by true true = tt
      by true false = tt
      by false sparse = reading_is c n (entry_place d.table p)

  entry_value : (p : Place) (n : Node) → faults_in (entry_at p n) ≡ [] → (v : Val) × (entry_at p n ≡ Ok v)
  entry_value p n h = clean_reading (entry_at p n) (entry_is p n) h

  -- two entries whose trees are equal have one value
  entries_agree : (p : Place) (n m : Node) (v w : Val) → Shaped d.table → DefaultsPass d.table test → InTable d.table (entry_place d.table p)
      → entry_at p n ≡ Ok v → entry_at p m ≡ Ok w → equal_trees n m ≡ true → v ≡ w
  entries_agree p n m v w shaped defaults inside h g e =
      by (is_null n) (sym (equal_null n m e)) (sparse_of d.table p) h
      (subst (λ b. cond b (cond (sparse_of d.table p) (Ok null_val) (Err (one_here Null))) (reading c m (entry_place d.table p)) ≡ Ok w)
      (sym (equal_null n m e)) g)
    where
      null_values : (x : Val) → ok_reading null_val ≡ Ok x → null_val ≡ x
      null_values x k = same_reading null_val x k

      by : (b : Bool) → is_null m ≡ b → (sparse : Bool)
          → cond b (cond sparse (Ok null_val) (Err (one_here Null))) (reading c n (entry_place d.table p)) ≡ Ok v
          → cond b (cond sparse (Ok null_val) (Err (one_here Null))) (reading c m (entry_place d.table p)) ≡ Ok w → v ≡ w
      by true f true x y = sym (null_values v x) ∙ null_values w y
      by true f false x y = absurd cc
      by false f sparse x y =
          equal_values_of d.table d.json_names test (entry_place d.table p) n m v w shaped defaults inside x y e

  -- the first is unlike the others where no value is the first's
  none_equal : (p : Place) (i : ℕ) (n : Node) (v : Val) (ns : Nodes) → Shaped d.table → DefaultsPass d.table test
      → InTable d.table (entry_place d.table p) → entry_at p n ≡ Ok v → entries_faults c p i (children c ns) ≡ []
      → list_any (λ w. same_val v w) (entries_values c p (children c ns)) ≡ false → none_equals n ns ≡ true
  none_equal p i n v no_nodes shaped defaults inside is h g = refl
  none_equal p i n v (node m ns) shaped defaults inside is h g =
      let fs = under (Index i) (faults_in (entry_at p m)) in
      let more = entries_faults c p (suc i) (children c ns) in
      let found = entry_value p m (none_under (Index i) (faults_in (entry_at p m)) (none_first fs more h)) in
      let unlike = subst (λ r. list_any (λ w. same_val v w) (values_in r ++ entries_values c p (children c ns)) ≡ false) found.1 g in
      let w = or_parts (same_val v found.0) (list_any (λ w. same_val v w) (entries_values c p (children c ns))) unlike in
      ap (λ b. not b && none_equals n ns)
      (false_from_ne_true (equal_trees n m) (λ e. never v found.0
      (entries_agree p n m v found.0 shaped defaults inside is found.1 e) w.0))
      ∙ none_equal p (suc i) n v ns shaped defaults inside is (none_behind fs more h) w.1
    where
      never : (x y : Val) → x ≡ y → same_val x y ≡ false → ⊥
      never x y e f = no_both (sym (subst (λ z. same_val x z ≡ true) e (same_itself x)) ∙ f)
        where
          no_both : true ≡ false → ⊥
          no_both k = cc

  unlike_trees : (p : Place) (i : ℕ) (ns : Nodes) → Shaped d.table → DefaultsPass d.table test → InTable d.table (entry_place d.table p)
      → entries_faults c p i (children c ns) ≡ [] → has_twice (entries_values c p (children c ns)) ≡ false → all_differ ns ≡ true
  unlike_trees p i no_nodes shaped defaults inside h g = refl
  unlike_trees p i (node n ns) shaped defaults inside h g =
      let fs = under (Index i) (faults_in (entry_at p n)) in
      let more = entries_faults c p (suc i) (children c ns) in
      let found = entry_value p n (none_under (Index i) (faults_in (entry_at p n)) (none_first fs more h)) in
      let vs = entries_values c p (children c ns) in
      let once = subst (λ r. has_twice (values_in r ++ vs) ≡ false) found.1 g in
      let w = or_parts (list_any (λ x. same_val found.0 x) vs) (has_twice vs) once in
      and_from (none_equals n ns) (all_differ ns)
      (none_equal p (suc i) n found.0 ns shaped defaults inside found.1 (none_behind fs more h) w.0)
      (unlike_trees p (suc i) ns shaped defaults inside (none_behind fs more h) w.1)

  -- what uniqueness asks for
  unique_if : (p : Place) (fs : List FaultAt) (vs : List Val) → fs ≡ [] → unique_faults c p fs vs ≡ []
      → (unique_of d.table p && has_twice vs) ≡ false
  unique_if p [] vs e h = by (unique_of d.table p && has_twice vs) h
    where
      by : (b : Bool) → cond b (one_here Unique) [] ≡ [] → b ≡ false
      by true g = absurd cc
      by false g = refl
  unique_if p (f ∷ fs) vs e h = absurd cc

  pub list_accepted : (p : Place) (refers : List ℕ → Bool) (ns : Nodes) → Shaped d.table → DefaultsPass d.table test
      → AllNodes (IsAccepted d test few) ns → InTable d.table (entry_place d.table p)
      → IsListed d.table d.places (entry_place d.table p) → faults_in (list_reading c p (children c ns)) ≡ []
      → accepts (asked_by d test few refers (list ns)) (list_definition d p) ≡ true
  list_accepted p refers ns shaped defaults all inside listed h =
      let entries = entries_faults c p 0 (children c ns) in
      let lengths = here (length_broken (constraints_of d.table p) (length (children c ns))) in
      let vs = entries_values c p (children c ns) in
      let none = sym (faults_settled (list_faults c p (children c ns)) (list_val (vals_of vs))) ∙ h in
      let first = none_first (entries ++ lengths) (unique_faults c p entries vs) none in
      let clean = none_first entries lengths first in
      let long = none_here (length_broken (constraints_of d.table p) (length (children c ns))) (none_behind entries lengths first) in
      let once = unique_if p entries vs clean (none_behind (entries ++ lengths) (unique_faults c p entries vs) none) in
      let items = nullable_if (sparse_of d.table p) (reference d (entry_place d.table p)) in
      list_says refers ns p
      ∙ and_from (items_of ns items) _ (items_accepted p 0 ns all inside listed clean)
      (and_from (is_between (constraints_of d.table p) (pos (count_entries ns))) _
      (sym (nil_unless (is_between (constraints_of d.table p) (pos (count_entries ns))) Length)
      ∙ is_nil_of _ (ap (λ k. length_broken (constraints_of d.table p) k) (sym (count_children c ns)) ∙ long))
      (by (unique_of d.table p) once (λ g. unlike_trees p 0 ns shaped defaults inside clean g)))
    where
      by : (unique : Bool) → (unique && has_twice (entries_values c p (children c ns))) ≡ false
          → (has_twice (entries_values c p (children c ns)) ≡ false → all_differ ns ≡ true) → (not unique || all_differ ns) ≡ true
      by true g differ = differ g
      by false g differ = refl

  -- values of plain types and the trees that spell them
  abbrev tree_for : Val → Node
  tree_for (bool_val b) = bool b
  tree_for (int_val z) = int z
  tree_for (text_val u) = text u
  tree_for v = null

  abbrev IsPlainSimple : Simple → Type 0
  IsPlainSimple the.Boolean = Unit {0}
  IsPlainSimple the.Text = Unit {0}
  IsPlainSimple (the.Number bits) = Unit {0}
  IsPlainSimple x = ⊥

  plain_sort : (kind : ShapeKind) (format : Option Format) → IsPlainKind kind
      → (x : Simple) × (sort_by kind format ≡ simple x) × IsPlainSimple x
  plain_sort kinds.Boolean format h = (the.Boolean, refl, tt)
  plain_sort kinds.Text format h = (the.Text, refl, tt)
  plain_sort kinds.Enum format h = (the.Text, refl, tt)
  plain_sort kinds.Byte format h = (the.Number 8, refl, tt)
  plain_sort kinds.Short format h = (the.Number 16, refl, tt)
  plain_sort kinds.Integer format h = (the.Number 32, refl, tt)
  plain_sort kinds.IntEnum format h = (the.Number 32, refl, tt)
  plain_sort kinds.Long format h = (the.Number 64, refl, tt)
  plain_sort kinds.Blob format h = absurd h
  plain_sort kinds.Timestamp format h = absurd h
  plain_sort kinds.List format h = absurd h
  plain_sort kinds.Map format h = absurd h
  plain_sort kinds.Structure format h = absurd h
  plain_sort kinds.Union format h = absurd h
  plain_sort kinds.LeftOut format h = absurd h

  simple_reading : (q : Place) (x : Simple) (n : Node) → sort_at c q ≡ simple x → reading c n q ≡ leaf_reading c q (json_read x n)
  simple_reading q x null e = ap (λ s. leaf_by s c q null) e
  simple_reading q x (bool b) e = ap (λ s. leaf_by s c q (bool b)) e
  simple_reading q x (int z) e = ap (λ s. leaf_by s c q (int z)) e
  simple_reading q x (number u) e = ap (λ s. leaf_by s c q (number u)) e
  simple_reading q x (text u) e = ap (λ s. leaf_by s c q (text u)) e
  simple_reading q x (bytes u) e = ap (λ s. leaf_by s c q (bytes u)) e
  simple_reading q x (tag k n) e = ap (λ s. leaf_by s c q (tag k n)) e
  simple_reading q x (opaque b) e = ap (λ s. leaf_by s c q (opaque b)) e
  simple_reading q x (list ns) e = ap (λ s. list_by s c q (list ns) (children c ns)) e
  simple_reading q x (object ms) e = ap (λ s. object_by s c q (object ms) (named_children c ms)) e

  settled_tree : (q : Place) (w v : Val) → leaf_reading c q (Ok w) ≡ Ok v → tree_for w ≡ tree_for v
  settled_tree q w v h = ap tree_for (settled_ok (here (broken_at c q w)) w v h).1

  value_tree : (q : Place) (x : Simple) (n : Node) (v : Val) → IsPlainSimple x → leaf_reading c q (json_read x n) ≡ Ok v → n ≡ tree_for v
  value_tree q the.Blob n v plain h = absurd plain
  value_tree q (the.Time format) n v plain h = absurd plain
  value_tree q the.Boolean (bool b) v plain h = settled_tree q (bool_val b) v h
  value_tree q the.Boolean n v plain h = absurd cc
  value_tree q the.Text (text u) v plain h = by (is_utf8 u) h
    where
      by : (b : Bool) → leaf_reading c q (cond b (Ok (text_val u)) (Err WrongType)) ≡ Ok v → text u ≡ tree_for v
      by true g = settled_tree q (text_val u) v g
      by false g = absurd cc
  value_tree q the.Text n v plain h = absurd cc
  value_tree q (the.Number bits) (int z) v plain h = by (fits_bits bits z) h
    where
      by : (b : Bool) → leaf_reading c q (cond b (Ok (int_val z)) (Err Width)) ≡ Ok v → int z ≡ tree_for v
      by true g = settled_tree q (int_val z) v g
      by false g = absurd cc
  value_tree q (the.Number bits) n v plain h = absurd cc

  entry_tree : (p : Place) (n : Node) (v : Val) → IsPlainKind (kind_of d.table (entry_place d.table p)) → entry_at p n ≡ Ok v
      → n ≡ tree_for v
  entry_tree p n v plain h = by (is_null n) refl (sparse_of d.table p) h
    where
      q : Place
      q = entry_place d.table p

      by : (b : Bool) → is_null n ≡ b → (sparse : Bool)
          → cond b (cond sparse (Ok null_val) (Err (one_here Null))) (reading c n q) ≡ Ok v → n ≡ tree_for v
      by true e true g = null_is n e ∙ ap tree_for (same_reading null_val v g)
      by true e false g = absurd cc
      by false e sparse g =
          let x = plain_sort (kind_of d.table q) (format_of d.table q) plain in
          value_tree q x.0 n v x.2 (sym (simple_reading q x.0 n x.1) ∙ g)

  tree_itself : (v : Val) → equal_trees (tree_for v) (tree_for v) ≡ true
  tree_itself (bool_val true) = refl
  tree_itself (bool_val false) = refl
  tree_itself (int_val z) = (Decides-int_eq z z).1 refl
  tree_itself (text_val u) = (bytes_eq-Decides u u).1 refl
  tree_itself null_val = refl
  tree_itself (blob_val u) = refl
  tree_itself (time_val ms) = refl
  tree_itself (list_val vs) = refl
  tree_itself (map_val es) = refl
  tree_itself (structure_val fs) = refl
  tree_itself (union_val k v) = refl

  -- the first value is no other's where its tree is unlike the others
  none_like : (p : Place) (i : ℕ) (n : Node) (v : Val) (ns : Nodes) → IsPlainKind (kind_of d.table (entry_place d.table p))
      → entry_at p n ≡ Ok v → entries_faults c p i (children c ns) ≡ [] → none_equals n ns ≡ true
      → list_any (λ w. same_val v w) (entries_values c p (children c ns)) ≡ false
  none_like p i n v no_nodes plain is h g = refl
  none_like p i n v (node m ns) plain is h g =
      let fs = under (Index i) (faults_in (entry_at p m)) in
      let more = entries_faults c p (suc i) (children c ns) in
      let found = entry_value p m (none_under (Index i) (faults_in (entry_at p m)) (none_first fs more h)) in
      let w = and_parts (not (equal_trees n m)) (none_equals n ns) g in
      subst (λ r. list_any (λ x. same_val v x) (values_in r ++ entries_values c p (children c ns)) ≡ false) (sym found.1)
      (or_from (same_val v found.0) (list_any (λ x. same_val v x) (entries_values c p (children c ns)))
      (false_from_ne_true (same_val v found.0) (λ e. never (equal_trees n m) w.0
      (same_trees v n m (entry_tree p n v plain is) (entry_tree p m found.0 plain found.1 ∙ ap tree_for (sym (same_is v found.0 e))))))
      (none_like p (suc i) n v ns plain is (none_behind fs more h) w.1))
    where
      never : (b : Bool) → not b ≡ true → b ≡ true → ⊥
      never true x y = cc
      never false x y = cc

      same_trees : (v : Val) (n m : Node) → n ≡ tree_for v → m ≡ tree_for v → equal_trees n m ≡ true
      same_trees v n m e f =
          ap (λ x. equal_trees x m) e ∙ ap (λ x. equal_trees (tree_for v) x) f ∙ tree_itself v

  unlike_values : (p : Place) (i : ℕ) (ns : Nodes) → IsPlainKind (kind_of d.table (entry_place d.table p))
      → entries_faults c p i (children c ns) ≡ [] → all_differ ns ≡ true → has_twice (entries_values c p (children c ns)) ≡ false
  unlike_values p i no_nodes plain h g = refl
  unlike_values p i (node n ns) plain h g =
      let fs = under (Index i) (faults_in (entry_at p n)) in
      let more = entries_faults c p (suc i) (children c ns) in
      let found = entry_value p n (none_under (Index i) (faults_in (entry_at p n)) (none_first fs more h)) in
      let w = and_parts (none_equals n ns) (all_differ ns) g in
      subst (λ r. has_twice (values_in r ++ entries_values c p (children c ns)) ≡ false) (sym found.1)
      (or_from (list_any (λ x. same_val found.0 x) (entries_values c p (children c ns))) (has_twice (entries_values c p (children c ns)))
      (none_like p (suc i) n found.0 ns plain found.1 (none_behind fs more h) w.0)
      (unlike_values p (suc i) ns plain (none_behind fs more h) w.1))

  unique_none : (p : Place) (fs : List FaultAt) (vs : List Val) → fs ≡ [] → (unique_of d.table p && has_twice vs) ≡ false
      → unique_faults c p fs vs ≡ []
  unique_none p [] vs e h = ap (λ b. cond b (one_here Unique) []) h
  unique_none p (f ∷ fs) vs e h = absurd cc

  pub list_clean : (p : Place) (refers : List ℕ → Bool) (ns : Nodes) → AllNodes (IsClean d test few) ns
      → InTable d.table (entry_place d.table p) → IsListed d.table d.places (entry_place d.table p)
      → AllTold d.table (entry_place d.table p)
      → (unique_of d.table p ≡ true → IsPlainKind (kind_of d.table (entry_place d.table p)))
      → accepts (asked_by d test few refers (list ns)) (list_definition d p) ≡ true
      → faults_in (list_reading c p (children c ns)) ≡ []
  list_clean p refers ns all inside listed told plain h =
      let entries = entries_faults c p 0 (children c ns) in
      let lengths = here (length_broken (constraints_of d.table p) (length (children c ns))) in
      let vs = entries_values c p (children c ns) in
      let items = nullable_if (sparse_of d.table p) (reference d (entry_place d.table p)) in
      let between = is_between (constraints_of d.table p) (pos (count_entries ns)) in
      let one = and_parts (items_of ns items) (between && (not (unique_of d.table p) || all_differ ns)) (sym (list_says refers ns p) ∙ h) in
      let two = and_parts between (not (unique_of d.table p) || all_differ ns) one.1 in
      let clean = items_clean p 0 ns all inside listed told one.0 in
      faults_settled (list_faults c p (children c ns)) (list_val (vals_of vs))
      ∙ none_joined (entries ++ lengths) (unique_faults c p entries vs)
      (none_joined entries lengths clean
      (ap here (ap (λ k. length_broken (constraints_of d.table p) k) (count_children c ns)
      ∙ nil_is (length_broken (constraints_of d.table p) (count_entries ns)) (nil_unless between Length ∙ two.0))))
      (unique_none p entries vs clean (by (unique_of d.table p) plain two.1 (λ x g. unlike_values p 0 ns x clean g)))
    where
      by : (unique : Bool) → (unique ≡ true → IsPlainKind (kind_of d.table (entry_place d.table p)))
          → (not unique || all_differ ns) ≡ true
          → (IsPlainKind (kind_of d.table (entry_place d.table p)) → all_differ ns ≡ true
          → has_twice (entries_values c p (children c ns)) ≡ false)
          → (unique && has_twice (entries_values c p (children c ns))) ≡ false
      by true is g unlike = unlike (is refl) g
      by false is g unlike = refl
