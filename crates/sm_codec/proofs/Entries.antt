-- A list: what its entries come to is what they spell, and the list with them.
use Rattle.std.proofs.Common.{◌≡◌, ℕ, suc, Bool, true, false, ◌&&◌, cond, List, [], ◌∷◌, ◌++◌, length, refl, sym, ap, ◌∙◌, subst}
use Rattle.std.specs.Prelude.{Ok, Err}
use Rattle.std.proofs.lemmas.List.{length-map}
use Rattle.sm_tree.specs.Node.{Node, null, list, nodes_of}
use Rattle.sm_tree.specs.declared.path.Step.TheVariants.{Index}
use Rattle.sm_shapes.specs.Values.{Val, Vals, null_val, bool_val, int_val, text_val, blob_val, time_val, list_val, map_val, structure_val}
use Rattle.sm_shapes.specs.Values.{union_val, no_vals, val, vals_of, each_val}
use Rattle.sm_shapes.specs.Places.{Place, constraints_of, unique_of, sparse_of, entry_place}
use Rattle.sm_shapes.specs.Broken.{length_broken, has_twice}
use Rattle.sm_shapes.specs.Fitting.{Fits, FitEntries, FitsOrNull, AllUnlike}
use Rattle.sm_shapes.specs.declared.fault.FaultKind.TheVariants.{WrongType, Null, Unique}
use Rattle.sm_codec.specs.declared.simple.Simple.{Simple}
use Rattle.sm_shapes.proofs.SameVals.{unlike_where, where_unlike}
use Rattle.sm_codec.specs.Convention.{IsConvention}
use Rattle.sm_codec.specs.Sorts.{Sort, simple, a_list, a_map, a_structure, a_union, left_out}
use Rattle.sm_codec.specs.Codec.{Codec, sort_at, InTable}
use Rattle.sm_codec.specs.CodecLaws.{IsCodec}
use Rattle.sm_codec.specs.Named.{is_null}
use Rattle.sm_codec.specs.Spelling.{Spelled, SpelledEntries, SpelledOrNull, Spells}
use Rattle.sm_codec.specs.FaultLists.{here, under, Reading, faults_in, values_in, settled}
use Rattle.sm_codec.specs.Readings.{child_of, children_of, one_here, entry_reading, entries_faults, entries_values, unique_faults}
use Rattle.sm_codec.specs.Readings.{list_faults, list_reading, list_by, leaf_by, leaf_reading, reading, children}
use Rattle.sm_codec.proofs.NoFaults.{none_first, none_behind, none_under, none_here, IsReading, reading_is, settled_ok, ok_reading}
use Rattle.sm_codec.proofs.ChildLists.{null_is, entries_are, nodes_each}
use Rattle.sm_codec.proofs.PlacesIn.{kind_of_sort, entry_in}

-- what the tree comes to at a place, it spells
abbrev pub IsRead : Codec → Node → Type 0
IsRead c n = (p : Place) (v : Val) → InTable c.table p → reading c n p ≡ Ok v → Spells c p v n

abbrev pub AreRead : Codec → List Node → Type 0
AreRead c [] = Unit {0}
AreRead c (n ∷ ns) = IsRead c n × AreRead c ns

-- what spells the value comes to it
abbrev pub IsSpelled : Codec → Val → Type 0
IsSpelled c v = (p : Place) (n : Node) → InTable c.table p → Spells c p v n → reading c n p ≡ Ok v

abbrev pub AreSpelled : Codec → Vals → Type 0
AreSpelled c no_vals = Unit {0}
AreSpelled c (val v vs) = IsSpelled c v × AreSpelled c vs

-- an entry of a list, or a value of a map
abbrev pub EntrySays : Codec → Place → Bool → Node → Reading → Type 0
EntrySays c q sparse n (Ok v) = SpelledOrNull (Spelled c q v n) v n × FitsOrNull sparse (Fits c.table c.test q v) v
EntrySays c q sparse n (Err []) = ⊥
EntrySays c q sparse n (Err (f ∷ fs)) = Unit {0}

no_null_value : (c : Codec) (q : Place) (sparse : Bool) (n : Node) (v : Val) → Spells c q v n → EntrySays c q sparse n (Ok v)
no_null_value c q sparse n null_val h = absurd h.0
no_null_value c q sparse n (bool_val b) h = (h.1, h.0)
no_null_value c q sparse n (int_val z) h = (h.1, h.0)
no_null_value c q sparse n (text_val u) h = (h.1, h.0)
no_null_value c q sparse n (blob_val u) h = (h.1, h.0)
no_null_value c q sparse n (time_val ms) h = (h.1, h.0)
no_null_value c q sparse n (list_val vs) h = (h.1, h.0)
no_null_value c q sparse n (map_val es) h = (h.1, h.0)
no_null_value c q sparse n (structure_val fs) h = (h.1, h.0)
no_null_value c q sparse n (union_val k v) h = (h.1, h.0)

present_says : (c : Codec) (q : Place) (sparse : Bool) (n : Node) → IsRead c n → InTable c.table q → (r : Reading) → reading c n q ≡ r
    → IsReading r → EntrySays c q sparse n r
present_says c q sparse n read i (Ok v) e is = no_null_value c q sparse n v (read q v i e)
present_says c q sparse n read i (Err []) e is = is
present_says c q sparse n read i (Err (f ∷ fs)) e is = tt

null_says : (c : Codec) (q : Place) (sparse : Bool) (n : Node) → n ≡ null
    → EntrySays c q sparse n (cond sparse (Ok null_val) (Err (one_here Null)))
null_says c q true n e = (e, refl)
null_says c q false n e = tt

entry_if : (c : Codec) (q : Place) (sparse : Bool) (n : Node) → IsRead c n → InTable c.table q → (b : Bool) → is_null n ≡ b
    → EntrySays c q sparse n (cond b (cond sparse (Ok null_val) (Err (one_here Null))) (reading c n q))
entry_if c q sparse n read i true e = null_says c q sparse n (null_is n e)
entry_if c q sparse n read i false e = present_says c q sparse n read i (reading c n q) refl (reading_is c n q)

pub entry_says : (c : Codec) (q : Place) (sparse : Bool) (n : Node) → IsRead c n → InTable c.table q
    → EntrySays c q sparse n (entry_reading sparse q (child_of c n))
entry_says c q sparse n read i = entry_if c q sparse n read i (is_null n) refl

-- null spells nothing but Null
pub null_unread : (c : Codec) (p : Place) (v : Val) → IsConvention c.convention → reading c null p ≡ Ok v → ⊥
null_unread c p v laws h = by_sort (sort_at c p) h
  where
    no_leaf : (x : Simple) → leaf_reading c p (c.convention.read x null) ≡ Ok v → ⊥
    no_leaf x g = let bad : leaf_reading c p (Err WrongType) ≡ Ok v = sym (ap (leaf_reading c p) (laws.no_null x)) ∙ g in cc

    by_sort : (s : Sort) → leaf_by s c p null ≡ Ok v → ⊥
    by_sort (simple x) g = no_leaf x g
    by_sort a_list g = cc
    by_sort a_map g = cc
    by_sort a_structure g = cc
    by_sort a_union g = cc
    by_sort left_out g = cc

entry_is : (c : Codec) (q : Place) (sparse : Bool) (n : Node) (v : Val) → IsConvention c.convention → reading c n q ≡ Ok v → (b : Bool)
    → is_null n ≡ b → cond b (cond sparse (Ok null_val) (Err (one_here Null))) (reading c n q) ≡ Ok v
entry_is c q sparse n v laws h true e = absurd (null_unread c q v laws (subst (λ m. reading c m q ≡ Ok v) (null_is n e) h))
entry_is c q sparse n v laws h false e = h

sparse_null : (c : Codec) (q : Place) (sparse : Bool) (n : Node) → n ≡ null → sparse ≡ true
    → entry_reading sparse q (child_of c n) ≡ Ok null_val
sparse_null c q sparse n e s =
    ap (λ m. entry_reading sparse q (child_of c m)) e ∙ ap (λ b. cond b (Ok null_val) (Err (one_here Null))) s

-- what an entry spells, it comes to
pub entry_spelled : (c : Codec) (q : Place) (sparse : Bool) (n : Node) (v : Val) → IsConvention c.convention → InTable c.table q
    → IsSpelled c v → SpelledOrNull (Spelled c q v n) v n → FitsOrNull sparse (Fits c.table c.test q v) v
    → entry_reading sparse q (child_of c n) ≡ Ok v
entry_spelled c q sparse n null_val laws i is h g = sparse_null c q sparse n h g
entry_spelled c q sparse n (bool_val b) laws i is h g = entry_is c q sparse n (bool_val b) laws (is q n i (g, h)) (is_null n) refl
entry_spelled c q sparse n (int_val z) laws i is h g = entry_is c q sparse n (int_val z) laws (is q n i (g, h)) (is_null n) refl
entry_spelled c q sparse n (text_val u) laws i is h g = entry_is c q sparse n (text_val u) laws (is q n i (g, h)) (is_null n) refl
entry_spelled c q sparse n (blob_val u) laws i is h g = entry_is c q sparse n (blob_val u) laws (is q n i (g, h)) (is_null n) refl
entry_spelled c q sparse n (time_val ms) laws i is h g = entry_is c q sparse n (time_val ms) laws (is q n i (g, h)) (is_null n) refl
entry_spelled c q sparse n (list_val vs) laws i is h g = entry_is c q sparse n (list_val vs) laws (is q n i (g, h)) (is_null n) refl
entry_spelled c q sparse n (map_val es) laws i is h g = entry_is c q sparse n (map_val es) laws (is q n i (g, h)) (is_null n) refl
entry_spelled c q sparse n (structure_val fs) laws i is h g =
    entry_is c q sparse n (structure_val fs) laws (is q n i (g, h)) (is_null n) refl
entry_spelled c q sparse n (union_val k v) laws i is h g = entry_is c q sparse n (union_val k v) laws (is q n i (g, h)) (is_null n) refl

-- the entries of values that are a list
pub vals_back : (vs : List Val) → each_val (vals_of vs) ≡ vs
vals_back [] = refl
vals_back (v ∷ vs) = ap (λ ws. v ∷ ws) (vals_back vs)

pub vals_again : (vs : Vals) → vals_of (each_val vs) ≡ vs
vals_again no_vals = refl
vals_again (val v vs) = ap (val v) (vals_again vs)

module _ (c : Codec) (p : Place) where
  abbrev ReadEntries : List Node → List Val → Type 0
  ReadEntries ns vs = SpelledEntries c p (vals_of vs) ns × FitEntries c.table c.test p (vals_of vs) × (length vs ≡ length ns)

  entry_more : (n : Node) (ns : List Node) (r : Reading) (more : List Val) → EntrySays c (entry_place c.table p) (sparse_of c.table p) n r
      → faults_in r ≡ [] → ReadEntries ns more → ReadEntries (n ∷ ns) (values_in r ++ more)
  entry_more n ns (Ok v) more says clean rest = ((says.0, rest.0), (says.1, rest.1), ap suc rest.2)
  entry_more n ns (Err []) more says clean rest = absurd says
  entry_more n ns (Err (f ∷ fs)) more says clean rest = absurd cc

  entries_read : (i : ℕ) (ns : List Node) → AreRead c ns → InTable c.table (entry_place c.table p)
      → entries_faults c p i (children_of c ns) ≡ [] → ReadEntries ns (entries_values c p (children_of c ns))
  entries_read i [] read inside h = (tt, tt, refl)
  entries_read i (n ∷ ns) read inside h =
      let r = entry_reading (sparse_of c.table p) (entry_place c.table p) (child_of c n) in
      let first = none_first (under (Index i) (faults_in r)) (entries_faults c p (suc i) (children_of c ns)) h in
      let rest = none_behind (under (Index i) (faults_in r)) (entries_faults c p (suc i) (children_of c ns)) h in
      entry_more n ns r (entries_values c p (children_of c ns)) (entry_says c (entry_place c.table p) (sparse_of c.table p) n read.0 inside)
      (none_under (Index i) (faults_in r) first) (entries_read (suc i) ns read.1 inside rest)

  unlike_if : (u b : Bool) → cond (u && b) (one_here Unique) [] ≡ [] → u ≡ true → b ≡ false
  unlike_if true true h e = absurd cc
  unlike_if true false h e = refl
  unlike_if false b h e = absurd cc

  -- a list that has no fault
  pub list_read : (ns : List Node) (v : Val) → IsCodec c → InTable c.table p → sort_at c p ≡ a_list → AreRead c ns
      → list_reading c p (children_of c ns) ≡ Ok v → Spells c p v (list (nodes_of ns))
  list_read ns v laws inside sort read h =
      let cs = children_of c ns in
      let vs = entries_values c p cs in
      let es = entries_faults c p 0 cs in
      let long = here (length_broken (constraints_of c.table p) (length cs)) in
      let found = settled_ok (list_faults c p cs) (list_val (vals_of vs)) v h in
      let both = none_first (es ++ long) (unique_faults c p es vs) found.0 in
      let clean = none_first es long both in
      let kind = kind_of_sort c.table p a_list sort in
      let parts = entries_read 0 ns read (entry_in c.table p laws.table inside kind) clean in
      let count : length cs ≡ length (each_val (vals_of vs)) =
      length-map ns (child_of c) ∙ sym parts.2 ∙ sym (ap length (vals_back vs)) in
      let kept = subst (λ n. length_broken (constraints_of c.table p) n ≡ []) count
      (none_here (length_broken (constraints_of c.table p) (length cs)) (none_behind es long both)) in
      let unlike = subst (λ fs. unique_faults c p fs vs ≡ []) clean (none_behind (es ++ long) (unique_faults c p es vs) found.0) in
      subst (λ w. Spells c p w (list (nodes_of ns))) found.1 (
        (
          kind,
          kept,
          (λ u. subst AllUnlike (sym (vals_back vs))
              (unlike_where vs (unlike_if (unique_of c.table p) (has_twice vs) unlike u))),
          parts.1,
        ),
        (sort, (ns, refl, parts.0)),
      )

  abbrev SpelledList : ℕ → List Node → List Val → Type 0
  SpelledList i ns vs =
      (entries_faults c p i (children_of c ns) ≡ []) × (entries_values c p (children_of c ns) ≡ vs) × (length ns ≡ length vs)

  entries_spelled : (i : ℕ) (vs : Vals) (ns : List Node) → IsConvention c.convention → InTable c.table (entry_place c.table p)
      → AreSpelled c vs
      → SpelledEntries c p vs ns → FitEntries c.table c.test p vs → SpelledList i ns (each_val vs)
  entries_spelled i no_vals [] laws inside is h g = (refl, refl, refl)
  entries_spelled i no_vals (n ∷ ns) laws inside is h g = absurd h
  entries_spelled i (val v vs) [] laws inside is h g = absurd h
  entries_spelled i (val v vs) (n ∷ ns) laws inside is h g =
      let one = entry_spelled c (entry_place c.table p) (sparse_of c.table p) n v laws inside is.0 h.0 g.0 in
      let rest = entries_spelled (suc i) vs ns laws inside is.1 h.1 g.1 in (
        ap (λ r. under (Index i) (faults_in r) ++ entries_faults c p (suc i) (children_of c ns)) one ∙ rest.0,
        ap (λ r. values_in r ++ entries_values c p (children_of c ns)) one ∙ ap (λ ws. v ∷ ws) rest.1,
        ap suc rest.2,
      )

  none_twice : (u : Bool) (vs : List Val) → (u ≡ true → AllUnlike vs) → cond (u && has_twice vs) (one_here Unique) [] ≡ []
  none_twice true vs h = ap (λ b. cond b (one_here Unique) []) (where_unlike vs (h refl))
  none_twice false vs h = refl

  -- and a list that spells a value
  pub list_spelled : (vs : Vals) (n : Node) → IsCodec c → InTable c.table p → AreSpelled c vs → Spells c p (list_val vs) n
      → reading c n p ≡ Ok (list_val vs)
  list_spelled vs n laws inside is h =
      let ns = h.1.1.0 in
      let cs = children_of c ns in
      let kind = h.0.0 in
      let parts = entries_spelled 0 vs ns laws.convention (entry_in c.table p laws.table inside kind) is h.1.1.2 h.0.3 in
      let count : length cs ≡ length (each_val vs) = length-map ns (child_of c) ∙ parts.2 in
      let kept : here (length_broken (constraints_of c.table p) (length cs)) ≡ [] =
      ap (λ k. here (length_broken (constraints_of c.table p) k)) count ∙ ap here h.0.1 in
      let unlike : unique_faults c p (entries_faults c p 0 cs) (entries_values c p cs) ≡ [] =
      ap (λ fs. unique_faults c p fs (entries_values c p cs)) parts.0 ∙ ap (unique_faults c p []) parts.1
      ∙ none_twice (unique_of c.table p) (each_val vs) h.0.2 in
      let clean : list_faults c p cs ≡ [] =
      ap (λ fs. fs ++ here (length_broken (constraints_of c.table p) (length cs)) ++ unique_faults c p (entries_faults c p 0 cs)
      (entries_values c p cs)) parts.0
      ∙ ap (λ fs. fs ++ unique_faults c p (entries_faults c p 0 cs) (entries_values c p cs)) kept ∙ unlike in
      ap (λ m. reading c m p) h.1.1.1
      ∙ ap (λ s. list_by s c p (list (nodes_of ns)) (children c (nodes_of ns))) h.1.0
      ∙ ap (list_reading c p) (entries_are c (nodes_of ns) ∙ ap (children_of c) (nodes_each ns))
      ∙ ap (λ fs. settled fs (list_val (vals_of (entries_values c p cs)))) clean
      ∙ ap (λ ws. ok_reading (list_val (vals_of ws))) parts.1
      ∙ ap (λ ws. ok_reading (list_val ws)) (vals_again vs)
