-- Equal trees spell the same values.
use Rattle.std.proofs.Common.{◌≡◌, inl, inr, ℕ, Bool, true, false, Some, is_some, List, [], ◌∷◌, if◌then◌else◌}
use Rattle.std.proofs.Common.{refl, sym, ap, ◌∙◌, subst}
use Rattle.std.specs.Prelude.{Ok}
use Rattle.std.specs.List.{Contains}
use Rattle.std.specs.Str.{bytes_eq}
use Rattle.std.proofs.lemmas.Bool.{and_parts}
use Rattle.std.proofs.lemmas.Bool.Decides.{Decides-int_eq}
use Rattle.std.proofs.lemmas.Slice.Eq.{bytes_eq-Decides}
use Rattle.sm_time.specs.declared.format.Format.{Format}
use Rattle.sm_time.specs.declared.format.Format.TheVariants.{DateTime, HttpDate, EpochSeconds}
use Rattle.sm_tree.specs.Node.{Node, Nodes, Members, null, bool, int, number, text, list, object, no_nodes, node}
use Rattle.sm_tree.specs.Node.{no_members, member, nodes_of, members_of}
use Rattle.sm_tree.specs.Parts.{tree_named}
use Rattle.sm_tree.specs.Same.{HasPair}
use Rattle.sm_shapes.specs.Values.{Val, Vals, EntryVals, FieldVals, null_val, bool_val, int_val, text_val, blob_val, time_val, list_val}
use Rattle.sm_shapes.specs.Values.{map_val, structure_val, union_val, no_vals, val, no_entries, entry, no_fields, field, keys_of}
use Rattle.sm_shapes.specs.Fitting.{Test}
use Rattle.sm_shapes.specs.InOrder.{Shaped, DefaultsPass}
use Rattle.sm_shapes.specs.TableData.{TableData}
use Rattle.sm_shapes.specs.Places.{Place, member_place, members_of_place, entry_place, value_place}
use Rattle.sm_codec.specs.declared.simple.Simple.{Simple}
use Rattle.sm_codec.specs.declared.simple.Simple.TheVariants as the
use Rattle.sm_codec.specs.Conventions.{json_read, json_time}
use Rattle.sm_codec.specs.Codec.{Codec, wire_name, InTable}
use Rattle.sm_codec.specs.Readings.{reading}
use Rattle.sm_codec.specs.CodecLaws.{IsCodec}
use Rattle.sm_codec.specs.Named.{named, is_null}
use Rattle.sm_codec.specs.Spelling.{Spelled, SpelledEntries, SpelledPairs, SpelledFields, SpelledOrNull, AreKeys, AreAbsent, StandNot, IsLeaf}
use Rattle.sm_codec.specs.Spelling.{NoneOrNull}
use Rattle.sm_codec.proofs.JsonLaws.{json_laws}
use Rattle.sm_codec.proofs.NoFaults.{same_reading}
use Rattle.sm_codec.proofs.ReadValues.{one_value}
use Rattle.sm_codec.proofs.ChildLists.{each_node, each_pair, nodes_back, members_back, pairs_each, null_is}
use Rattle.sm_schema.specs.Equal.{trees_named, is_one, same_bool, same_number, equal_trees, entries_equal, pairs_equal, are_named}
use Rattle.sm_schema.specs.SchemaLaws.{json_codec}
use Rattle.sm_schema.proofs.Comparisons.{alike}
use Rattle.sm_schema.proofs.Pairs.{pair_of, first_named, pairs_named}

-- null is equal to null alone
left_null : (m : Node) → equal_trees null m ≡ true → is_null m ≡ true
left_null null h = refl
left_null m h = absurd cc

right_null : (n : Node) → equal_trees n null ≡ true → is_null n ≡ true
right_null null h = refl
right_null n h = absurd cc

pub equal_null : (n m : Node) → equal_trees n m ≡ true → is_null n ≡ is_null m
equal_null n m h = alike (is_null n) (is_null m)
    (λ e. left_null m (subst (λ x. equal_trees x m ≡ true) (null_is n e) h))
    (λ e. right_null n (subst (λ x. equal_trees n x ≡ true) (null_is m e) h))

-- a leaf is equal to itself alone
abbrev IsLeafNode : Node → Type 0
IsLeafNode (bool b) = Unit {0}
IsLeafNode (int z) = Unit {0}
IsLeafNode (number u) = Unit {0}
IsLeafNode (text u) = Unit {0}
IsLeafNode n = ⊥

bool_is : (a b : Bool) → same_bool a b ≡ true → a ≡ b
bool_is true true h = refl
bool_is true false h = absurd cc
bool_is false true h = absurd cc
bool_is false false h = refl

same_leaf : (n m : Node) → IsLeafNode n → equal_trees n m ≡ true → n ≡ m
same_leaf (bool a) (bool b) is h = ap bool (bool_is a b h)
same_leaf (bool a) m is h = absurd cc
same_leaf (int y) (int z) is h = ap int ((Decides-int_eq y z).0 h)
same_leaf (int y) m is h = absurd cc
same_leaf (number u) (number w) is h = ap number ((bytes_eq-Decides u w).0 h)
same_leaf (number u) m is h = absurd cc
same_leaf (text u) (text w) is h = ap text ((bytes_eq-Decides u w).0 h)
same_leaf (text u) m is h = absurd cc
same_leaf n m is h = absurd is

read_leaf_time : (format : Format) (n : Node) (v : Val) → json_time format n ≡ Ok v → IsLeafNode n
read_leaf_time EpochSeconds (int z) v h = tt
read_leaf_time EpochSeconds (number u) v h = tt
read_leaf_time EpochSeconds n v h = absurd cc
read_leaf_time DateTime (text u) v h = tt
read_leaf_time DateTime n v h = absurd cc
read_leaf_time HttpDate (text u) v h = tt
read_leaf_time HttpDate n v h = absurd cc

read_leaf : (x : Simple) (n : Node) (v : Val) → json_read x n ≡ Ok v → IsLeafNode n
read_leaf the.Blob (text u) v h = tt
read_leaf the.Blob n v h = absurd cc
read_leaf the.Boolean (bool b) v h = tt
read_leaf the.Boolean n v h = absurd cc
read_leaf the.Text (text u) v h = tt
read_leaf the.Text n v h = absurd cc
read_leaf (the.Number bits) (int z) v h = tt
read_leaf (the.Number bits) n v h = absurd cc
read_leaf (the.Time format) n v h = read_leaf_time format n v h

list_equal : (ns : Nodes) (m : Node) → equal_trees (list ns) m ≡ true
    → (ms : Nodes) × (m ≡ list ms) × (entries_equal same_number ns ms ≡ true)
list_equal ns (list ms) h = (ms, refl, h)
list_equal ns m h = absurd cc

object_equal : (ps : Members) (m : Node) → equal_trees (object ps) m ≡ true
    → (qs : Members) × (m ≡ object qs) × (pairs_equal same_number ps qs ≡ true) × (are_named qs ps ≡ true)
object_equal ps (object qs) h =
    let w = and_parts (pairs_equal same_number ps qs) (are_named qs ps) h in (qs, refl, w.0, w.1)
object_equal ps m h = absurd cc

-- what stands under a name in two objects that are equal
pub record SameUnder (ps qs : List (List ℕ × Node)) : Type 0 where
  pub none : (name : List ℕ) → named name ps ≡ [] → named name qs ≡ []
  pub one : (name : List ℕ) (n : Node) → named name ps ≡ n ∷ [] → (m : Node) × (named name qs ≡ m ∷ []) × (equal_trees n m ≡ true)

one_of : (holds : Node → Bool) (ns : List Node) → is_one holds ns ≡ true → (m : Node) × (ns ≡ m ∷ []) × (holds m ≡ true)
one_of holds [] h = absurd cc
one_of holds (n ∷ []) h = (n, refl, h)
one_of holds (n ∷ m ∷ ns) h = absurd cc

one_in : (ps qs : Members) (name : List ℕ) (n : Node) → pairs_equal same_number ps qs ≡ true → HasPair name n ps
    → (m : Node) × (trees_named name qs ≡ m ∷ []) × (equal_trees n m ≡ true)
one_in no_members qs name n h is = absurd is
one_in (member k x ps) qs name n h (inl e) =
    let w = and_parts (is_one (λ m. equal_trees x m) (trees_named k qs)) (pairs_equal same_number ps qs) h in
    let found = one_of (λ m. equal_trees x m) (trees_named k qs) w.0 in
    (found.0, ap (λ y. trees_named y qs) e.0 ∙ found.1, subst (λ y. equal_trees y found.0 ≡ true) (sym e.1) found.2)
one_in (member k x ps) qs name n h (inr is) =
    one_in ps qs name n (and_parts (is_one (λ m. equal_trees x m) (trees_named k qs)) (pairs_equal same_number ps qs) h).1 is

-- a name that doesn't stand in the first doesn't stand in the second
none_in : (ps qs : Members) (name : List ℕ) (ns : List Node) → are_named qs ps ≡ true → trees_named name ps ≡ []
    → trees_named name qs ≡ ns → ns ≡ []
none_in ps qs name [] h none e = refl
none_in ps qs name (n ∷ ns) h none e =
    absurd (stands qs h (pair_of name n ns qs e))
  where
    missing : (k : List ℕ) → name ≡ k → is_some (tree_named k ps) ≡ true → ⊥
    missing k same some =
        never (sym (ap is_some (ap (λ y. tree_named y ps) (sym same) ∙ first_named name ps [] none)) ∙ some)
      where
        never : false ≡ true → ⊥
        never x = cc

    stands : (rs : Members) → are_named rs ps ≡ true → HasPair name n rs → ⊥
    stands no_members g is = is
    stands (member k x rs) g (inl same) = missing k same.0 (and_parts (is_some (tree_named k ps)) (are_named rs ps) g).0
    stands (member k x rs) g (inr is) = stands rs (and_parts (is_some (tree_named k ps)) (are_named rs ps) g).1 is

same_under : (ps : List (List ℕ × Node)) (qs : Members) → pairs_equal same_number (members_of ps) qs ≡ true
    → are_named qs (members_of ps) ≡ true → SameUnder ps (each_pair qs)
same_under ps qs h g = record { none = none; one = one }
  where
    given : (name : List ℕ) → trees_named name (members_of ps) ≡ named name ps
    given name = sym (pairs_named name (members_of ps)) ∙ ap (named name) (pairs_each ps)

    none : (name : List ℕ) → named name ps ≡ [] → named name (each_pair qs) ≡ []
    none name e = pairs_named name qs ∙ none_in (members_of ps) qs name (trees_named name qs) g (given name ∙ e) refl

    one : (name : List ℕ) (n : Node) → named name ps ≡ n ∷ []
        → (m : Node) × (named name (each_pair qs) ≡ m ∷ []) × (equal_trees n m ≡ true)
    one name n e =
        let found = one_in (members_of ps) qs name n h (pair_of name n [] (members_of ps) (given name ∙ e)) in
        (found.0, pairs_named name qs ∙ found.1, found.2)

or_null : (v : Val) (S T : Type 0) (n m : Node) → (S → T) → (n ≡ null → m ≡ null) → SpelledOrNull S v n → SpelledOrNull T v m
or_null null_val S T n m move nulls h = nulls h
or_null (bool_val b) S T n m move nulls h = move h
or_null (int_val z) S T n m move nulls h = move h
or_null (text_val u) S T n m move nulls h = move h
or_null (blob_val u) S T n m move nulls h = move h
or_null (time_val ms) S T n m move nulls h = move h
or_null (list_val vs) S T n m move nulls h = move h
or_null (map_val es) S T n m move nulls h = move h
or_null (structure_val fs) S T n m move nulls h = move h
or_null (union_val k v) S T n m move nulls h = move h

nulls_move : (n m : Node) → equal_trees n m ≡ true → n ≡ null → m ≡ null
nulls_move n m h e = null_is m (sym (equal_null n m h) ∙ ap is_null e)

named_none : (name : List ℕ) (ps qs : List (List ℕ × Node)) (ns : List Node) → SameUnder ps qs → named name ps ≡ ns
    → NoneOrNull ns → NoneOrNull (named name qs)
named_none name ps qs [] same e h = subst NoneOrNull (sym (same.none name e)) tt
named_none name ps qs (n ∷ []) same e h =
    let found = same.one name n e in
    subst NoneOrNull (sym found.1) (sym (equal_null n found.0 found.2) ∙ h)
named_none name ps qs (n ∷ m ∷ ns) same e h = absurd h

key_of : (ps : List (List ℕ × Node)) (keys : List (List ℕ)) (k : List ℕ) → AreKeys ps keys
    → is_some (tree_named k (members_of ps)) ≡ true → Contains keys k
key_of [] keys k h some = absurd cc
key_of (p ∷ ps) keys k h some = by (bytes_eq p.0 k) refl (λ s. key_of ps keys k h.1 s) some
  where
    by : (b : Bool) → bytes_eq p.0 k ≡ b → (is_some (tree_named k (members_of ps)) ≡ true → Contains keys k)
        → is_some (if b then Some p.1 else tree_named k (members_of ps)) ≡ true → Contains keys k
    by true e more s = subst (Contains keys) ((bytes_eq-Decides p.0 k).0 e) h.0
    by false e more s = more s

module _ (t : TableData) (json_names : Bool) (test : Test) where
  abbrev c : Codec
  c = json_codec t json_names test

  leaf_moves : (p : Place) (v : Val) (n m : Node) → IsLeaf c p v n → equal_trees n m ≡ true → IsLeaf c p v m
  leaf_moves p v n m (x, sort, is) h =
      (x, sort, subst (λ y. json_read x y ≡ Ok v) (same_leaf n m (read_leaf x n v is) h) is)

  absent_move : (p : Place) (ks : List ℕ) (ps qs : List (List ℕ × Node)) → SameUnder ps qs → AreAbsent c p ps ks → AreAbsent c p qs ks
  absent_move p [] ps qs same h = tt
  absent_move p (k ∷ ks) ps qs same h =
      (named_none (wire_name c p k) ps qs (named (wire_name c p k) ps) same refl h.0, h.1, absent_move p ks ps qs same h.2)

  stand_not_move : (p : Place) (ks : List ℕ) (ps qs : List (List ℕ × Node)) → SameUnder ps qs → StandNot c p ps ks → StandNot c p qs ks
  stand_not_move p [] ps qs same h = tt
  stand_not_move p (k ∷ ks) ps qs same h =
      (named_none (wire_name c p k) ps qs (named (wire_name c p k) ps) same refl h.0, stand_not_move p ks ps qs same h.1)

  keys_move : (ps : List (List ℕ × Node)) (keys : List (List ℕ)) (qs : Members) → are_named qs (members_of ps) ≡ true
      → AreKeys ps keys → AreKeys (each_pair qs) keys
  keys_move ps keys no_members g h = tt
  keys_move ps keys (member k n qs) g h =
      let w = and_parts (is_some (tree_named k (members_of ps))) (are_named qs (members_of ps)) g in
      (key_of ps keys k h w.0, keys_move ps keys qs w.1 h)

  mutual
    pub moves : (v : Val) (p : Place) (n m : Node) → Spelled c p v n → equal_trees n m ≡ true → Spelled c p v m
    moves null_val p n m h e = absurd h
    moves (bool_val b) p n m h e = leaf_moves p (bool_val b) n m h e
    moves (int_val z) p n m h e = leaf_moves p (int_val z) n m h e
    moves (text_val u) p n m h e = leaf_moves p (text_val u) n m h e
    moves (blob_val u) p n m h e = leaf_moves p (blob_val u) n m h e
    moves (time_val ms) p n m h e = leaf_moves p (time_val ms) n m h e
    moves (list_val vs) p n m (sort, (ns, is, entries)) e =
        let found = list_equal (nodes_of ns) m (subst (λ x. equal_trees x m ≡ true) is e) in
        (sort, (each_node found.0, found.1 ∙ ap list (sym (nodes_back found.0)), entries_move vs p ns found.0 entries found.2))
    moves (map_val es) p n m (sort, (ps, is, keys, pairs)) e =
        let found = object_equal (members_of ps) m (subst (λ x. equal_trees x m ≡ true) is e) in (
          sort,
          (
            each_pair found.0,
            found.1 ∙ ap object (sym (members_back found.0)),
            keys_move ps (keys_of es) found.0 found.3 keys,
            pairs_move es p ps (each_pair found.0) (same_under ps found.0 found.2 found.3) pairs,
          ),
        )
    moves (structure_val fs) p n m (sort, (ps, is, fields)) e =
        let found = object_equal (members_of ps) m (subst (λ x. equal_trees x m ≡ true) is e) in (
          sort,
          (
            each_pair found.0,
            found.1 ∙ ap object (sym (members_back found.0)),
            fields_move fs p (members_of_place t p) ps (each_pair found.0) (same_under ps found.0 found.2 found.3) fields,
          ),
        )
    moves (union_val k v) p n m (sort, (ps, before, behind, x, is, split, first, last, stands, spelled)) e =
        let found = object_equal (members_of ps) m (subst (λ y. equal_trees y m ≡ true) is e) in
        let same = same_under ps found.0 found.2 found.3 in
        let one = same.one (wire_name c p k) x stands.0 in (
          sort,
          (
            each_pair found.0,
            before,
            behind,
            one.0,
            found.1 ∙ ap object (sym (members_back found.0)),
            split,
            stand_not_move p before ps (each_pair found.0) same first,
            stand_not_move p behind ps (each_pair found.0) same last,
            (one.1, sym (equal_null x one.0 one.2) ∙ stands.1),
            moves v (member_place k) x one.0 spelled one.2,
          ),
        )

    entries_move : (vs : Vals) (p : Place) (ns : List Node) (ms : Nodes) → SpelledEntries c p vs ns
        → entries_equal same_number (nodes_of ns) ms ≡ true → SpelledEntries c p vs (each_node ms)
    entries_move no_vals p [] no_nodes h e = tt
    entries_move no_vals p [] (node m ms) h e = absurd cc
    entries_move no_vals p (n ∷ ns) ms h e = absurd h
    entries_move (val v vs) p [] ms h e = absurd h
    entries_move (val v vs) p (n ∷ ns) no_nodes h e = absurd cc
    entries_move (val v vs) p (n ∷ ns) (node m ms) h e =
        let w = and_parts (equal_trees n m) (entries_equal same_number (nodes_of ns) ms) e in (
          or_null v (Spelled c (entry_place t p) v n) (Spelled c (entry_place t p) v m) n m
              (λ s. moves v (entry_place t p) n m s w.0) (nulls_move n m w.0) h.0,
          entries_move vs p ns ms h.1 w.1,
        )

    pairs_move : (es : EntryVals) (p : Place) (ps qs : List (List ℕ × Node)) → SameUnder ps qs → SpelledPairs c p es ps
        → SpelledPairs c p es qs
    pairs_move no_entries p ps qs same h = tt
    pairs_move (entry key v es) p ps qs same (n, once, spelled, more) =
        let one = same.one key n once in (
          one.0,
          one.1,
          or_null v (Spelled c (value_place t p) v n) (Spelled c (value_place t p) v one.0) n one.0
              (λ s. moves v (value_place t p) n one.0 s one.2) (nulls_move n one.0 one.2) spelled,
          pairs_move es p ps qs same more,
        )

    fields_move : (fs : FieldVals) (p : Place) (ks : List ℕ) (ps qs : List (List ℕ × Node)) → SameUnder ps qs
        → SpelledFields c p ks fs ps → SpelledFields c p ks fs qs
    fields_move no_fields p ks ps qs same h = absent_move p ks ps qs same h
    fields_move (field k v fs) p ks ps qs same (skipped, rest, split, absent, inl (n, stands, spelled), more) =
        let one = same.one (wire_name c p k) n stands.0 in (
          skipped,
          rest,
          split,
          absent_move p skipped ps qs same absent,
          inl (one.0, (one.1, sym (equal_null n one.0 one.2) ∙ stands.1), moves v (member_place k) n one.0 spelled one.2),
          fields_move fs p rest ps qs same more,
        )
    fields_move (field k v fs) p ks ps qs same (skipped, rest, split, absent, inr (gone, default), more) = (
      skipped,
      rest,
      split,
      absent_move p skipped ps qs same absent,
      inr (named_none (wire_name c p k) ps qs (named (wire_name c p k) ps) same refl gone, default),
      fields_move fs p rest ps qs same more,
    )

  -- what two equal trees come to at a place is one value
  pub equal_values_of : (p : Place) (n m : Node) (v w : Val) → Shaped t → DefaultsPass t test → InTable t p → reading c n p ≡ Ok v
      → reading c m p ≡ Ok w → equal_trees n m ≡ true → v ≡ w
  equal_values_of p n m v w shaped defaults inside h g e =
      let is : IsCodec c = record { convention = json_laws json_names; table = shaped; defaults = defaults } in
      let spelled = (one_value c p v n is inside).1 h in
      let read = (one_value c p v m is inside).0 (spelled.0, moves v p n m spelled.1 e) in
      same_reading v w (sym read ∙ g)
