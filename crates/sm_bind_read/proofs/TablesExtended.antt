-- What a tree comes to in a table that extends another is what it comes to there, and at a copy of a member what it comes to at the member.
use Rattle.std.proofs.Common.{◌≡◌, ℕ, ◌<◌, Bool, true, false, cond, List, [], ◌∷◌, map, length, refl, sym, ap, ◌∙◌, subst}
use Rattle.std.specs.Prelude.{Option, Some, None, Ok, Err}
use Rattle.std.specs.Option.{option_map}
use Rattle.std.specs.Str.{bytes_eq}
use Rattle.sm_tree.specs.Node.{Node, Members, no_members, member}
use Rattle.sm_shapes.specs.Broken.{pattern_broken, unless}
use Rattle.sm_shapes.specs.Fitting.{Test, finder}
use Rattle.sm_shapes.specs.InOrder.{HasItsMembers, Shaped}
use Rattle.sm_shapes.specs.Places.{Place, constraints_of, format_of, member_place, root_place, shape_of}
use Rattle.sm_shapes.specs.TableData.{ConstraintData, TableData, constraints_in, default_at, default_in, first_text, format_in, json_name_in}
use Rattle.sm_shapes.specs.TableData.{kind_at, kind_in, member_count, members_at, members_in, name_in, required_in, shape_count, sparse_at}
use Rattle.sm_shapes.specs.TableData.{sparse_in, target_in, texts_numbered, unique_at, unique_in}
use Rattle.sm_shapes.specs.TableData.{shape_constraints_in, shape_format_in}
use Rattle.sm_shapes.specs.Values.{Val, Vals, EntryVals, FieldVals, null_val, bool_val, int_val, text_val, blob_val, time_val, list_val}
use Rattle.sm_shapes.specs.Values.{map_val, structure_val, union_val, no_vals, val, no_entries, entry, no_fields, field}
use Rattle.sm_shapes.specs.declared.fault.FaultKind.TheVariants.{Pattern}
use Rattle.sm_shapes.specs.declared.kinds.ShapeKind.{ShapeKind}
use Rattle.sm_shapes.specs.declared.kinds.ShapeKind.TheVariants as kinds
use Rattle.sm_codec.specs.Codec.{Codec, InTable, codec_of}
use Rattle.sm_codec.specs.Conventions.{json_convention}
use Rattle.sm_codec.specs.FaultLists.{Reading}
use Rattle.sm_codec.specs.Named.{is_null, named}
use Rattle.sm_codec.specs.Readings.{absent_reading, absent_with, child_of, member_reading, named_children, present_reading, reading}
use Rattle.sm_codec.specs.Readings.{when_closed}
use Rattle.sm_codec.specs.steps.Twins.{AreTwins, HaveTwins, SayAlike, moved, moved_entries, moved_fields, moved_reading, moved_vals}
use Rattle.sm_codec.proofs.JsonLaws.{json_laws}
use Rattle.sm_codec.proofs.TwinReadings.{same_reading}
use Rattle.sm_excerpts.specs.Excerpts.{Extends, IsCopy}
use Rattle.sm_excerpts.proofs.Extending.{member_kept, members_there, shape_kept}

abbrev pub itself : ℕ → ℕ
itself k = k

mutual
  moved_is : (v : Val) → moved itself v ≡ v
  moved_is null_val = refl
  moved_is (bool_val b) = refl
  moved_is (int_val z) = refl
  moved_is (text_val u) = refl
  moved_is (blob_val u) = refl
  moved_is (time_val ms) = refl
  moved_is (list_val vs) = ap list_val (vals_are vs)
  moved_is (map_val es) = ap map_val (entries_are es)
  moved_is (structure_val fs) = ap structure_val (fields_are fs)
  moved_is (union_val k v) = ap (union_val k) (moved_is v)

  vals_are : (vs : Vals) → moved_vals itself vs ≡ vs
  vals_are no_vals = refl
  vals_are (val v vs) = let one = moved_is v in let more = vals_are vs in λ i. val (one i) (more i)

  entries_are : (es : EntryVals) → moved_entries itself es ≡ es
  entries_are no_entries = refl
  entries_are (entry key v es) = let one = moved_is v in let more = entries_are es in λ i. entry key (one i) (more i)

  fields_are : (fs : FieldVals) → moved_fields itself fs ≡ fs
  fields_are no_fields = refl
  fields_are (field k v fs) = let one = moved_is v in let more = fields_are fs in λ i. field k (one i) (more i)

reading_is : (r : Reading) → moved_reading itself r ≡ r
reading_is (Ok v) = ap Ok (moved_is v)
reading_is (Err fs) = refl

map_is : (ks : List ℕ) → map itself ks ≡ ks
map_is [] = refl
map_is (k ∷ ks) = ap (λ js. k ∷ js) (map_is ks)

default_is : (o : Option Val) → option_map (moved itself) o ≡ o
default_is None = refl
default_is (Some v) = ap Some (moved_is v)

-- a list has one member and a map two
one_listed : (t : TableData) (kd : ShapeKind) (ks : List ℕ) → HasItsMembers t kd ks → kd ≡ kinds.List → length ks ≡ 1
one_listed t kd ks own e = by ks (subst (λ k. HasItsMembers t k ks) e own)
  where
    by : (js : List ℕ) → HasItsMembers t kinds.List js → length js ≡ 1
    by [] h = absurd h
    by (k ∷ []) h = refl
    by (k ∷ j ∷ js) h = absurd h

two_listed : (t : TableData) (kd : ShapeKind) (ks : List ℕ) → HasItsMembers t kd ks → kd ≡ kinds.Map → length ks ≡ 2
two_listed t kd ks own e = by ks (subst (λ k. HasItsMembers t k ks) e own)
  where
    by : (js : List ℕ) → HasItsMembers t kinds.Map js → length js ≡ 2
    by [] h = absurd h
    by (k ∷ []) h = absurd h
    by (k ∷ j ∷ []) h = refl
    by (k ∷ j ∷ l ∷ js) h = absurd h

-- the trees under a name
abbrev put_node : Bool → Node → List Node → List Node
put_node true n ns = n ∷ ns
put_node false n ns = ns

abbrev pub nodes_named : List ℕ → Members → List Node
nodes_named w no_members = []
nodes_named w (member k n ms) = put_node (bytes_eq k w) n (nodes_named w ms)

pub named_nodes : (c : Codec) (w : List ℕ) (ms : Members) → named w (named_children c ms) ≡ map (child_of c) (nodes_named w ms)
named_nodes c w no_members = refl
named_nodes c w (member k n ms) = by (bytes_eq k w) (named_nodes c w ms)
  where
    by : (b : Bool) → named w (named_children c ms) ≡ map (child_of c) (nodes_named w ms)
        → cond b (child_of c n ∷ named w (named_children c ms)) (named w (named_children c ms))
        ≡ map (child_of c) (put_node b n (nodes_named w ms))
    by true rest = ap (λ cs. child_of c n ∷ cs) rest
    by false rest = rest

module _ (d t : TableData) (x : Extends d t) (shaped : Shaped t) (test : Test) where
  abbrev IsHere : ℕ → Type 0
  IsHere k = k < member_count t

  abbrev Two : Place → Place → Type 0
  Two p q = AreTwins t d test itself IsHere p q

  alike : (a : ConstraintData) → SayAlike t d test a a
  alike a = record { min = refl; max = refl; pattern = by a.pattern; texts = refl; numbers = refl }
    where
      by : (o : Option ℕ) (u : List ℕ) → pattern_broken (finder t test) o u ≡ pattern_broken (finder d test) o u
      by None u = refl
      by (Some n) u = ap (λ ps. unless (test (first_text (texts_numbered n ps)) u) Pattern) (sym x.patterns)

  shape_there : (p : Place) → InTable t p → shape_of t p < shape_count t
  shape_there (root_place s) lt = lt
  shape_there (member_place k) lt = shaped.targets k lt

  twins : (p q : Place) → InTable t p → shape_of d q ≡ shape_of t p → constraints_of d q ≡ constraints_of t p
      → format_of d q ≡ format_of t p → Two p q
  twins p q there shape constraints format =
      let s = shape_of t p in
      let lt = shape_there p there in
      let row = shape_kept d t x s lt in
      record {
        kind = sym (ap kind_in row) ∙ ap (kind_at d) (sym shape);
        format = sym format;
        unique = sym (ap unique_in row) ∙ ap (unique_at d) (sym shape);
        sparse = sym (ap sparse_in row) ∙ ap (sparse_at d) (sym shape);
        constraints = subst (λ a. SayAlike t d test (constraints_of t p) a) (sym constraints) (alike (constraints_of t p));
        members = map_is (members_at t s) ∙ sym (ap members_in row) ∙ ap (members_at d) (sym shape);
        good = members_there t s (members_at t s) (shaped.members s lt);
        one = one_listed t (kind_at t s) (members_at t s) (shaped.own s lt);
        two = two_listed t (kind_at t s) (members_at t s) (shaped.own s lt);
      }

  have : HaveTwins t d test itself IsHere
  have = record {
    name = λ k lt. sym (ap name_in (member_kept d t x k lt));
    json_name = λ k lt. sym (ap json_name_in (member_kept d t x k lt));
    required = λ k lt. sym (ap required_in (member_kept d t x k lt));
    default = λ k lt. default_is (default_at t k) ∙ sym (ap default_in (member_kept d t x k lt));
    member = λ k lt.
        let row = member_kept d t x k lt in
        twins (member_place k) (member_place k) lt (ap target_in row) (ap constraints_in row) (ap format_in row);
  }

  abbrev pub of_table : Codec
  of_table = codec_of t (json_convention true) test

  abbrev pub of_documents : Codec
  of_documents = codec_of d (json_convention true) test

  -- what stands at twins
  read_alike : (n : Node) (p q : Place) → Two p q → reading of_documents n q ≡ reading of_table n p
  read_alike n p q h =
      sym (same_reading t d (json_convention true) test itself itself IsHere (json_laws true) have (λ k. refl) n p q h)
      ∙ reading_is (reading of_table n p)

  -- at the root
  pub root_alike : (n : Node) (s : ℕ) → s < shape_count t → reading of_documents n (root_place s) ≡ reading of_table n (root_place s)
  root_alike n s lt =
      let row = shape_kept d t x s lt in
      read_alike n (root_place s) (root_place s) (twins (root_place s) (root_place s) lt refl (ap shape_constraints_in row) (ap shape_format_in row))

  -- at a copy
  pub copy_alike : (n : Node) (j k : ℕ) → k < member_count t → IsCopy d t j k
      → reading of_documents n (member_place j) ≡ reading of_table n (member_place k)
  copy_alike n j k lt h = read_alike n (member_place k) (member_place j) (twins (member_place k) (member_place j) lt h.target h.constraints h.format)

  -- what a member comes to, by the trees under its name
  pub member_alike : (j k : ℕ) → k < member_count t → IsCopy d t j k → (ns : List Node)
      → member_reading (when_closed d) j (map (child_of of_documents) ns) ≡ member_reading (when_closed t) k (map (child_of of_table) ns)
  member_alike j k lt h [] = λ i. absent_reading (absent_with (h.default i) (h.required i))
  member_alike j k lt h (n ∷ []) =
      let r = copy_alike n j k lt h in
      λ i. cond (is_null n) (absent_reading (absent_with (h.default i) (h.required i))) (present_reading (r i))
  member_alike j k lt h (n ∷ m ∷ ns) = refl

  pub named_alike : (j k : ℕ) → k < member_count t → IsCopy d t j k → (v w : List ℕ) → v ≡ w → (ms : Members)
      → member_reading (when_closed d) j (named v (named_children of_documents ms))
      ≡ member_reading (when_closed t) k (named w (named_children of_table ms))
  named_alike j k lt h v w same ms =
      ap (λ u. member_reading (when_closed d) j (named u (named_children of_documents ms))) same
      ∙ ap (member_reading (when_closed d) j) (named_nodes of_documents w ms)
      ∙ member_alike j k lt h (nodes_named w ms)
      ∙ ap (member_reading (when_closed t) k) (sym (named_nodes of_table w ms))
