-- A table whose defaults are filled says of shapes and members what it said before, and its defaults are values of their members.
use Rattle.std.proofs.Common.{◌≡◌, inl, inr, ℕ, zero, suc, ◌+◌, ◌<◌, Bool, true, false, ◌||◌, cond, List, [], ◌∷◌, ◌++◌, map, length}
use Rattle.std.proofs.Common.{refl, sym, ap, ◌∙◌, subst, arith}
use Rattle.std.specs.Prelude.{Option, Some, None, is_some, slice_get, Ok, Err, IsUtf8}
use Rattle.std.specs.Str.{chars}
use Rattle.std.proofs.lemmas.Option.{slice_get_within}
use Rattle.std.specs.Ordering.{nat_cmp}
use Rattle.std.specs.Cmp.Lexicographic.{slice_cmp}
use Rattle.std.specs.List.{Contains, filter}
use Rattle.std.specs.List.Sorted.{IsStrictlySortedBy}
use Rattle.sm_tree.specs.Node.{Node, list, object, nodes_of, members_of}
use Rattle.sm_shapes.specs.Names.{AllDiffer}
use Rattle.sm_shapes.specs.Values.{Val, Vals, EntryVals, null_val, bool_val, int_val, text_val, blob_val, time_val, list_val, map_val}
use Rattle.sm_shapes.specs.Values.{structure_val, union_val, no_vals, no_entries, val, entry}
use Rattle.sm_shapes.specs.TableData.{TableData, MemberData, ConstraintData, shape_constraints_at, member_count, shape_count, kind_at}
use Rattle.sm_shapes.specs.TableData.{members_at, by_name_at, by_json_name_at, home_at, name_at, json_name_at, target_at, required_at}
use Rattle.sm_shapes.specs.TableData.{constraints_at, default_node_at, default_at, home_in, name_in, json_name_in, target_in, required_in}
use Rattle.sm_shapes.specs.TableData.{constraints_in, binding_in, default_node_in, default_in}
use Rattle.sm_shapes.specs.DefaultPuts.{HasNoDefault, with_default}
use Rattle.sm_shapes.specs.Places.{Place, member_place, kind_of}
use Rattle.sm_shapes.specs.Broken.{Finder, broken, unless, length_broken, pattern_broken, text_broken}
use Rattle.sm_shapes.specs.Fitting.{Test, any_text, finder, Fits, IsOfKind, MeetsConstraints}
use Rattle.sm_shapes.specs.InOrder.{NamesPattern, IsEmptyNode, Shaped, AreMembersOf, HasItsMembers, IsTextKind, is_needed, MayDefault}
use Rattle.sm_shapes.specs.InOrder.{MayHaveNode, MayHaveDefault}
use Rattle.sm_shapes.specs.declared.kinds.ShapeKind.{ShapeKind}
use Rattle.sm_shapes.specs.declared.kinds.ShapeKind.TheVariants as kind
use Rattle.sm_shapes.specs.declared.fault.FaultKind.TheVariants.{Pattern}
use Rattle.sm_codec.specs.CodecLaws.{IsCodec}
use Rattle.sm_codec.specs.Codec.{Codec}
use Rattle.sm_codec.specs.FaultLists.{Reading}
use Rattle.sm_codec.specs.Readings.{reading}
use Rattle.sm_codec.specs.Spelling.{Spelled, SpelledEntries, SpelledPairs}
use Rattle.sm_codec.specs.Defaults.{node_codec, read_value, counted_default, filled_members, filled}
use Rattle.sm_codec.specs.FilledLaws.{FilledIsShaped}
use Rattle.sm_codec.proofs.NodeLaws.{node_laws}
use Rattle.sm_codec.proofs.NoFaults.{none_first, none_behind, none_joined}
use Rattle.sm_codec.proofs.KeyOrder.{none_in_order}
use Rattle.sm_codec.proofs.ReadValues.{one_value}

-- a member that may be missing, with its default
abbrev filled_in : Codec → ℕ → Option MemberData → Option MemberData
filled_in c n None = None
filled_in c n (Some m) = Some (with_default m (counted_default c n m.default_node))

filled_get : (c : Codec) (ms : List MemberData) (i k : ℕ) → slice_get (filled_members c i ms) k ≡ filled_in c (i + k) (slice_get ms k)
filled_get c [] i k = refl
filled_get c (m ∷ ms) i zero = let e : i + 0 ≡ i = omega arith in rw e refl
filled_get c (m ∷ ms) i (suc k) =
    let e : suc i + k ≡ i + suc k = omega arith in
    filled_get c ms (suc i) k ∙ ap (λ n. filled_in c n (slice_get ms k)) e

filled_length : (c : Codec) (ms : List MemberData) (i : ℕ) → length (filled_members c i ms) ≡ length ms
filled_length c [] i = refl
filled_length c (m ∷ ms) i = ap suc (filled_length c ms (suc i))

module _ (t : TableData) (test : Test) where
  abbrev now : TableData
  now = filled t test

  -- what is looked up of a member but its default stays
  stays : {A : Type 0} (look : Option MemberData → A)
      → ((n : ℕ) (o : Option MemberData) → look (filled_in (node_codec t test) n o) ≡ look o) → (k : ℕ)
      → look (slice_get now.members k) ≡ look (slice_get t.members k)
  stays look same k = ap look (filled_get (node_codec t test) t.members 0 k) ∙ same (0 + k) (slice_get t.members k)

  home_stays : (n : ℕ) (o : Option MemberData) → home_in (filled_in (node_codec t test) n o) ≡ home_in o
  home_stays n None = refl
  home_stays n (Some m) = refl

  name_stays : (n : ℕ) (o : Option MemberData) → name_in (filled_in (node_codec t test) n o) ≡ name_in o
  name_stays n None = refl
  name_stays n (Some m) = refl

  json_name_stays : (n : ℕ) (o : Option MemberData) → json_name_in (filled_in (node_codec t test) n o) ≡ json_name_in o
  json_name_stays n None = refl
  json_name_stays n (Some m) = refl

  target_stays : (n : ℕ) (o : Option MemberData) → target_in (filled_in (node_codec t test) n o) ≡ target_in o
  target_stays n None = refl
  target_stays n (Some m) = refl

  required_stays : (n : ℕ) (o : Option MemberData) → required_in (filled_in (node_codec t test) n o) ≡ required_in o
  required_stays n None = refl
  required_stays n (Some m) = refl

  constraints_stay : (n : ℕ) (o : Option MemberData) → constraints_in (filled_in (node_codec t test) n o) ≡ constraints_in o
  constraints_stay n None = refl
  constraints_stay n (Some m) = refl

  binding_stays : (n : ℕ) (o : Option MemberData) → binding_in (filled_in (node_codec t test) n o) ≡ binding_in o
  binding_stays n None = refl
  binding_stays n (Some m) = refl

  node_stays : (n : ℕ) (o : Option MemberData) → default_node_in (filled_in (node_codec t test) n o) ≡ default_node_in o
  node_stays n None = refl
  node_stays n (Some m) = refl

  same_name : (k : ℕ) → name_at now k ≡ name_at t k
  same_name k = stays name_in name_stays k

  same_json_name : (k : ℕ) → json_name_at now k ≡ json_name_at t k
  same_json_name k = stays json_name_in json_name_stays k

  same_home : (k : ℕ) → home_at now k ≡ home_at t k
  same_home k = stays home_in home_stays k

  same_target : (k : ℕ) → target_at now k ≡ target_at t k
  same_target k = stays target_in target_stays k

  same_node : (k : ℕ) → default_node_at now k ≡ default_node_at t k
  same_node k = stays default_node_in node_stays k

  same_constraints : (k : ℕ) → constraints_at now k ≡ constraints_at t k
  same_constraints k = stays constraints_in constraints_stay k

  same_count : member_count now ≡ member_count t
  same_count = filled_length (node_codec t test) t.members 0

  within : (k : ℕ) → k < member_count now → k < member_count t
  within k h = subst (λ n. k < n) same_count h

  -- the default is what the node comes to
  default_in_is : (n : ℕ) (o : Option MemberData) → default_in o ≡ None
      → default_in (filled_in (node_codec t test) n o) ≡ counted_default (node_codec t test) n (default_node_in o)
  default_in_is n None h = refl
  default_in_is n (Some m) h = refl

  default_is : HasNoDefault t → (k : ℕ) → default_at now k ≡ counted_default (node_codec t test) k (default_node_at t k)
  default_is none k =
      let same : 0 + k ≡ k = omega arith in
      ap default_in (filled_get (node_codec t test) t.members 0 k) ∙ default_in_is (0 + k) (slice_get t.members k) (none k)
      ∙ ap (λ n. counted_default (node_codec t test) n (default_node_at t k)) same

  -- words over lists of members
  maps_same : (f g : ℕ → List ℕ) → ((k : ℕ) → f k ≡ g k) → (ks : List ℕ) → map f ks ≡ map g ks
  maps_same f g same [] = refl
  maps_same f g same (k ∷ ks) = ap (λ x. x ∷ map f ks) (same k) ∙ ap (λ xs. g k ∷ xs) (maps_same f g same ks)

  filters_same : (f g : ℕ → Bool) → ((k : ℕ) → f k ≡ g k) → (ks : List ℕ) → filter f ks ≡ filter g ks
  filters_same f g same [] = refl
  filters_same f g same (k ∷ ks) =
      ap (λ b. cond b (k ∷ filter f ks) (filter f ks)) (same k) ∙ ap (λ xs. cond (g k) (k ∷ xs) xs) (filters_same f g same ks)

  still_members : (s : ℕ) (ks : List ℕ) → AreMembersOf t s ks → AreMembersOf now s ks
  still_members s [] h = tt
  still_members s (k ∷ ks) h = (subst (λ n. k < n) (sym same_count) h.0, same_home k ∙ h.1, still_members s ks h.2)

  still_own : (kd : ShapeKind) (ks : List ℕ) → HasItsMembers t kd ks → HasItsMembers now kd ks
  still_own kd ks h = owned kd ks h
    where
      first_text : (j : ℕ) → IsTextKind (kind_at t (target_at t j)) → IsTextKind (kind_at t (target_at now j))
      first_text j h = subst (λ s. IsTextKind (kind_at t s)) (sym (same_target j)) h

      owned : (kd : ShapeKind) (ks : List ℕ) → HasItsMembers t kd ks → HasItsMembers now kd ks
      owned kind.List (k ∷ []) h = h
      owned kind.List [] h = h
      owned kind.List (j ∷ k ∷ ks) h = h
      owned kind.Map [] h = h
      owned kind.Map (k ∷ []) h = h
      owned kind.Map (j ∷ k ∷ []) h = first_text j h
      owned kind.Map (j ∷ k ∷ l ∷ ks) h = h
      owned kind.Blob ks h = h
      owned kind.Boolean ks h = h
      owned kind.Text ks h = h
      owned kind.Enum ks h = h
      owned kind.Byte ks h = h
      owned kind.Short ks h = h
      owned kind.Integer ks h = h
      owned kind.IntEnum ks h = h
      owned kind.Long ks h = h
      owned kind.Timestamp ks h = h
      owned kind.Structure ks h = h
      owned kind.Union ks h = h
      owned kind.LeftOut ks h = h

  either_node : (c : Codec) (k : ℕ) (r : Bool) (o : Option Node) (before : Option Val) → before ≡ None
      → (r || (is_some o || is_some (counted_default c k o))) ≡ (r || (is_some o || is_some before))
  either_node c k r None before e = rw e refl
  either_node c k r (Some n) before e = refl

  still_needed : HasNoDefault t → (k : ℕ) → is_needed now k ≡ is_needed t k
  still_needed none k =
      ap (λ r. r || (is_some (default_node_at now k) || is_some (default_at now k))) (stays required_in required_stays k)
      ∙ ap (λ o. required_at t k || (is_some o || is_some (default_at now k))) (same_node k)
      ∙ ap (λ o. required_at t k || (is_some (default_node_at t k) || is_some o)) (default_is none k)
      ∙ either_node (node_codec t test) k (required_at t k) (default_node_at t k) (default_at t k) (none k)

  may_default : (k : ℕ) → MayDefault t k → MayDefault now k
  may_default k h = (ap (λ s. kind_at t s) (same_home k) ∙ h.0, stays binding_in binding_stays k ∙ h.1)

  node_lawful : Shaped t → HasNoDefault t → IsCodec (node_codec t test)
  node_lawful shaped none = record {
    convention = node_laws false;
    table = shaped;
    defaults = λ k v e. absurd (none_some v (default_at t k) (none k) e);
  }
    where
      none_some : (v : Val) (o : Option Val) → o ≡ None → o ≡ Some v → ⊥
      none_some v o e f = cc

  -- a default that counts is what the node of its member comes to
  read_is : (r : Reading) (v : Val) → read_value r ≡ Some v → r ≡ Ok v
  read_is (Ok w) v h = cc
  read_is (Err fs) v h = absurd cc

  counted_by : (c : Codec) (k : ℕ) (o : Option Node) (v : Val) → counted_default c k o ≡ Some v
      → (n : Node) × (o ≡ Some n) × (reading c n (member_place k) ≡ Ok v)
  counted_by c k None v h = absurd cc
  counted_by c k (Some n) v h = (n, refl, read_is (reading c n (member_place k)) v h)

  node_there : (ms : List MemberData) (k : ℕ) (n : Node) (o : Option MemberData) → slice_get ms k ≡ o → default_node_in o ≡ Some n → k <
      length ms
  node_there ms k n None e h = absurd cc
  node_there ms k n (Some m) e h = slice_get_within ms k m e

  -- what fits by some test fits by the one that all pass
  pattern_passes : (finds : Finder) → ((n : ℕ) (u : List ℕ) → finds n u ≡ true) → (o : Option ℕ) (u : List ℕ) → pattern_broken finds o u
      ≡ []
  pattern_passes finds all None u = refl
  pattern_passes finds all (Some n) u = ap (λ b. unless b Pattern) (all n u)

  passes_too : (f g : Finder) → ((n : ℕ) (u : List ℕ) → g n u ≡ true) → (kd : ShapeKind) (c : ConstraintData) (v : Val) → broken f kd c v
      ≡ []
      → broken g kd c v ≡ []
  passes_too f g all kd c (text_val u) h =
      let a = length_broken c (length (chars u)) in
      let b = pattern_broken f c.pattern u in
      let d = text_broken kd c.texts u in
      none_joined (a ++ pattern_broken g c.pattern u) d
      (none_joined a (pattern_broken g c.pattern u) (none_first a b (none_first (a ++ b) d h)) (pattern_passes g all c.pattern u))
      (none_behind (a ++ b) d h)
  passes_too f g all kd c null_val h = h
  passes_too f g all kd c (bool_val b) h = h
  passes_too f g all kd c (int_val z) h = h
  passes_too f g all kd c (blob_val u) h = h
  passes_too f g all kd c (time_val ms) h = h
  passes_too f g all kd c (list_val vs) h = h
  passes_too f g all kd c (map_val es) h = h
  passes_too f g all kd c (structure_val fs) h = h
  passes_too f g all kd c (union_val k v) h = h

  same_kind : (k : ℕ) → kind_of now (member_place k) ≡ kind_of t (member_place k)
  same_kind k = ap (λ s. kind_at t s) (same_target k)

  meets_now : (f : Test) (k : ℕ) (v : Val) → MeetsConstraints t f (member_place k) v → MeetsConstraints now f (member_place k) v
  meets_now f k v h =
      ap (λ kd. broken (finder t f) kd (constraints_at now k) v) (same_kind k)
      ∙ ap (λ c. broken (finder t f) (kind_of t (member_place k)) c v) (same_constraints k) ∙ h

  meets_any : (k : ℕ) (v : Val) → MeetsConstraints t test (member_place k) v → MeetsConstraints now any_text (member_place k) v
  meets_any k v h =
      meets_now any_text k v
      (passes_too (finder t test) (finder t any_text) (λ n u. refl) (kind_of t (member_place k)) (constraints_at t k) v h)

  -- a simple value may be a default
  simple_may : (kd : ShapeKind) (v : Val) → IsOfKind kd v → MayHaveDefault kd v
  simple_may kind.Blob v h = tt
  simple_may kind.Boolean v h = tt
  simple_may kind.Text v h = tt
  simple_may kind.Enum v h = tt
  simple_may kind.Byte v h = tt
  simple_may kind.Short v h = tt
  simple_may kind.Integer v h = tt
  simple_may kind.IntEnum v h = tt
  simple_may kind.Long v h = tt
  simple_may kind.Timestamp v h = tt
  simple_may kind.List v h = absurd h
  simple_may kind.Map v h = absurd h
  simple_may kind.Structure v h = absurd h
  simple_may kind.Union v h = absurd h
  simple_may kind.LeftOut v h = absurd h

  -- an empty list and an empty object spell what is empty
  no_entry : (c : Codec) (p : Place) (n : Node) (vs : Vals) (ns : List Node) → IsEmptyNode n → n ≡ list (nodes_of ns) → SpelledEntries c
      p vs ns
      → vs ≡ no_vals
  no_entry c p n no_vals ns none e h = refl
  no_entry c p n (val v vs) [] none e h = absurd h
  no_entry c p n (val v vs) (m ∷ ns) none e h = elim none [ inl a ↦ absurd cc | inr b ↦ absurd cc ]

  no_pair : (c : Codec) (p : Place) (n : Node) (es : EntryVals) (ps : List (List ℕ × Node)) → IsEmptyNode n → n ≡ object (members_of ps)
      → SpelledPairs c p es ps → es ≡ no_entries
  no_pair c p n no_entries ps none e h = refl
  no_pair c p n (entry key v es) [] none e h = absurd (nothing h.0 h.1)
    where
      nothing : (m : Node) → [] ≡ m ∷ [] → ⊥
      nothing m g = cc
  no_pair c p n (entry key v es) (m ∷ ps) none e h = elim none [ inl a ↦ absurd cc | inr b ↦ absurd cc ]

  abbrev Counts : ℕ → Val → Type 0
  Counts k v = Fits now any_text (member_place k) v × MayHaveDefault (kind_of t (member_place k)) v × MeetsConstraints t test
      (member_place k) v

  simple_counts : (k : ℕ) (v : Val) → IsOfKind (kind_of t (member_place k)) v → MeetsConstraints t test (member_place k) v
      → IsOfKind (kind_of now (member_place k)) v × MeetsConstraints now any_text (member_place k) v
  simple_counts k v of meets = (subst (λ kd. IsOfKind kd v) (sym (same_kind k)) of, meets_any k v meets)

  counts : (k : ℕ) (v : Val) (n : Node) → MayHaveNode (kind_of t (member_place k)) n → Fits t test (member_place k) v
      → Spelled (node_codec t test) (member_place k) v n → Counts k v
  counts k null_val n may h s = absurd h
  counts k (bool_val b) n may h s = (simple_counts k (bool_val b) h.0 h.1, simple_may (kind_of t (member_place k)) (bool_val b) h.0, h.1)
  counts k (int_val z) n may h s = (simple_counts k (int_val z) h.0 h.1, simple_may (kind_of t (member_place k)) (int_val z) h.0, h.1)
  counts k (text_val u) n may h s = (simple_counts k (text_val u) h.0 h.1, simple_may (kind_of t (member_place k)) (text_val u) h.0, h.1)
  counts k (blob_val u) n may h s = (simple_counts k (blob_val u) h.0 h.1, simple_may (kind_of t (member_place k)) (blob_val u) h.0, h.1)
  counts k (time_val ms) n may h s = (simple_counts k (time_val ms) h.0 h.1, simple_may (kind_of t (member_place k)) (time_val ms) h.0, h.1)
  counts k (list_val vs) n may h s =
      let empty : list_val vs ≡ list_val no_vals =
      ap list_val (no_entry (node_codec t test) (member_place k) n vs s.1.0 (subst (λ kd. MayHaveNode kd n) h.0 may) s.1.1 s.1.2) in
      let meets = subst (MeetsConstraints t test (member_place k)) empty h.1 in
      subst (Counts k) (sym empty) (
        (same_kind k ∙ h.0, meets_any k (list_val no_vals) meets, (λ u. tt), tt),
        subst (λ kd. MayHaveDefault kd (list_val no_vals)) (sym h.0) refl,
        meets,
      )
  counts k (map_val es) n may h s =
      let empty : map_val es ≡ map_val no_entries =
      ap map_val (no_pair (node_codec t test) (member_place k) n es s.1.0 (subst (λ kd. MayHaveNode kd n) h.0 may) s.1.1 s.1.3) in
      let meets = subst (MeetsConstraints t test (member_place k)) empty h.1 in
      subst (Counts k) (sym empty) (
        (same_kind k ∙ h.0, meets_any k (map_val no_entries) meets, none_in_order, tt),
        subst (λ kd. MayHaveDefault kd (map_val no_entries)) (sym h.0) refl,
        meets,
      )
  counts k (structure_val fs) n may h s = absurd (subst (λ kd. MayHaveNode kd n) h.0 may)
  counts k (union_val j v) n may h s = absurd (subst (λ kd. MayHaveNode kd n) h.0 may)

  default_counts : Shaped t → HasNoDefault t → (k : ℕ) (v : Val) → default_at now k ≡ Some v → MayDefault now k × Counts k v
  default_counts shaped none k v e =
      let found = counted_by (node_codec t test) k (default_node_at t k) v (sym (default_is none k) ∙ e) in
      let may = shaped.nodes k found.0 found.1 in
      let inside = node_there t.members k found.0 (slice_get t.members k) refl found.1 in
      let spells = (one_value (node_codec t test) (member_place k) v found.0 (node_lawful shaped none) inside).1 found.2 in
      (may_default k may.0, counts k v found.0 may.1 spells.0 spells.1)

  stays_shaped : Shaped t → HasNoDefault t → Shaped now
  stays_shaped shaped none = record {
    targets = λ k h. subst (λ s. s < shape_count t) (sym (same_target k)) (shaped.targets k (within k h));
    homes = λ k h. let home = shaped.homes k (within k h) in
        (subst (λ s. s < shape_count t) (sym (same_home k)) home.0, subst (λ s. Contains (members_at t s) k) (sym (same_home k)) home.1);
    members = λ s h. still_members s (members_at t s) (shaped.members s h);
    rises = shaped.rises;
    by_name = λ s h. let ordered = shaped.by_name s h in (
      ordered.0,
      subst (IsStrictlySortedBy (slice_cmp nat_cmp)) (sym (maps_same (name_at now) (name_at t) same_name (by_name_at t s))) ordered.1,
    );
    by_json_name = λ s h. let ordered = shaped.by_json_name s h in (
      ordered.0,
      subst (IsStrictlySortedBy (slice_cmp nat_cmp)) (sym (maps_same (json_name_at now) (json_name_at t) same_json_name (by_json_name_at
          t s)))
          ordered.1,
    );
    needed = λ s h. shaped.needed s h ∙ sym (filters_same (is_needed now) (is_needed t) (still_needed none) (members_at t s));
    own = λ s h. still_own (kind_at t s) (members_at t s) (shaped.own s h);
    names = λ s h. subst AllDiffer (sym (maps_same (name_at now) (name_at t) same_name (members_at t s))) (shaped.names s h);
    json_names = λ s h. subst AllDiffer (sym (maps_same (json_name_at now) (json_name_at t) same_json_name (members_at t s)))
        (shaped.json_names s h);
    utf8 = λ k h. let texts = shaped.utf8 k (within k h) in
        (subst IsUtf8 (sym (same_name k)) texts.0, subst IsUtf8 (sym (same_json_name k)) texts.1);
    shape_patterns = λ s h. still_named (shape_constraints_at t s).pattern (shaped.shape_patterns s h);
    member_patterns = λ k h. subst (λ c. NamesPattern now c.pattern) (sym (same_constraints k))
        (still_named (constraints_at t k).pattern (shaped.member_patterns k (within k h)));
    nodes = λ k n e. let may = shaped.nodes k n (sym (same_node k) ∙ e) in
        (may_default k may.0, subst (λ kd. MayHaveNode kd n) (sym (same_kind k)) may.1);
    values = λ k v e. let may = default_counts shaped none k v e in
        (may.0, subst (λ kd. MayHaveDefault kd v) (sym (same_kind k)) may.1.1);
    fit = λ k v e. (default_counts shaped none k v e).1.0;
  }
    where
      still_named : (o : Option ℕ) → NamesPattern t o → NamesPattern now o
      still_named None h = tt
      still_named (Some n) h = h

pub filled_is_shaped : FilledIsShaped
filled_is_shaped t test shaped none = record {
  shaped = stays_shaped t test shaped none;
  pass = λ k v e. meets_now t test test k v (default_counts t test shaped none k v e).1.2;
}
