-- A map: what its pairs come to is what they spell, and the map with them.
use Rattle.std.proofs.Common.{◌≡◌, inl, inr, ℕ, Bool, true, false, cond, List, [], ◌∷◌, ◌++◌, length, refl, sym, ap, ◌∙◌, subst}
use Rattle.std.specs.Prelude.{Ok, Err, IsUtf8}
use Rattle.std.specs.List.{Contains}
use Rattle.std.specs.Str.{bytes_eq, is_utf8}
use Rattle.std.proofs.lemmas.Str.{IsUtf8-from_is_utf8, is_utf8-from_IsUtf8}
use Rattle.sm_tree.specs.Node.{Node, object, members_of}
use Rattle.sm_tree.specs.declared.path.Step.TheVariants.{Key}
use Rattle.sm_shapes.specs.Values.{Val, EntryVals, text_val, map_val, no_entries, entry, entries_of, keys_of}
use Rattle.sm_shapes.specs.Places.{Place, kind_of, constraints_of, sparse_of, key_place, value_place}
use Rattle.sm_shapes.specs.Broken.{length_broken}
use Rattle.sm_shapes.specs.Fitting.{FitPairs, MeetsConstraints, IsOfKind}
use Rattle.sm_shapes.specs.InOrder.{IsTextKind}
use Rattle.sm_shapes.specs.declared.kinds.ShapeKind.{ShapeKind}
use Rattle.sm_shapes.specs.declared.fault.FaultKind.TheVariants.{WrongType}
use Rattle.sm_codec.specs.Convention.{IsConvention}
use Rattle.sm_codec.specs.Sorts.{a_map}
use Rattle.sm_codec.specs.Codec.{Codec, sort_at, broken_at, InTable}
use Rattle.sm_codec.specs.CodecLaws.{IsCodec}
use Rattle.sm_codec.specs.Named.{named, names_of, in_byte_order}
use Rattle.sm_codec.specs.Spelling.{SpelledPairs, AreKeys, Spells}
use Rattle.sm_codec.specs.FaultLists.{here, under, Reading, faults_in, settled}
use Rattle.sm_codec.specs.Readings.{child_of, children_of, named_children_of, one_here, entry_reading, key_faults, pair_faults, keyed}
use Rattle.sm_codec.specs.Readings.{pair_values, keys_faults, keys_values, pairs_faults, pairs_values, map_faults, map_reading, object_by}
use Rattle.sm_codec.specs.Readings.{reading, named_children}
use Rattle.sm_codec.proofs.NoFaults.{none_first, none_behind, none_under, none_here, settled_ok, ok_reading}
use Rattle.sm_codec.proofs.ChildLists.{pairs_are, pairs_each, named_are, names_are}
use Rattle.sm_codec.proofs.PlacesIn.{kind_of_sort, value_in, key_text}
use Rattle.sm_codec.proofs.KeyOrder.{IsIn, InOrder, ordered, ordered_is, is_ordered, same_order, contains_in, in_contains, stands_in}
use Rattle.sm_codec.proofs.KeyOrder.{named_in}
use Rattle.sm_codec.proofs.Entries.{IsRead, AreRead, IsSpelled, EntrySays, entry_says, entry_spelled}

-- each pair's tree spells what it comes to
abbrev pub PairsAreRead : Codec → List (List ℕ × Node) → Type 0
PairsAreRead c [] = Unit {0}
PairsAreRead c (p ∷ ps) = IsRead c p.1 × PairsAreRead c ps

named_read_if : (c : Codec) (b : Bool) (n : Node) (ns : List Node) → IsRead c n → AreRead c ns → AreRead c (cond b (n ∷ ns) ns)
named_read_if c true n ns one all = (one, all)
named_read_if c false n ns one all = all

pub named_read : (c : Codec) (name : List ℕ) (ps : List (List ℕ × Node)) → PairsAreRead c ps → AreRead c (named name ps)
named_read c name [] h = tt
named_read c name (p ∷ ps) h = named_read_if c (bytes_eq p.0 name) p.1 (named name ps) h.0 (named_read c name ps h.1)

abbrev pub EntriesAreSpelled : Codec → EntryVals → Type 0
EntriesAreSpelled c no_entries = Unit {0}
EntriesAreSpelled c (entry key v es) = IsSpelled c v × EntriesAreSpelled c es

abbrev entries_in : EntryVals → List (List ℕ × Val)
entries_in no_entries = []
entries_in (entry key v es) = (key, v) ∷ entries_in es

entries_again : (es : EntryVals) → entries_of (entries_in es) ≡ es
entries_again no_entries = refl
entries_again (entry key v es) = ap (entry key v) (entries_again es)

text_kind : (k : ShapeKind) (key : List ℕ) → IsTextKind k → IsUtf8 key → IsOfKind k (text_val key)
text_kind k key (inl e) u = subst (λ x. IsOfKind x (text_val key)) (sym e) u
text_kind k key (inr e) u = subst (λ x. IsOfKind x (text_val key)) (sym e) u

kind_text : (k : ShapeKind) (key : List ℕ) → IsTextKind k → IsOfKind k (text_val key) → IsUtf8 key
kind_text k key (inl e) h = subst (λ x. IsOfKind x (text_val key)) e h
kind_text k key (inr e) h = subst (λ x. IsOfKind x (text_val key)) e h

module _ (c : Codec) (p : Place) where
  -- a key that has no fault
  key_if : (key : List ℕ) (b : Bool) → cond b (here (broken_at c (key_place c.table p) (text_val key))) (one_here WrongType) ≡ []
      → (b ≡ true) × MeetsConstraints c.table c.test (key_place c.table p) (text_val key)
  key_if key true h = (refl, none_here (broken_at c (key_place c.table p) (text_val key)) h)
  key_if key false h = absurd cc

  key_fits : (key : List ℕ) → IsTextKind (kind_of c.table (key_place c.table p)) → key_faults c p key ≡ []
      → IsOfKind (kind_of c.table (key_place c.table p)) (text_val key)
      × MeetsConstraints c.table c.test (key_place c.table p) (text_val key)
  key_fits key texts h =
      let found = key_if key (is_utf8 key) h in
      (text_kind (kind_of c.table (key_place c.table p)) key texts (IsUtf8-from_is_utf8 key found.0), found.1)

  key_clear : (key : List ℕ) → IsTextKind (kind_of c.table (key_place c.table p))
      → IsOfKind (kind_of c.table (key_place c.table p)) (text_val key)
      → MeetsConstraints c.table c.test (key_place c.table p) (text_val key)
      → key_faults c p key ≡ []
  key_clear key texts of kept =
      ap (λ b. cond b (here (broken_at c (key_place c.table p) (text_val key))) (one_here WrongType))
      (is_utf8-from_IsUtf8 key (kind_text (kind_of c.table (key_place c.table p)) key texts of))
      ∙ ap here kept

  abbrev ReadPairs : List (List ℕ × Node) → List (List ℕ) → List (List ℕ × Val) → Type 0
  ReadPairs ps keys es =
      SpelledPairs c p (entries_of es) ps × FitPairs c.table c.test p (entries_of es) × (keys_of (entries_of es) ≡ keys)

  abbrev value_reading : Node → Reading
  value_reading n = entry_reading (sparse_of c.table p) (value_place c.table p) (child_of c n)

  key_more : (ps : List (List ℕ × Node)) (key : List ℕ) (keys : List (List ℕ)) (n : Node) (r : Reading) (more : List (List ℕ × Val))
      → IsTextKind (kind_of c.table (key_place c.table p)) → named key ps ≡ n ∷ []
      → EntrySays c (value_place c.table p) (sparse_of c.table p) n r → key_faults c p key ≡ [] → faults_in r ≡ [] → ReadPairs ps keys more
      → ReadPairs ps (key ∷ keys) (keyed key r ++ more)
  key_more ps key keys n (Ok v) more texts once says clear clean rest =
      let fits = key_fits key texts clear in
      ((n, once, says.0, rest.0), (fits.0, fits.1, says.1, rest.1), ap (λ ks. key ∷ ks) rest.2)
  key_more ps key keys n (Err []) more texts once says clear clean rest = absurd says
  key_more ps key keys n (Err (f ∷ fs)) more texts once says clear clean rest = absurd cc

  key_read : (ps : List (List ℕ × Node)) (key : List ℕ) (keys : List (List ℕ)) (ns : List Node) (more : List (List ℕ × Val))
      → IsTextKind (kind_of c.table (key_place c.table p)) → InTable c.table (value_place c.table p) → IsIn key (names_of ps)
      → named key ps ≡ ns → AreRead c ns → pair_faults c p key (children_of c ns) ≡ [] → ReadPairs ps keys more
      → ReadPairs ps (key ∷ keys) (pair_values c p key (children_of c ns) ++ more)
  key_read ps key keys [] more texts inside i e read h rest = absurd (stands_in key ps i e)
  key_read ps key keys (n ∷ []) more texts inside i e read h rest =
      key_more ps key keys n (value_reading n) more texts e (entry_says c (value_place c.table p) (sparse_of c.table p) n read.0 inside)
      (none_first (key_faults c p key) (faults_in (value_reading n)) h)
      (none_behind (key_faults c p key) (faults_in (value_reading n)) h) rest
  key_read ps key keys (n ∷ m ∷ ns) more texts inside i e read h rest = absurd cc

  keys_read : (ps : List (List ℕ × Node)) (keys : List (List ℕ)) → IsTextKind (kind_of c.table (key_place c.table p))
      → InTable c.table (value_place c.table p) → PairsAreRead c ps → ((x : List ℕ) → IsIn x keys → IsIn x (names_of ps))
      → keys_faults c p (named_children_of c ps) keys ≡ [] → ReadPairs ps keys (keys_values c p (named_children_of c ps) keys)
  keys_read ps [] texts inside read i h = (tt, tt, refl)
  keys_read ps (key ∷ keys) texts inside read i h =
      let cs = named_children_of c ps in
      let first = none_under (Key key) (pair_faults c p key (named key cs))
      (none_first (under (Key key) (pair_faults c p key (named key cs))) (keys_faults c p cs keys) h) in
      let more = keys_read ps keys texts inside read (λ x j. i x (inr j))
      (none_behind (under (Key key) (pair_faults c p key (named key cs))) (keys_faults c p cs keys) h) in
      subst (λ ks. ReadPairs ps (key ∷ keys) (pair_values c p key ks ++ keys_values c p cs keys)) (sym (named_are c key ps))
      (key_read ps key keys (named key ps) (keys_values c p cs keys) texts inside (i key (inl refl)) refl (named_read c key ps read)
      (subst (λ ks. pair_faults c p key ks ≡ []) (named_are c key ps) first) more)

  each_is_key : (qs : List (List ℕ × Node)) (keys : List (List ℕ)) → ((x : List ℕ) → IsIn x (names_of qs) → IsIn x keys) → AreKeys qs keys
  each_is_key [] keys h = tt
  each_is_key (q ∷ qs) keys h = (contains_in q.0 keys (h q.0 (inl refl)), each_is_key qs keys (λ x i. h x (inr i)))

  -- a map that has no fault
  pub map_read : (ps : List (List ℕ × Node)) (v : Val) → IsCodec c → InTable c.table p → sort_at c p ≡ a_map → PairsAreRead c ps
      → map_reading c p (named_children_of c ps) ≡ Ok v → Spells c p v (object (members_of ps))
  map_read ps v laws inside sort read h =
      let cs = named_children_of c ps in
      let keys = in_byte_order (names_of cs) in
      let es = pairs_values c p cs in
      let long = here (length_broken (constraints_of c.table p) (length keys)) in
      let found = settled_ok (map_faults c p cs) (map_val (entries_of es)) v h in
      let kind = kind_of_sort c.table p a_map sort in
      let same : names_of cs ≡ names_of ps = names_are c ps in
      let parts = keys_read ps keys (key_text c.table p laws.table inside kind) (value_in c.table p laws.table inside kind) read
      (λ x i. subst (IsIn x) same (ordered_is x (names_of cs) i)) (none_first (pairs_faults c p cs) long found.0) in
      let kept = subst (λ ks. length_broken (constraints_of c.table p) (length ks) ≡ []) (sym parts.2)
      (none_here (length_broken (constraints_of c.table p) (length keys)) (none_behind (pairs_faults c p cs) long found.0)) in
      let keyed = each_is_key ps keys (λ x i. is_ordered x (names_of cs) (subst (IsIn x) (sym same) i)) in
      subst (λ w. Spells c p w (object (members_of ps))) found.1 (
        (kind, kept, subst InOrder (sym parts.2) (ordered (names_of cs)), parts.1),
        (sort, (ps, refl, subst (AreKeys ps) (sym parts.2) keyed, parts.0)),
      )

  -- and a map that spells a value
  abbrev SpelledKeys : List (List ℕ × Node) → EntryVals → Type 0
  SpelledKeys ps es =
      (keys_faults c p (named_children_of c ps) (keys_of es) ≡ []) × (keys_values c p (named_children_of c ps) (keys_of es) ≡ entries_in es)

  keys_spelled : (ps : List (List ℕ × Node)) (es : EntryVals) → IsConvention c.convention
      → IsTextKind (kind_of c.table (key_place c.table p))
      → InTable c.table (value_place c.table p) → EntriesAreSpelled c es → SpelledPairs c p es ps → FitPairs c.table c.test p es
      → SpelledKeys ps es
  keys_spelled ps no_entries laws texts inside is h g = (refl, refl)
  keys_spelled ps (entry key v es) laws texts inside is h g =
      let cs = named_children_of c ps in
      let n = h.0 in
      let under_key : named key cs ≡ children_of c (n ∷ []) = named_are c key ps ∙ ap (children_of c) h.1 in
      let value = entry_spelled c (value_place c.table p) (sparse_of c.table p) n v laws inside is.0 h.2 g.2 in
      let rest = keys_spelled ps es laws texts inside is.1 h.3 g.3 in (
        ap (λ ks. under (Key key) (pair_faults c p key ks) ++ keys_faults c p cs (keys_of es)) under_key
            ∙ ap (λ fs. under (Key key) (fs ++ faults_in (value_reading n)) ++ keys_faults c p cs (keys_of es))
            (key_clear key texts g.0 g.1)
            ∙ ap (λ r. under (Key key) (faults_in r) ++ keys_faults c p cs (keys_of es)) value
            ∙ rest.0,
        ap (λ ks. pair_values c p key ks ++ keys_values c p cs (keys_of es)) under_key
            ∙ ap (λ r. keyed key r ++ keys_values c p cs (keys_of es)) value
            ∙ ap (λ xs. (key, v) ∷ xs) rest.1,
      )

  keys_in : (ps qs : List (List ℕ × Node)) (keys : List (List ℕ)) (x : List ℕ) → AreKeys qs keys → IsIn x (names_of qs) → IsIn x keys
  keys_in ps [] keys x h i = absurd i
  keys_in ps (q ∷ qs) keys x h (inl e) = in_contains x keys (subst (Contains keys) (sym e) h.0)
  keys_in ps (q ∷ qs) keys x h (inr i) = keys_in ps qs keys x h.1 i

  in_keys : (ps : List (List ℕ × Node)) (es : EntryVals) (x : List ℕ) → SpelledPairs c p es ps → IsIn x (keys_of es) → IsIn x (names_of ps)
  in_keys ps no_entries x h i = absurd i
  in_keys ps (entry key v es) x h (inl e) = subst (λ y. IsIn y (names_of ps)) (sym e) (named_in key ps h.0 [] h.1)
  in_keys ps (entry key v es) x h (inr i) = in_keys ps es x h.3 i

  pub map_spelled : (es : EntryVals) (n : Node) → IsCodec c → InTable c.table p → EntriesAreSpelled c es → Spells c p (map_val es) n
      → reading c n p ≡ Ok (map_val es)
  map_spelled es n laws inside is h =
      let ps = h.1.1.0 in
      let cs = named_children_of c ps in
      let kind = h.0.0 in
      let parts = keys_spelled ps es laws.convention (key_text c.table p laws.table inside kind)
      (value_in c.table p laws.table inside kind) is
      h.1.1.3 h.0.3 in
      let same : names_of cs ≡ names_of ps = names_are c ps in
      let keys : in_byte_order (names_of cs) ≡ keys_of es =
      same_order (in_byte_order (names_of cs)) (keys_of es) (ordered (names_of cs)) h.0.2
      (λ x i. keys_in ps ps (keys_of es) x h.1.1.2 (subst (IsIn x) same (ordered_is x (names_of cs) i)))
      (λ x i. is_ordered x (names_of cs) (subst (IsIn x) (sym same) (in_keys ps es x h.1.1.3 i))) in
      let clean : map_faults c p cs ≡ [] =
      ap (λ ks. keys_faults c p cs ks ++ here (length_broken (constraints_of c.table p) (length ks))) keys
      ∙ ap (λ fs. fs ++ here (length_broken (constraints_of c.table p) (length (keys_of es)))) parts.0
      ∙ ap here h.0.1 in
      ap (λ m. reading c m p) h.1.1.1
      ∙ ap (λ s. object_by s c p (object (members_of ps)) (named_children c (members_of ps))) h.1.0
      ∙ ap (map_reading c p) (pairs_are c (members_of ps) ∙ ap (named_children_of c) (pairs_each ps))
      ∙ ap (λ fs. settled fs (map_val (entries_of (pairs_values c p cs)))) clean
      ∙ ap (λ ks. ok_reading (map_val (entries_of (keys_values c p cs ks)))) keys
      ∙ ap (λ xs. ok_reading (map_val (entries_of xs))) parts.1
      ∙ ap (λ xs. ok_reading (map_val xs)) (entries_again es)
