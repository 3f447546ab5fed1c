-- The tree that is written for a value spells it.
use Rattle.std.proofs.Common.{◌≡◌, inl, inr, ℕ, suc, Bool, true, false, cond, List, [], ◌∷◌, ◌++◌, map, refl, sym, ap, ◌∙◌, subst}
use Rattle.std.specs.Prelude.{Option, unwrap_or, Result, Ok, Err}
use Rattle.std.specs.Ordering.{nat_cmp}
use Rattle.std.specs.Cmp.Lexicographic.{slice_cmp}
use Rattle.std.specs.Str.{bytes_eq}
use Rattle.std.proofs.lemmas.Bool.{false_from_ne_true}
use Rattle.std.proofs.lemmas.Map.Keys.{sorted_head, sorted_tail}
use Rattle.std.proofs.lemmas.Slice.Eq.{bytes_eq-Decides}
use Rattle.sm_tree.specs.Node.{Node, null, list, object}
use Rattle.sm_tree.specs.declared.path.Step.{Step}
use Rattle.sm_tree.specs.declared.path.Step.TheVariants.{Member, Index, Key}
use Rattle.sm_time.specs.declared.format.Format.{Format}
use Rattle.sm_time.specs.declared.format.Format.TheVariants.{EpochSeconds}
use Rattle.sm_shapes.specs.Names.{NoneIs, AllDiffer}
use Rattle.sm_shapes.specs.Values.{Val, Vals, EntryVals, FieldVals, null_val, bool_val, int_val, text_val, blob_val, time_val, list_val}
use Rattle.sm_shapes.specs.Values.{map_val, structure_val, union_val, no_vals, val, no_entries, entry, no_fields, field, keys_of}
use Rattle.sm_shapes.specs.TableData.{name_at}
use Rattle.sm_shapes.specs.Places.{Place, member_place, members_of_place, shape_of, kind_of, format_of, sparse_of, entry_place, value_place}
use Rattle.sm_shapes.specs.Fitting.{Fits, FitEntries, FitPairs, FitFields, MayBeAbsent, FitsOrNull, IsOfKind}
use Rattle.sm_shapes.specs.InOrder.{Shaped, AreMembersOf}
use Rattle.sm_shapes.specs.declared.kinds.ShapeKind.{ShapeKind}
use Rattle.sm_shapes.specs.declared.kinds.ShapeKind.TheVariants as kind
use Rattle.sm_shapes.specs.declared.fault.FaultKind.{FaultKind}
use Rattle.sm_shapes.specs.declared.fault.FaultKind.TheVariants.{WrongType}
use Rattle.sm_codec.specs.declared.simple.Simple.{Simple}
use Rattle.sm_codec.specs.declared.simple.Simple.TheVariants as the
use Rattle.sm_codec.specs.Convention.{Convention, IsConvention}
use Rattle.sm_codec.specs.Sorts.{Sort, simple, sort_by, sort_of}
use Rattle.sm_codec.specs.Codec.{Codec, wire_name, InTable}
use Rattle.sm_codec.specs.CodecLaws.{WrittenSpells}
use Rattle.sm_codec.specs.Named.{named, names_of, is_null}
use Rattle.sm_codec.specs.Spelling.{IsLeaf, Spelled, SpelledEntries, SpelledPairs, SpelledFields, SpelledOrNull, NoneOrNull, StandNot}
use Rattle.sm_codec.specs.Spelling.{AreAbsent, AreKeys}
use Rattle.sm_codec.specs.Written.{written, written_leaf, written_entries, written_pairs, written_fields, uncarried, uncarried_leaf}
use Rattle.sm_codec.specs.Written.{uncarried_entries, uncarried_pairs, uncarried_fields, paths_under}
use Rattle.sm_codec.proofs.NoFaults.{none_first, none_behind}
use Rattle.sm_codec.proofs.ChildLists.{each_node, each_pair, nodes_back, members_back, null_is}
use Rattle.sm_codec.proofs.PlacesIn.{sort_of_kind, shape_in, members_stand, stand_at, member_splits, entry_in, value_in}
use Rattle.sm_codec.proofs.KeyOrder.{IsIn, IsBefore, InOrder, never_before_itself, contains_in}
use Rattle.sm_codec.proofs.Membered.{none_at, differ_behind}

pub none_of_paths : (step : Step) (paths : List (List Step)) → paths_under step paths ≡ [] → paths ≡ []
none_of_paths step [] h = refl
none_of_paths step (path ∷ paths) h = absurd cc

-- a pair of another name hides nothing, and a pair of the name stands first
pub named_other : (name k : List ℕ) (n : Node) (ps : List (List ℕ × Node)) → (k ≡ name → ⊥) → named name ((k, n) ∷ ps) ≡ named name ps
named_other name k n ps other =
    ap (λ b. cond b (n ∷ named name ps) (named name ps)) (false_from_ne_true (bytes_eq k name) (λ e. other ((bytes_eq-Decides k name).0 e)))

pub named_here : (name : List ℕ) (n : Node) (ps : List (List ℕ × Node)) → named name ((name, n) ∷ ps) ≡ n ∷ named name ps
named_here name n ps = ap (λ b. cond b (n ∷ named name ps) (named name ps)) ((bytes_eq-Decides name name).1 refl)

-- a value of a kind that is simple
simple_kind : (k : ShapeKind) (format : Option Format) (v : Val) → IsOfKind k v → (x : Simple) × (sort_by k format ≡ simple x)
simple_kind kind.Blob format v h = (the.Blob, refl)
simple_kind kind.Boolean format v h = (the.Boolean, refl)
simple_kind kind.Text format v h = (the.Text, refl)
simple_kind kind.Enum format v h = (the.Text, refl)
simple_kind kind.Byte format v h = (the.Number 8, refl)
simple_kind kind.Short format v h = (the.Number 16, refl)
simple_kind kind.Integer format v h = (the.Number 32, refl)
simple_kind kind.IntEnum format v h = (the.Number 32, refl)
simple_kind kind.Long format v h = (the.Number 64, refl)
simple_kind kind.Timestamp format v h = (the.Time (unwrap_or format EpochSeconds), refl)
simple_kind kind.List format v h = absurd h
simple_kind kind.Map format v h = absurd h
simple_kind kind.Structure format v h = absurd h
simple_kind kind.Union format v h = absurd h
simple_kind kind.LeftOut format v h = absurd h

abbrev no_steps : List Step
no_steps = []

pub carried_if : (b : Bool) → cond b [] (no_steps ∷ []) ≡ [] → b ≡ true
carried_if true h = refl
carried_if false h = absurd cc

leaf_by_sort : (l : Convention) (x : Simple) (v : Val) (s : Sort) → IsConvention l → s ≡ simple x → uncarried_leaf l s v ≡ []
    → l.read x (written_leaf l s v) ≡ Ok v
leaf_by_sort l x v s laws e h =
    let carried = carried_if (l.carries x v) (subst (λ s. uncarried_leaf l s v ≡ []) e h) in
    ap (λ s. l.read x (written_leaf l s v)) e ∙ laws.written_reads x v carried

leaf_written : (c : Codec) (p : Place) (v : Val) → IsConvention c.convention → IsOfKind (kind_of c.table p) v
    → uncarried_leaf c.convention (sort_of c.table p) v ≡ [] → IsLeaf c p v (written_leaf c.convention (sort_of c.table p) v)
leaf_written c p v laws of h =
    let x = simple_kind (kind_of c.table p) (format_of c.table p) v of in
    (x.0, x.1, leaf_by_sort c.convention x.0 v (sort_of c.table p) laws x.1 h)

-- what spells a value isn't null
pub two_results : (v : Val) (kind : FaultKind) (r : Result Val FaultKind) → r ≡ Ok v → r ≡ Err kind → ⊥
two_results v kind r h g = cc

leaf_stands_if : (c : Codec) (p : Place) (v : Val) (n : Node) → IsConvention c.convention → IsLeaf c p v n → (b : Bool) → is_null n ≡ b
    → b ≡ false
leaf_stands_if c p v n laws h true e =
    absurd (two_results v WrongType (c.convention.read h.0 null) (subst (λ m. c.convention.read h.0 m ≡ Ok v) (null_is n e) h.2)
    (laws.no_null h.0))
leaf_stands_if c p v n laws h false e = refl

leaf_stands : (c : Codec) (p : Place) (v : Val) (n : Node) → IsConvention c.convention → IsLeaf c p v n → is_null n ≡ false
leaf_stands c p v n laws h = leaf_stands_if c p v n laws h (is_null n) refl

pub spelled_stands : (c : Codec) (p : Place) (v : Val) (n : Node) → IsConvention c.convention → Spelled c p v n → is_null n ≡ false
spelled_stands c p null_val n laws h = absurd h
spelled_stands c p (bool_val b) n laws h = leaf_stands c p (bool_val b) n laws h
spelled_stands c p (int_val z) n laws h = leaf_stands c p (int_val z) n laws h
spelled_stands c p (text_val u) n laws h = leaf_stands c p (text_val u) n laws h
spelled_stands c p (blob_val u) n laws h = leaf_stands c p (blob_val u) n laws h
spelled_stands c p (time_val ms) n laws h = leaf_stands c p (time_val ms) n laws h
spelled_stands c p (list_val vs) n laws h = ap is_null h.1.1
spelled_stands c p (map_val es) n laws h = ap is_null h.1.1
spelled_stands c p (structure_val fs) n laws h = ap is_null h.1.1
spelled_stands c p (union_val k v) n laws h = ap is_null h.1.4

-- an entry of a list, or a value of a map
abbrev WritesWhere : Codec → Place → Val → Type 0
WritesWhere c q v = Fits c.table c.test q v → Spelled c q v (written c.table c.convention q v)

entry_written : (c : Codec) (q : Place) (sparse : Bool) (v : Val) → FitsOrNull sparse (Fits c.table c.test q v) v → WritesWhere c q v
    → SpelledOrNull (Spelled c q v (written c.table c.convention q v)) v (written c.table c.convention q v)
entry_written c q sparse null_val h is = refl
entry_written c q sparse (bool_val b) h is = is h
entry_written c q sparse (int_val z) h is = is h
entry_written c q sparse (text_val u) h is = is h
entry_written c q sparse (blob_val u) h is = is h
entry_written c q sparse (time_val ms) h is = is h
entry_written c q sparse (list_val vs) h is = is h
entry_written c q sparse (map_val es) h is = is h
entry_written c q sparse (structure_val fs) h is = is h
entry_written c q sparse (union_val k v) h is = is h

module _ (c : Codec) (p : Place) where
  abbrev pairs_written : EntryVals → List (List ℕ × Node)
  pairs_written es = each_pair (written_pairs c.table c.convention p es)

  abbrev fields_put : FieldVals → List (List ℕ × Node)
  fields_put fs = each_pair (written_fields c.table c.convention p fs)

  -- of a map
  keys_written : (es : EntryVals) → names_of (pairs_written es) ≡ keys_of es
  keys_written no_entries = refl
  keys_written (entry key v es) = ap (λ ks. key ∷ ks) (keys_written es)

  no_key : (x : List ℕ) (es : EntryVals) → IsBefore x (keys_of es) → named x (pairs_written es) ≡ []
  no_key x no_entries h = refl
  no_key x (entry key v es) h =
      named_other x key (written c.table c.convention (value_place c.table p) v) (pairs_written es)
      (λ e. never_before_itself x key (sym e) h.0)
      ∙ no_key x es h.1

  pairs_beside : (x : List ℕ) (m : Node) (es : EntryVals) (ps : List (List ℕ × Node)) → IsBefore x (keys_of es) → SpelledPairs c p es ps
      → SpelledPairs c p es ((x, m) ∷ ps)
  pairs_beside x m no_entries ps b h = tt
  pairs_beside x m (entry key v es) ps b h =
      (h.0, named_other key x m ps (λ e. never_before_itself x key e b.0) ∙ h.1, h.2, pairs_beside x m es ps b.1 h.3)

  each_key : (qs : List (List ℕ × Node)) (keys : List (List ℕ)) → ((x : List ℕ) → IsIn x (names_of qs) → IsIn x keys) → AreKeys qs keys
  each_key [] keys h = tt
  each_key (q ∷ qs) keys h = (contains_in q.0 keys (h q.0 (inl refl)), each_key qs keys (λ x i. h x (inr i)))

  -- of a structure
  none_in_first : (x : List ℕ) (before : List ℕ) (k : ℕ) (behind : List ℕ) → NoneIs x (map (wire_name c p) (before ++ k ∷ behind))
      → NoneIs x (map (wire_name c p) before)
  none_in_first x [] k behind h = tt
  none_in_first x (j ∷ before) k behind h = (h.0, none_in_first x before k behind h.1)

  none_in_last : (x : List ℕ) (before : List ℕ) (k : ℕ) (behind : List ℕ) → NoneIs x (map (wire_name c p) (before ++ k ∷ behind))
      → NoneIs x (map (wire_name c p) behind)
  none_in_last x [] k behind h = h.1
  none_in_last x (j ∷ before) k behind h = none_in_last x before k behind h.1

  differ_here : (before : List ℕ) (k : ℕ) (behind : List ℕ) → AllDiffer (map (wire_name c p) (before ++ k ∷ behind))
      → NoneIs (wire_name c p k) (map (wire_name c p) behind)
  differ_here [] k behind h = h.0
  differ_here (j ∷ before) k behind h = differ_here before k behind h.1

  -- nothing is written under a name that none of the members has
  none_written : (x : List ℕ) (ks : List ℕ) (fs : FieldVals) → NoneIs x (map (wire_name c p) ks) → FitFields c.table c.test ks fs
      → named x (fields_put fs) ≡ []
  none_written x ks no_fields none h = refl
  none_written x ks (field k v fs) none h =
      let parts = subst (λ xs. NoneIs x (map (wire_name c p) xs)) h.2 none in
      named_other x (wire_name c p k) (written c.table c.convention (member_place k) v) (fields_put fs)
      (none_at (wire_name c p) x h.0 k h.1 parts)
      ∙ none_written x h.1 fs (none_in_last x h.0 k h.1 parts) h.5

  absent_none : (ks : List ℕ) → MayBeAbsent c.table ks → AreAbsent c p [] ks
  absent_none [] h = tt
  absent_none (k ∷ ks) h = (tt, h.1, absent_none ks h.2)

  -- a pair of a name that none of the members has changes nothing
  absent_beside : (x : List ℕ) (n : Node) (ps : List (List ℕ × Node)) (ks : List ℕ) → NoneIs x (map (wire_name c p) ks)
      → AreAbsent c p ps ks → AreAbsent c p ((x, n) ∷ ps) ks
  absent_beside x n ps [] none h = tt
  absent_beside x n ps (k ∷ ks) none h =
      (subst NoneOrNull (sym (named_other (wire_name c p k) x n ps (λ e. none.0 (sym e)))) h.0, h.1, absent_beside x n ps ks none.1 h.2)

  pub fields_beside : (x : List ℕ) (n : Node) (ks : List ℕ) (fs : FieldVals) (ps : List (List ℕ × Node)) → NoneIs x (map (wire_name c p) ks)
      → SpelledFields c p ks fs ps → SpelledFields c p ks fs ((x, n) ∷ ps)
  fields_beside x n ks no_fields ps none h = absent_beside x n ps ks none h
  fields_beside x n ks (field k v fs) ps none h =
      let parts = subst (λ xs. NoneIs x (map (wire_name c p) xs)) h.2 none in
      let same : named (wire_name c p k) ((x, n) ∷ ps) ≡ named (wire_name c p k) ps =
      named_other (wire_name c p k) x n ps (λ e. none_at (wire_name c p) x h.0 k h.1 parts (sym e)) in (
        h.0,
        h.1,
        h.2,
        absent_beside x n ps h.0 (none_in_first x h.0 k h.1 parts) h.3,
        elim h.4 [
          | inl one ↦ inl (one.0, (same ∙ one.1.0, one.1.1), one.2)
          | inr none ↦ inr (subst NoneOrNull (sym same) none.0, none.1)
        ],
        fields_beside x n h.1 fs ps (none_in_last x h.0 k h.1 parts) h.5,
      )

  -- members that are left out before a field
  skipped_absent : (before : List ℕ) (k : ℕ) (behind : List ℕ) (n : Node) (fs : FieldVals)
      → AllDiffer (map (wire_name c p) (before ++ k ∷ behind)) → MayBeAbsent c.table before → FitFields c.table c.test behind fs
      → AreAbsent c p ((wire_name c p k, n) ∷ fields_put fs) before
  skipped_absent [] k behind n fs differ may fits = tt
  skipped_absent (j ∷ before) k behind n fs differ may fits =
      let none = named_other (wire_name c p j) (wire_name c p k) n (fields_put fs)
      (none_at (wire_name c p) (wire_name c p j) before k behind differ.0)
      ∙ none_written (wire_name c p j) behind fs (none_in_last (wire_name c p j) before k behind differ.0) fits in
      (subst NoneOrNull (sym none) tt, may.1, skipped_absent before k behind n fs differ.1 may.2 fits)

  -- of a union
  stand_not : (x : List ℕ) (n : Node) (ks : List ℕ) → NoneIs x (map (wire_name c p) ks) → StandNot c p ((x, n) ∷ []) ks
  stand_not x n [] none = tt
  stand_not x n (k ∷ ks) none =
      (subst NoneOrNull (sym (named_other (wire_name c p k) x n [] (λ e. none.0 (sym e)))) tt, stand_not x n ks none.1)

  differ_first : (before : List ℕ) (k : ℕ) (behind : List ℕ) → AllDiffer (map (wire_name c p) (before ++ k ∷ behind))
      → NoneIs (wire_name c p k) (map (wire_name c p) before)
  differ_first [] k behind h = tt
  differ_first (j ∷ before) k behind h =
      ((λ e. none_at (wire_name c p) (wire_name c p j) before k behind h.0 (sym e)), differ_first before k behind h.1)

mutual
  spelled_written : (c : Codec) → IsConvention c.convention → Shaped c.table → (v : Val) (p : Place) → InTable c.table p
      → Fits c.table c.test p v → uncarried c.table c.convention p v ≡ [] → Spelled c p v (written c.table c.convention p v)
  spelled_written c laws shaped null_val p inside h g = h
  spelled_written c laws shaped (bool_val b) p inside h g = leaf_written c p (bool_val b) laws h.0 g
  spelled_written c laws shaped (int_val z) p inside h g = leaf_written c p (int_val z) laws h.0 g
  spelled_written c laws shaped (text_val u) p inside h g = leaf_written c p (text_val u) laws h.0 g
  spelled_written c laws shaped (blob_val u) p inside h g = leaf_written c p (blob_val u) laws h.0 g
  spelled_written c laws shaped (time_val ms) p inside h g = leaf_written c p (time_val ms) laws h.0 g
  spelled_written c laws shaped (list_val vs) p inside h g = (
    sort_of_kind c.table p kind.List h.0,
    (
      each_node (written_entries c.table c.convention p vs),
      ap list (sym (nodes_back (written_entries c.table c.convention p vs))),
      entries_written c laws shaped vs p 0 (entry_in c.table p shaped inside h.0) h.3 g,
    ),
  )
  spelled_written c laws shaped (map_val es) p inside h g = (
    sort_of_kind c.table p kind.Map h.0,
    (
      pairs_written c p es,
      ap object (sym (members_back (written_pairs c.table c.convention p es))),
      each_key c p (pairs_written c p es) (keys_of es) (λ x i. subst (IsIn x) (keys_written c p es) i),
      pairs_spelled c laws shaped es p (value_in c.table p shaped inside h.0) h.2 h.3 g,
    ),
  )
  spelled_written c laws shaped (structure_val fs) p inside h g = (
    sort_of_kind c.table p kind.Structure h.0,
    (
      fields_put c p fs,
      ap object (sym (members_back (written_fields c.table c.convention p fs))),
      fields_written c laws shaped fs p (shape_of c.table p) (members_of_place c.table p) (members_stand c.table p shaped inside)
          (laws.names c.table shaped (shape_of c.table p) (shape_in c.table p shaped inside)) h.1 g,
    ),
  )
  spelled_written c laws shaped (union_val k v) p inside h g =
      let split = member_splits k (members_of_place c.table p) h.1 in
      let before = split.0 in
      let behind = split.1 in
      let differ = subst (λ xs. AllDiffer (map (wire_name c p) xs)) split.2
      (laws.names c.table shaped (shape_of c.table p) (shape_in c.table p shaped inside)) in
      let place = stand_at c.table (shape_of c.table p) before k behind
      (subst (AreMembersOf c.table (shape_of c.table p)) split.2 (members_stand c.table p shaped inside)) in
      let n = written c.table c.convention (member_place k) v in
      let one = spelled_written c laws shaped v (member_place k) place.0 h.2
      (none_of_paths (Member (name_at c.table k)) (uncarried c.table c.convention (member_place k) v) g) in (
        sort_of_kind c.table p kind.Union h.0,
        (
          (wire_name c p k, n) ∷ [],
          before,
          behind,
          n,
          refl,
          split.2,
          stand_not c p (wire_name c p k) n before (differ_first c p before k behind differ),
          stand_not c p (wire_name c p k) n behind (differ_here c p before k behind differ),
          (named_here (wire_name c p k) n [], spelled_stands c (member_place k) v n laws one),
          one,
        ),
      )

  entries_written : (c : Codec) → IsConvention c.convention → Shaped c.table → (vs : Vals) (p : Place) (i : ℕ)
      → InTable c.table (entry_place c.table p) → FitEntries c.table c.test p vs → uncarried_entries c.table c.convention p i vs ≡ []
      → SpelledEntries c p vs (each_node (written_entries c.table c.convention p vs))
  entries_written c laws shaped no_vals p i inside h g = tt
  entries_written c laws shaped (val v vs) p i inside h g =
      let q = entry_place c.table p in
      let first = paths_under (Index i) (uncarried c.table c.convention q v) in
      let rest = uncarried_entries c.table c.convention p (suc i) vs in
      let carried = none_of_paths (Index i) (uncarried c.table c.convention q v) (none_first first rest g) in (
        entry_written c q (sparse_of c.table p) v h.0 (λ f. spelled_written c laws shaped v q inside f carried),
        entries_written c laws shaped vs p (suc i) inside h.1 (none_behind first rest g),
      )

  pairs_spelled : (c : Codec) → IsConvention c.convention → Shaped c.table → (es : EntryVals) (p : Place)
      → InTable c.table (value_place c.table p) → InOrder (keys_of es) → FitPairs c.table c.test p es
      → uncarried_pairs c.table c.convention p es ≡ [] → SpelledPairs c p es (pairs_written c p es)
  pairs_spelled c laws shaped no_entries p inside o h g = tt
  pairs_spelled c laws shaped (entry key v es) p inside o h g =
      let q = value_place c.table p in
      let n = written c.table c.convention q v in
      let before = sorted_head (slice_cmp nat_cmp) key (keys_of es) o in
      let first = paths_under (Key key) (uncarried c.table c.convention q v) in
      let rest = uncarried_pairs c.table c.convention p es in
      let carried = none_of_paths (Key key) (uncarried c.table c.convention q v) (none_first first rest g) in (
        n,
        named_here key n (pairs_written c p es) ∙ ap (λ ns. n ∷ ns) (no_key c p key es before),
        entry_written c q (sparse_of c.table p) v h.2 (λ f. spelled_written c laws shaped v q inside f carried),
        pairs_beside c p key n es (pairs_written c p es) before
            (pairs_spelled c laws shaped es p inside (sorted_tail (slice_cmp nat_cmp) key (keys_of es) o) h.3 (none_behind first rest g)),
      )

  fields_written : (c : Codec) → IsConvention c.convention → Shaped c.table → (fs : FieldVals) (p : Place) (s : ℕ) (ks : List ℕ)
      → AreMembersOf c.table s ks → AllDiffer (map (wire_name c p) ks) → FitFields c.table c.test ks fs
      → uncarried_fields c.table c.convention fs ≡ [] → SpelledFields c p ks fs (fields_put c p fs)
  fields_written c laws shaped no_fields p s ks stand differ h g = absent_none c p ks h
  fields_written c laws shaped (field k v fs) p s ks stand differ h g =
      let q = member_place k in
      let n = written c.table c.convention q v in
      let place = stand_at c.table s h.0 k h.1 (subst (AreMembersOf c.table s) h.2 stand) in
      let names = subst (λ xs. AllDiffer (map (wire_name c p) xs)) h.2 differ in
      let apart = differ_here c p h.0 k h.1 names in
      let first = paths_under (Member (name_at c.table k)) (uncarried c.table c.convention q v) in
      let rest = uncarried_fields c.table c.convention fs in
      let carried = none_of_paths (Member (name_at c.table k)) (uncarried c.table c.convention q v) (none_first first rest g) in
      let one = spelled_written c laws shaped v q place.0 h.4 carried in (
        h.0,
        h.1,
        h.2,
        skipped_absent c p h.0 k h.1 n fs names h.3 h.5,
        inl (
          n,
          (
            named_here (wire_name c p k) n (fields_put c p fs)
                ∙ ap (λ ns. n ∷ ns) (none_written c p (wire_name c p k) h.1 fs apart h.5),
            spelled_stands c q v n laws one,
          ),
          one,
        ),
        fields_beside c p (wire_name c p k) n h.1 fs (fields_put c p fs) apart
            (fields_written c laws shaped fs p s h.1 place.1 (differ_behind (wire_name c p) h.0 k h.1 names) h.5
            (none_behind first rest g)),
      )

pub written_spells : WrittenSpells
written_spells c p v laws shaped inside h g = (h, spelled_written c laws shaped v p inside h g)
