-- A list, a map and the members of a structure, made of whatever stands for their parts: where the parts are of their places, so is what
-- comes of them, or it has a fault.
use Rattle.std.proofs.Common.{◌≡◌, inl, inr, ℕ, suc, Bool, true, false, ◌&&◌, cond, List, [], ◌∷◌, ◌++◌, length, refl, sym, ap, ◌∙◌}
use Rattle.std.proofs.Common.{subst}
use Rattle.std.specs.Prelude.{IsUtf8, Option, Some, None, Result, Ok, Err}
use Rattle.std.specs.Str.{bytes_eq, is_utf8}
use Rattle.std.proofs.lemmas.Str.{IsUtf8-from_is_utf8}
use Rattle.sm_tree.specs.declared.path.Step.TheVariants.{Index, Key, Member}
use Rattle.sm_shapes.specs.Broken.{has_twice, length_broken}
use Rattle.sm_shapes.specs.Fitting.{AllUnlike, FitEntries, FitFields, FitPairs, Fits, FitsOrNull, IsOfKind, MeetsConstraints}
use Rattle.sm_shapes.specs.InOrder.{IsTextKind}
use Rattle.sm_shapes.specs.Places.{Place, constraints_of, entry_place, key_place, kind_of, member_place, sparse_of, unique_of, value_place}
use Rattle.sm_shapes.specs.TableData.{default_at, name_at, required_at}
use Rattle.sm_shapes.specs.Values.{FieldVals, Val, entries_of, field, fields_of, keys_of, list_val, map_val, no_fields, null_val, text_val}
use Rattle.sm_shapes.specs.Values.{vals_of}
use Rattle.sm_shapes.specs.declared.fault.FaultKind.TheVariants.{Null, Unique, WrongType}
use Rattle.sm_shapes.specs.declared.kinds.ShapeKind.{ShapeKind}
use Rattle.sm_shapes.specs.declared.kinds.ShapeKind.TheVariants as kind
use Rattle.sm_shapes.proofs.SameVals.{unlike_where}
use Rattle.sm_codec.specs.Codec.{Codec, broken_at}
use Rattle.sm_codec.specs.CodecLaws.{IsCodec}
use Rattle.sm_codec.specs.FaultLists.{FaultAt, Reading, faults_in, here, under, values_in}
use Rattle.sm_codec.specs.Named.{in_byte_order, named, names_of}
use Rattle.sm_codec.specs.Readings.{ByMember, Child, absent_reading, absent_with, entries_faults, entries_values, entry_reading}
use Rattle.sm_codec.specs.Readings.{key_faults, keyed, keys_faults, keys_values, list_faults, list_reading, map_faults, map_reading}
use Rattle.sm_codec.specs.Readings.{member_faults, member_fields, member_reading, members_faults, members_fields, one_here, pair_faults}
use Rattle.sm_codec.specs.Readings.{pair_values, pairs_faults, pairs_values}
use Rattle.sm_codec.specs.Readings.{present_reading, unique_faults, when_closed}
use Rattle.sm_codec.proofs.DefaultsFit.{default_fits}
use Rattle.sm_codec.proofs.Entries.{vals_back}
use Rattle.sm_codec.proofs.KeyOrder.{InOrder, IsIn, ordered, ordered_is, stands_in}
use Rattle.sm_codec.proofs.NoFaults.{none_behind, none_first, none_here, none_under}
use Rattle.sm_rest.proofs.ReadingsFit.{ReadingFits, settled_fits}

abbrev pub ChildFits : Codec → Place → Child → Type 0
ChildFits c p child = ReadingFits c p (child.reading p)

abbrev pub AllFit : Codec → Place → List Child → Type 0
AllFit c p [] = Unit {0}
AllFit c p (child ∷ children) = ChildFits c p child × AllFit c p children

abbrev pub PairsFit : Codec → Place → List (List ℕ × Child) → Type 0
PairsFit c p [] = Unit {0}
PairsFit c p (pair ∷ pairs) = ChildFits c p pair.1 × PairsFit c p pairs

fit_if : (c : Codec) (p : Place) (b : Bool) (child : Child) (children : List Child) → ChildFits c p child → AllFit c p children
    → AllFit c p (cond b (child ∷ children) children)
fit_if c p true child children one all = (one, all)
fit_if c p false child children one all = all

pub named_fit : (c : Codec) (p : Place) (name : List ℕ) (pairs : List (List ℕ × Child)) → PairsFit c p pairs → AllFit c p (named name pairs)
named_fit c p name [] h = tt
named_fit c p name (pair ∷ pairs) h = fit_if c p (bytes_eq pair.0 name) pair.1 (named name pairs) h.0 (named_fit c p name pairs h.1)

-- an entry of a list, or a value of a map
abbrev EntryFits : Codec → Place → Bool → Reading → Type 0
EntryFits c q sparse (Ok v) = FitsOrNull sparse (Fits c.table c.test q v) v
EntryFits c q sparse (Err []) = ⊥
EntryFits c q sparse (Err (f ∷ fs)) = Unit {0}

fit_value : (c : Codec) (q : Place) (sparse : Bool) (v : Val) → Fits c.table c.test q v → FitsOrNull sparse (Fits c.table c.test q v) v
fit_value c q sparse null_val h = absurd h
fit_value c q sparse v h = h

present_entry : (c : Codec) (q : Place) (sparse : Bool) (r : Reading) → ReadingFits c q r → EntryFits c q sparse r
present_entry c q sparse (Ok v) h = fit_value c q sparse v h
present_entry c q sparse (Err []) h = h
present_entry c q sparse (Err (f ∷ fs)) h = tt

null_entry : (c : Codec) (q : Place) (sparse : Bool) → EntryFits c q sparse (cond sparse (Ok null_val) (Err (one_here Null)))
null_entry c q true = refl
null_entry c q false = tt

entry_by : (c : Codec) (q : Place) (sparse null : Bool) (r : Reading) → ReadingFits c q r
    → EntryFits c q sparse (cond null (cond sparse (Ok null_val) (Err (one_here Null))) r)
entry_by c q sparse true r h = null_entry c q sparse
entry_by c q sparse false r h = present_entry c q sparse r h

entry_fits : (c : Codec) (q : Place) (sparse : Bool) (child : Child) → ChildFits c q child
    → EntryFits c q sparse (entry_reading sparse q child)
entry_fits c q sparse child h = entry_by c q sparse child.null (child.reading q) h

module _ (c : Codec) (p : Place) where
  abbrev EntriesFit : List Child → List Val → Type 0
  EntriesFit children vs = FitEntries c.table c.test p (vals_of vs) × (length vs ≡ length children)

  entry_more : (child : Child) (children : List Child) (r : Reading) (more : List Val)
      → EntryFits c (entry_place c.table p) (sparse_of c.table p) r → faults_in r ≡ [] → EntriesFit children more
      → EntriesFit (child ∷ children) (values_in r ++ more)
  entry_more child children (Ok v) more fits clean rest = ((fits, rest.0), ap suc rest.1)
  entry_more child children (Err []) more fits clean rest = absurd fits
  entry_more child children (Err (f ∷ fs)) more fits clean rest = absurd cc

  entries_fit : (i : ℕ) (children : List Child) → AllFit c (entry_place c.table p) children → entries_faults c p i children ≡ []
      → EntriesFit children (entries_values c p children)
  entries_fit i [] fit h = (tt, refl)
  entries_fit i (child ∷ children) fit h =
      let r = entry_reading (sparse_of c.table p) (entry_place c.table p) child in
      let own = under (Index i) (faults_in r) in
      let rest = entries_faults c p (suc i) children in
      entry_more child children r (entries_values c p children) (entry_fits c (entry_place c.table p) (sparse_of c.table p) child fit.0)
      (none_under (Index i) (faults_in r) (none_first own rest h)) (entries_fit (suc i) children fit.1 (none_behind own rest h))

  unlike_if : (u b : Bool) → cond (u && b) (one_here Unique) [] ≡ [] → u ≡ true → b ≡ false
  unlike_if true true h e = absurd cc
  unlike_if true false h e = refl
  unlike_if false b h e = absurd cc

  list_clean : (children : List Child) → kind_of c.table p ≡ kind.List → AllFit c (entry_place c.table p) children
      → list_faults c p children ≡ [] → Fits c.table c.test p (list_val (vals_of (entries_values c p children)))
  list_clean children is fit h =
      let vs = entries_values c p children in
      let es = entries_faults c p 0 children in
      let long = here (length_broken (constraints_of c.table p) (length children)) in
      let both = none_first (es ++ long) (unique_faults c p es vs) h in
      let clean = none_first es long both in
      let parts = entries_fit 0 children fit clean in
      let kept = subst (λ n. length_broken (constraints_of c.table p) n ≡ []) (sym parts.1 ∙ sym (ap length (vals_back vs)))
      (none_here (length_broken (constraints_of c.table p) (length children)) (none_behind es long both)) in
      let unlike = subst (λ fs. unique_faults c p fs vs ≡ []) clean (none_behind (es ++ long) (unique_faults c p es vs) h) in (
        is,
        kept,
        (λ u. subst AllUnlike (sym (vals_back vs)) (unlike_where vs (unlike_if (unique_of c.table p) (has_twice vs) unlike u))),
        parts.0,
      )

  pub list_fits : (children : List Child) → kind_of c.table p ≡ kind.List → AllFit c (entry_place c.table p) children
      → ReadingFits c p (list_reading c p children)
  list_fits children is fit =
      settled_fits c p (list_faults c p children) (list_val (vals_of (entries_values c p children))) (list_clean children is fit)

-- keys of a map are texts
text_kind : (k : ShapeKind) (key : List ℕ) → IsTextKind k → IsUtf8 key → IsOfKind k (text_val key)
text_kind k key (inl e) u = subst (λ x. IsOfKind x (text_val key)) (sym e) u
text_kind k key (inr e) u = subst (λ x. IsOfKind x (text_val key)) (sym e) u

module _ (c : Codec) (p : Place) where
  key_if : (key : List ℕ) (b : Bool) → cond b (here (broken_at c (key_place c.table p) (text_val key))) (one_here WrongType) ≡ []
      → (b ≡ true) × MeetsConstraints c.table c.test (key_place c.table p) (text_val key)
  key_if key true h = (refl, none_here (broken_at c (key_place c.table p) (text_val key)) h)
  key_if key false h = absurd cc

  key_fits : (key : List ℕ) → IsTextKind (kind_of c.table (key_place c.table p)) → key_faults c p key ≡ []
      → IsOfKind (kind_of c.table (key_place c.table p)) (text_val key)
      × MeetsConstraints c.table c.test (key_place c.table p) (text_val key)
  key_fits key texts h =
      let found = key_if key (is_utf8 key) h in
      (text_kind (kind_of c.table (key_place c.table p)) key texts (IsUtf8-from_is_utf8 key found.0), found.1)

  abbrev KeysFit : List (List ℕ) → List (List ℕ × Val) → Type 0
  KeysFit keys es = FitPairs c.table c.test p (entries_of es) × (keys_of (entries_of es) ≡ keys)

  abbrev value_reading : Child → Reading
  value_reading child = entry_reading (sparse_of c.table p) (value_place c.table p) child

  key_more : (key : List ℕ) (keys : List (List ℕ)) (r : Reading) (more : List (List ℕ × Val))
      → IsTextKind (kind_of c.table (key_place c.table p)) → EntryFits c (value_place c.table p) (sparse_of c.table p) r
      → key_faults c p key ≡ [] → faults_in r ≡ [] → KeysFit keys more → KeysFit (key ∷ keys) (keyed key r ++ more)
  key_more key keys (Ok v) more texts fits clear clean rest =
      let own = key_fits key texts clear in ((own.0, own.1, fits, rest.0), ap (λ ks. key ∷ ks) rest.1)
  key_more key keys (Err []) more texts fits clear clean rest = absurd fits
  key_more key keys (Err (f ∷ fs)) more texts fits clear clean rest = absurd cc

  one_key : (pairs : List (List ℕ × Child)) (key : List ℕ) (keys : List (List ℕ)) (children : List Child) (more : List (List ℕ × Val))
      → IsTextKind (kind_of c.table (key_place c.table p)) → IsIn key (names_of pairs) → named key pairs ≡ children
      → AllFit c (value_place c.table p) children → pair_faults c p key children ≡ [] → KeysFit keys more
      → KeysFit (key ∷ keys) (pair_values c p key children ++ more)
  one_key pairs key keys [] more texts there e fit h rest = absurd (stands_in key pairs there e)
  one_key pairs key keys (child ∷ []) more texts there e fit h rest =
      key_more key keys (value_reading child) more texts (entry_fits c (value_place c.table p) (sparse_of c.table p) child fit.0)
      (none_first (key_faults c p key) (faults_in (value_reading child)) h)
      (none_behind (key_faults c p key) (faults_in (value_reading child)) h) rest
  one_key pairs key keys (child ∷ next ∷ children) more texts there e fit h rest = absurd cc

  keys_fit : (pairs : List (List ℕ × Child)) (keys : List (List ℕ)) → IsTextKind (kind_of c.table (key_place c.table p))
      → PairsFit c (value_place c.table p) pairs → ((x : List ℕ) → IsIn x keys → IsIn x (names_of pairs)) → keys_faults c p pairs keys ≡ []
      → KeysFit keys (keys_values c p pairs keys)
  keys_fit pairs [] texts fit there h = (tt, refl)
  keys_fit pairs (key ∷ keys) texts fit there h =
      let own = under (Key key) (pair_faults c p key (named key pairs)) in
      let rest = keys_faults c p pairs keys in
      one_key pairs key keys (named key pairs) (keys_values c p pairs keys) texts (there key (inl refl)) refl
      (named_fit c (value_place c.table p) key pairs fit)
      (none_under (Key key) (pair_faults c p key (named key pairs)) (none_first own rest h))
      (keys_fit pairs keys texts fit (λ x i. there x (inr i)) (none_behind own rest h))

  map_clean : (pairs : List (List ℕ × Child)) → kind_of c.table p ≡ kind.Map → IsTextKind (kind_of c.table (key_place c.table p))
      → PairsFit c (value_place c.table p) pairs → map_faults c p pairs ≡ []
      → Fits c.table c.test p (map_val (entries_of (pairs_values c p pairs)))
  map_clean pairs is texts fit h =
      let keys = in_byte_order (names_of pairs) in
      let long = here (length_broken (constraints_of c.table p) (length keys)) in
      let parts = keys_fit pairs keys texts fit (λ x i. ordered_is x (names_of pairs) i) (none_first (pairs_faults c p pairs) long h) in
      let kept = subst (λ ks. length_broken (constraints_of c.table p) (length ks) ≡ []) (sym parts.1)
      (none_here (length_broken (constraints_of c.table p) (length keys)) (none_behind (pairs_faults c p pairs) long h)) in
      (is, kept, subst InOrder (sym parts.1) (ordered (names_of pairs)), parts.0)

  pub map_fits : (pairs : List (List ℕ × Child)) → kind_of c.table p ≡ kind.Map → IsTextKind (kind_of c.table (key_place c.table p))
      → PairsFit c (value_place c.table p) pairs → ReadingFits c p (map_reading c p pairs)
  map_fits pairs is texts fit =
      settled_fits c p (map_faults c p pairs) (map_val (entries_of (pairs_values c p pairs))) (map_clean pairs is texts fit)

-- what a member comes to
abbrev MemberFits : Codec → ℕ → Result (Option Val) (List FaultAt) → Type 0
MemberFits c k (Ok None) = (default_at c.table k ≡ None) × (required_at c.table k ≡ false)
MemberFits c k (Ok (Some v)) = Fits c.table c.test (member_place k) v
MemberFits c k (Err []) = ⊥
MemberFits c k (Err (f ∷ fs)) = Unit {0}

absent_by : (c : Codec) (k : ℕ) → IsCodec c → (d : Option Val) (r : Bool) → default_at c.table k ≡ d → required_at c.table k ≡ r
    → MemberFits c k (absent_reading (absent_with d r))
absent_by c k laws (Some v) r e g = default_fits c k v laws e
absent_by c k laws None true e g = tt
absent_by c k laws None false e g = (e, g)

absent_fits : (c : Codec) (k : ℕ) → IsCodec c → MemberFits c k (absent_reading (when_closed c.table k))
absent_fits c k laws = absent_by c k laws (default_at c.table k) (required_at c.table k) refl refl

present_fits : (c : Codec) (k : ℕ) (r : Reading) → ReadingFits c (member_place k) r → MemberFits c k (present_reading r)
present_fits c k (Ok v) h = h
present_fits c k (Err []) h = h
present_fits c k (Err (f ∷ fs)) h = tt

once_fits : (c : Codec) (k : ℕ) → IsCodec c → (null : Bool) (r : Reading) → ReadingFits c (member_place k) r
    → MemberFits c k (cond null (absent_reading (when_closed c.table k)) (present_reading r))
once_fits c k laws true r h = absent_fits c k laws
once_fits c k laws false r h = present_fits c k r h

member_fits : (c : Codec) (k : ℕ) (children : List Child) → IsCodec c → AllFit c (member_place k) children
    → MemberFits c k (member_reading (when_closed c.table) k children)
member_fits c k [] laws fit = absent_fits c k laws
member_fits c k (child ∷ []) laws fit = once_fits c k laws child.null (child.reading (member_place k)) fit.0
member_fits c k (child ∷ next ∷ children) laws fit = tt

skip_fits : (c : Codec) (k : ℕ) (ks : List ℕ) (fs : FieldVals) → required_at c.table k ≡ false → default_at c.table k ≡ None
    → FitFields c.table c.test ks fs → FitFields c.table c.test (k ∷ ks) fs
skip_fits c k ks no_fields optional without h = (optional, without, h)
skip_fits c k ks (field j v fs) optional without h = (k ∷ h.0, h.1, ap (λ xs. k ∷ xs) h.2, (optional, without, h.3), h.4, h.5)

member_more : (c : Codec) (k : ℕ) (ks : List ℕ) (r : Result (Option Val) (List FaultAt)) (more : List (ℕ × Val)) → MemberFits c k r
    → member_faults r ≡ [] → FitFields c.table c.test ks (fields_of more)
    → FitFields c.table c.test (k ∷ ks) (fields_of (member_fields k r ++ more))
member_more c k ks (Ok None) more fits clean rest = skip_fits c k ks (fields_of more) fits.1 fits.0 rest
member_more c k ks (Ok (Some v)) more fits clean rest = ([], ks, refl, tt, fits, rest)
member_more c k ks (Err []) more fits clean rest = absurd fits
member_more c k ks (Err (f ∷ fs)) more fits clean rest = absurd cc

-- what stands for each of these members is of the member's place
abbrev pub EachFits : Codec → ByMember → List ℕ → Type 0
EachFits c stands [] = Unit {0}
EachFits c stands (k ∷ ks) = AllFit c (member_place k) (stands k) × EachFits c stands ks

pub members_fit : (c : Codec) → IsCodec c → (stands : ByMember) (ks : List ℕ) → EachFits c stands ks
    → members_faults c.table (when_closed c.table) stands ks ≡ []
    → FitFields c.table c.test ks (fields_of (members_fields (when_closed c.table) stands ks))
members_fit c laws stands [] fit h = tt
members_fit c laws stands (k ∷ ks) fit h =
    let r = member_reading (when_closed c.table) k (stands k) in
    let own = under (Member (name_at c.table k)) (member_faults r) in
    let rest = members_faults c.table (when_closed c.table) stands ks in
    member_more c k ks r (members_fields (when_closed c.table) stands ks) (member_fits c k (stands k) laws fit.0)
    (none_under (Member (name_at c.table k)) (member_faults r) (none_first own rest h))
    (members_fit c laws stands ks fit.1 (none_behind own rest h))
