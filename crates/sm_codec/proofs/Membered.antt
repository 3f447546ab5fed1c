-- A structure: what its pairs come to is what they spell, member by member, with the defaults of those that are absent.
use Rattle.std.proofs.Common.{◌≡◌, ◌⊎◌, inl, inr, ℕ, ◌<◌, Bool, true, false, cond, List, [], ◌∷◌, ◌++◌, map, append-nil, refl, sym, ap}
use Rattle.std.proofs.Common.{◌∙◌, subst}
use Rattle.std.specs.Prelude.{Option, Some, None, Result, Ok, Err}
use Rattle.sm_tree.specs.Node.{Node, object, members_of}
use Rattle.sm_tree.specs.declared.path.Step.TheVariants.{Member}
use Rattle.sm_shapes.specs.Names.{NoneIs, AllDiffer}
use Rattle.sm_shapes.specs.Values.{Val, FieldVals, structure_val, no_fields, field, fields_of}
use Rattle.sm_shapes.specs.TableData.{member_count, name_at, required_at, default_at}
use Rattle.sm_shapes.specs.Places.{Place, member_place, members_of_place, shape_of}
use Rattle.sm_shapes.specs.Fitting.{Fits, FitFields, MayBeAbsent}
use Rattle.sm_shapes.specs.InOrder.{AreMembersOf}
use Rattle.sm_codec.specs.Sorts.{a_structure}
use Rattle.sm_codec.specs.Codec.{Codec, sort_at, wire_name, InTable}
use Rattle.sm_codec.specs.CodecLaws.{IsCodec}
use Rattle.sm_codec.specs.Named.{named, is_null}
use Rattle.sm_codec.specs.Spelling.{Spelled, SpelledFields, NoneOrNull, AreAbsent, Spells}
use Rattle.sm_codec.specs.FaultLists.{FaultAt, under, Reading, settled}
use Rattle.sm_codec.specs.Readings.{children_of, named_children_of, absent_with, when_closed, absent_reading, present_reading}
use Rattle.sm_codec.specs.Readings.{member_reading, member_faults, member_fields, members_faults, members_fields, under_names}
use Rattle.sm_codec.specs.Readings.{structure_reading, object_by, reading, named_children}
use Rattle.sm_codec.proofs.NoFaults.{none_first, none_behind, none_under, IsReading, reading_is, settled_ok, ok_reading}
use Rattle.sm_codec.proofs.ChildLists.{pairs_are, pairs_each, named_are}
use Rattle.sm_codec.proofs.PlacesIn.{kind_of_sort, shape_in, members_stand, stand_at}
use Rattle.sm_codec.proofs.Entries.{IsRead, AreRead, IsSpelled}
use Rattle.sm_codec.proofs.Keyed.{PairsAreRead, named_read}
use Rattle.sm_codec.proofs.DefaultsFit.{default_fits}

abbrev MemberReading : Type 0
MemberReading = Result (Option Val) (List FaultAt)

-- a member by the trees under its name
abbrev MemberSays : Codec → ℕ → List Node → MemberReading → Type 0
MemberSays c k ns (Ok None) = NoneOrNull ns × (default_at c.table k ≡ None) × (required_at c.table k ≡ false)
MemberSays c k ns (Ok (Some v)) =
    (((n : Node) × ((ns ≡ n ∷ []) × (is_null n ≡ false)) × Spelled c (member_place k) v n)
    ⊎ (NoneOrNull ns × (default_at c.table k ≡ Some v)))
    × Fits c.table c.test (member_place k) v
MemberSays c k ns (Err []) = ⊥
MemberSays c k ns (Err (f ∷ fs)) = Unit {0}

absent_says : (c : Codec) (k : ℕ) (ns : List Node) → IsCodec c → NoneOrNull ns → (d : Option Val) (r : Bool) → default_at c.table k ≡ d
    → required_at c.table k ≡ r → MemberSays c k ns (absent_reading (absent_with d r))
absent_says c k ns laws absent (Some v) r e g = (inr (absent, e), default_fits c k v laws e)
absent_says c k ns laws absent None true e g = tt
absent_says c k ns laws absent None false e g = (absent, e, g)

present_says : (c : Codec) (k : ℕ) (n : Node) → IsRead c n → k < member_count c.table → is_null n ≡ false → (r : Reading)
    → reading c n (member_place k) ≡ r → IsReading r → MemberSays c k (n ∷ []) (present_reading r)
present_says c k n read inside stands (Ok v) e is =
    let spells = read (member_place k) v inside e in (inl (n, (refl, stands), spells.1), spells.0)
present_says c k n read inside stands (Err []) e is = is
present_says c k n read inside stands (Err (f ∷ fs)) e is = tt

one_says : (c : Codec) (k : ℕ) (n : Node) → IsCodec c → IsRead c n → k < member_count c.table → (b : Bool) → is_null n ≡ b
    → MemberSays c k (n ∷ []) (cond b (absent_reading (when_closed c.table k)) (present_reading (reading c n (member_place k))))
one_says c k n laws read inside true e =
    absent_says c k (n ∷ []) laws e (default_at c.table k) (required_at c.table k) refl refl
one_says c k n laws read inside false e =
    present_says c k n read inside e (reading c n (member_place k)) refl (reading_is c n (member_place k))

member_says : (c : Codec) (k : ℕ) (ns : List Node) → IsCodec c → k < member_count c.table → AreRead c ns
    → MemberSays c k ns (member_reading (when_closed c.table) k (children_of c ns))
member_says c k [] laws inside read = absent_says c k [] laws tt (default_at c.table k) (required_at c.table k) refl refl
member_says c k (n ∷ []) laws inside read = one_says c k n laws read.0 inside (is_null n) refl
member_says c k (n ∷ m ∷ ns) laws inside read = tt

-- the fields as a list
abbrev fields_in : FieldVals → List (ℕ × Val)
fields_in no_fields = []
fields_in (field k v fs) = (k, v) ∷ fields_in fs

fields_again : (fs : FieldVals) → fields_of (fields_in fs) ≡ fs
fields_again no_fields = refl
fields_again (field k v fs) = ap (field k v) (fields_again fs)

abbrev pub FieldsAreSpelled : Codec → FieldVals → Type 0
FieldsAreSpelled c no_fields = Unit {0}
FieldsAreSpelled c (field k v fs) = IsSpelled c v × FieldsAreSpelled c fs

-- a member whose name differs from those of others stands once among them
pub none_at : (f : ℕ → List ℕ) (name : List ℕ) (before : List ℕ) (k : ℕ) (behind : List ℕ) → NoneIs name (map f (before ++ k ∷ behind))
    → f k ≡ name → ⊥
none_at f name [] k behind h = h.0
none_at f name (j ∷ before) k behind h = none_at f name before k behind h.1

one_split : (f : ℕ → List ℕ) (before behind others rest : List ℕ) (k : ℕ) → AllDiffer (map f (before ++ k ∷ behind))
    → before ++ k ∷ behind ≡ others ++ k ∷ rest → (before ≡ others) × (behind ≡ rest)
one_split f [] behind [] rest k differ e = let same : behind ≡ rest = cc in (refl, same)
one_split f [] behind (j ∷ others) rest k differ e =
    let more : behind ≡ others ++ k ∷ rest = cc in
    absurd (none_at f (f k) others k rest (subst (λ ks. NoneIs (f k) (map f ks)) more differ.0) refl)
one_split f (j ∷ before) behind [] rest k differ e = let same : k ≡ j = cc in absurd (none_at f (f j) before k behind differ.0 (ap f same))
one_split f (j ∷ before) behind (i ∷ others) rest k differ e =
    let first : j ≡ i = cc in
    let more : before ++ k ∷ behind ≡ others ++ k ∷ rest = cc in
    let found = one_split f before behind others rest k differ.1 more in
    (ap (λ x. x ∷ before) first ∙ ap (λ xs. i ∷ xs) found.0, found.1)

pub differ_behind : (f : ℕ → List ℕ) (before : List ℕ) (k : ℕ) (behind : List ℕ) → AllDiffer (map f (before ++ k ∷ behind))
    → AllDiffer (map f behind)
differ_behind f [] k behind h = h.1
differ_behind f (j ∷ before) k behind h = differ_behind f before k behind h.1

module _ (c : Codec) (p : Place) (ps : List (List ℕ × Node)) where
  abbrev trees : ℕ → List Node
  trees k = named (wire_name c p k) ps

  abbrev member_read : ℕ → MemberReading
  member_read k = member_reading (when_closed c.table) k (children_of c (trees k))

  abbrev all_faults : List ℕ → List FaultAt
  all_faults ks = members_faults c.table (when_closed c.table) (under_names c p (named_children_of c ps)) ks

  abbrev all_fields : List ℕ → List (ℕ × Val)
  all_fields ks = members_fields (when_closed c.table) (under_names c p (named_children_of c ps)) ks

  faults_more : (k : ℕ) (ks : List ℕ) → all_faults (k ∷ ks) ≡ under (Member (name_at c.table k))
      (member_faults (member_read k)) ++ all_faults ks
  faults_more k ks =
      ap (λ cs. under (Member (name_at c.table k)) (member_faults (member_reading (when_closed c.table) k cs)) ++ all_faults ks)
      (named_are c (wire_name c p k) ps)

  fields_more : (k : ℕ) (ks : List ℕ) → all_fields (k ∷ ks) ≡ member_fields k (member_read k) ++ all_fields ks
  fields_more k ks =
      ap (λ cs. member_fields k (member_reading (when_closed c.table) k cs) ++ all_fields ks) (named_are c (wire_name c p k) ps)

  abbrev ReadFields : List ℕ → List (ℕ × Val) → Type 0
  ReadFields ks fs = SpelledFields c p ks (fields_of fs) ps × FitFields c.table c.test ks (fields_of fs)

  skip_spelled : (k : ℕ) (ks : List ℕ) (fs : FieldVals) → NoneOrNull (trees k) → default_at c.table k ≡ None → SpelledFields c p ks fs ps
      → SpelledFields c p (k ∷ ks) fs ps
  skip_spelled k ks no_fields absent without h = (absent, without, h)
  skip_spelled k ks (field j v fs) absent without h = (k ∷ h.0, h.1, ap (λ xs. k ∷ xs) h.2, (absent, without, h.3), h.4, h.5)

  skip_fits : (k : ℕ) (ks : List ℕ) (fs : FieldVals) → required_at c.table k ≡ false → default_at c.table k ≡ None
      → FitFields c.table c.test ks fs → FitFields c.table c.test (k ∷ ks) fs
  skip_fits k ks no_fields optional without h = (optional, without, h)
  skip_fits k ks (field j v fs) optional without h = (k ∷ h.0, h.1, ap (λ xs. k ∷ xs) h.2, (optional, without, h.3), h.4, h.5)

  member_more : (k : ℕ) (ks : List ℕ) (r : MemberReading) (more : List (ℕ × Val)) → MemberSays c k (trees k) r → member_faults r ≡ []
      → ReadFields ks more → ReadFields (k ∷ ks) (member_fields k r ++ more)
  member_more k ks (Ok None) more says clean rest =
      (skip_spelled k ks (fields_of more) says.0 says.1 rest.0, skip_fits k ks (fields_of more) says.2 says.1 rest.1)
  member_more k ks (Ok (Some v)) more says clean rest = (([], ks, refl, tt, says.0, rest.0), ([], ks, refl, tt, says.1, rest.1))
  member_more k ks (Err []) more says clean rest = absurd says
  member_more k ks (Err (f ∷ fs)) more says clean rest = absurd cc

  fields_read : (s : ℕ) (ks : List ℕ) → IsCodec c → AreMembersOf c.table s ks → PairsAreRead c ps → all_faults ks ≡ []
      → ReadFields ks (all_fields ks)
  fields_read s [] laws stand read h = (tt, tt)
  fields_read s (k ∷ ks) laws stand read h =
      let parts = sym (faults_more k ks) ∙ h in
      let here = under (Member (name_at c.table k)) (member_faults (member_read k)) in
      let first = none_under (Member (name_at c.table k)) (member_faults (member_read k)) (none_first here (all_faults ks) parts) in
      let rest = fields_read s ks laws stand.2 read (none_behind here (all_faults ks) parts) in
      subst (ReadFields (k ∷ ks)) (sym (fields_more k ks))
      (member_more k ks (member_read k) (all_fields ks)
      (member_says c k (trees k) laws stand.0 (named_read c (wire_name c p k) ps read)) first rest)

  -- a structure that has no fault
  pub structure_read : (v : Val) → IsCodec c → InTable c.table p → sort_at c p ≡ a_structure → PairsAreRead c ps
      → structure_reading c p (named_children_of c ps) ≡ Ok v → Spells c p v (object (members_of ps))
  structure_read v laws inside sort read h =
      let ks = members_of_place c.table p in
      let found = settled_ok (all_faults ks) (structure_val (fields_of (all_fields ks))) v h in
      let parts = fields_read (shape_of c.table p) ks laws (members_stand c.table p laws.table inside) read found.0 in
      subst (λ w. Spells c p w (object (members_of ps))) found.1
      ((kind_of_sort c.table p a_structure sort, parts.1), (sort, (ps, refl, parts.0)))

  -- what members that are absent or stand come to
  absent_is : (k : ℕ) (ns : List Node) → NoneOrNull ns
      → member_reading (when_closed c.table) k (children_of c ns) ≡ absent_reading (when_closed c.table k)
  absent_is k [] h = refl
  absent_is k (n ∷ []) h = ap (λ b. cond b (absent_reading (when_closed c.table k)) (present_reading (reading c n (member_place k)))) h
  absent_is k (n ∷ m ∷ ns) h = absurd h

  left_out_is : (k : ℕ) → NoneOrNull (trees k) → default_at c.table k ≡ None → required_at c.table k ≡ false → member_read k ≡ Ok None
  left_out_is k absent without optional =
      absent_is k (trees k) absent ∙ ap (λ d. absent_reading (absent_with d (required_at c.table k))) without
      ∙ ap (λ r. absent_reading (absent_with None r)) optional

  default_is : (k : ℕ) (v : Val) → NoneOrNull (trees k) → default_at c.table k ≡ Some v → member_read k ≡ Ok (Some v)
  default_is k v absent with_it =
      absent_is k (trees k) absent ∙ ap (λ d. absent_reading (absent_with d (required_at c.table k))) with_it

  present_is : (k : ℕ) (v : Val) (n : Node) → trees k ≡ n ∷ [] → is_null n ≡ false → reading c n (member_place k) ≡ Ok v
      → member_read k ≡ Ok (Some v)
  present_is k v n once stands h =
      ap (λ ns. member_reading (when_closed c.table) k (children_of c ns)) once
      ∙ ap (λ b. cond b (absent_reading (when_closed c.table k)) (present_reading (reading c n (member_place k)))) stands
      ∙ ap present_reading h

  field_is : (k : ℕ) (v : Val) → IsSpelled c v → k < member_count c.table → Fits c.table c.test (member_place k) v
      → (((n : Node) × ((trees k ≡ n ∷ []) × (is_null n ≡ false)) × Spelled c (member_place k) v n)
      ⊎ (NoneOrNull (trees k) × (default_at c.table k ≡ Some v)))
      → member_read k ≡ Ok (Some v)
  field_is k v is inside fits (inl h) = present_is k v h.0 h.1.0 h.1.1 (is (member_place k) h.0 inside (fits, h.2))
  field_is k v is inside fits (inr h) = default_is k v h.0 h.1

  abbrev SpelledAll : List ℕ → List (ℕ × Val) → Type 0
  SpelledAll ks fs = (all_faults ks ≡ []) × (all_fields ks ≡ fs)

  absent_more : (k : ℕ) (ks : List ℕ) (fs : List (ℕ × Val)) → member_read k ≡ Ok None → SpelledAll ks fs → SpelledAll (k ∷ ks) fs
  absent_more k ks fs e h = (
    faults_more k ks ∙ ap (λ r. under (Member (name_at c.table k)) (member_faults r) ++ all_faults ks) e ∙ h.0,
    fields_more k ks ∙ ap (λ r. member_fields k r ++ all_fields ks) e ∙ h.1,
  )

  present_more : (k : ℕ) (v : Val) (ks : List ℕ) (fs : List (ℕ × Val)) → member_read k ≡ Ok (Some v) → SpelledAll ks fs
      → SpelledAll (k ∷ ks) ((k, v) ∷ fs)
  present_more k v ks fs e h = (
    faults_more k ks ∙ ap (λ r. under (Member (name_at c.table k)) (member_faults r) ++ all_faults ks) e ∙ h.0,
    fields_more k ks ∙ ap (λ r. member_fields k r ++ all_fields ks) e ∙ ap (λ xs. (k, v) ∷ xs) h.1,
  )

  skipped_spelled : (skipped ks : List ℕ) (fs : List (ℕ × Val)) → AreAbsent c p ps skipped → MayBeAbsent c.table skipped
      → SpelledAll ks fs → SpelledAll (skipped ++ ks) fs
  skipped_spelled [] ks fs h g more = more
  skipped_spelled (k ∷ skipped) ks fs h g more =
      absent_more k (skipped ++ ks) fs (left_out_is k h.0 h.1 g.0) (skipped_spelled skipped ks fs h.2 g.2 more)

  fields_spelled : (s : ℕ) (ks : List ℕ) (fs : FieldVals) → AllDiffer (map (wire_name c p) ks) → AreMembersOf c.table s ks
      → FieldsAreSpelled c fs → SpelledFields c p ks fs ps → FitFields c.table c.test ks fs → SpelledAll ks (fields_in fs)
  fields_spelled s ks no_fields differ stand is h g =
      subst (λ xs. SpelledAll xs []) (append-nil ks) (skipped_spelled ks [] [] h g (refl, refl))
  fields_spelled s ks (field k v fs) differ stand is h g =
      let names = subst (λ xs. AllDiffer (map (wire_name c p) xs)) h.2 differ in
      let places = stand_at c.table s h.0 k h.1 (subst (AreMembersOf c.table s) h.2 stand) in
      let same = one_split (wire_name c p) h.0 h.1 g.0 g.1 k names (sym h.2 ∙ g.2) in
      let absent = subst (MayBeAbsent c.table) (sym same.0) g.3 in
      let rest = fields_spelled s h.1 fs (differ_behind (wire_name c p) h.0 k h.1 names) places.1 is.1 h.5
      (subst (λ xs. FitFields c.table c.test xs fs) (sym same.1) g.5) in
      subst (λ xs. SpelledAll xs ((k, v) ∷ fields_in fs)) (sym h.2)
      (skipped_spelled h.0 (k ∷ h.1) ((k, v) ∷ fields_in fs) h.3 absent
      (present_more k v h.1 (fields_in fs) (field_is k v is.0 places.0 g.4 h.4) rest))

-- and a structure that spells a value
pub structure_spelled : (c : Codec) (p : Place) (fs : FieldVals) (n : Node) → IsCodec c → InTable c.table p → FieldsAreSpelled c fs
    → Spells c p (structure_val fs) n → reading c n p ≡ Ok (structure_val fs)
structure_spelled c p fs n laws inside is h =
    let ps = h.1.1.0 in
    let cs = named_children_of c ps in
    let ks = members_of_place c.table p in
    let s = shape_of c.table p in
    let parts = fields_spelled c p ps s ks fs (laws.convention.names c.table laws.table s (shape_in c.table p laws.table inside))
    (members_stand c.table p laws.table inside) is h.1.1.2 h.0.1 in
    ap (λ m. reading c m p) h.1.1.1
    ∙ ap (λ s. object_by s c p (object (members_of ps)) (named_children c (members_of ps))) h.1.0
    ∙ ap (structure_reading c p) (pairs_are c (members_of ps) ∙ ap (named_children_of c) (pairs_each ps))
    ∙ ap (λ fs. settled fs (structure_val (fields_of (all_fields c p ps ks)))) parts.0
    ∙ ap (λ xs. ok_reading (structure_val (fields_of xs))) parts.1
    ∙ ap (λ xs. ok_reading (structure_val xs)) (fields_again fs)
