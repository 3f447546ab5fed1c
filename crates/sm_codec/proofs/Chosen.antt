-- A union: what its pairs come to is what they spell, of the one member that stands.
use Rattle.std.proofs.Common.{◌≡◌, ℕ, Bool, true, false, cond, List, [], ◌∷◌, ◌++◌, refl, sym, ap, ◌∙◌, subst}
use Rattle.std.specs.Prelude.{Ok}
use Rattle.std.specs.List.{Contains}
use Rattle.sm_tree.specs.Node.{Node, object, members_of}
use Rattle.sm_tree.specs.declared.path.Step.TheVariants.{Member}
use Rattle.sm_shapes.specs.Values.{Val, union_val}
use Rattle.sm_shapes.specs.TableData.{name_at}
use Rattle.sm_shapes.specs.Places.{Place, member_place, members_of_place, shape_of}
use Rattle.sm_shapes.specs.InOrder.{AreMembersOf}
use Rattle.sm_shapes.specs.declared.fault.FaultKind.TheVariants.{UnionCount}
use Rattle.sm_codec.specs.Sorts.{a_union}
use Rattle.sm_codec.specs.Codec.{Codec, sort_at, wire_name, InTable}
use Rattle.sm_codec.specs.CodecLaws.{IsCodec}
use Rattle.sm_codec.specs.Named.{named, is_null}
use Rattle.sm_codec.specs.Spelling.{StandNot, NoneOrNull, Stands, Spells}
use Rattle.sm_codec.specs.FaultLists.{FaultAt, under, faults_in}
use Rattle.sm_codec.specs.Readings.{Child, child_of, children_of, named_children_of, one_here, present_reading, member_fields}
use Rattle.sm_codec.specs.Readings.{repeated_faults, repeats, under_names, standing, all_standing, standing_faults, union_faults}
use Rattle.sm_codec.specs.Readings.{standing_fields, union_reading_of, union_reading, object_by, reading, named_children}
use Rattle.sm_codec.proofs.NoFaults.{none_first, none_behind, none_under, reading_is, clean_reading, same_reading}
use Rattle.sm_codec.proofs.ChildLists.{pairs_are, pairs_each, named_are}
use Rattle.sm_codec.proofs.PlacesIn.{kind_of_sort, members_stand, stand_at, split_member}
use Rattle.sm_codec.proofs.Entries.{IsRead, AreRead, IsSpelled}
use Rattle.sm_codec.proofs.Keyed.{PairsAreRead, named_read}

module _ (c : Codec) (p : Place) (ps : List (List ℕ × Node)) where
  abbrev trees : ℕ → List Node
  trees k = named (wire_name c p k) ps

  abbrev repeat_at : ℕ → List Node → List FaultAt
  repeat_at k ns = under (Member (name_at c.table k)) (repeated_faults (children_of c ns))

  abbrev all_repeats : List ℕ → List FaultAt
  all_repeats ks = repeats c.table (under_names c p (named_children_of c ps)) ks

  abbrev all_there : List ℕ → List (ℕ × Child)
  all_there ks = all_standing (under_names c p (named_children_of c ps)) ks

  repeats_more : (k : ℕ) (ks : List ℕ) → all_repeats (k ∷ ks) ≡ repeat_at k (trees k) ++ all_repeats ks
  repeats_more k ks =
      ap (λ cs. under (Member (name_at c.table k)) (repeated_faults cs) ++ all_repeats ks) (named_are c (wire_name c p k) ps)

  there_more : (k : ℕ) (ks : List ℕ) → all_there (k ∷ ks) ≡ standing k (children_of c (trees k)) ++ all_there ks
  there_more k ks = ap (λ cs. standing k cs ++ all_there ks) (named_are c (wire_name c p k) ps)

  -- one name: it stands not, it stands, or it is repeated
  abbrev NameSays : ℕ → List Node → List (ℕ × Child) → Type 0
  NameSays k ns [] = NoneOrNull ns
  NameSays k ns (m ∷ ms) = (n : Node) × (ns ≡ n ∷ []) × (is_null n ≡ false) × (m ≡ (k, child_of c n)) × (ms ≡ []) × IsRead c n

  one_says : (k : ℕ) (n : Node) → IsRead c n → (b : Bool) → is_null n ≡ b → NameSays k (n ∷ []) (cond b [] ((k, child_of c n) ∷ []))
  one_says k n read true e = e
  one_says k n read false e = (n, refl, e, refl, refl, read)

  name_says : (k : ℕ) (ns : List Node) → AreRead c ns → repeat_at k ns ≡ [] → NameSays k ns (standing k (children_of c ns))
  name_says k [] read h = tt
  name_says k (n ∷ []) read h = one_says k n read.0 (is_null n) refl
  name_says k (n ∷ m ∷ ns) read h = absurd cc

  not_there : (ks : List ℕ) → PairsAreRead c ps → all_repeats ks ≡ [] → all_there ks ≡ [] → StandNot c p ps ks
  not_there [] read h g = tt
  not_there (k ∷ ks) read h g =
      let faults = sym (repeats_more k ks) ∙ h in
      let there = sym (there_more k ks) ∙ g in
      let says = name_says k (trees k) (named_read c (wire_name c p k) ps read)
      (none_first (repeat_at k (trees k)) (all_repeats ks) faults) in (
        subst (NameSays k (trees k)) (none_first (standing k (children_of c (trees k))) (all_there ks) there) says,
        not_there ks read (none_behind (repeat_at k (trees k)) (all_repeats ks) faults)
            (none_behind (standing k (children_of c (trees k))) (all_there ks) there),
      )

  -- exactly one member stands
  abbrev One : List ℕ → ℕ × Child → Type 0
  One ks m =
      (before behind : List ℕ) × (n : Node) × (ks ≡ before ++ m.0 ∷ behind) × StandNot c p ps before × StandNot c p ps behind
      × Stands (wire_name c p m.0) ps n × (m.1 ≡ child_of c n) × IsRead c n

  first_is : (m l : ℕ × Child) (ms : List (ℕ × Child)) → m ∷ ms ≡ l ∷ [] → (m ≡ l) × (ms ≡ [])
  first_is m l ms e = let a : m ≡ l = cc in let b : ms ≡ [] = cc in (a, b)

  one_more : (k : ℕ) (ks : List ℕ) (m : ℕ × Child) (here more : List (ℕ × Child)) → NameSays k (trees k) here → here ++ more ≡ m ∷ []
      → (more ≡ m ∷ [] → One ks m) → (more ≡ [] → StandNot c p ps ks) → One (k ∷ ks) m
  one_more k ks m [] more says e later none =
      let rest = later e in (k ∷ rest.0, rest.1, rest.2, ap (λ xs. k ∷ xs) rest.3, (says, rest.4), rest.5, rest.6, rest.7, rest.8)
  one_more k ks m (l ∷ ls) more says e later none =
      let split = first_is l m (ls ++ more) e in
      let is : m ≡ (k, child_of c says.0) = sym split.0 ∙ says.3 in
      let number : m.0 ≡ k = ap (λ x. x.0) is in (
        [],
        ks,
        says.0,
        ap (λ x. x ∷ ks) (sym number),
        tt,
        none (none_behind ls more split.1),
        subst (λ x. Stands (wire_name c p x) ps says.0) (sym number) (says.1, says.2),
        ap (λ x. x.1) is,
        says.5,
      )

  one_there : (ks : List ℕ) (m : ℕ × Child) → PairsAreRead c ps → all_repeats ks ≡ [] → all_there ks ≡ m ∷ [] → One ks m
  one_there [] m read h g = absurd cc
  one_there (k ∷ ks) m read h g =
      let faults = sym (repeats_more k ks) ∙ h in
      let more = none_behind (repeat_at k (trees k)) (all_repeats ks) faults in
      one_more k ks m (standing k (children_of c (trees k))) (all_there ks)
      (name_says k (trees k) (named_read c (wire_name c p k) ps read) (none_first (repeat_at k (trees k)) (all_repeats ks) faults))
      (sym (there_more k ks) ∙ g) (λ e. one_there ks m read more e) (λ e. not_there ks read more e)

  -- a union that has no fault
  abbrev UnionClean : List FaultAt → List (ℕ × Child) → Type 0
  UnionClean reps ms = (reps ≡ []) × ((m : ℕ × Child) × (ms ≡ m ∷ []) × (standing_faults c.table m ≡ []))

  union_clean : (reps : List FaultAt) (ms : List (ℕ × Child)) → union_faults c.table (one_here UnionCount) reps ms ≡ [] → UnionClean reps ms
  union_clean (f ∷ fs) ms h = absurd cc
  union_clean [] [] h = absurd cc
  union_clean [] (m ∷ []) h = (refl, (m, refl, h))
  union_clean [] (m ∷ l ∷ ms) h = absurd cc

  union_ok : (fs : List FaultAt) (vs : List (ℕ × Val)) (v : Val) → union_reading_of fs vs ≡ Ok v → fs ≡ []
  union_ok [] vs v h = refl
  union_ok (f ∷ fs) vs v h = absurd cc

  union_value : (reps : List FaultAt) (ms : List (ℕ × Child)) (k : ℕ) (n : Node) (w : Val) → reps ≡ [] → ms ≡ (k, child_of c n) ∷ []
      → reading c n (member_place k) ≡ Ok w
      → union_reading_of (union_faults c.table (one_here UnionCount) reps ms) (standing_fields ms) ≡ Ok (union_val k w)
  union_value reps ms k n w e g h =
      ap (λ fs. union_reading_of (union_faults c.table (one_here UnionCount) fs ms) (standing_fields ms)) e
      ∙ ap (λ xs. union_reading_of (union_faults c.table (one_here UnionCount) [] xs) (standing_fields xs)) g
      ∙ ap (λ r. union_reading_of (under (Member (name_at c.table k)) (faults_in r)) (member_fields k (present_reading r) ++ [])) h

  pair_is : (m : ℕ × Child) (d : Child) → m.1 ≡ d → m ≡ (m.0, d)
  pair_is m d e = ap (λ x. (m.0, x)) e

  pub union_read : (v : Val) → IsCodec c → InTable c.table p → sort_at c p ≡ a_union → PairsAreRead c ps
      → union_reading c p (named_children_of c ps) ≡ Ok v → Spells c p v (object (members_of ps))
  union_read v laws inside sort read h =
      let ks = members_of_place c.table p in
      let faults = union_faults c.table (one_here UnionCount) (all_repeats ks) (all_there ks) in
      let clean = union_clean (all_repeats ks) (all_there ks) (union_ok faults (standing_fields (all_there ks)) v h) in
      let m = clean.1.0 in
      let k = m.0 in
      let one = one_there ks m read clean.0 clean.1.1 in
      let n = one.2 in
      let is : m ≡ (k, child_of c n) = pair_is m (child_of c n) one.7 in
      let quiet : faults_in (reading c n (member_place k)) ≡ [] =
      none_under (Member (name_at c.table k)) (faults_in (reading c n (member_place k)))
      (subst (λ x. standing_faults c.table x ≡ []) is clean.1.2) in
      let found = clean_reading (reading c n (member_place k)) (reading_is c n (member_place k)) quiet in
      let w = found.0 in
      let value : union_val k w ≡ v = same_reading (union_val k w) v
      (sym (union_value (all_repeats ks) (all_there ks) k n w clean.0 (clean.1.1 ∙ ap (λ x. x ∷ []) is) found.1) ∙ h) in
      let place = stand_at c.table (shape_of c.table p) one.0 k one.1
      (subst (AreMembersOf c.table (shape_of c.table p)) one.3 (members_stand c.table p laws.table inside)) in
      let spells = one.8 (member_place k) w place.0 found.1 in
      subst (λ x. Spells c p x (object (members_of ps))) value (
        (kind_of_sort c.table p a_union sort, subst (λ xs. Contains xs k) (sym one.3) (split_member k one.0 one.1), spells.0),
        (sort, (ps, one.0, one.1, n, refl, one.3, one.4, one.5, one.6, spells.1)),
      )

  -- members that stand not add nothing
  quiet_at : (k : ℕ) (ns : List Node) → NoneOrNull ns → (repeat_at k ns ≡ []) × (standing k (children_of c ns) ≡ [])
  quiet_at k [] h = (refl, refl)
  quiet_at k (n ∷ []) h = (refl, ap (λ b. cond b [] ((k, child_of c n) ∷ [])) h)
  quiet_at k (n ∷ m ∷ ns) h = absurd h

  quiet_before : (before behind : List ℕ) → StandNot c p ps before
      → (all_repeats (before ++ behind) ≡ all_repeats behind) × (all_there (before ++ behind) ≡ all_there behind)
  quiet_before [] behind h = (refl, refl)
  quiet_before (k ∷ before) behind h =
      let one = quiet_at k (trees k) h.0 in
      let rest = quiet_before before behind h.1 in (
        repeats_more k (before ++ behind) ∙ ap (λ fs. fs ++ all_repeats (before ++ behind)) one.0 ∙ rest.0,
        there_more k (before ++ behind) ∙ ap (λ ms. ms ++ all_there (before ++ behind)) one.1 ∙ rest.1,
      )

  quiet_all : (ks : List ℕ) → StandNot c p ps ks → (all_repeats ks ≡ []) × (all_there ks ≡ [])
  quiet_all [] h = (refl, refl)
  quiet_all (k ∷ ks) h =
      let one = quiet_at k (trees k) h.0 in
      let rest = quiet_all ks h.1 in (
        repeats_more k ks ∙ ap (λ fs. fs ++ all_repeats ks) one.0 ∙ rest.0,
        there_more k ks ∙ ap (λ ms. ms ++ all_there ks) one.1 ∙ rest.1,
      )

  stands_here : (k : ℕ) (n : Node) (ks : List ℕ) → Stands (wire_name c p k) ps n → StandNot c p ps ks
      → (all_repeats (k ∷ ks) ≡ []) × (all_there (k ∷ ks) ≡ (k, child_of c n) ∷ [])
  stands_here k n ks h g =
      let rest = quiet_all ks g in (
        repeats_more k ks ∙ ap (λ ns. repeat_at k ns ++ all_repeats ks) h.0 ∙ rest.0,
        there_more k ks ∙ ap (λ ns. standing k (children_of c ns) ++ all_there ks) h.0
            ∙ ap (λ b. cond b [] ((k, child_of c n) ∷ []) ++ all_there ks) h.1 ∙ ap (λ ms. (k, child_of c n) ∷ ms) rest.1,
      )

-- and a union that spells a value
pub union_spelled : (c : Codec) (p : Place) (k : ℕ) (v : Val) (n : Node) → IsCodec c → InTable c.table p → IsSpelled c v
    → Spells c p (union_val k v) n → reading c n p ≡ Ok (union_val k v)
union_spelled c p k v n laws inside is h =
    let ps = h.1.1.0 in
    let before = h.1.1.1 in
    let behind = h.1.1.2 in
    let m = h.1.1.3 in
    let split = h.1.1.5 in
    let ks = members_of_place c.table p in
    let here = stands_here c p ps k m behind h.1.1.8 h.1.1.7 in
    let quiet = quiet_before c p ps before (k ∷ behind) h.1.1.6 in
    let faults : all_repeats c p ps ks ≡ [] = ap (all_repeats c p ps) split ∙ quiet.0 ∙ here.0 in
    let there : all_there c p ps ks ≡ (k, child_of c m) ∷ [] = ap (all_there c p ps) split ∙ quiet.1 ∙ here.1 in
    let place = stand_at c.table (shape_of c.table p) before k behind
    (subst (AreMembersOf c.table (shape_of c.table p)) split (members_stand c.table p laws.table inside)) in
    let value = is (member_place k) m place.0 (h.0.2, h.1.1.9) in
    ap (λ m. reading c m p) h.1.1.4
    ∙ ap (λ s. object_by s c p (object (members_of ps)) (named_children c (members_of ps))) h.1.0
    ∙ ap (union_reading c p) (pairs_are c (members_of ps) ∙ ap (named_children_of c) (pairs_each ps))
    ∙ union_value c p ps (all_repeats c p ps ks) (all_there c p ps ks) k m v faults there value
