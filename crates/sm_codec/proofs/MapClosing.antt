-- A map's frame where the map opens, at a name, where a tree is closed, and where the map ends.
use Rattle.std.proofs.Common.{◌≡◌, ℕ, ◌<◌, List, [], ◌∷◌, ◌++◌, length, append-nil, refl, sym, ap, ◌∙◌, subst, subst₂}
use Rattle.std.specs.Prelude.{Option, Some, None, Err}
use Rattle.std.specs.List.Sorted.{IsPermutation}
use Rattle.std.specs.Option.{option_map}
use Rattle.std.proofs.lemmas.List.{map-append}
use Rattle.std.proofs.lemmas.Str.{is_utf8-from_IsUtf8}
use Rattle.std.proofs.lemmas.List.Sorted.{IsPermutation-refl, length_permutation}
use Rattle.sm_tree.specs.Node.{Node}
use Rattle.sm_tree.specs.Building.{tagged}
use Rattle.sm_tree.specs.declared.path.Step.TheVariants.{Key}
use Rattle.sm_shapes.specs.Values.{Val, map_val, entries_of, text_val}
use Rattle.sm_shapes.specs.Places.{Place, root_place, shape_of, kind_of, constraints_of, sparse_of, key_place, value_place}
use Rattle.sm_shapes.specs.Broken.{broken, length_broken, first_broken}
use Rattle.sm_shapes.specs.Fitting.{finder}
use Rattle.sm_shapes.specs.InOrder.{Shaped}
use Rattle.sm_shapes.specs.TableData.{shape_count, kind_at}
use Rattle.sm_shapes.specs.declared.fault.FaultKind.{FaultKind}
use Rattle.sm_shapes.specs.declared.kinds.ShapeKind.TheVariants as kinds
use Rattle.sm_codec.specs.Convention.{IsConvention}
use Rattle.sm_codec.specs.Sorts.{a_map}
use Rattle.sm_codec.specs.Codec.{Codec, sort_at, broken_at, InTable}
use Rattle.sm_codec.specs.Named.{named, names_of, in_byte_order}
use Rattle.sm_codec.specs.FaultLists.{FaultAt, here, under, first_fault, settled}
use Rattle.sm_codec.specs.Readings.{Child, child_of, named_children_of, key_faults, keyed, entry_reading, pair_faults, pair_values}
use Rattle.sm_codec.specs.Readings.{keys_faults, keys_values, pairs_faults, pairs_values, map_reading}
use Rattle.sm_codec.specs.Decoding.{KeyFrame, map_frame}
use Rattle.sm_codec.specs.Walk.{pair_level, due_at, opened_at, behind_tags, behind_name, due_within}
use Rattle.sm_codec.specs.Kept.{AreKept, each_entry, spelled_entries, IsOutcome, HoldsPairs, FrameHolds}
use Rattle.sm_codec.specs.steps.Arrivals.{Arrival, IsArrival, null_where, read_where, level_with}
use Rattle.sm_codec.specs.steps.EntrySteps.{entry_comes}
use Rattle.sm_codec.specs.steps.MapSteps.{JudgesKey, pair_comes, IsKeyed, TakesPair, map_ended, map_end}
use Rattle.sm_codec.specs.steps.OpeningSteps.{new_keys}
use Rattle.sm_codec.proofs.Closing.{arrives_in}
use Rattle.sm_codec.proofs.MembersKept.{kept_all}
use Rattle.sm_codec.proofs.NoFaults.{none_first, none_behind, none_under}
use Rattle.sm_codec.proofs.PairArrives.{key_first, pair_is, pair_held}
use Rattle.sm_codec.proofs.PlacesIn.{kind_of_sort, shape_in}

-- one that has just opened
pub map_starts : (c : Codec) (p : Place) → sort_at c p ≡ a_map → HoldsPairs c p [] None (map_frame (new_keys (shape_of c.table p)))
map_starts c p sort =
    (sort, record { shape = refl; seen = IsPermutation-refl []; current = refl; fault = refl; entries = refl })

-- a name
pub key_named : (c : Codec) (p : Place) (ps : List (List ℕ × Child)) (name : List ℕ) (f g : KeyFrame) → IsKeyed name f g
    → HoldsPairs c p ps None (map_frame f) → HoldsPairs c p ps (Some name) (map_frame g)
key_named c p ps name f g named h =
    let keys = in_byte_order (names_of ps) in (
      h.0,
      record {
        shape = named.0 ∙ h.1.shape;
        seen = subst (λ ks. IsPermutation ks keys) (sym named.2) h.1.seen;
        current = named.4;
        fault = named.3 ∙ h.1.fault;
        entries = subst (λ es. AreKept (pairs_faults c p ps) es (spelled_entries c p ps keys)) (sym named.1) h.1.entries;
      },
    )

-- a map's frame is of a map of the table
pub map_known : (c : Codec) (p : Place) (ps : List (List ℕ × Child)) (name : Option (List ℕ)) (f : KeyFrame) → Shaped c.table
    → InTable c.table p → HoldsPairs c p ps name (map_frame f) → (f.shape < shape_count c.table) × (kind_at c.table f.shape ≡ kinds.Map)
map_known c p ps name f shaped inside h = (
  subst (λ s. s < shape_count c.table) (sym h.1.shape) (shape_in c.table p shaped inside),
  ap (kind_at c.table) h.1.shape ∙ kind_of_sort c.table p a_map h.0,
)

-- what the key's own constraints say
judged : (c : Codec) (p : Place) (name : List ℕ) (shape : ℕ) (current : Option (List ℕ)) (first : Option FaultKind)
    → shape ≡ shape_of c.table p → current ≡ Some name → JudgesKey (finder c.table c.test) c.table shape current first
    → first_fault (key_faults c p name) ≡ option_map (λ kind. ([], kind)) first
judged c p name shape current first same is judges =
    let said = judges name is in
    let there : first ≡ first_broken (broken_at c (key_place c.table p) (text_val name)) =
    said.1 ∙ ap (λ s. first_broken (broken (finder c.table c.test) (kind_of c.table (key_place c.table (root_place s)))
    (constraints_of c.table (key_place c.table (root_place s))) (text_val name))) same in
    key_first c p name (is_utf8-from_IsUtf8 name said.0) ∙ ap (option_map (λ kind. ([], kind))) (sym there)

-- a value's tree
pub map_takes : (c : Codec) (p : Place) (ms : List (List ℕ × Node)) (name : List ℕ) (us : List ℕ) (n : Node) (first : Option FaultKind)
    → (x : Arrival) (f g : KeyFrame) → IsConvention c.convention
    → IsArrival (null_where (due_within c (opened_at p) (pair_level ms name us)) n)
    (read_where c (due_within c (opened_at p) (pair_level ms name us)) n) x
    → JudgesKey (finder c.table c.test) c.table f.shape f.current first
    → TakesPair (sparse_of c.table p) first x f g → FrameHolds c p (pair_level ms name us) (map_frame f)
    → FrameHolds c p (level_with n (pair_level ms name us)) (map_frame g)
map_takes c p ms name us n first x f g laws is judges takes h =
    let due : due_within c (opened_at p) (pair_level ms name us) ≡ behind_tags c (due_at (value_place c.table p)) us =
    ap (λ s. behind_tags c (behind_name s c p name) us) h.0 in
    let come = arrives_in c (value_place c.table p) us n x (due_within c (opened_at p) (pair_level ms name us)) laws due is in
    let own = judged c p name f.shape f.current first h.1.shape h.1.current judges in
    let child = child_of c (tagged us n) in
    let held = pair_held c p (named_children_of c ms) name child (pair_comes first (entry_comes (sparse_of c.table p) x)) f g
    (pair_is c p name child first x own come) (takes name h.1.current) h in
    subst (λ ps. HoldsPairs c p ps None (map_frame g)) (sym (map-append (λ m. (m.0, child_of c m.1)) ms ((name, tagged us n) ∷ []))) held

-- without a fault each key stands once, and has one entry
module _ (c : Codec) (p : Place) (ps : List (List ℕ × Child)) where
  one_entry : (key : List ℕ) (cs : List Child) → pair_faults c p key cs ≡ [] → each_entry c p key cs ≡ pair_values c p key cs
  one_entry key [] h = refl
  one_entry key (x ∷ []) h = append-nil (keyed key (entry_reading (sparse_of c.table p) (value_place c.table p) x))
  one_entry key (x ∷ y ∷ cs) h = absurd cc

  all_entries : (keys : List (List ℕ)) → keys_faults c p ps keys ≡ [] → spelled_entries c p ps keys ≡ keys_values c p ps keys
  all_entries [] h = refl
  all_entries (key ∷ keys) h =
      let own = pair_faults c p key (named key ps) in
      let first = none_under (Key key) own (none_first (under (Key key) own) (keys_faults c p ps keys) h) in
      let rest = all_entries keys (none_behind (under (Key key) own) (keys_faults c p ps keys) h) in
      ap (λ es. es ++ spelled_entries c p ps keys) (one_entry key (named key ps) first)
      ∙ ap (λ es. pair_values c p key (named key ps) ++ es) rest

-- the end of a map by its closed keys
ends_faulty : (fs : List FaultAt) (g : FaultAt) (more : List FaultAt) (v : Val) → Some g ≡ first_fault fs
    → (rest : List FaultAt) × (settled (fs ++ more) v ≡ Err (g ∷ rest))
ends_faulty [] g more v h = absurd cc
ends_faulty (f ∷ fs) g more v h = let same : f ≡ g = cc in (fs ++ more, ap (λ x. Err (x ∷ (fs ++ more))) same)

no_first : (fs : List FaultAt) → None ≡ first_fault fs → fs ≡ []
no_first [] h = refl
no_first (f ∷ fs) h = absurd cc

ends_clean : (es : List (List ℕ × Val)) (long : List FaultKind)
    → IsOutcome (settled (here long) (map_val (entries_of es))) (map_ended es None (first_broken long))
ends_clean es [] = refl
ends_clean es (k ∷ ks) = (([], k), here ks, refl, refl)

pub map_outcome : (c : Codec) (p : Place) (ps : List (List ℕ × Child)) (f : KeyFrame) → HoldsPairs c p ps None (map_frame f)
    → IsOutcome (map_reading c p ps) (map_end (constraints_of c.table p) f)
map_outcome c p ps f h = by_fault f.fault refl
  where
    by_fault : (o : Option FaultAt) → f.fault ≡ o → IsOutcome (map_reading c p ps) (map_end (constraints_of c.table p) f)
    by_fault (Some g) e =
        let ks = in_byte_order (names_of ps) in
        let end = ends_faulty (pairs_faults c p ps) g (here (length_broken (constraints_of c.table p) (length ks)))
        (map_val (entries_of (pairs_values c p ps))) (sym e ∙ h.1.fault) in
        let long = first_broken (length_broken (constraints_of c.table p) (length f.seen)) in
        subst₂ IsOutcome (sym end.1) (sym (ap (λ o. map_ended f.entries o long) e)) (g, end.0, refl, refl)
    by_fault None e =
        let ks = in_byte_order (names_of ps) in
        let none = no_first (pairs_faults c p ps) (sym e ∙ h.1.fault) in
        let entries : f.entries ≡ pairs_values c p ps =
        kept_all (pairs_faults c p ps) f.entries (spelled_entries c p ps ks) h.1.entries none ∙ all_entries c p ps ks none in
        let count : length ks ≡ length f.seen = length_permutation f.seen ks h.1.seen in
        let reads : map_reading c p ps ≡ settled (here (length_broken (constraints_of c.table p) (length f.seen)))
        (map_val (entries_of f.entries)) =
        ap (λ fs. settled (fs ++ here (length_broken (constraints_of c.table p) (length ks)))
        (map_val (entries_of (pairs_values c p ps)))) none
        ∙ ap (λ n. settled (here (length_broken (constraints_of c.table p) n)) (map_val (entries_of (pairs_values c p ps)))) count
        ∙ ap (λ es. settled (here (length_broken (constraints_of c.table p) (length f.seen))) (map_val (entries_of es))) (sym entries) in
        let long = length_broken (constraints_of c.table p) (length f.seen) in
        subst₂ IsOutcome (sym reads) (sym (ap (λ o. map_ended f.entries o (first_broken long)) e)) (ends_clean f.entries long)
