-- The frames of a decoder hold a share of nodes at most for each tree that is counted of its levels, and are as many as these.
use Rattle.std.proofs.Common.{◌≡◌, ℕ, ◌+◌, ◌*◌, ◌≤◌, List, [], ◌∷◌, length, length-append, refl, ap, ◌∙◌, arith}
use Rattle.std.specs.Prelude.{Option, Some, None, Ok, Err}
use Rattle.sm_tree.specs.Node.{Node}
use Rattle.sm_tree.specs.Building.{whole}
use Rattle.sm_shapes.specs.Values.{val_nodes}
use Rattle.sm_shapes.specs.InOrder.{Shaped}
use Rattle.sm_shapes.specs.Places.{Place, root_place, members_of_place, entry_place}
use Rattle.sm_codec.specs.Bound.{total, frame_nodes, frames_nodes, outcome_nodes, decoding_nodes, pair_count, level_count, levels_count}
use Rattle.sm_codec.specs.Bound.{known_trees}
use Rattle.sm_codec.specs.Codec.{Codec, InTable}
use Rattle.sm_codec.specs.CodecLaws.{IsCodec}
use Rattle.sm_codec.specs.Decoding.{Outcome, Frame, structure_frame, union_frame, list_frame, map_frame, tagged_frame, skip_frame, Decoding}
use Rattle.sm_codec.specs.FaultLists.{Reading}
use Rattle.sm_codec.specs.Kept.{HoldsList, HoldsPairs, FrameHolds, FramesHold, HoldsOpen, Holds, IsOutcome, due_frames, spelled_fields}
use Rattle.sm_codec.specs.Kept.{spelled_entries, closed_faults, closed_union_faults}
use Rattle.sm_codec.specs.Named.{names_of, in_byte_order}
use Rattle.sm_codec.specs.Readings.{under_names, children_of, named_children_of, entries_faults, entries_values, pairs_faults, reading}
use Rattle.sm_codec.specs.Sorts.{a_list, a_map, a_structure, a_union}
use Rattle.sm_codec.specs.Walk.{Level, list_level, object_level, pair_level, Due, due_at, due_tagged, due_passed, due_nowhere, Opened}
use Rattle.sm_codec.specs.Walk.{opened_at, opened_passed, opened, due_in, with_level, kept_levels}
use Rattle.sm_codec.proofs.MembersKept.{kept_of}
use Rattle.sm_codec.proofs.PlacesHeld.{due_held, place_in_table}
use Rattle.sm_codec.proofs.PlacesIn.{kind_of_sort, entry_in, value_in}
use Rattle.sm_codec.proofs.ReadingNodes.{reading_nodes, member_cost, value_cost, vals_total, entries_total, fields_total, items_at_most}
use Rattle.sm_codec.proofs.ReadingNodes.{entries_at_most, fields_at_most}
use Rattle.sm_codec.proofs.Sums.{total_joined, total_of, pairs_cost}
use Rattle.sm_codec.proofs.TreeCounts.{share, node_counted, each_counted, pairs_valued, pairs_named}

-- the places of levels that are kept are the table's
abbrev AreIn : Codec → List (Place × Level) → Type 0
AreIn c [] = Unit {0}
AreIn c (l ∷ ls) = InTable c.table l.0 × AreIn c ls

with_in : (c : Codec) (o : Opened) (l : Level) (kept : List (Place × Level)) → ((p : Place) → o ≡ opened_at p → InTable c.table p)
    → AreIn c kept → AreIn c (with_level o l kept)
with_in c (opened_at p) l kept inside rest = (inside p refl, rest)
with_in c (opened_passed depth report) l kept inside rest = rest

kept_in : (c : Codec) (root : ℕ) (ts : List ℕ) (ls : List Level) → Shaped c.table → InTable c.table (root_place root)
    → AreIn c (kept_levels c root ts ls)
kept_in c root ts [] shaped inside = tt
kept_in c root ts (l ∷ outer) shaped inside =
    let due = due_in c root ts outer in
    with_in c (opened c l due) l (kept_levels c root ts outer)
    (λ p e. place_in_table c l due p (due_held c root ts outer shaped inside) e) (kept_in c root ts outer shaped inside)

with_fewer : (o : Opened) (l : Level) (kept : List (Place × Level)) → length (with_level o l kept) ≤ length kept + 1
with_fewer (opened_at p) l kept = omega arith
with_fewer (opened_passed depth report) l kept = omega arith

pub kept_fewer : (c : Codec) (root : ℕ) (ts : List ℕ) (ls : List Level) → length (kept_levels c root ts ls) ≤ length ls
kept_fewer c root ts [] = omega arith
kept_fewer c root ts (l ∷ outer) =
    omega (arith, with_fewer (opened c l (due_in c root ts outer)) l (kept_levels c root ts outer), kept_fewer c root ts outer)

within_level : (nodes cost part count level : ℕ) → nodes ≤ cost → cost ≤ part * count → level ≡ 1 + count → nodes ≤ part * level
within_level nodes cost part count level h g e = omega (arith, h, g, ap (λ n. part * n) e)

-- one frame of a level
module _ (c : Codec) (laws : IsCodec c) where
  list_held : (p : Place) (ns : List Node) (f : Frame) → InTable c.table p → HoldsList c p ns f
      → frame_nodes f ≤ share c * level_count c (p, list_level ns [])
  list_held p ns (list_frame f) inside h =
      let ks = children_of c ns in
      let at_entry = entry_in c.table p laws.table inside (kind_of_sort c.table p a_list h.sort) in
      omega (
        arith,
        total_of val_nodes f.items (entries_values c p ks) (kept_of (entries_faults c p 0 ks) f.items (entries_values c p ks) h.items),
        vals_total f.items,
        items_at_most c p ks,
        each_counted c laws ns (entry_place c.table p) at_entry,
      )
  list_held p ns (structure_frame f) inside h = absurd h
  list_held p ns (union_frame f) inside h = absurd h
  list_held p ns (map_frame f) inside h = absurd h
  list_held p ns (tagged_frame s k) inside h = absurd h
  list_held p ns (skip_frame depth report) inside h = absurd h

  pairs_held : (p : Place) (ms : List (List ℕ × Node)) (name : Option (List ℕ)) (f : Frame) → InTable c.table p
      → HoldsPairs c p (named_children_of c ms) name f → frame_nodes f ≤ share c * level_count c (p, object_level ms)
  pairs_held p ms name (structure_frame f) inside h =
      let ps = named_children_of c ms in
      let all = spelled_fields (under_names c p ps) (members_of_place c.table p) in
      let faults = closed_faults c.table (under_names c p ps) (members_of_place c.table p) in
      within_level (frame_nodes (structure_frame f)) (pairs_cost (member_cost c p) ps) (share c) (total (pair_count a_structure c p) ms)
      (level_count c (p, object_level ms))
      (omega (
        arith,
        total_of (λ e. val_nodes e.1) f.fields all (kept_of faults f.fields all h.1.fields),
        fields_at_most c p ps laws inside,
        fields_total f.fields,
      )) (pairs_named c laws a_structure ms p inside (λ m. refl)) (ap (λ s. 1 + total (pair_count s c p) ms) h.0)
  pairs_held p ms name (union_frame f) inside h =
      let ps = named_children_of c ms in
      let all = spelled_fields (under_names c p ps) (members_of_place c.table p) in
      let faults = closed_union_faults c.table (under_names c p ps) (members_of_place c.table p) in
      within_level (frame_nodes (union_frame f)) (pairs_cost (member_cost c p) ps) (share c) (total (pair_count a_union c p) ms)
      (level_count c (p, object_level ms))
      (omega (
        arith,
        total_of (λ e. val_nodes e.1) f.fields all (kept_of faults f.fields all h.1.fields),
        fields_at_most c p ps laws inside,
        fields_total f.fields,
      )) (pairs_named c laws a_union ms p inside (λ m. refl)) (ap (λ s. 1 + total (pair_count s c p) ms) h.0)
  pairs_held p ms name (map_frame f) inside h =
      let ps = named_children_of c ms in
      let all = spelled_entries c p ps (in_byte_order (names_of ps)) in
      let at_value = value_in c.table p laws.table inside (kind_of_sort c.table p a_map h.0) in
      within_level (frame_nodes (map_frame f)) (pairs_cost (value_cost c p) ps) (share c) (total (pair_count a_map c p) ms)
      (level_count c (p, object_level ms))
      (omega (
        arith,
        total_of (λ e. val_nodes e.1) f.entries all (kept_of (pairs_faults c p ps) f.entries all h.1.entries),
        entries_at_most c p ps,
        entries_total f.entries,
      )) (pairs_valued c laws ms p at_value) (ap (λ s. 1 + total (pair_count s c p) ms) h.0)
  pairs_held p ms name (list_frame f) inside h = absurd h
  pairs_held p ms name (tagged_frame s k) inside h = absurd h
  pairs_held p ms name (skip_frame depth report) inside h = absurd h

  level_held : (p : Place) (l : Level) (f : Frame) → InTable c.table p → FrameHolds c p l f → frame_nodes f ≤ share c * level_count c (p, l)
  level_held p (list_level ns ts) f inside h = list_held p ns f inside h
  level_held p (object_level ms) f inside h = pairs_held p ms None f inside h
  level_held p (pair_level ms name ts) f inside h = pairs_held p ms (Some name) f inside h

  levels_held : (ls : List (Place × Level)) (fs : List Frame) → AreIn c ls → FramesHold c ls fs
      → frames_nodes fs ≤ share c * levels_count c ls
  levels_held [] [] inside h = omega arith
  levels_held [] (f ∷ fs) inside h = absurd h
  levels_held (l ∷ ls) [] inside h = absurd h
  levels_held (l ∷ ls) (f ∷ fs) inside h = omega (arith, level_held l.0 l.1 f inside.0 h.0, levels_held ls fs inside.1 h.1)

as_many : (c : Codec) (ls : List (Place × Level)) (fs : List Frame) → FramesHold c ls fs → length fs ≡ length ls
as_many c [] [] h = refl
as_many c [] (f ∷ fs) h = absurd h
as_many c (l ∷ ls) [] h = absurd h
as_many c (l ∷ ls) (f ∷ fs) h = omega (arith, as_many c ls fs h.1)

-- that of a tag or of what is passed over, before them
none_due : (c : Codec) (due : Due) → frames_nodes (due_frames c due) ≡ 0
none_due c (due_at p) = refl
none_due c (due_tagged p x k) = refl
none_due c (due_passed depth report) = refl
none_due c due_nowhere = refl

one_due : (c : Codec) (due : Due) → length (due_frames c due) ≤ 1
one_due c (due_at p) = omega arith
one_due c (due_tagged p x k) = omega arith
one_due c (due_passed depth report) = omega arith
one_due c due_nowhere = omega arith

-- what is held while levels are open
pub open_nodes : (c : Codec) (ts : List ℕ) (ls : List Level) (d : Decoding) → IsCodec c → InTable c.table (root_place d.shape)
    → HoldsOpen c ts ls d → decoding_nodes d ≤ share c * levels_count c (kept_levels c d.shape ts ls)
open_nodes c ts ls d laws inside h =
    let kept = kept_levels c d.shape ts ls in
    let due = due_frames c (due_in c d.shape ts ls) in
    let fs = h.1.0 in
    omega (
      arith,
      ap frames_nodes h.1.1,
      total_joined frame_nodes due fs,
      none_due c (due_in c d.shape ts ls),
      ap outcome_nodes h.0,
      levels_held c laws kept fs (kept_in c d.shape ts ls laws.table inside) h.1.2,
    )

pub open_frames : (c : Codec) (ts : List ℕ) (ls : List Level) (d : Decoding) → HoldsOpen c ts ls d
    → (length d.frames ≤ length (kept_levels c d.shape ts ls) + 1) × (length (kept_levels c d.shape ts ls) ≤ length d.frames)
open_frames c ts ls d h =
    let kept = kept_levels c d.shape ts ls in
    let due = due_frames c (due_in c d.shape ts ls) in
    let fs = h.1.0 in
    let joined : length d.frames ≡ length due + length fs = ap length h.1.1 ∙ length-append due fs in
    let same : length fs ≡ length kept = as_many c kept fs h.1.2 in
    let few : length due ≤ 1 = one_due c (due_in c d.shape ts ls) in
    (omega (arith, joined, same, few), omega (arith, joined, same))

-- and at the end
outcome_size : (r : Reading) (o : Outcome) → IsOutcome r o → outcome_nodes (Some o) ≤ reading_nodes r
outcome_size (Ok v) o h = omega (arith, ap (λ x. outcome_nodes (Some x)) h)
outcome_size (Err fs) o h = omega (arith, ap (λ x. outcome_nodes (Some x)) h.3)

pub whole_nodes : (c : Codec) (n : Node) (d : Decoding) → IsCodec c → InTable c.table (root_place d.shape) → Holds c (whole n) d
    → decoding_nodes d ≤ share c * known_trees c d.shape (whole n)
whole_nodes c n d laws inside h =
    omega (
      arith,
      ap frames_nodes h.0,
      ap outcome_nodes h.1.1,
      outcome_size (reading c n (root_place d.shape)) h.1.0 h.1.2,
      node_counted c laws n (root_place d.shape) inside,
    )
