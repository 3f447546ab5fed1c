-- How much a decoder holds: at most a value for each tree that stands at a known place and isn't passed over, and the defaults of
-- structures. What is passed over adds nothing.
use Rattle.std.specs.Prelude.{ℕ, ◌+◌, ◌*◌, ◌≤◌, List, [], ◌∷◌, length, Option, Some, None}
use Rattle.sm_tree.specs.Node.{Node, Nodes, Members, tag, list, object, no_nodes, node, no_members, member}
use Rattle.sm_tree.specs.Events.{NodeEvent}
use Rattle.sm_tree.specs.Building.{Building, nothing, whole, within}
use Rattle.sm_shapes.specs.Values.{val_nodes, vals_nodes, entries_nodes, fields_nodes, vals_of, entries_of, fields_of}
use Rattle.sm_shapes.specs.InOrder.{most_defaults}
use Rattle.sm_shapes.specs.Places.{Place, root_place, member_place, entry_place, value_place}
use Rattle.sm_codec.specs.Sorts.{Sort, simple, a_list, a_map, a_structure, a_union}
use Rattle.sm_codec.specs.Codec.{Codec, sort_at}
use Rattle.sm_codec.specs.CodecLaws.{IsCodec}
use Rattle.sm_codec.specs.Decoding.{Outcome, good, bad, Frame, structure_frame, union_frame, list_frame, map_frame, tagged_frame}
use Rattle.sm_codec.specs.Decoding.{skip_frame, Decoding}
use Rattle.sm_codec.specs.Walk.{Level, list_level, object_level, pair_level, levels_open, tags_outside, kept_levels, member_at}
use Rattle.sm_codec.specs.Kept.{Kept}

-- a tree under a tag at a place of this sort
abbrev pub tagged_count : Sort → Node → ℕ
tagged_count (simple x) (tag k n) = 0
tagged_count (simple x) (list ns) = 0
tagged_count (simple x) (object ms) = 0
tagged_count (simple x) n = 1
tagged_count s n = 0

-- a list or an object at a place of this sort, by the count of its parts
abbrev pub list_count : Sort → ℕ → ℕ
list_count a_list parts = 1 + parts
list_count s parts = 0

abbrev pub object_count : Sort → ℕ → ℕ → ℕ
object_count a_map values members = 1 + values
object_count a_structure values members = 1 + members
object_count a_union values members = 1 + members
object_count s values members = 0

-- of the member that a name is of, if any
abbrev pub member_count_by : Option ℕ → (Place → ℕ) → ℕ
member_count_by None count = 0
member_count_by (Some k) count = count (member_place k)

abbrev mutual
  -- how many trees stand at a place and below it, where a tree stands there, and aren't passed over
  pub tree_count : Codec → Node → Place → ℕ
  tree_count c (tag k n) p = tagged_count (sort_at c p) n
  tree_count c (list ns) p = list_count (sort_at c p) (entries_count c ns (entry_place c.table p))
  tree_count c (object ms) p = object_count (sort_at c p) (values_count c ms (value_place c.table p)) (members_count c ms p)
  tree_count c n p = 1

  pub entries_count : Codec → Nodes → Place → ℕ
  entries_count c no_nodes p = 0
  entries_count c (node n ns) p = tree_count c n p + entries_count c ns p

  -- the values of a map
  pub values_count : Codec → Members → Place → ℕ
  values_count c no_members p = 0
  values_count c (member name n ms) p = tree_count c n p + values_count c ms p

  -- the members of a structure or a union at a place
  pub members_count : Codec → Members → Place → ℕ
  members_count c no_members p = 0
  members_count c (member name n ms) p = member_count_by (member_at c p name) (λ q. tree_count c n q) + members_count c ms p

-- the sum of what is counted of each
abbrev pub total : {A : Type 0} → (A → ℕ) → List A → ℕ
total count [] = 0
total count (x ∷ xs) = count x + total count xs

-- the same of the closed entries and pairs of a level
abbrev pub each_count : Codec → List Node → Place → ℕ
each_count c ns p = total (λ n. tree_count c n p) ns

abbrev pub pair_count : Sort → Codec → Place → List ℕ × Node → ℕ
pair_count a_map c p m = tree_count c m.1 (value_place c.table p)
pair_count s c p m = member_count_by (member_at c p m.0) (λ q. tree_count c m.1 q)

abbrev pub pairs_count : Codec → List (List ℕ × Node) → Place → ℕ
pairs_count c ms p = total (pair_count (sort_at c p) c p) ms

-- a level's closed trees, and the level itself
abbrev pub level_count : Codec → Place × Level → ℕ
level_count c (p, list_level ns ts) = 1 + each_count c ns (entry_place c.table p)
level_count c (p, object_level ms) = 1 + pairs_count c ms p
level_count c (p, pair_level ms name ts) = 1 + pairs_count c ms p

abbrev pub levels_count : Codec → List (Place × Level) → ℕ
levels_count c ls = total (level_count c) ls

-- the trees that have begun so far at a known place, the root among them, and aren't passed over
abbrev pub known_trees : Codec → ℕ → Building → ℕ
known_trees c root (nothing ts) = 0
known_trees c root (whole n) = tree_count c n (root_place root)
known_trees c root (within ts inner outer) = levels_count c (kept_levels c root ts (levels_open (within ts inner outer)))

-- the value nodes of a decoder
abbrev pub frame_nodes : Frame → ℕ
frame_nodes (structure_frame f) = fields_nodes (fields_of f.fields)
frame_nodes (union_frame f) = fields_nodes (fields_of f.fields)
frame_nodes (list_frame f) = vals_nodes (vals_of f.items)
frame_nodes (map_frame f) = entries_nodes (entries_of f.entries)
frame_nodes (tagged_frame s k) = 0
frame_nodes (skip_frame depth report) = 0

abbrev pub frames_nodes : List Frame → ℕ
frames_nodes fs = total frame_nodes fs

abbrev pub outcome_nodes : Option Outcome → ℕ
outcome_nodes None = 0
outcome_nodes (Some (good v)) = val_nodes v
outcome_nodes (Some (bad f)) = 0

abbrev pub decoding_nodes : Decoding → ℕ
decoding_nodes d = frames_nodes d.frames + outcome_nodes d.result

-- The bound of what is kept. Each tree that is counted has an event of its own at a known place, the root's among them. And a frame for
-- each level that isn't passed over, and one more at most. A frame has one fault at most.
pub record IsBounded (c : Codec) (es : List NodeEvent) (b : Building) (d : Decoding) : Type 0 where
  pub nodes : decoding_nodes d ≤ (1 + most_defaults c.table) * known_trees c d.shape b
  pub trees : known_trees c d.shape b ≤ length es
  pub frames : length d.frames ≤ length (kept_levels c d.shape (tags_outside b) (levels_open b)) + 1
  pub levels : length (kept_levels c d.shape (tags_outside b) (levels_open b)) ≤ length d.frames
  pub around : length (kept_levels c d.shape (tags_outside b) (levels_open b)) ≤ length (levels_open b)

-- whatever events a decoder stands for, by a codec in order
abbrev pub StaysBounded : Decoding → Type 0
StaysBounded d = (c : Codec) (es : List NodeEvent) → IsCodec c → (kept : Kept c es d) → IsBounded c es kept.building d

abbrev pub KeptIsBounded : Type 0
KeptIsBounded = (d : Decoding) → StaysBounded d
