-- What a decoder holds by the innermost level that is open: where the next tree is due, and the levels around it that are kept.
use Rattle.std.specs.Prelude.{◌≡◌, List, ◌++◌, Option, Some, None, slice_index_or}
use Rattle.std.specs.Option.{option_map}
use Rattle.sm_shapes.specs.TableData.{TableData, members_at}
use Rattle.sm_shapes.specs.Places.{Place, member_place}
use Rattle.sm_codec.specs.Codec.{Codec}
use Rattle.sm_codec.specs.Decoding.{Frame, structure_frame, union_frame, list_frame, map_frame, tagged_frame, skip_frame, Decoding}
use Rattle.sm_codec.specs.Walk.{Level, list_level, object_level, pair_level, Due, due_at, due_tagged, due_passed, due_nowhere, Opened}
use Rattle.sm_codec.specs.Walk.{due_within, with_level}
use Rattle.sm_codec.specs.Kept.{due_frames, FramesHold}

-- the frames of what is due and of the levels that are kept, while there is no outcome
abbrev pub Stands : Codec → Due → List (Place × Level) → Decoding → Type 0
Stands c due kept d = (d.result ≡ None) × ((fs : List Frame) × (d.frames ≡ due_frames c due ++ fs) × FramesHold c kept fs)

-- in a level that opened so, in these
abbrev pub StandsIn : Codec → Opened → Level → List (Place × Level) → Decoding → Type 0
StandsIn c o l around d = Stands c (due_within c o l) (with_level o l around) d

-- a tree or a tag may come in the level
abbrev pub AwaitsTree : Level → Type 0
AwaitsTree (list_level ns ts) = Unit {0}
AwaitsTree (object_level ms) = ⊥
AwaitsTree (pair_level ms name ts) = Unit {0}

-- the place at which the next tree is due in the level of a frame, in whatever tags
abbrev pub place_in : TableData → Frame → Option Place
place_in t (structure_frame f) = option_map (λ k. member_place k) f.current
place_in t (union_frame f) = option_map (λ k. member_place k) f.current
place_in t (list_frame f) = Some (member_place (slice_index_or (members_at t f.shape) 0 0))
place_in t (map_frame f) = Some (member_place (slice_index_or (members_at t f.shape) 1 0))
place_in t (tagged_frame s k) = None
place_in t (skip_frame depth report) = None

-- the next tree is due at this place, or under a tag there
abbrev pub IsDueAt : Place → Due → Type 0
IsDueAt q (due_at p) = p ≡ q
IsDueAt q (due_tagged p x k) = p ≡ q
IsDueAt q (due_passed depth report) = ⊥
IsDueAt q due_nowhere = ⊥
