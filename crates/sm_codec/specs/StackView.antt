-- What the frames of a decoder of the code stand for. Contracts that speak of them cite it.
use Rattle.std.specs.Prelude.{◌≡◌, List, [], ◌∷◌, map, reverse, Option, Some, None, Result, Ok, Err}
use Rattle.sm_bytes.specs.declared.no_memory.NoMemory.{NoMemory}
use Rattle.sm_shapes.specs.Fitting.{Test}
use Rattle.sm_shapes.specs.TableData.{TableData}
use Rattle.sm_codec.specs.Decoding as decoding
use Rattle.sm_codec.specs.FrameView.{member_frame, entry_frame, outcome_of}
use Rattle.sm_codec.specs.MapView.{key_frame}
use Rattle.sm_codec.specs.PlaceView.{place_of}
use Rattle.sm_codec.specs.steps.Arrivals.{comes}
use Rattle.sm_codec.specs.steps.DecoderSteps.{Told, told_at, told_tagged, told_passed, TakenBy}
use Rattle.sm_codec.specs.declared.frames.Outcome.{Outcome}
use Rattle.sm_codec.specs.declared.frames.Frame.{Frame}
use Rattle.sm_codec.specs.declared.frames.Frame.TheVariants.{Structure, Union, List as a_list, Map as a_map, Tagged, Skip}
use Rattle.sm_codec.specs.declared.frames.Frames.{Frames}
use Rattle.sm_codec.specs.declared.frames.stack.Due.{Due}
use Rattle.sm_codec.specs.declared.frames.stack.Due.TheVariants.{At, Tagged as under_tag, Passed}

abbrev pub frame_of : Frame → decoding.Frame
frame_of (Structure f) = decoding.structure_frame (member_frame f)
frame_of (Union f) = decoding.union_frame (member_frame f)
frame_of (a_list f) = decoding.list_frame (entry_frame f)
frame_of (a_map f) = decoding.map_frame (key_frame f)
frame_of (Tagged shape tag) = decoding.tagged_frame shape tag
frame_of (Skip depth report) = decoding.skip_frame depth report

-- the innermost first; a vector of the code has the root's first
abbrev pub stack_of : List Frame → List decoding.Frame
stack_of fs = reverse (map frame_of fs)

abbrev pub frames_of : Frames → List decoding.Frame
frames_of fs = stack_of fs.frames.items

-- the first of these
abbrev pub first_of : List decoding.Frame → Option decoding.Frame
first_of [] = None
first_of (f ∷ fs) = Some f

-- the first of them went
abbrev pub IsPopped : List decoding.Frame → Option Frame → List decoding.Frame → Type 0
IsPopped before None now = before ≡ []
IsPopped before (Some f) now = before ≡ frame_of f ∷ now

abbrev pub told_of : Due → Told
told_of (At place) = told_at (place_of place)
told_of (under_tag place tag) = told_tagged (place_of place) tag
told_of (Passed depth report) = told_passed depth report

-- what a list or an object came to that ended is taken by these frames; where memory was refused, nothing is
abbrev pub ClosedBy : TableData → Test → Result Outcome NoMemory → List decoding.Frame → decoding.Decoding → Type 0
ClosedBy t test (Ok o) fs e = TakenBy t test (comes (outcome_of o)) fs e
ClosedBy t test (Err refusal) fs e = ⊥
