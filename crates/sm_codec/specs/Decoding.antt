-- What a decoder holds between two events, as data without memory: a frame for each list, object or tag that is open and not passed
-- over, the innermost first, and the outcome once the root has ended.
use Rattle.std.specs.Prelude.{ℕ, List, Option}
use Rattle.sm_shapes.specs.Values.{Val}
use Rattle.sm_shapes.specs.declared.fault.FaultKind.{FaultKind}
use Rattle.sm_codec.specs.FaultLists.{FaultAt}

-- the root's value, or its first fault
pub data Outcome : Type 0 where
  good : Val → Outcome
  bad : FaultAt → Outcome

-- what is kept of a structure or a union, by its shape's number: the values of closed members with the members' numbers in model order;
-- the members that are closed; the one whose value isn't closed yet; and the first fault of the closed ones
pub record MemberFrame : Type 0 where
  pub shape : ℕ
  pub fields : List (ℕ × Val)
  pub seen : List ℕ
  pub current : Option ℕ
  pub fault : Option FaultAt

-- of a list: the values of closed entries, and how many are closed
pub record EntryFrame : Type 0 where
  pub shape : ℕ
  pub items : List Val
  pub count : ℕ
  pub fault : Option FaultAt

-- of a map: the values of closed keys in byte order of the keys, and the keys that are closed
pub record KeyFrame : Type 0 where
  pub shape : ℕ
  pub entries : List (List ℕ × Val)
  pub seen : List (List ℕ)
  pub current : Option (List ℕ)
  pub fault : Option FaultAt

pub data Frame : Type 0 where
  structure_frame : MemberFrame → Frame
  union_frame : MemberFrame → Frame
  list_frame : EntryFrame → Frame
  map_frame : KeyFrame → Frame
  -- a tag at a place of a simple shape: the shape's number and the tag's
  tagged_frame : ℕ → ℕ → Frame
  -- of a place that is passed over: how many lists and objects are open from it on, and the fault to give at its end, if any
  skip_frame : ℕ → Option FaultKind → Frame

pub record Decoding : Type 0 where
  -- the root's shape
  pub shape : ℕ
  -- the innermost first; a vector of the code has the root's first
  pub frames : List Frame
  pub result : Option Outcome
