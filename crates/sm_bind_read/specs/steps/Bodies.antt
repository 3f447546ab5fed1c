-- What the body of a message gives to the members of a structure.
use Rattle.std.specs.Prelude.{◌≡◌, ◌&&◌, ℕ, suc, Bool, true, false, cond, get_or, List, [], ◌∷◌, Option, Some, None, Ok, Err}
use Rattle.std.specs.Option.{option_map}
use Rattle.sm_tree.specs.declared.path.Step.TheVariants.{Member}
use Rattle.sm_shapes.specs.Fitting.{Test}
use Rattle.sm_shapes.specs.Places.{kind_of, member_place}
use Rattle.sm_shapes.specs.TableData.{TableData, name_at}
use Rattle.sm_shapes.specs.Values.{Val, FieldVals, null_val, bool_val, int_val, text_val, blob_val, time_val, list_val, map_val}
use Rattle.sm_shapes.specs.Values.{structure_val, union_val, no_fields, field}
use Rattle.sm_shapes.specs.ValueView.{each_field_view}
use Rattle.sm_codec.specs.Codec.{codec_of}
use Rattle.sm_codec.specs.Conventions.{json_convention}
use Rattle.sm_codec.specs.FaultLists.{FaultAt, Reading}
use Rattle.sm_codec.specs.FrameView.{fault_at, outcome_of}
use Rattle.sm_codec.specs.Kept.{IsOutcome}
use Rattle.sm_messages.specs.MessageForm.{Content}
use Rattle.sm_part_values.specs.Joins.{ErrsWith}
use Rattle.sm_part_values.specs.PartTexts.{raw_by}
use Rattle.sm_bind.specs.PartsData.{PartsData}
use Rattle.sm_bind.specs.Roles.{Bound, binding_on, bound_members, has_document, is_bound_payload}
use Rattle.sm_bind_read.specs.PartFaults.{is_no_object, parts_reading}
use Rattle.sm_bind_read.specs.declared.body.PartBody.{PartBody}
use Rattle.sm_bind_read.specs.declared.body.PartBody.TheVariants.{Empty, Raw, Tree}
use Rattle.sm_bind_read.specs.declared.bodies.BodyComing.{BodyComing}
use Rattle.sm_bind_read.specs.declared.bodies.BodyComing.TheVariants as coming
use Rattle.sm_bind_read.specs.steps.Coming.{FaultComes, PendingComes, came_of}

-- the place of the first payload among members
abbrev pub is_payload_on : Bound → ℕ → Bool
is_payload_on b k = is_bound_payload (binding_on b k)

abbrev pub payload_place : Bound → List ℕ → Option ℕ
payload_place b [] = None
payload_place b (k ∷ ks) = cond (is_payload_on b k) (Some 0) (option_map suc (payload_place b ks))

-- the fields of a structure
abbrev pub listed_fields : FieldVals → List (ℕ × Val)
listed_fields no_fields = []
listed_fields (field k v fs) = (k, v) ∷ listed_fields fs

abbrev pub fields_in : Val → List (ℕ × Val)
fields_in (structure_val fs) = listed_fields fs
fields_in null_val = []
fields_in (bool_val b) = []
fields_in (int_val z) = []
fields_in (text_val u) = []
fields_in (blob_val u) = []
fields_in (time_val ms) = []
fields_in (list_val vs) = []
fields_in (map_val es) = []
fields_in (union_val k v) = []

-- nothing
abbrev pub IsNothing : BodyComing → Type 0
IsNothing (coming.Fields p) = p.there ≡ false
IsNothing (coming.Fault f) = ⊥
IsNothing (coming.Alone f) = ⊥
IsNothing coming.NoMemory = ⊥

-- the payload k at a place among members, of which this is the reading
abbrev pub GivesReading : TableData → List ℕ → ℕ → ℕ → Reading → BodyComing → Type 0
GivesReading t members at_ k reading (coming.Fields p) =
    (v : Val) × (reading ≡ Ok v) × (p.there ≡ true) × (p.copies.now ≡ members) × (p.next ≡ at_) × (each_field_view p.fields.items ≡ (k, v) ∷ [])
GivesReading t members at_ k reading (coming.Fault f) =
    (g : FaultAt) × ErrsWith reading g × (fault_at f ≡ (Member (name_at t k) ∷ g.0, g.1))
GivesReading t members at_ k reading (coming.Alone f) = ⊥
GivesReading t members at_ k reading coming.NoMemory = Unit {0}

-- the same of bytes, of what a body gives, and of the first payload if there is one
abbrev pub RawGives : TableData → Test → List ℕ → ℕ → ℕ → List ℕ → BodyComing → Type 0
RawGives t test members at_ k [] r = IsNothing r
RawGives t test members at_ k (x ∷ bytes) r =
    GivesReading t members at_ k (raw_by (kind_of t (member_place k)) (codec_of t (json_convention true) test) (member_place k) (x ∷ bytes)) r

abbrev pub SomeGives : TableData → Test → List ℕ → ℕ → ℕ → PartBody → BodyComing → Type 0
SomeGives t test members at_ k Empty r = IsNothing r
SomeGives t test members at_ k (Raw bytes) r = RawGives t test members at_ k bytes r
SomeGives t test members at_ k (Tree o) r = (reading : Reading) → IsOutcome reading (outcome_of o) → GivesReading t members at_ k reading r

abbrev pub PayloadGives : Bound → Test → Option ℕ → PartBody → BodyComing → Type 0
PayloadGives b test None body r = IsNothing r
PayloadGives b test (Some n) body r = SomeGives b.table test (bound_members b) n (get_or (bound_members b) n 0) body r

-- what the members come to, by what the body gives
abbrev pub ComingIs : Bound → Test → PartsData → Content → BodyComing → Type 0
ComingIs b test parts content (coming.Fields p) =
    ((has_document b && is_no_object content) ≡ false) × PendingComes b (came_of b test parts content) (bound_members b) p
ComingIs b test parts content (coming.Fault f) =
    ((has_document b && is_no_object content) ≡ false) × FaultComes b (came_of b test parts content) (fault_at f) (bound_members b)
ComingIs b test parts content (coming.Alone f) = parts_reading b test parts content ≡ Err (fault_at f ∷ [])
ComingIs b test parts content coming.NoMemory = Unit {0}
