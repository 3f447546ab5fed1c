-- What members come to, one after the other: those for which the body stands by the outcome of the body, and the others by themselves.
use Rattle.std.specs.Prelude.{◌≡◌, ◌<◌, ◌⊎◌, ◌==◌, ℕ, Bool, true, false, List, [], ◌∷◌, ◌++◌, Option, Some, None, Result, Ok, Err, drop}
use Rattle.std.specs.Global.{Vec}
use Rattle.std.specs.Option.{option_map}
use Rattle.sm_tree.specs.declared.path.Step.{Step}
use Rattle.sm_tree.specs.declared.path.Step.TheVariants.{Member}
use Rattle.sm_shapes.specs.Fitting.{Test}
use Rattle.sm_shapes.specs.Places.{kind_of, member_place}
use Rattle.sm_shapes.specs.TableData.{BindingData, label, query, query_params, header, prefix_headers, payload, response_code}
use Rattle.sm_shapes.specs.TableData.{member_count, name_at}
use Rattle.sm_shapes.specs.Values.{Val}
use Rattle.sm_shapes.specs.ValueView.{each_field_view, val_of}
use Rattle.sm_shapes.specs.declared.kinds.ShapeKind.TheVariants.{Map as a_map}
use Rattle.sm_shapes.specs.declared.values.Value.{Value}
use Rattle.sm_codec.specs.FaultLists.{FaultAt}
use Rattle.sm_codec.specs.FrameView.{fault_at}
use Rattle.sm_codec.specs.Readings.{absent_reading, member_faults, member_fields, member_reading, members_faults, members_fields}
use Rattle.sm_codec.specs.Readings.{when_closed}
use Rattle.sm_codec.specs.declared.decoder.Refusal.{Refusal}
use Rattle.sm_codec.specs.declared.decoder.Refusal.TheVariants.{Fault as a_fault, NoMemory}
use Rattle.sm_messages.specs.MessageForm.{Content}
use Rattle.sm_part_values.specs.Joins.{ErrsWith, IsFirstOf}
use Rattle.sm_bind.specs.PartsData.{PartsData}
use Rattle.sm_bind.specs.Roles.{Bound, binding_on}
use Rattle.sm_bind_read.specs.PartFaults.{bound_codec}
use Rattle.sm_bind_read.specs.Parts.{stands}
use Rattle.sm_bind_read.specs.declared.pending.Pending.{Pending}

-- what members come to
abbrev pub Came : Type 0
Came = Result (Option Val) (List FaultAt)

abbrev pub came_of : Bound → Test → PartsData → Content → ℕ → Came
came_of b test parts content k = member_reading (when_closed b.table) k (stands b (bound_codec b test) parts content k)

-- the body stands for a member: it is in the document, or the payload
abbrev pub is_body_by : Option BindingData → Bool
is_body_by None = true
is_body_by (Some payload) = true
is_body_by (Some label) = false
is_body_by (Some (query name)) = false
is_body_by (Some query_params) = false
is_body_by (Some (header name)) = false
is_body_by (Some (prefix_headers prefix)) = false
is_body_by (Some response_code) = false

-- a map may stand for it
abbrev pub is_map_bound : Option BindingData → Bool
is_map_bound None = false
is_map_bound (Some query_params) = true
is_map_bound (Some (prefix_headers prefix)) = true
is_map_bound (Some label) = false
is_map_bound (Some (query name)) = false
is_map_bound (Some (header name)) = false
is_map_bound (Some payload) = false
is_map_bound (Some response_code) = false

-- the faults and the field of a member are those of this
abbrev pub FieldsAre : Came → Option Val → Type 0
FieldsAre reading o = (member_faults reading ≡ []) × ((n : ℕ) → member_fields n reading ≡ member_fields n (Ok o))

-- a member of the table, which is a map where one may stand for it
abbrev pub IsMemberOf : Bound → ℕ → Type 0
IsMemberOf b k = (k < member_count b.table) × (is_map_bound (binding_on b k) ≡ true → kind_of b.table (member_place k) ≡ a_map)

abbrev pub is_body : Bound → ℕ → Bool
is_body b k = is_body_by (binding_on b k)

abbrev pub Either : Bool → Type 0 → Type 0 → Type 0
Either true A B = A
Either false A B = B

-- no field of this number stands last
abbrev pub IsNotLast : ℕ → List (ℕ × Val) → Type 0
IsNotLast j fs = (n : ℕ) (v : Val) (front : List (ℕ × Val)) → fs ≡ front ++ (n, v) ∷ [] → n ≡ j → ⊥

-- a field that may be missing is of this number
abbrev pub is_number : ℕ → Option (ℕ × Value) → Bool
is_number j None = false
is_number j (Some f) = (f.0 == j)

-- What these members come to, where the body has no fault: `js` are their numbers in the body, and `fs` its fields, the last of them first.
-- Where there is no body, they are absent
abbrev pub BodyComes : Bound → (ℕ → Came) → Bool → List ℕ → List ℕ → List (ℕ × Val) → Type 0
BodyComes b came there js [] fs = Unit {0}
BodyComes b came there js (k ∷ ks) fs =
    Either (is_body b k)
    (Either there
    ((j : ℕ) × (rest : List ℕ) × (o : Option Val) × (left : List (ℕ × Val)) × (js ≡ j ∷ rest) × FieldsAre (came k) o
    × (fs ≡ left ++ member_fields j (Ok o)) × IsNotLast j left × BodyComes b came there rest ks left)
    ((came k ≡ absent_reading (when_closed b.table k)) × BodyComes b came there js ks fs))
    (BodyComes b came there js ks fs)

abbrev pub PendingComes : Bound → (ℕ → Came) → List ℕ → Pending → Type 0
PendingComes b came ks p = BodyComes b came p.there (drop p.next p.copies.now) ks (each_field_view p.fields.items)

-- where it has one: this fault is the first of the member k, or the member has none and the fault isn't at its name
abbrev pub IsFaultOf : Bound → (ℕ → Came) → FaultAt → ℕ → Type 0
IsFaultOf b came f k = (g : FaultAt) × ErrsWith (came k) g × (f ≡ (Member (name_at b.table k) ∷ g.0, g.1))

abbrev pub IsAtMember : List ℕ → List Step → Type 0
IsAtMember name path = (rest : List Step) × (path ≡ Member name ∷ rest)

abbrev pub FaultComes : Bound → (ℕ → Came) → FaultAt → List ℕ → Type 0
FaultComes b came f [] = ⊥
FaultComes b came f (k ∷ ks) =
    Either (is_body b k)
    (IsFaultOf b came f k
    ⊎ ((member_faults (came k) ≡ []) × (IsAtMember (name_at b.table k) f.0 → ⊥) × FaultComes b came f ks))
    (FaultComes b came f ks)

-- what one member comes to, and something besides where it has no fault
abbrev pub ComesWith : Came → Type 0 → Result (Option Value) Refusal → Type 0
ComesWith reading More (Ok v) = FieldsAre reading (option_map val_of v) × More
ComesWith reading More (Err (a_fault f)) = ErrsWith reading (fault_at f)
ComesWith reading More (Err NoMemory) = Unit {0}

-- the faults and the fields of all members
abbrev pub all_faults : Bound → Test → PartsData → Content → List ℕ → List FaultAt
all_faults b test parts content ks = members_faults b.table (when_closed b.table) (stands b (bound_codec b test) parts content) ks

abbrev pub all_fields : Bound → Test → PartsData → Content → List ℕ → List (ℕ × Val)
all_fields b test parts content ks = members_fields (when_closed b.table) (stands b (bound_codec b test) parts content) ks

-- the fields of these members, or the first fault of one
abbrev pub FieldsJoin : Bound → Test → PartsData → Content → List ℕ → Result (Vec (ℕ × Value)) Refusal → Type 0
FieldsJoin b test parts content ks (Ok fs) =
    (all_faults b test parts content ks ≡ []) × (all_fields b test parts content ks ≡ each_field_view fs.items)
FieldsJoin b test parts content ks (Err (a_fault f)) = IsFirstOf (all_faults b test parts content ks) (fault_at f)
FieldsJoin b test parts content ks (Err NoMemory) = Unit {0}

-- the first of these faults
abbrev pub RefusesFirst : List FaultAt → Refusal → Type 0
RefusesFirst fs (a_fault f) = IsFirstOf fs (fault_at f)
RefusesFirst fs NoMemory = Unit {0}

-- the body's fault is the first of the member k; or k has none; or one of its own
abbrev pub StopsAt : Bound → (ℕ → Came) → FaultAt → ℕ → List ℕ → Result Bool Refusal → Type 0
StopsAt b came f k ks (Ok true) = IsFaultOf b came f k
StopsAt b came f k ks (Ok false) = (member_faults (came k) ≡ []) × FaultComes b came f ks
StopsAt b came f k ks (Err (a_fault g)) = ErrsWith (came k) (fault_at g)
StopsAt b came f k ks (Err NoMemory) = Unit {0}
