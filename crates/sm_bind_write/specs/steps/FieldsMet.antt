-- Fields met member by member: both stand in model order, so that the next field is the next member's, or the member is absent.
use Rattle.std.specs.Prelude.{◌≡◌, ◌++◌, ◌<◌, ◌==◌, ℕ, cond, List, [], ◌∷◌, Option, Some, None}
use Rattle.sm_shapes.specs.Fitting.{Fits, any_text}
use Rattle.sm_shapes.specs.Places.{member_place}
use Rattle.sm_shapes.specs.TableData.{TableData, member_count}
use Rattle.sm_shapes.specs.Values.{FieldVals, Val, field, no_fields}
use Rattle.sm_bind.specs.Roles.{Bound, binding_on}
use Rattle.sm_bind_write.specs.CarriedParts.{uncarried_bound}

-- the value of the first field, where it is this member's, and the fields behind it then
abbrev pub first_value : ℕ → FieldVals → Option Val
first_value k no_fields = None
first_value k (field j v fs) = cond (j == k) (Some v) None

abbrev pub fields_behind : ℕ → FieldVals → FieldVals
fields_behind k no_fields = no_fields
fields_behind k (field j v fs) = cond (j == k) fs (field j v fs)

-- each field is of one of these members, in their order, and its value fits there
abbrev pub FieldsIn : TableData → List ℕ → FieldVals → Type 0
FieldsIn t ks no_fields = Unit {0}
FieldsIn t ks (field k v fs) =
    (skipped rest : List ℕ) × (ks ≡ skipped ++ k ∷ rest) × Fits t any_text (member_place k) v × FieldsIn t rest fs

-- each field is of a member of the table, its value fits there, and is carried
abbrev pub FieldsReady : Bound → FieldVals → Type 0
FieldsReady b no_fields = Unit {0}
FieldsReady b (field k v fs) =
    (k < member_count b.table) × Fits b.table any_text (member_place k) v × (uncarried_bound (binding_on b k) b k v ≡ [])
    × FieldsReady b fs

-- numbers that rise
abbrev pub AllAbove : ℕ → List ℕ → Type 0
AllAbove k [] = Unit {0}
AllAbove k (j ∷ js) = (k < j) × AllAbove k js

abbrev pub Rising : List ℕ → Type 0
Rising [] = Unit {0}
Rising (k ∷ ks) = AllAbove k ks × Rising ks
