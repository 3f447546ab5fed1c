-- What a decoder does where a structure ends: a member that is required and absent is a fault, and defaults are put for others.
use Rattle.std.specs.Prelude.{◌≡◌, ℕ, nat_lt, Bool, false, not, ◌&&◌, cond, List, [], ◌∷◌, Option, Some, None, Result, Ok, Err}
use Rattle.sm_shapes.specs.Values.{Val, list_val, map_val, structure_val, union_val, no_vals, no_entries, fields_of}
use Rattle.sm_shapes.specs.TableData.{TableData, name_at, members_at, member_with, required_at, default_at}
use Rattle.sm_shapes.specs.declared.fault.FaultKind.{FaultKind}
use Rattle.sm_shapes.specs.declared.fault.FaultKind.TheVariants.{Missing}
use Rattle.sm_shapes.specs.FieldPuts.{put_field, has_field}
use Rattle.sm_codec.specs.FaultLists.{FaultAt}
use Rattle.sm_codec.specs.Readings.{when_closed}
use Rattle.sm_codec.specs.Decoding.{Outcome, good, bad, MemberFrame}
use Rattle.sm_codec.specs.steps.MemberSteps.{first_name, at_member}

-- the first of these members that must be there and isn't
abbrev pub missing_by : Result (Option Val) FaultKind → ℕ → Option ℕ → Option ℕ
missing_by (Ok v) k more = more
missing_by (Err kind) k more = Some k

abbrev pub missing : TableData → List (ℕ × Val) → List ℕ → Option ℕ
missing t fs [] = None
missing t fs (k ∷ ks) = cond (has_field k fs) (missing t fs ks) (missing_by (when_closed t k) k (missing t fs ks))

abbrev pub missing_fault : TableData → Option ℕ → Option FaultAt
missing_fault t None = None
missing_fault t (Some k) = Some (at_member t k ([], Missing))

-- a member that is absent is missed, by its default and whether it is required
abbrev pub must_stand : Option Val → Bool → Bool
must_stand (Some v) required = false
must_stand None required = required

-- a member isn't there, and is missed
abbrev pub lacks : TableData → List (ℕ × Val) → ℕ → Bool
lacks t fs k = not (has_field k fs) && must_stand (default_at t k) (required_at t k)

-- a value of a simple type, or an empty list or map
abbrev pub IsPlain : Val → Type 0
IsPlain (list_val vs) = vs ≡ no_vals
IsPlain (map_val es) = es ≡ no_entries
IsPlain (structure_val fs) = ⊥
IsPlain (union_val k v) = ⊥
IsPlain v = Unit {0}

-- the defaults of these members are put among the fields, where they aren't there
abbrev pub put_default : ℕ → Option Val → List (ℕ × Val) → List (ℕ × Val)
put_default k None fs = fs
put_default k (Some v) fs = cond (has_field k fs) fs (put_field k v fs)

abbrev pub defaults_put : TableData → List ℕ → List (ℕ × Val) → List (ℕ × Val)
defaults_put t [] fs = fs
defaults_put t (k ∷ ks) fs = defaults_put t ks (put_default k (default_at t k) fs)

-- a member stands before another
abbrev pub is_before : ℕ → Option ℕ → Bool
is_before k None = false
is_before k (Some j) = nat_lt k j

-- What a structure of these members comes to where it ends, by its fields, the first fault of its closed members, and the first
-- member that is missing: of the two the one that stands first, else the fields with defaults put.
abbrev pub ended_by : TableData → List ℕ → List (ℕ × Val) → Option FaultAt → Option ℕ → Outcome
ended_by t ks fs None None = good (structure_val (fields_of (defaults_put t ks fs)))
ended_by t ks fs None (Some k) = bad (at_member t k ([], Missing))
ended_by t ks fs (Some f) None = bad f
ended_by t ks fs (Some f) (Some k) =
    cond (is_before k (member_with (name_at t) (first_name f.0) ks)) (bad (at_member t k ([], Missing))) (bad f)

abbrev pub structure_end : TableData → MemberFrame → Outcome
structure_end t f = ended_by t (members_at t f.shape) f.fields f.fault (missing t f.fields (members_at t f.shape))

-- the outcome is the structure of these fields, with the defaults of these members
abbrev pub EndsGood : TableData → List ℕ → List (ℕ × Val) → Outcome → Type 0
EndsGood t ks fs o = o ≡ good (structure_val (fields_of (defaults_put t ks fs)))
