-- Defaults put into a table, each at the member of its place.
use Rattle.std.specs.Prelude.{◌≡◌, ℕ, List, Option, None, map}
use Rattle.std.specs.Option.{option_map}
use Rattle.sm_shapes.specs.Values.{Val}
use Rattle.sm_shapes.specs.ValueView.{val_of}
use Rattle.sm_shapes.specs.TableData.{TableData, MemberData, default_at}
use Rattle.sm_shapes.specs.MemberPuts.{put_each}
use Rattle.sm_shapes.specs.declared.values.Value.{Value}

-- no member has a default yet
abbrev pub HasNoDefault : TableData → Type 0
HasNoDefault t = (k : ℕ) → default_at t k ≡ None

-- what defaults stand for
abbrev pub defaults_view : List (Option Value) → List (Option Val)
defaults_view vs = map (option_map val_of) vs

-- the member with this default, or with none
abbrev pub with_default : MemberData → Option Val → MemberData
with_default m v = record m { default = v }

abbrev pub with_defaults : List MemberData → List (Option Val) → List MemberData
with_defaults ms vs = put_each with_default ms vs

abbrev pub table_with_defaults : TableData → List (Option Val) → TableData
table_with_defaults t vs = record t { members = with_defaults t.members vs }
