-- Bindings put into a table, each at the member of its place: what a table is under other bindings.
use Rattle.std.specs.Prelude.{List, Option, map}
use Rattle.std.specs.Option.{option_map}
use Rattle.sm_shapes.specs.TableData.{BindingData, MemberData, TableData}
use Rattle.sm_shapes.specs.TableView.{binding_data}
use Rattle.sm_shapes.specs.MemberPuts.{put_each}
use Rattle.sm_shapes.specs.declared.tables.Binding.{Binding}

-- what bindings stand for
abbrev pub bindings_view : List (Option Binding) → List (Option BindingData)
bindings_view bs = map (option_map binding_data) bs

-- the member with this binding, or with none
abbrev pub with_binding : MemberData → Option BindingData → MemberData
with_binding m b = record m { binding = b }

abbrev pub with_bindings : List MemberData → List (Option BindingData) → List MemberData
with_bindings ms bs = put_each with_binding ms bs

abbrev pub table_with_bindings : TableData → List (Option BindingData) → TableData
table_with_bindings t bs = record t { members = with_bindings t.members bs }
