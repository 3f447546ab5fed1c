-- A table of the code as data. Every contract that speaks of a table cites it.
use Rattle.std.specs.Prelude.{List, map}
use Rattle.std.specs.Option.{option_map}
use Rattle.sm_tree.specs.View.{node_of}
use Rattle.sm_shapes.specs.ValueView.{val_of}
use Rattle.sm_shapes.specs.ConstraintView.{constraint_data}
use Rattle.sm_shapes.specs.TableData.{BindingData, ShapeData, MemberData, TableData, label, query, query_params, header, prefix_headers}
use Rattle.sm_shapes.specs.TableData.{payload, response_code}
use Rattle.sm_shapes.specs.declared.tables.Binding.{Binding}
use Rattle.sm_shapes.specs.declared.tables.Binding.TheVariants.{Label, Query, QueryParams, Header, PrefixHeaders, Payload, ResponseCode}
use Rattle.sm_shapes.specs.declared.tables.TableShape.{TableShape}
use Rattle.sm_shapes.specs.declared.tables.TableMember.{TableMember}
use Rattle.sm_shapes.specs.declared.tables.ShapeRows.{ShapeRows}
use Rattle.sm_shapes.specs.declared.tables.MemberRows.{MemberRows}
use Rattle.sm_shapes.specs.declared.tables.Table.{Table}

abbrev pub binding_data : Binding → BindingData
binding_data Label = label
binding_data (Query name) = query name
binding_data QueryParams = query_params
binding_data (Header name) = header name
binding_data (PrefixHeaders prefix) = prefix_headers prefix
binding_data Payload = payload
binding_data ResponseCode = response_code

abbrev pub shape_data : TableShape → ShapeData
shape_data s = record {
  kind = s.kind;
  members = s.members;
  by_name = s.by_name;
  by_json_name = s.by_json_name;
  needed = s.needed;
  constraints = constraint_data s.constraints;
  unique = s.unique;
  sparse = s.sparse;
  unit = s.unit;
  format = s.format;
  media_type = s.media_type;
}

abbrev pub member_data : TableMember → MemberData
member_data m = record {
  shape = m.shape;
  name = m.name;
  json_name = m.json_name;
  target = m.target;
  required = m.required;
  constraints = constraint_data m.constraints;
  format = m.format;
  media_type = m.media_type;
  binding = option_map binding_data m.binding;
  default_node = option_map node_of m.default_node;
  default = option_map val_of m.default;
}

abbrev pub shape_rows : ShapeRows → List ShapeData
shape_rows rows = map shape_data rows.rows.items

abbrev pub member_rows : MemberRows → List MemberData
member_rows rows = map member_data rows.rows.items

abbrev pub table_data : Table → TableData
table_data t = record { shapes = shape_rows t.shapes; members = member_rows t.members; patterns = t.patterns }
