-- A service of the code as data. Every contract that speaks of a service cites it.
use Rattle.std.specs.Prelude.{List, map}
use Rattle.std.specs.Option.{option_map}
use Rattle.sm_uri.specs.UriPattern.{uri_said}
use Rattle.sm_shapes.specs.TableView.{table_data}
use Rattle.sm_compile.specs.declared.compiled.Served.{Served}
use Rattle.sm_compile.specs.declared.compiled.Served.TheVariants.{Yes, Unserved}
use Rattle.sm_service.specs.ServiceData.{HttpData, OperationData, ServiceData}
use Rattle.sm_service.specs.declared.operation.HttpRule.{HttpRule}
use Rattle.sm_service.specs.declared.operation.Operation.{Operation}
use Rattle.sm_service.specs.declared.served.OperationServed.{OperationServed}
use Rattle.sm_service.specs.declared.served.OperationServed.TheVariants as own
use Rattle.sm_service.specs.declared.service.Operations.{Operations}
use Rattle.sm_service.specs.declared.service.Service.{Service}

abbrev pub http_data : HttpRule → HttpData
http_data h = record { method = h.method; uri = uri_said h.uri; code = h.code }

abbrev pub served_said : OperationServed → Served
served_said own.Yes = Yes
served_said (own.Unserved path) = Unserved path

abbrev pub operation_data : Operation → OperationData
operation_data o = record {
  id = o.id;
  name = o.name;
  input = o.input;
  output = o.output;
  errors = o.errors;
  http = option_map http_data o.http;
  served = served_said o.served;
}

abbrev pub operations_view : Operations → List OperationData
operations_view os = map operation_data os.operations.items

abbrev pub service_data : Service → ServiceData
service_data s = record { table = table_data s.table; name = s.name; operations = operations_view s.operations }
