-- Where a message to a goal stands: the structure of its operation on its side, and the keys that the literals of its pattern name.
use Rattle.std.specs.Prelude.{List, [], None, Option, Some, map, ℕ}
use Rattle.sm_rules.specs.Bindings.{BoundSide, an_error, an_input, an_output}
use Rattle.sm_messages.specs.service.ServiceData.{HttpData, OperationData, ServiceData}
use Rattle.sm_messages.specs.Goals.{Goal, Role, goal_shape, operation_at, the_error, the_input, the_output}
use Rattle.sm_bind.specs.BindingsView.{BindingsData, body_at}
use Rattle.sm_bind.specs.Roles.{Bound}

abbrev pub side_of : Role → BoundSide
side_of the_input = an_input
side_of the_output = an_output
side_of (the_error e) = an_error

abbrev pub literal_keys : Option HttpData → List (List ℕ)
literal_keys None = []
literal_keys (Some h) = map (λ l. l.0) h.uri.literals

abbrev pub keys_on : OperationData → Role → List (List ℕ)
keys_on o the_input = literal_keys o.http
keys_on o the_output = []
keys_on o (the_error e) = []

-- where a message to a goal stands
abbrev pub bound_at : ServiceData → Goal → Bound
bound_at s g = record {
  table = s.table;
  side = side_of g.role;
  shape = goal_shape s g;
  literals = keys_on (operation_at s g.operation) g.role;
}

-- the shape by which a body is read that goes to a goal
abbrev pub goal_body : ServiceData → BindingsData → Goal → Option ℕ
goal_body s b g = body_at b (side_of g.role) (goal_shape s g)
