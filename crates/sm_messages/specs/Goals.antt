-- Where a message of a service goes: to the input, the output or an error of one of its operations. Operations are told by their places in
-- the service, errors by their places in the operation (Smithy 2.0, "Operation", "error trait").
use Rattle.std.specs.Prelude.{ℕ, ◌<◌, ◌≡◌, Bool, true, false, List, [], None, get_or, length}
use Rattle.sm_compile.specs.declared.compiled.Served.TheVariants.{Yes}
use Rattle.sm_service.specs.ServiceData.{OperationData, ServiceData}
use Rattle.sm_service.specs.declared.error.ErrorShape.{ErrorShape}

pub data Role : Type 0 where
  the_input : Role
  the_output : Role
  -- the error at this place
  the_error : ℕ → Role

pub record Goal : Type 0 where
  pub operation : ℕ
  pub role : Role

abbrev pub goal_of : ℕ → Role → Goal
goal_of o role = record { operation = o; role = role }

-- which messages are asked about: requests, or responses to the operation at this place
pub data Asked : Type 0 where
  a_request : Asked
  a_response : ℕ → Asked

-- past the last one these words answer something, to be total
abbrev pub no_operation : OperationData
no_operation = record { id = []; name = []; input = 0; output = 0; errors = []; http = None; served = Yes }

abbrev pub operation_at : ServiceData → ℕ → OperationData
operation_at s o = get_or s.operations o no_operation

abbrev pub no_error : ErrorShape
no_error = record { id = []; shape = 0; client = false; status = None }

abbrev pub error_at : OperationData → ℕ → ErrorShape
error_at o e = get_or o.errors e no_error

-- the number of the structure in the table of the service whose values go there
abbrev pub role_shape : OperationData → Role → ℕ
role_shape o the_input = o.input
role_shape o the_output = o.output
role_shape o (the_error e) = (error_at o e).shape

abbrev pub goal_shape : ServiceData → Goal → ℕ
goal_shape s g = role_shape (operation_at s g.operation) g.role

-- the service has the operation, and the operation the error
abbrev pub HasRole : OperationData → Role → Type 0
HasRole o the_input = Unit {0}
HasRole o the_output = Unit {0}
HasRole o (the_error e) = e < length o.errors

abbrev pub HasGoal : ServiceData → Goal → Type 0
HasGoal s g = (g.operation < length s.operations) × HasRole (operation_at s g.operation) g.role

-- requests go to inputs
abbrev pub is_input : Role → Bool
is_input the_input = true
is_input the_output = false
is_input (the_error e) = false

-- two goals of one operation, and of messages on one side
abbrev pub AreOfOne : Goal → Goal → Type 0
AreOfOne g h = (g.operation ≡ h.operation) × (is_input g.role ≡ is_input h.role)
