use Rattle.std.proofs.Common.{◌≡◌, ◌++◌, drop}
use Rattle.sm_service.specs.steps.OperationRows.{places_among}
use Rattle.sm_service.proofs.operation_errors.places_among.Given as goal

abbrev pub invariant-loop-error : goal.invariant-loop-error
invariant-loop-error l = l.places.items ++ places_among (drop l.error-index l.own) l.shared ≡ places_among l.own l.shared
