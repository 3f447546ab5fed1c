use Rattle.std.proofs.Common.{◌≡◌, ◌≤◌, ◌<◌, ℕ, Some, length}
use Rattle.std.specs.Prelude.{slice_get}
use Rattle.sm_protocols.specs.service.ServiceView.{service_data}
use Rattle.sm_protocols.specs.messages.Crossings.{or_by}
use Rattle.sm_protocols.specs.Forms.{form_of}
use Rattle.sm_protocols.specs.Kept.{protocol_of}
use Rattle.sm_gateway.proofs.making.restrictions.Given as goal

abbrev pub invariant-loop-operation : goal.invariant-loop-operation
invariant-loop-operation l = record {
  within : l.operation ≤ length (service_data l.service).operations;
  count : length l.paths.items ≡ l.operation;
  paths : (o : ℕ) → o < length l.paths.items → slice_get l.paths.items o
      ≡ Some (or_by ((form_of (protocol_of l.front)).restriction (service_data l.service) o)
      ((form_of (protocol_of l.back)).restriction (service_data l.service) o));
}
