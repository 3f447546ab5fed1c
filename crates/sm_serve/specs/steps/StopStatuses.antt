-- The status of what ends a command before its work.
use Rattle.sm_asked_gateway.specs.asked.declared.status.Status.{Status}
use Rattle.sm_asked_gateway.specs.asked.declared.status.Status.TheVariants.{Limit, NoMemory, Pattern, ReadFault, Refused}
use Rattle.sm_asked_gateway.specs.asked.declared.stop.CommandStop.{CommandStop}
use Rattle.sm_asked_gateway.specs.asked.declared.stop.CommandStop.TheVariants.{Refused as refused_by, Pattern as pattern_at, Limit as limit_at}
use Rattle.sm_asked_gateway.specs.asked.declared.stop.CommandStop.TheVariants.{ReadFault as read_fault, NoMemory as no_memory}

abbrev pub stop_status : CommandStop → Status
stop_status (refused_by line) = Refused
stop_status (pattern_at line) = Pattern
stop_status (limit_at line) = Limit
stop_status read_fault = ReadFault
stop_status no_memory = NoMemory
