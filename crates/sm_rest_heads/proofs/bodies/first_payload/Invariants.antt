use Rattle.std.proofs.Common.{◌≡◌, drop}
use Rattle.sm_shapes.specs.TableView.{table_data}
use Rattle.sm_rest_heads.specs.steps.Payloads.{first_payload}
use Rattle.sm_rest_heads.proofs.bodies.first_payload.Given as goal

abbrev pub invariant-loop-member : goal.invariant-loop-member
invariant-loop-member l = first_payload (table_data l.table) (drop l.member-index l.members) ≡ first_payload (table_data l.table) l.members
