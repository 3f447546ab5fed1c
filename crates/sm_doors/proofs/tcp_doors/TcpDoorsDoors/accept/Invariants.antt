use Rattle.std.proofs.Common.{◌≡◌, ◌≤◌}
use Rattle.sm_doors.proofs.tcp_doors.TcpDoorsDoors.accept.Given as goal

abbrev pub invariant-loop : goal.invariant-loop
invariant-loop g l = record {
  phase : l.self.phase ≡ l.fn.self.phase;
  accepted : l.self.accepted ≡ l.fn.self.accepted;
  closed : l.self.closed ≡ l.fn.self.closed;
  later : l.fn.self.faults ≤ l.self.faults;
}
