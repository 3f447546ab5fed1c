use Rattle.std.proofs.Common.{None, Some}
use Rattle.sm_doors.proofs.Numbered.{numbered_map}
use Rattle.sm_doors.proofs.mem_doors.MemDoors.back_bytes.Goals as goal

pub returns-in-Some : goal.returns-in-Some
returns-in-Some c = (_, numbered_map _ _ _ (Some c.in-Some.link.now) c.in-Some.ensures, c.bytes.ensures)

pub returns-in-None : goal.returns-in-None
returns-in-None c = numbered_map _ _ _ None c.in-None.ensures
