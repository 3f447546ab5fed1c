use Rattle.std.proofs.Common.{◌≡◌, map, take}
use Rattle.sm_doors.specs.Bytes.{link_bytes}
use Rattle.sm_doors.proofs.mem_doors.copies.Given as goal

abbrev pub invariant-loop-link : goal.invariant-loop-link
invariant-loop-link l = map link_bytes l.copies.items ≡ map link_bytes (take l.link-index l.links)
