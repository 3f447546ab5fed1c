use Rattle.std.proofs.Common.{◌≡◌, ◌≤◌, ◌<◌, ◌+◌, ◌^◌, ap, arith, length}
use Rattle.sm_doors.specs.Bytes.{link_bytes, out_of}
use Rattle.sm_doors.specs.MemSeen.{closed_links}
use Rattle.sm_doors.proofs.NextLink.{next_accepted, next_is_given, next_waits}
use Rattle.sm_doors.proofs.mem_doors.MemDoorsDoors.accept.Goals as goal

pub invariant_of-self-in-Some : goal.invariant_of-self-in-Some
invariant_of-self-in-Some c =
    let doors = c.args.self.now in
    let within : length doors.closed.items + out_of doors.phase ≤ doors.accepted = doors.within in
    let none_out : out_of doors.phase ≡ 0 = ap out_of c.requires.open in
    record {
      waits = next_waits link_bytes doors.given.items _ _ _ doors.accepted c.in-Some.ensures.items doors.waits;
      few = next_is_given link_bytes doors.given.items _ _ _ doors.accepted c.in-Some.ensures.items doors.waits;
      room = doors.room;
      within = omega arith;
    }

pub returns-in-Some-clause-accepts : goal.returns-in-Some-clause-accepts
returns-in-Some-clause-accepts c =
    let doors = c.args.self.now in
    let made = c.mem_link.ensures in
    let given = next_is_given link_bytes doors.given.items _ _ _ doors.accepted c.in-Some.ensures.items doors.waits in
    let len = doors.given.ok in
    let bound = doors.given.small in
    let small : doors.accepted + 1 < 2 ^ 64 = omega arith in
    next_accepted link_bytes doors.given.items _ _ _ doors.accepted (length doors.closed.items) (closed_links doors) doors.phase _ _ _ _ _ _ _ _
    c.in-Some.ensures.items doors.waits small made.front_in made.front_in_calm made.front_out made.front_out_calm
    made.back_in made.back_in_calm made.back_out made.back_out_calm
