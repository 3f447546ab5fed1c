-- What doors over memory are seen as.
use Rattle.std.specs.Prelude.{◌≡◌, ◌<◌, ◌⊎◌, ℕ, ◌-◌, List, [], length, map, take, Option, None, Some, slice_get}
use Rattle.sm_io.specs.Memory.{sink_written, source_left}
use Rattle.sm_io.specs.Seen.{LinkSeen, link_seen, stream}
use Rattle.sm_io.specs.declared.memory.MemSink.{MemSink}
use Rattle.sm_io.specs.declared.memory.MemSource.{MemSource}
use Rattle.sm_doors.specs.Bytes.{link_bytes}
use Rattle.sm_doors.specs.DoorsSeen.{ClosedLink, DoorsSeen, OpenedLink, closed_link}
use Rattle.sm_doors.specs.declared.link.Link.{Link}
use Rattle.sm_doors.specs.declared.mem_doors.MemDoors.{MemDoors}

abbrev pub mem_link_seen : Link MemSource MemSink MemSource MemSink → LinkSeen
mem_link_seen link = link_seen
    (stream (Some (source_left link.front_in)) link.front_in.faults)
    (stream (Some (sink_written link.front_out)) link.front_out.faults)
    (stream (Some (source_left link.back_in)) link.back_in.faults)
    (stream (Some (sink_written link.back_out)) link.back_out.faults)

-- a link that is given these bytes, and to which nothing was put
abbrev pub given_link : List ℕ × List ℕ → OpenedLink
given_link bytes = record { front = Some bytes.0; back = Some bytes.1; answers = Some []; requests = Some []; faults = 0 }

-- what all links are given, accepted or not
abbrev pub given_links : MemDoors → List (List ℕ × List ℕ)
given_links doors = map link_bytes doors.given.items

abbrev pub closed_links : MemDoors → List ClosedLink
closed_links doors = map (λ link. closed_link (mem_link_seen link)) doors.closed.items

abbrev pub mem_doors_seen : MemDoors → DoorsSeen
mem_doors_seen doors = record {
  phase = doors.phase;
  accepted = doors.accepted;
  closed = length doors.closed.items;
  links = Some (record {
    opened = map given_link (take doors.accepted (given_links doors));
    closed = closed_links doors;
  });
}

-- the one of this number, counted from 1; or there is none
abbrev pub IsNumbered : {A : Type 0} → List A → ℕ → Option A → Type 0
IsNumbered xs number None = (number ≡ 0) ⊎ (length xs < number)
IsNumbered xs number (Some x) = (0 < number) × (slice_get xs (number - 1) ≡ Some x)

-- bytes of the closed link of this number; or there is no such link
abbrev pub FindsClosed : (ClosedLink → Option (List ℕ)) → List ClosedLink → ℕ → Option (List ℕ) → Type 0
FindsClosed part links number None = IsNumbered links number None
FindsClosed part links number (Some bytes) = (link : ClosedLink) × IsNumbered links number (Some link) × (part link ≡ Some bytes)
