-- What is seen of doors at one moment, and what their calls do to it.
use Rattle.std.specs.Prelude.{◌≡◌, ℕ, ◌+◌, List, [], ◌∷◌, ◌++◌, Option, None, Some, IfSome, Result, Ok, Err}
use Rattle.sm_io.specs.Causes.{next_count}
use Rattle.sm_io.specs.Seen.{LinkSeen}
use Rattle.sm_io.specs.declared.source.Failed.{Failed}
use Rattle.sm_doors.specs.declared.doors.Phase.{Phase}
use Rattle.sm_doors.specs.declared.doors.Phase.TheVariants.{Lent, Open}

-- a link when it was accepted: the bytes that its front and its back have to give and those that its two sinks hold, where they are told,
-- and the sum of its counts of faults
pub record OpenedLink : Type 0 where
  pub front : Option (List ℕ)
  pub back : Option (List ℕ)
  pub answers : Option (List ℕ)
  pub requests : Option (List ℕ)
  pub faults : ℕ

-- a link when it was closed: the bytes that its front was answered and its back was asked, where they are told, and the sum of its counts
pub record ClosedLink : Type 0 where
  pub answers : Option (List ℕ)
  pub requests : Option (List ℕ)
  pub faults : ℕ

-- the links that were accepted and those that were closed, each in their order
pub record LinksSeen : Type 0 where
  pub opened : List OpenedLink
  pub closed : List ClosedLink

pub record DoorsSeen : Type 0 where
  pub phase : Phase
  pub accepted : ℕ
  pub closed : ℕ
  pub links : Option LinksSeen

abbrev pub IsPhase : DoorsSeen → Phase → Type 0
IsPhase doors phase = doors.phase ≡ phase

abbrev pub link_faults : LinkSeen → ℕ
link_faults link = link.front_in.faults + link.front_out.faults + link.back_in.faults + link.back_out.faults

abbrev pub opened_link : LinkSeen → OpenedLink
opened_link link = record {
  front = link.front_in.bytes;
  back = link.back_in.bytes;
  answers = link.front_out.bytes;
  requests = link.back_out.bytes;
  faults = link_faults link;
}

abbrev pub closed_link : LinkSeen → ClosedLink
closed_link link = record { answers = link.front_out.bytes; requests = link.back_out.bytes; faults = link_faults link }

abbrev pub with_opened : Option LinksSeen → OpenedLink → Option LinksSeen
with_opened None link = None
with_opened (Some links) link = Some (record { opened = links.opened ++ link ∷ []; closed = links.closed })

abbrev pub with_closed : Option LinksSeen → ClosedLink → Option LinksSeen
with_closed None link = None
with_closed (Some links) link = Some (record { opened = links.opened; closed = links.closed ++ link ∷ [] })

-- the doors behind each call that did its work
abbrev pub behind_listen : DoorsSeen → DoorsSeen
behind_listen doors = record { phase = Open; accepted = doors.accepted; closed = doors.closed; links = doors.links }

abbrev pub behind_accept : DoorsSeen → LinkSeen → DoorsSeen
behind_accept doors link = record {
  phase = Lent;
  accepted = next_count doors.accepted;
  closed = doors.closed;
  links = with_opened doors.links (opened_link link);
}

abbrev pub behind_close : DoorsSeen → LinkSeen → DoorsSeen
behind_close doors link = record {
  phase = Open;
  accepted = doors.accepted;
  closed = next_count doors.closed;
  links = with_closed doors.links (closed_link link);
}

-- nothing was written to the link, where that is told
pub record IsUnwritten (link : LinkSeen) : Type 0 where
  pub answers : IfSome link.front_out.bytes (λ bytes. bytes ≡ [])
  pub requests : IfSome link.back_out.bytes (λ bytes. bytes ≡ [])

abbrev pub Listens : DoorsSeen → DoorsSeen → Result (Unit {0}) Failed → Type 0
Listens before after (Ok done) = after ≡ behind_listen before
Listens before after (Err failed) = after ≡ before

-- a link came, which is seen so, or none did
abbrev pub AcceptsLink : {L : Type 0} → (L → LinkSeen) → DoorsSeen → DoorsSeen → Result L Failed → Type 0
AcceptsLink seen before after (Ok link) = (after ≡ behind_accept before (seen link)) × IsUnwritten (seen link)
AcceptsLink seen before after (Err failed) = after ≡ before

-- doors that don't tell what their links held
abbrev pub untold : Phase → ℕ → ℕ → DoorsSeen
untold phase accepted closed = record { phase = phase; accepted = accepted; closed = closed; links = None }
