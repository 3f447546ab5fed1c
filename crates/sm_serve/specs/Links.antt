-- What serving links comes to: each link that is accepted is closed, and what was put to it is what the session of its bytes says. Clauses on
-- bytes hold where the doors, and the streams of the link, tell them.
use Rattle.std.specs.Prelude.{◌≡◌, ◌<◌, ℕ, zero, suc, Bool, true, false, List, [], ◌∷◌, ◌++◌, Option, IfSome, IsSomeAnd, length}
use Rattle.std.specs.Io.KnownBytes.{Appends}
use Rattle.sm_io.specs.Causes.{Quiet, Rose, next_count}
use Rattle.sm_io.specs.Writing.{AppendsPrefix}
use Rattle.sm_shapes.specs.Fitting.{Test}
use Rattle.sm_doors.specs.DoorsSeen.{ClosedLink, DoorsSeen, LinksSeen, OpenedLink}
use Rattle.sm_doors.specs.declared.doors.Phase.TheVariants.{Open}
use Rattle.sm_session.specs.Ends.{IfBoth}
use Rattle.sm_session.specs.Sessions.{SessionSaid, flat}
use Rattle.sm_asked_gateway.specs.asked.Answer.{code_of}
use Rattle.sm_asked_gateway.specs.asked.declared.status.Status.{Status}
use Rattle.sm_asked_gateway.specs.asked.declared.status.Status.TheVariants.{Done, Refused, Usage, ReadFault, WriteFault, NoMemory, Pattern, Limit}
use Rattle.sm_asked_gateway.specs.gateway.GatewayData.{GatewayData}
use Rattle.sm_asked_gateway.specs.gateway.GatewayTurns.{Session}

-- ---- one link

-- between when it was accepted and when it was closed, all that the session says was put
pub record AllPut (opened : OpenedLink) (closed : ClosedLink) (said : SessionSaid) : Type 0 where
  pub answers : Appends opened.answers closed.answers (flat said.answers)
  pub requests : Appends opened.requests closed.requests (flat said.requests)

-- or prefixes of it
pub record PrefixesPut (opened : OpenedLink) (closed : ClosedLink) (said : SessionSaid) : Type 0 where
  pub answers : AppendsPrefix opened.answers closed.answers (flat said.answers)
  pub requests : AppendsPrefix opened.requests closed.requests (flat said.requests)

-- whatever the session of its bytes says, prefixes of it were put
abbrev pub PutsPart : GatewayData → Test → OpenedLink → ClosedLink → Type 0
PutsPart g test opened closed = IfBoth opened.front opened.back (λ front back.
    (said : SessionSaid) → Session g test front back said → PrefixesPut opened closed said)

-- the session of the bytes was put
pub record SessionPut (g : GatewayData) (test : Test) (opened : OpenedLink) (closed : ClosedLink) (front back : List ℕ) : Type 0 where
  pub said : SessionSaid
  pub session : Session g test front back said
  pub puts : AllPut opened closed said

-- it was, where none of the link's streams failed: the sum of their counts of faults didn't rise
abbrev pub PutsAll : GatewayData → Test → OpenedLink → ClosedLink → Type 0
PutsAll g test opened closed =
    Quiet opened.faults closed.faults → IfBoth opened.front opened.back (SessionPut g test opened closed)

-- ---- links, one after the other

-- this holds of each link, as it was accepted and as it was closed
abbrev pub EachLink : (OpenedLink → ClosedLink → Type 0) → List OpenedLink → List ClosedLink → Type 0
EachLink P [] [] = Unit {0}
EachLink P [] (c ∷ closed) = ⊥
EachLink P (o ∷ opened) [] = ⊥
EachLink P (o ∷ opened) (c ∷ closed) = P o c × EachLink P opened closed

-- so many links more were accepted, each was served and closed. `short`: memory ran out in the session of one of them
pub record MoreServed (g : GatewayData) (test : Test) (short : Bool) (count : ℕ) (before after : LinksSeen) : Type 0 where
  pub opened : List OpenedLink
  pub closed : List ClosedLink
  pub counts : length opened ≡ count
  pub opened_are : after.opened ≡ before.opened ++ opened
  pub closed_are : after.closed ≡ before.closed ++ closed
  pub parts : EachLink (PutsPart g test) opened closed
  pub whole : short ≡ false → EachLink (PutsAll g test) opened closed

-- where told
abbrev pub TellsServed : GatewayData → Test → Bool → ℕ → Option LinksSeen → Option LinksSeen → Type 0
TellsServed g test short count before after =
    IfSome before (λ links. IsSomeAnd after (λ later. MoreServed g test short count links later))

-- a count of 64 bits behind so many more
abbrev pub risen : ℕ → ℕ → ℕ
risen count zero = count
risen count (suc more) = next_count (risen count more)

-- so many links were accepted, served and closed
pub record HasServed (g : GatewayData) (test : Test) (short : Bool) (count : ℕ) (before after : DoorsSeen) : Type 0 where
  pub phase : after.phase ≡ Open
  pub accepted : after.accepted ≡ risen before.accepted count
  pub closed : after.closed ≡ risen before.closed count
  pub links : TellsServed g test short count before.links after.links

-- By the status: all that were asked for were served; or no link came any more, whose cause is a fault of the doors
abbrev pub LinksEnd : GatewayData → Test → DoorsSeen → DoorsSeen → ℕ → ℕ → ℕ → Status → Type 0
LinksEnd g test before after faults faults1 count Done = HasServed g test false count before after
LinksEnd g test before after faults faults1 count NoMemory = HasServed g test true count before after
LinksEnd g test before after faults faults1 count ReadFault =
    (fewer : ℕ) × (short : Bool) × (fewer < count) × Rose faults faults1 × HasServed g test short fewer before after
LinksEnd g test before after faults faults1 count Refused = ⊥
LinksEnd g test before after faults faults1 count Usage = ⊥
LinksEnd g test before after faults faults1 count WriteFault = ⊥
LinksEnd g test before after faults faults1 count Pattern = ⊥
LinksEnd g test before after faults faults1 count Limit = ⊥

-- the number is that of a status by which serving so many links ends
abbrev pub ServesLinks : GatewayData → Test → DoorsSeen → DoorsSeen → ℕ → ℕ → ℕ → ℕ → Type 0
ServesLinks g test before after faults faults1 count code =
    (status : Status) × (code ≡ code_of status) × LinksEnd g test before after faults faults1 count status
