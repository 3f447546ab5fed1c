-- What the steps of serving links come to.
use Rattle.std.specs.Prelude.{◌≡◌, Bool, true, false}
use Rattle.sm_io.specs.Seen.{LinkSeen}
use Rattle.sm_shapes.specs.Fitting.{Test}
use Rattle.sm_doors.specs.DoorsSeen.{DoorsSeen, behind_close}
use Rattle.sm_session.specs.Ends.{SessionRun}
use Rattle.sm_session.specs.Sessions.{turn_limit}
use Rattle.sm_session.specs.declared.session_end.SessionEnd.{SessionEnd}
use Rattle.sm_session.specs.declared.session_end.SessionEnd.TheVariants.{Closed, Quota, FrontEnded, BackEnded, FrontFraming, BackFraming}
use Rattle.sm_session.specs.declared.session_end.SessionEnd.TheVariants.{FrontRead, FrontWrite, BackRead, BackWrite}
use Rattle.sm_session.specs.declared.session_end.SessionEnd.TheVariants.{NoMemory as out_of_memory}
use Rattle.sm_asked_gateway.specs.asked.declared.status.Status.{Status}
use Rattle.sm_asked_gateway.specs.asked.declared.status.Status.TheVariants.{Done, NoMemory}
use Rattle.sm_asked_gateway.specs.gateway.GatewayData.{GatewayData}
use Rattle.sm_asked_gateway.specs.gateway.GatewayTurns.{gateway_turn}

-- a session was run over the link that was out, and it was closed as the session left it
pub record ServesLink (g : GatewayData) (test : Test) (link : LinkSeen) (before after : DoorsSeen) (end : SessionEnd) : Type 0 where
  pub left : LinkSeen
  pub run : SessionRun (gateway_turn g test) turn_limit link left end
  pub closes : after ≡ behind_close before left

-- whether memory ran out in a session, behind one more that ended so
abbrev pub short_after : Bool → SessionEnd → Bool
short_after short Closed = short
short_after short Quota = short
short_after short FrontEnded = short
short_after short BackEnded = short
short_after short (FrontFraming why) = short
short_after short (BackFraming why) = short
short_after short FrontRead = short
short_after short FrontWrite = short
short_after short BackRead = short
short_after short BackWrite = short
short_after short out_of_memory = true

-- the status behind the last link
abbrev pub all_status : Bool → Status
all_status true = NoMemory
all_status false = Done
