-- What was played: a session of a gateway over the bytes of a row.
use Rattle.std.specs.Prelude.{◌≡◌, ℕ, List, [], Option, Some}
use Rattle.sm_io.specs.Seen.{LinkSeen}
use Rattle.sm_shapes.specs.Fitting.{Test}
use Rattle.sm_session.specs.declared.session_end.SessionEnd.{SessionEnd}
use Rattle.sm_session.specs.Ends.{SessionRun}
use Rattle.sm_session.specs.Sessions.{turn_limit}
use Rattle.sm_gateway.specs.GatewayData.{GatewayData}
use Rattle.sm_gateway.specs.GatewayTurns.{gateway_turn}

-- a session of these bytes of a front and a back was run, and put these to them; it ended so
pub record IsPlayed (g : GatewayData) (test : Test) (front back : List ℕ) (answers requests : Option (List ℕ)) (end : SessionEnd)
    : Type 0 where
  pub before : LinkSeen
  pub after : LinkSeen
  pub front_in : before.front_in.bytes ≡ Some front
  pub back_in : before.back_in.bytes ≡ Some back
  pub front_out : before.front_out.bytes ≡ Some []
  pub back_out : before.back_out.bytes ≡ Some []
  pub answers_put : after.front_out.bytes ≡ answers
  pub requests_put : after.back_out.bytes ≡ requests
  pub run : SessionRun (gateway_turn g test) turn_limit before after end
