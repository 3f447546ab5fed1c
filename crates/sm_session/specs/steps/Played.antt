-- What of a session was played: the bytes that are ahead now come to the rest of the session of the bytes that were ahead, both ways and
-- whatever follows them.
use Rattle.std.specs.Prelude.{◌≡◌, ℕ, List, ◌++◌, Option}
use Rattle.std.specs.Io.KnownBytes.{Consumes}
use Rattle.sm_session.specs.Turns.{Turning}
use Rattle.sm_session.specs.Sessions.{SessionSaid, TurnsFrom}

-- these answers and requests, and then what more is said
abbrev pub behind_said : List (List ℕ) → List (List ℕ) → SessionSaid → SessionSaid
behind_said answers requests more =
    record { answers = answers ++ more.answers; requests = requests ++ more.requests; ending = more.ending }

pub record Played (turning : Turning) (left0 left : ℕ) (front0 front back0 back : Option (List ℕ)) (answers requests : List (List ℕ))
    : Type 0 where
  pub used_front : List ℕ
  pub used_back : List ℕ
  pub front_used : Consumes front0 front used_front
  pub back_used : Consumes back0 back used_back
  pub on : (f b : List ℕ) (s : SessionSaid) → TurnsFrom turning left f b s
      → TurnsFrom turning left0 (used_front ++ f) (used_back ++ b) (behind_said answers requests s)
  pub from : (f b : List ℕ) (s : SessionSaid) → TurnsFrom turning left0 (used_front ++ f) (used_back ++ b) s
      → (more : SessionSaid) × TurnsFrom turning left f b more × (s ≡ behind_said answers requests more)
