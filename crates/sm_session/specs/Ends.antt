-- What a session that was run has read and written. `before` has the bytes that are ahead of it, and `after` those that its sources have
-- left; each is told, or it isn't, and of what isn't told nothing is said.
use Rattle.std.specs.Prelude.{◌≡◌, ℕ, ◌≤◌, List, [], ◌∷◌, ◌++◌, IfSome, Option}
use Rattle.std.specs.Io.KnownBytes.{Consumes, Appends}
use Rattle.sm_io.specs.Causes.{Rose}
use Rattle.sm_io.specs.Reading.{LosesPrefix}
use Rattle.sm_io.specs.Seen.{LinkSeen}
use Rattle.sm_io.specs.Writing.{AppendsPrefix}
use Rattle.sm_session.specs.declared.session_end.SessionEnd.{SessionEnd}
use Rattle.sm_session.specs.declared.session_end.SessionEnd.TheVariants.{Closed, Quota, FrontEnded, BackEnded, FrontFraming, BackFraming}
use Rattle.sm_session.specs.declared.session_end.SessionEnd.TheVariants.{FrontRead, FrontWrite, BackRead, BackWrite, NoMemory}
use Rattle.sm_session.specs.Turns.{Turning}
use Rattle.sm_session.specs.Sessions.{SessionSaid, TurnsFrom, flat}

abbrev pub IfBoth : Option (List ℕ) → Option (List ℕ) → (List ℕ → List ℕ → Type 0) → Type 0
IfBoth front back P = IfSome front (λ f. IfSome back (λ b. P f b))

-- the whole session was put
pub record PutsSession (before after : LinkSeen) (said : SessionSaid) : Type 0 where
  pub answers : Appends before.front_out.bytes after.front_out.bytes (flat said.answers)
  pub requests : Appends before.back_out.bytes after.back_out.bytes (flat said.requests)

-- prefixes of it were put
pub record PutsPrefixes (before after : LinkSeen) (said : SessionSaid) : Type 0 where
  pub answers : AppendsPrefix before.front_out.bytes after.front_out.bytes (flat said.answers)
  pub requests : AppendsPrefix before.back_out.bytes after.back_out.bytes (flat said.requests)

-- the session of the bytes ends so, and was put
pub record IsPut (turning : Turning) (left : ℕ) (before after : LinkSeen) (end : SessionEnd) (front back : List ℕ) : Type 0 where
  pub said : SessionSaid
  pub session : TurnsFrom turning left front back said
  pub ending : said.ending ≡ end
  pub puts : PutsSession before after said

-- the front couldn't be read on: the session of the bytes that were taken of it was put
pub record IsPutAsTaken (turning : Turning) (left : ℕ) (before after : LinkSeen) (back : List ℕ) : Type 0 where
  pub front : List ℕ
  pub taken : Consumes before.front_in.bytes after.front_in.bytes front
  pub said : SessionSaid
  pub session : TurnsFrom turning left front back said
  pub puts : PutsSession before after said

-- the back couldn't be read on: the session of the bytes that were taken of both was put, but for its last answer
pub record IsPutUnanswered (turning : Turning) (left : ℕ) (before after : LinkSeen) : Type 0 where
  pub front : List ℕ
  pub back : List ℕ
  pub front_taken : Consumes before.front_in.bytes after.front_in.bytes front
  pub back_taken : Consumes before.back_in.bytes after.back_in.bytes back
  pub said : SessionSaid
  pub session : TurnsFrom turning left front back said
  pub ending : said.ending ≡ BackEnded
  pub put : List (List ℕ)
  pub last : List ℕ
  pub answers : said.answers ≡ put ++ last ∷ []
  pub puts : PutsSession before after (record { answers = put; requests = said.requests; ending = BackEnded })

abbrev pub Ended : Turning → ℕ → LinkSeen → LinkSeen → SessionEnd → Type 0
Ended turning left before after end = IfBoth before.front_in.bytes before.back_in.bytes (IsPut turning left before after end)

-- by the end of a session
abbrev pub EndsSo : Turning → ℕ → LinkSeen → LinkSeen → SessionEnd → Type 0
EndsSo turning left before after Closed = Ended turning left before after Closed
EndsSo turning left before after Quota = Ended turning left before after Quota
EndsSo turning left before after FrontEnded = Ended turning left before after FrontEnded
EndsSo turning left before after BackEnded = Ended turning left before after BackEnded
EndsSo turning left before after (FrontFraming why) = Ended turning left before after (FrontFraming why)
EndsSo turning left before after (BackFraming why) = Ended turning left before after (BackFraming why)
EndsSo turning left before after FrontRead =
    Rose before.front_in.faults after.front_in.faults × IfSome before.back_in.bytes (IsPutAsTaken turning left before after)
EndsSo turning left before after BackRead =
    Rose before.back_in.faults after.back_in.faults × IsPutUnanswered turning left before after
EndsSo turning left before after FrontWrite = Rose before.front_out.faults after.front_out.faults
EndsSo turning left before after BackWrite = Rose before.back_out.faults after.back_out.faults
EndsSo turning left before after NoMemory = Unit {0}

-- no count of faults fell
pub record CountsStay (before after : LinkSeen) : Type 0 where
  pub front_in : before.front_in.faults ≤ after.front_in.faults
  pub front_out : before.front_out.faults ≤ after.front_out.faults
  pub back_in : before.back_in.faults ≤ after.back_in.faults
  pub back_out : before.back_out.faults ≤ after.back_out.faults

-- a session was run in which so many turns may come
pub record SessionRun (turning : Turning) (left : ℕ) (before after : LinkSeen) (end : SessionEnd) : Type 0 where
  pub so : EndsSo turning left before after end
  -- whatever the end, the sinks have prefixes of what is to be put
  pub prefixes : IfBoth before.front_in.bytes before.back_in.bytes (λ front back.
      (said : SessionSaid) → TurnsFrom turning left front back said → PutsPrefixes before after said)
  -- no byte is read that isn't ahead
  pub front_taken : LosesPrefix before.front_in.bytes after.front_in.bytes
  pub back_taken : LosesPrefix before.back_in.bytes after.back_in.bytes
  pub counts : CountsStay before after
