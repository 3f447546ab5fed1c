-- A session: what the bytes of the front and of the back come to, turn by turn. It is said of bytes, and never of the cuts in which they
-- come.
use Rattle.std.specs.Prelude.{◌≡◌, ◌≢◌, ℕ, suc, Bool, true, false, List, [], ◌∷◌, ◌++◌, ◌==◌, flat_map, if◌then◌else◌, Option, Some, None}
use Rattle.sm_http.specs.declared.message.Head.{Head}
use Rattle.sm_http.specs.declared.message.Message.{Message}
use Rattle.sm_http.specs.declared.message.MessageSide.TheVariants.{Request as of_requests}
use Rattle.sm_http.specs.declared.refusal.HttpRefusal.{HttpRefusal}
use Rattle.sm_http.specs.declared.refusal.HttpRefusal.TheVariants.{Ended}
use Rattle.sm_http.specs.Framed.{no_message, message, message_refused, Framed}
use Rattle.sm_http.specs.Connections.{says_close, with_close, for_head}
use Rattle.sm_http.specs.Written.{written}
use Rattle.sm_session.specs.declared.session_end.SessionEnd.{SessionEnd}
use Rattle.sm_session.specs.declared.session_end.SessionEnd.TheVariants.{Closed, Quota, FrontEnded, FrontFraming}
use Rattle.sm_session.specs.OwnAnswers.{framing_text}
use Rattle.sm_session.specs.Turns.{Turning, TurnSaid}

-- the most turns of one session
abbrev pub turn_limit : ℕ
turn_limit = 1000000

-- what a session says: the answers to the front and the requests to the back, each put as one piece, and why it ends
pub record SessionSaid : Type 0 where
  pub answers : List (List ℕ)
  pub requests : List (List ℕ)
  pub ending : SessionEnd

abbrev pub flat : List (List ℕ) → List ℕ
flat pieces = flat_map (λ piece. piece) pieces

-- it ends, and says nothing more
abbrev pub ends : SessionEnd → SessionSaid
ends end = record { answers = []; requests = []; ending = end }

abbrev pub piece_of : Option (List ℕ) → List (List ℕ)
piece_of None = []
piece_of (Some text) = text ∷ []

-- a request and an answer, and then what more is said
abbrev pub turn_then : Option (List ℕ) → List ℕ → SessionSaid → SessionSaid
turn_then request answer more =
    record { answers = answer ∷ more.answers; requests = piece_of request ++ more.requests; ending = more.ending }

abbrev pub or_end : Option SessionEnd → Option SessionEnd → Option SessionEnd
or_end (Some end) other = Some end
or_end None other = other

-- why a session ends behind a turn: what the back brings goes before the request's own `close`, and that before the limit.
-- `after` is the number of turns that may come behind this one
abbrev pub turn_end : ℕ → Head → Option SessionEnd → Option SessionEnd
turn_end after asked ending =
    or_end ending (if says_close asked then Some Closed else (if after == 0 then Some Quota else None))

-- the text of an answer: behind one that closes the session ends. To a request for a head goes the answer's head alone
abbrev pub answer_text : Head → Bool → Message → List ℕ
answer_text asked closes answer = written (for_head asked (if closes then with_close answer else answer))

-- a session in which so many turns may come
pub data TurnsFrom (turning : Turning) : ℕ → List ℕ → List ℕ → SessionSaid → Type 0 where
  -- no byte is left of the front
  front_closed : {left : ℕ} {front back : List ℕ} → Framed of_requests front no_message → TurnsFrom turning left front back (ends Closed)
  -- the front ends inside a request, to which nothing is answered
  front_cut : {left : ℕ} {front back : List ℕ} → Framed of_requests front (message_refused Ended)
      → TurnsFrom turning left front back (ends FrontEnded)
  -- the front's bytes are no request: this is answered
  front_refused : {left : ℕ} {front back : List ℕ} {why : HttpRefusal} → Framed of_requests front (message_refused why) → why ≢ Ended
      → TurnsFrom turning left front back (turn_then None (framing_text why) (ends (FrontFraming why)))
  -- a turn behind which the session ends
  last_turn : {after : ℕ} {front back rest : List ℕ} {m : Message} {t : TurnSaid} {end : SessionEnd}
      → Framed of_requests front (message m rest) → turning m back t → turn_end after m.head t.ending ≡ Some end
      → TurnsFrom turning (suc after) front back (turn_then t.request (answer_text m.head true t.answer) (ends end))
  -- a turn behind which it goes on
  one_turn : {after : ℕ} {front back rest : List ℕ} {m : Message} {t : TurnSaid} {more : SessionSaid}
      → Framed of_requests front (message m rest) → turning m back t → turn_end after m.head t.ending ≡ None
      → TurnsFrom turning after rest t.behind more
      → TurnsFrom turning (suc after) front back (turn_then t.request (answer_text m.head false t.answer) more)
