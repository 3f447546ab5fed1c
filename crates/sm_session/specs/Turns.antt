-- One turn of a session: a request of the front, what it asks of the back, and its answer.
use Rattle.std.specs.Prelude.{◌≢◌, ℕ, Bool, List, [], if◌then◌else◌, Option, Some, None}
use Rattle.sm_http.specs.declared.message.Message.{Message}
use Rattle.sm_http.specs.declared.message.MessageSide.TheVariants.{Response as of_responses}
use Rattle.sm_http.specs.declared.refusal.HttpRefusal.{HttpRefusal}
use Rattle.sm_http.specs.declared.refusal.HttpRefusal.TheVariants.{Ended}
use Rattle.sm_http.specs.Framed.{no_message, message, message_refused, Framed}
use Rattle.sm_http.specs.Connections.{says_close}
use Rattle.sm_session.specs.declared.session_end.SessionEnd.{SessionEnd}
use Rattle.sm_session.specs.declared.session_end.SessionEnd.TheVariants.{Closed, BackEnded, BackFraming}
use Rattle.sm_session.specs.OwnAnswers.{back_answer}

-- what a request comes to before anything is asked of the back: an answer, or the text of a request to the back
pub data Asked : Type 0 where
  answered : Message → Asked
  asks : List ℕ → Asked

-- what a request comes to
abbrev pub Asking : Type 1
Asking = Message → Asked → Type 0

-- what a request that the back was asked, and the back's answer to it, come to: the answer to the front
abbrev pub Replying : Type 1
Replying = Message → Message → Message → Type 0

-- what one turn comes to
pub record TurnSaid : Type 0 where
  -- the text that is put to the back, as one piece
  pub request : Option (List ℕ)
  -- the bytes of the back behind its answer
  pub behind : List ℕ
  -- the answer, whole: without `connection: close`, and with its body
  pub answer : Message
  -- the end that the back brings
  pub ending : Option SessionEnd

abbrev pub at_once : List ℕ → Message → TurnSaid
at_once back answer = record { request = None; behind = back; answer = answer; ending = None }

-- the back's bytes are no answer, so nothing more is read of them
abbrev pub back_lost : List ℕ → HttpRefusal → SessionEnd → TurnSaid
back_lost text why end = record { request = Some text; behind = []; answer = back_answer why; ending = Some end }

-- the back ends its connection behind an answer that says so
abbrev pub back_end : Bool → Option SessionEnd
back_end closes = if closes then Some Closed else None

abbrev pub replied_with : List ℕ → Message → List ℕ → Message → TurnSaid
replied_with text said rest answer =
    record { request = Some text; behind = rest; answer = answer; ending = back_end (says_close said.head) }

-- one turn by a request, and the back's bytes
abbrev pub Turning : Type 1
Turning = Message → List ℕ → TurnSaid → Type 0

-- a request that is asked of the back takes one response of the back's bytes
pub data TurnBy (asking : Asking) (replying : Replying) : Message → List ℕ → TurnSaid → Type 0 where
  answered_at_once : {m a : Message} {back : List ℕ} → asking m (answered a) → TurnBy asking replying m back (at_once back a)
  back_silent : {m : Message} {back text : List ℕ} → asking m (asks text) → Framed of_responses back no_message
      → TurnBy asking replying m back (back_lost text Ended BackEnded)
  back_cut : {m : Message} {back text : List ℕ} → asking m (asks text) → Framed of_responses back (message_refused Ended)
      → TurnBy asking replying m back (back_lost text Ended BackEnded)
  back_refused : {m : Message} {back text : List ℕ} {why : HttpRefusal} → asking m (asks text) → Framed of_responses back (message_refused why)
      → why ≢ Ended → TurnBy asking replying m back (back_lost text why (BackFraming why))
  back_replied : {m said a : Message} {back text rest : List ℕ} → asking m (asks text) → Framed of_responses back (message said rest)
      → replying m said a → TurnBy asking replying m back (replied_with text said rest a)
