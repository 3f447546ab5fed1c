-- A message that is taken of a source and handed to a responder.
use Rattle.std.specs.Prelude.{◌≡◌, ℕ, Bool, List, [], ◌++◌, Option, Some, None, Result, Ok, Err}
use Rattle.sm_http.specs.declared.message.Head.{Head}
use Rattle.sm_http.specs.declared.message.Message.{Message}
use Rattle.sm_http.specs.declared.message.MessageSide.{MessageSide}
use Rattle.sm_http.specs.declared.message.MessageSide.TheVariants.{Request as of_requests, Response as of_responses}
use Rattle.sm_http.specs.declared.refusal.HttpRefusal.{HttpRefusal}
use Rattle.sm_http.specs.Framed.{no_message, message, message_refused, Framed}
use Rattle.sm_http.specs.Connections.{says_close}
use Rattle.sm_http.specs.Calls.{IfAhead, Uses, RefusedAs, IsOpen}
use Rattle.sm_session.specs.declared.responder.Turn.{Turn}
use Rattle.sm_session.specs.Turns.{Asking, Replying}
use Rattle.sm_session.specs.Responding.{ComesTo}
use Rattle.sm_session.specs.steps.Feeding.{message_of}

abbrev pub RefusesMessage : MessageSide → Option (List ℕ) → Option (List ℕ) → HttpRefusal → Type 0
RefusesMessage side ahead left why =
    RefusedAs ahead left (λ bytes word. Framed side bytes (message_refused word)) (IsOpen side) why

abbrev pub HasNone : MessageSide → Option (List ℕ) → Option (List ℕ) → Type 0
HasNone side ahead now = IfAhead ahead now (λ bytes rest. Framed side bytes no_message × (rest ≡ []))

-- the next request, and what it comes to
abbrev pub TakesRequest : {C : Type 0} → Asking → (C → Message → Type 0) → Option (List ℕ) → Option (List ℕ) → Option (List ℕ) → List ℕ
    → List ℕ → Result (Option (Head × Turn C)) HttpRefusal → Type 0
TakesRequest asking calls ahead now left before out (Ok None) = HasNone of_requests ahead now
TakesRequest asking calls ahead now left before out (Ok (Some taken)) =
    (content : List ℕ) × Uses ahead now (λ used more. Framed of_requests (used ++ more) (message (message_of taken.0 content) more))
    × ComesTo asking calls (message_of taken.0 content) before out taken.1
TakesRequest asking calls ahead now left before out (Err why) = RefusesMessage of_requests ahead left why

-- the back's answer to a request, and whether it ends its connection
abbrev pub TakesReply : Replying → (Message → Type 0) → Option (List ℕ) → Option (List ℕ) → Option (List ℕ)
    → Result (Option (Message × Bool)) HttpRefusal → Type 0
TakesReply replying called ahead now left (Ok None) = HasNone of_responses ahead now
TakesReply replying called ahead now left (Ok (Some taken)) =
    (m : Message) → called m
    → (said : Message) × Uses ahead now (λ used more. Framed of_responses (used ++ more) (message said more))
    × replying m said taken.0 × (taken.1 ≡ says_close said.head)
TakesReply replying called ahead now left (Err why) = RefusesMessage of_responses ahead left why
