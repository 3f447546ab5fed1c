-- What a responder does: it reads a request by pieces, and says what it comes to; and so the back's answer to a request.
use Rattle.std.specs.Prelude.{◌≡◌, ℕ, Bool, true, false, List, [], ◌∷◌, ◌++◌, Option, Some, None, Result, Ok, Err}
use Rattle.sm_http.specs.declared.message.Head.{Head}
use Rattle.sm_http.specs.declared.message.Message.{Message}
use Rattle.sm_bytes.specs.declared.no_memory.NoMemory.{NoMemory as OutOfMemory}
use Rattle.sm_session.specs.declared.responder.Turn.{Turn}
use Rattle.sm_session.specs.declared.responder.Turn.TheVariants.{Answered, Asking as AskingBack}
use Rattle.sm_session.specs.Turns.{Asking, answered, asks, Replying}

-- a message that is read: its head, whether its body is empty, and of the back's answer the request that it answers
pub record Begun : Type 0 where
  pub request : Option Message
  pub head : Head
  pub empty : Bool

abbrev pub is_empty : List ℕ → Bool
is_empty [] = true
is_empty (b ∷ bytes) = false

-- a whole message was begun so
abbrev pub begun_for : Option Message → Message → Begun
begun_for request said = record { request = request; head = said.head; empty = is_empty said.body }

-- which message, and how much of its body, is being read
abbrev pub Reads : Type 1
Reads = Begun → List ℕ → Type 0

-- a piece more was read, behind whatever was read
abbrev pub ReadsOn : Reads → Reads → List ℕ → Type 0
ReadsOn before now piece = (begun : Begun) (bytes : List ℕ) → before begun bytes → now begun (bytes ++ piece)

-- what is held behind a piece is within the bounds of the bytes that were read, whatever they were
abbrev pub HoldsOn : Reads → (List ℕ → Type 0) → List ℕ → Type 0
HoldsOn before holds piece = (begun : Begun) (bytes : List ℕ) → before begun bytes → holds (bytes ++ piece)

-- some of a message was read
abbrev pub HasRead : Reads → Type 0
HasRead reads = (begun : Begun) × (bytes : List ℕ) × reads begun bytes

-- the whole body of a request was read, or of the back's answer to one
abbrev pub HasReadRequest : Reads → Type 0
HasReadRequest reads = (m : Message) × reads (begun_for None m) m.body

abbrev pub HasReadReply : Reads → Type 0
HasReadReply reads = (m : Message) × (said : Message) × reads (begun_for (Some m) said) said.body

-- some request was asked
abbrev pub HasAsked : (Message → Type 0) → Type 0
HasAsked called = (m : Message) × called m

-- the request that was read comes to this: the text that the back is asked was appended, or there is an answer
abbrev pub ComesTo : {C : Type 0} → Asking → (C → Message → Type 0) → Message → List ℕ → List ℕ → Turn C → Type 0
ComesTo asking calls m before now (Answered answer) = asking m (answered answer)
ComesTo asking calls m before now (AskingBack call) =
    (text : List ℕ) × asking m (asks text) × (now ≡ before ++ text) × calls call m

-- a request whose whole body was read
abbrev pub FinishesRequest : {C : Type 0} → Asking → (C → Message → Type 0) → Reads → List ℕ → List ℕ → Result (Turn C) OutOfMemory → Type 0
FinishesRequest asking calls reads before now (Ok turn) =
    (m : Message) → reads (begun_for None m) m.body → ComesTo asking calls m before now turn
FinishesRequest asking calls reads before now (Err refusal) = Unit {0}

-- the back's answer whose whole body was read
abbrev pub FinishesReply : Replying → Reads → Result Message OutOfMemory → Type 0
FinishesReply replying reads (Ok answer) = (m said : Message) → reads (begun_for (Some m) said) said.body → replying m said answer
FinishesReply replying reads (Err refusal) = Unit {0}
