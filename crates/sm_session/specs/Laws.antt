-- What is to hold of sessions: bytes come to one session, and never to none, where one turn does.
use Rattle.std.specs.Prelude.{◌≡◌, ◌≤◌, ℕ, List}
use Rattle.sm_http.specs.declared.message.Message.{Message}
use Rattle.sm_session.specs.Turns.{Asking, Asked, asks, Replying, Turning, TurnSaid}
use Rattle.sm_session.specs.Sessions.{SessionSaid, TurnsFrom}

-- a request comes to one thing at most, and never to none
abbrev pub HasOneAsked : Asking → Type 0
HasOneAsked asking = (m : Message) (a b : Asked) → asking m a → asking m b → a ≡ b

abbrev pub HasSomeAsked : Asking → Type 0
HasSomeAsked asking = (m : Message) → ((a : Asked) → asking m a → ⊥) → ⊥

-- so does what the back answers to what it was asked
abbrev pub HasOneReply : Replying → Type 0
HasOneReply replying = (m said a b : Message) → replying m said a → replying m said b → a ≡ b

abbrev pub HasSomeReply : Asking → Replying → Type 0
HasSomeReply asking replying =
    (m said : Message) (text : List ℕ) → asking m (asks text) → ((a : Message) → replying m said a → ⊥) → ⊥

-- one turn comes to one thing
abbrev pub HasOneTurn : Turning → Type 0
HasOneTurn turning = (m : Message) (back : List ℕ) (a b : TurnSaid) → turning m back a → turning m back b → a ≡ b

abbrev pub HasSomeTurn : Turning → Type 0
HasSomeTurn turning = (m : Message) (back : List ℕ) → ((a : TurnSaid) → turning m back a → ⊥) → ⊥

-- bytes come to one session at most
abbrev pub HasOneSession : Turning → Type 0
HasOneSession turning =
    (left : ℕ) (front back : List ℕ) (a b : SessionSaid) → TurnsFrom turning left front back a → TurnsFrom turning left front back b → a ≡ b

-- no bytes are without a session: it can't be that each of them is denied
abbrev pub HasSomeSession : Turning → Type 0
HasSomeSession turning =
    (left : ℕ) (front back : List ℕ) → 1 ≤ left → ((a : SessionSaid) → TurnsFrom turning left front back a → ⊥) → ⊥
