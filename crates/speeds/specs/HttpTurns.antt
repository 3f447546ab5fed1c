-- What is read, whatever the number of turns.
use Rattle.std.specs.Prelude.{List, ℕ, Option, Some, None, Result, Ok, Err}
use Rattle.sm_http.specs.declared.message.Message.{Message}
use Rattle.sm_http.specs.declared.message.MessageSide.{MessageSide}
use Rattle.sm_http.specs.declared.refusal.HttpRefusal.{HttpRefusal}
use Rattle.sm_http.specs.Framed.{Framed, no_message, message}

-- the message that the bytes begin with, or none
abbrev pub MessageOf : MessageSide → List ℕ → Result (Option Message) HttpRefusal → Type 0
MessageOf side bytes (Ok None) = Framed side bytes no_message
MessageOf side bytes (Ok (Some said)) = (rest : List ℕ) × Framed side bytes (message said rest)
MessageOf side bytes (Err refusal) = Unit {0}
