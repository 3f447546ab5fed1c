-- A responder of rows, of which all is a function of what it reads: it answers with the body of a message, its own or the back's.
use Rattle.std.specs.Prelude.{◌≡◌, ◌≤◌, ℕ, Bool, false, List, if◌then◌else◌, codes, length}
use Rattle.std.specs.Str.{bytes_eq}
use Rattle.sm_http.specs.declared.message.Head.{Head}
use Rattle.sm_http.specs.declared.message.Message.{Message}
use Rattle.sm_http.specs.declared.message.Start.{Start}
use Rattle.sm_http.specs.declared.message.Start.TheVariants.{Request, Response}
use Rattle.sm_session.specs.OwnAnswers.{line_answer}
use Rattle.sm_session.specs.Turns.{Asked, answered, asks}
use Rattle.sm_session.specs.Responding.{Begun}
use Rattle.session_rows.specs.declared.echo.EchoBody.{EchoBody}

-- a request to this target is answered at once
abbrev pub starts_here : Start → Bool
starts_here (Request method target) = bytes_eq target (codes "/here")
starts_here (Response status) = false

abbrev pub echo : Message → Message
echo said = line_answer 200 said.body

-- the back is asked the body of a request
abbrev pub echo_asked : Message → Asked
echo_asked m = if starts_here m.head.start then answered (echo m) else asks m.body

abbrev pub EchoAsks : Message → Asked → Type 0
EchoAsks m a = a ≡ echo_asked m

abbrev pub EchoReplies : Message → Message → Message → Type 0
EchoReplies m said a = a ≡ echo said

-- what was read of a message is kept
abbrev pub EchoReads : EchoBody → Begun → List ℕ → Type 0
EchoReads body begun bytes = (body.bytes.items ≡ bytes) × (body.here ≡ starts_here begun.head.start)

-- and nothing beside
abbrev pub EchoHolds : EchoBody → List ℕ → Type 0
EchoHolds body bytes = length body.bytes.items ≤ length bytes
