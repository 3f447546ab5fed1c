-- One turn that is run, step by step.
use Rattle.std.specs.Prelude.{◌≡◌, ◌⊎◌, ℕ, suc, ◌<◌, List, ◌++◌, is_some, IfSome, Option, Some, None, Result, Ok, Err}
use Rattle.std.specs.Io.KnownBytes.{Keeps, Appends}
use Rattle.sm_io.specs.Causes.{Rose}
use Rattle.sm_io.specs.Seen.{Stream, LinkSeen}
use Rattle.sm_io.specs.Writing.{AppendsPrefix}
use Rattle.sm_http.specs.declared.message.Head.{Head}
use Rattle.sm_http.specs.declared.message.Message.{Message}
use Rattle.sm_http.specs.declared.message.MessageSide.TheVariants.{Response as of_responses}
use Rattle.sm_http.specs.declared.refusal.HttpRefusal.{HttpRefusal}
use Rattle.sm_http.specs.declared.refusal.HttpRefusal.TheVariants.{ReadFault, HeadTooLarge, Coding, Length, TooLong, Chunk}
use Rattle.sm_http.specs.declared.refusal.HttpRefusal.TheVariants.{Head as BadHead, Ended as CutOff, NoMemory as OutOfMemory}
use Rattle.sm_http.specs.Framed.{no_message, message, message_refused, Framed}
use Rattle.sm_http.specs.Connections.{says_close}
use Rattle.sm_http.specs.Calls.{IfTaken, Uses, IsOpen}
use Rattle.sm_session.specs.declared.session_end.SessionEnd.{SessionEnd}
use Rattle.sm_session.specs.declared.session_end.SessionEnd.TheVariants.{Closed, Quota, FrontEnded, BackEnded, FrontFraming, BackFraming}
use Rattle.sm_session.specs.declared.session_end.SessionEnd.TheVariants.{FrontRead, FrontWrite, BackRead, BackWrite, NoMemory}
use Rattle.sm_session.specs.declared.turning.Answered.{Answered}
use Rattle.sm_session.specs.OwnAnswers.{framing_text, back_answer}
use Rattle.sm_session.specs.Turns.{Asking, asks, Replying, Turning, TurnSaid, back_end}
use Rattle.sm_session.specs.Sessions.{piece_of, flat, turn_end, answer_text}
use Rattle.sm_session.specs.Ends.{CountsStay, SessionRun}
use Rattle.sm_session.specs.steps.Played.{Played}

abbrev pub turn_said : Option (List ℕ) → List ℕ → Message → Option SessionEnd → TurnSaid
turn_said request behind answer ending = record { request = request; behind = behind; answer = answer; ending = ending }

-- a request comes to this, by the bytes of the back that are ahead, and where nothing ends by so many of them, whatever follows
pub record TurnsSo (turning : Turning) (m : Message) (ahead now : Option (List ℕ)) (request : Option (List ℕ)) (answer : Message)
    (ending : Option SessionEnd) : Type 0 where
  pub told : IfSome ahead (λ back. (behind : List ℕ) × turning m back (turn_said request behind answer ending))
  pub on : ending ≡ None → Uses ahead now (λ used more. turning m (used ++ more) (turn_said request more answer ending))

-- an end of a session that says what bytes come to: no fault
abbrev pub IsSaid : SessionEnd → Type 0
IsSaid Closed = Unit {0}
IsSaid Quota = Unit {0}
IsSaid FrontEnded = Unit {0}
IsSaid BackEnded = Unit {0}
IsSaid (FrontFraming why) = Unit {0}
IsSaid (BackFraming why) = Unit {0}
IsSaid FrontRead = ⊥
IsSaid FrontWrite = ⊥
IsSaid BackRead = ⊥
IsSaid BackWrite = ⊥
IsSaid NoMemory = ⊥

abbrev pub IsBackEnd : Option SessionEnd → Type 0
IsBackEnd None = Unit {0}
IsBackEnd (Some end) = IsSaid end

-- what the turn of a request comes to, once its text is put to the back; or why it doesn't
abbrev pub AnswersSo : Asking → Turning → Message → Stream → Stream → Option (List ℕ) → Stream → Stream → Result Answered SessionEnd → Type 0
AnswersSo asking turning m in0 in1 left out0 out1 (Ok said) =
    (request : Option (List ℕ)) × TurnsSo turning m in0.bytes in1.bytes request said.answer said.ending
    × IsBackEnd said.ending × Appends out0.bytes out1.bytes (flat (piece_of request))
AnswersSo asking turning m in0 in1 left out0 out1 (Err BackWrite) =
    (text : List ℕ) × asking m (asks text) × AppendsPrefix out0.bytes out1.bytes text × Rose out0.faults out1.faults
AnswersSo asking turning m in0 in1 left out0 out1 (Err BackRead) =
    (text : List ℕ) × asking m (asks text) × Appends out0.bytes out1.bytes text × Rose in0.faults in1.faults
    × IfTaken in0.bytes left (IsOpen of_responses)
AnswersSo asking turning m in0 in1 left out0 out1 (Err NoMemory) =
    (text : List ℕ) × asking m (asks text) × AppendsPrefix out0.bytes out1.bytes text
AnswersSo asking turning m in0 in1 left out0 out1 (Err Closed) = ⊥
AnswersSo asking turning m in0 in1 left out0 out1 (Err Quota) = ⊥
AnswersSo asking turning m in0 in1 left out0 out1 (Err FrontEnded) = ⊥
AnswersSo asking turning m in0 in1 left out0 out1 (Err BackEnded) = ⊥
AnswersSo asking turning m in0 in1 left out0 out1 (Err (FrontFraming why)) = ⊥
AnswersSo asking turning m in0 in1 left out0 out1 (Err (BackFraming why)) = ⊥
AnswersSo asking turning m in0 in1 left out0 out1 (Err FrontRead) = ⊥
AnswersSo asking turning m in0 in1 left out0 out1 (Err FrontWrite) = ⊥

-- the back's bytes are no answer: this is answered, and ends the session so
abbrev pub IsLost : HttpRefusal → SessionEnd → Result Answered SessionEnd → Type 0
IsLost why end (Ok said) = (said.answer ≡ back_answer why) × (said.ending ≡ Some end)
IsLost why end (Err fault) = fault ≡ NoMemory

abbrev pub LosesBack : HttpRefusal → Result Answered SessionEnd → Type 0
LosesBack ReadFault result = result ≡ Err BackRead
LosesBack OutOfMemory result = result ≡ Err NoMemory
LosesBack CutOff result = IsLost CutOff BackEnded result
LosesBack BadHead result = IsLost BadHead (BackFraming BadHead) result
LosesBack HeadTooLarge result = IsLost HeadTooLarge (BackFraming HeadTooLarge) result
LosesBack Coding result = IsLost Coding (BackFraming Coding) result
LosesBack Length result = IsLost Length (BackFraming Length) result
LosesBack TooLong result = IsLost TooLong (BackFraming TooLong) result
LosesBack Chunk result = IsLost Chunk (BackFraming Chunk) result

-- the back's answer to a request that it was asked, or that it is none; or why nothing was read
abbrev pub RepliesSo : Replying → (Message → Type 0) → Stream → Stream → Option (List ℕ) → Result Answered SessionEnd → Type 0
RepliesSo replying called in0 in1 left (Ok said) =
    ((m : Message) → called m
    → (b : Message) × Uses in0.bytes in1.bytes (λ used more. Framed of_responses (used ++ more) (message b more))
    × replying m b said.answer × (said.ending ≡ back_end (says_close b.head)))
    ⊎ (IfSome in0.bytes (λ bytes. Framed of_responses bytes no_message) × IsLost CutOff BackEnded (Ok said))
    ⊎ ((why : HttpRefusal) × IfSome in0.bytes (λ bytes. Framed of_responses bytes (message_refused why)) × LosesBack why (Ok said))
RepliesSo replying called in0 in1 left (Err BackRead) =
    Rose in0.faults in1.faults × IfTaken in0.bytes left (IsOpen of_responses)
RepliesSo replying called in0 in1 left (Err NoMemory) = Unit {0}
RepliesSo replying called in0 in1 left (Err Closed) = ⊥
RepliesSo replying called in0 in1 left (Err Quota) = ⊥
RepliesSo replying called in0 in1 left (Err FrontEnded) = ⊥
RepliesSo replying called in0 in1 left (Err BackEnded) = ⊥
RepliesSo replying called in0 in1 left (Err (FrontFraming why)) = ⊥
RepliesSo replying called in0 in1 left (Err (BackFraming why)) = ⊥
RepliesSo replying called in0 in1 left (Err FrontRead) = ⊥
RepliesSo replying called in0 in1 left (Err FrontWrite) = ⊥
RepliesSo replying called in0 in1 left (Err BackWrite) = ⊥

-- ---- the front

-- what a refusal of the front's bytes comes to
abbrev pub Refused : HttpRefusal → Stream → Stream → SessionEnd → Type 0
Refused why out0 out1 end =
    ((end ≡ FrontFraming why) × Appends out0.bytes out1.bytes (framing_text why))
    ⊎ ((end ≡ FrontWrite) × AppendsPrefix out0.bytes out1.bytes (framing_text why) × Rose out0.faults out1.faults)
    ⊎ ((end ≡ NoMemory) × Keeps out0.bytes out1.bytes)

abbrev pub RefusesFront : HttpRefusal → Stream → Stream → SessionEnd → Type 0
RefusesFront ReadFault out0 out1 end = (end ≡ FrontRead) × Keeps out0.bytes out1.bytes
RefusesFront OutOfMemory out0 out1 end = (end ≡ NoMemory) × Keeps out0.bytes out1.bytes
RefusesFront CutOff out0 out1 end = (end ≡ FrontEnded) × Keeps out0.bytes out1.bytes
RefusesFront BadHead out0 out1 end = Refused BadHead out0 out1 end
RefusesFront HeadTooLarge out0 out1 end = Refused HeadTooLarge out0 out1 end
RefusesFront Coding out0 out1 end = Refused Coding out0 out1 end
RefusesFront Length out0 out1 end = Refused Length out0 out1 end
RefusesFront TooLong out0 out1 end = Refused TooLong out0 out1 end
RefusesFront Chunk out0 out1 end = Refused Chunk out0 out1 end

-- what the answer of a turn is put as, and the end behind it
abbrev pub FinishesTurn : ℕ → Head → Answered → Stream → Stream → Option SessionEnd → Type 0
FinishesTurn after asked said out0 out1 result =
    ((result ≡ turn_end after asked said.ending)
    × Appends out0.bytes out1.bytes (answer_text asked (is_some (turn_end after asked said.ending)) said.answer))
    ⊎ ((result ≡ Some FrontWrite)
    × AppendsPrefix out0.bytes out1.bytes (answer_text asked (is_some (turn_end after asked said.ending)) said.answer)
    × Rose out0.faults out1.faults)
    ⊎ ((result ≡ Some NoMemory) × Keeps out0.bytes out1.bytes)

-- ---- a whole turn

-- the session goes on behind a turn
pub record TurnRan (turning : Turning) (after : ℕ) (before now : LinkSeen) : Type 0 where
  pub answers : List (List ℕ)
  pub requests : List (List ℕ)
  pub played : Played turning (suc after) after before.front_in.bytes now.front_in.bytes before.back_in.bytes now.back_in.bytes answers requests
  pub put_answers : Appends before.front_out.bytes now.front_out.bytes (flat answers)
  pub put_requests : Appends before.back_out.bytes now.back_out.bytes (flat requests)
  pub counts : CountsStay before now
  pub more : 0 < after

-- `now` has the bytes that are ahead behind the turn, and `left` those that the sources have left
abbrev pub RunsTurn : Turning → ℕ → LinkSeen → LinkSeen → LinkSeen → Option SessionEnd → Type 0
RunsTurn turning after before now left None = TurnRan turning after before now
RunsTurn turning after before now left (Some end) = SessionRun turning (suc after) before left end
