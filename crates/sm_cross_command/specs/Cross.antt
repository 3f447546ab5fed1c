-- What the command `cross` comes to, over bytes alone. The decisions stand in their order: those of the service, which are the model files,
-- the service and its patterns; the length of the back's file. Then the session of the input and of that file: its answers are put, its
-- requests are written, and its end is the status. No line is printed once it began.
use Rattle.std.specs.Prelude.{◌≡◌, ℕ, true, List, [], ◌∷◌, ◌++◌, Some}
use Rattle.sm_session.specs.Sessions.{SessionSaid, flat}
use Rattle.sm_session.specs.declared.session_end.SessionEnd.{SessionEnd}
use Rattle.sm_session.specs.declared.session_end.SessionEnd.TheVariants.{Closed, Quota, FrontEnded, BackEnded, FrontFraming, BackFraming}
use Rattle.sm_session.specs.declared.session_end.SessionEnd.TheVariants.{FrontRead, FrontWrite, BackRead, BackWrite}
use Rattle.sm_session.specs.declared.session_end.SessionEnd.TheVariants.{NoMemory as out_of_memory}
use Rattle.sm_asked_ends.specs.asked.Answer.{Answer, Came, FileWritten, came, came_writing, past}
use Rattle.sm_asked_ends.specs.asked.Answer.InputUse.{in_part, untouched}
use Rattle.sm_asked_ends.specs.asked.CommandAsked.{CommandAsked}
use Rattle.sm_asked_ends.specs.asked.Lines.{file_limit_line}
use Rattle.sm_asked_ends.specs.asked.Stages.{Told, FileTooLong, IsInput}
use Rattle.sm_asked_ends.specs.asked.declared.status.Status.{Status}
use Rattle.sm_asked_ends.specs.asked.declared.status.Status.TheVariants.{Done, Limit, NoMemory, ReadFault, Refused, WriteFault}
use Rattle.sm_asked_gateway.specs.asked_service.ServiceAnswers.{ServiceAnswers}
use Rattle.sm_asked_gateway.specs.asked_service.ServiceStages.{ServiceMade}
use Rattle.sm_asked_gateway.specs.gateway.GatewayTurns.{Session}
use Rattle.sm_cross_command.specs.CrossStages.{CrossOpens, gateway_of}
use Rattle.sm_cross_command.specs.CrossWords.{CrossAsked}

-- the status of a session's end
abbrev pub end_status : SessionEnd → Status
end_status Closed = Done
end_status Quota = Limit
end_status FrontEnded = Refused
end_status BackEnded = Refused
end_status (FrontFraming why) = Refused
end_status (BackFraming why) = Refused
end_status FrontRead = ReadFault
end_status FrontWrite = WriteFault
end_status BackRead = ReadFault
end_status BackWrite = WriteFault
end_status out_of_memory = NoMemory

abbrev pub session_answer : SessionSaid → Answer
session_answer said = record { status = end_status said.ending; text = flat said.answers }

abbrev pub requests_file : List ℕ → SessionSaid → FileWritten
requests_file name said = record { name = name; bytes = flat said.requests }

-- the answers before a session
pub data CrossAnswers (t : Told) (w : CrossAsked) (a : Answer) : Type 0 where
  not_made : ServiceAnswers t w.models w.service a → CrossAnswers t w a
  long_back : ServiceMade t w.models w.service → FileTooLong t.files w.back_file → a ≡ past file_limit_line → CrossAnswers t w a

-- what the command comes to
pub data CrossSays (t : Told) (w : CrossAsked) (c : Came) : Type 0 where
  not_opened : (a : Answer) → CrossAnswers t w a → c ≡ came untouched a → CrossSays t w c
  session : (opens : CrossOpens t w) → (front : List ℕ) → IsInput t.input front → (said : SessionSaid)
      → Session (gateway_of t w opens) t.test front opens.back.bytes said
      → c ≡ came_writing in_part (session_answer said) (Some (requests_file w.out_file said)) → CrossSays t w c

abbrev pub cross_asked : CrossAsked → CommandAsked
cross_asked w = record {
  reads = w.models ++ w.back_file ∷ [];
  writes = w.out_file ∷ [];
  touches_input = true;
  streams = true;
  says = λ t c. CrossSays t w c;
  reaches = λ t. CrossOpens t w;
}
