-- What the steps of the command `cross` come to.
use Rattle.std.specs.Prelude.{◌≡◌, ◌≤◌, ℕ, List, [], Option, Some, None, Result, Ok, Err, IfSome, IsErrOf, length}
use Rattle.std.specs.Io.KnownBytes.{Appends}
use Rattle.sm_io.specs.Causes.{HasCause, Quiet, Rose}
use Rattle.sm_io.specs.Files.{Folder, Holds, WritesFile}
use Rattle.sm_io.specs.Seen.{FilesSeen, LinkSeen, Stream}
use Rattle.sm_io.specs.Writing.{AppendsPrefix}
use Rattle.sm_io.specs.declared.files.FileRefusal.{FileRefusal}
use Rattle.sm_io.specs.declared.files.FileRefusal.TheVariants.{Failed, TooLong, NoMemory as no_room}
use Rattle.sm_shapes.specs.Fitting.{Test}
use Rattle.sm_compile.specs.Answers.{StoreSeen}
use Rattle.sm_asked_gateway.specs.service.ServiceData.{ServiceData}
use Rattle.sm_session.specs.Sessions.{SessionSaid, flat}
use Rattle.sm_session.specs.declared.session_end.SessionEnd.{SessionEnd}
use Rattle.sm_session.specs.declared.session_end.SessionEnd.TheVariants.{Closed, Quota, FrontEnded, BackEnded, FrontFraming, BackFraming}
use Rattle.sm_session.specs.declared.session_end.SessionEnd.TheVariants.{FrontRead, FrontWrite, BackRead, BackWrite, NoMemory}
use Rattle.sm_asked_ends.specs.asked.Comes.{StepStops}
use Rattle.sm_asked_ends.specs.asked.Limits.{file_limit}
use Rattle.sm_asked_ends.specs.asked.Stages.{told}
use Rattle.sm_asked_ends.specs.asked.declared.status.Status.{Status}
use Rattle.sm_asked_ends.specs.asked.declared.status.Status.TheVariants.{WriteFault, NoMemory as ends_by_memory}
use Rattle.sm_asked_ends.specs.asked.declared.stop.CommandStop.{CommandStop}
use Rattle.sm_asked_ends.specs.asked.steps.FileSteps.{PassesLimit}
use Rattle.sm_asked_gateway.specs.asked_service.LoadsService.{StopsBefore}
use Rattle.sm_asked_gateway.specs.gateway.GatewayData.{GatewayData}
use Rattle.sm_asked_gateway.specs.gateway.GatewayTurns.{Session}
use Rattle.sm_asked_gateway.specs.gateway.GatewayView.{gateway_data}
use Rattle.sm_cross_command.specs.Cross.{CrossAnswers, end_status}
use Rattle.sm_cross_command.specs.CrossStages.{CrossOpens, gateway_of}
use Rattle.sm_cross_command.specs.CrossWords.{CrossAsked}
use Rattle.sm_cross_command.specs.declared.cross.Opened.{Opened}

-- ---- what stands before a session

-- a gateway of the service, and the bytes of the back
pub record IsOpened (files : Option Folder) (w : CrossAsked) (s : ServiceData) (o : Opened) : Type 0 where
  pub held : Holds files w.back_file (Some o.back.items)
  pub within : length o.back.items ≤ file_limit
  pub gateway : Path GatewayData (gateway_data o.gateway) (record { service = s; front = w.front; back = w.back; host = w.host })

abbrev pub OpensService : FilesSeen → FilesSeen → CrossAsked → ServiceData → Result Opened CommandStop → Type 0
OpensService files files1 w s (Ok o) = IsOpened files.held w s o
OpensService files files1 w s (Err stop) = StepStops (PassesLimit files.held w.back_file) (Rose files.read_faults files1.read_faults)
    (Unit {0}) stop

-- the session may begin, with this gateway and these bytes of the back
pub record IsOpenedCross (files : FilesSeen) (test : Test) (store : StoreSeen) (w : CrossAsked) (input : Option (List ℕ)) (o : Opened)
    : Type 0 where
  pub opens : CrossOpens (told files.held input test store None) w
  pub gateway : Path GatewayData (gateway_data o.gateway) (gateway_of (told files.held input test store None) w opens)
  pub back : o.back.items ≡ opens.back.bytes

abbrev pub OpensCross : FilesSeen → FilesSeen → Test → StoreSeen → StoreSeen → CrossAsked → Result Opened CommandStop → Type 0
OpensCross files files1 test store store1 w (Ok o) =
    (store1.refusals ≡ store.refusals) × ((input : Option (List ℕ)) → IsOpenedCross files test store w input o)
OpensCross files files1 test store store1 w (Err stop) = StopsBefore (λ t a. CrossAnswers t w a) files files1 test store store1 stop

-- ---- the session

-- the whole session of the front's bytes was put, and ended so
pub record WholeSession (g : GatewayData) (test : Test) (back : List ℕ) (out0 out1 : Stream) (requests : List ℕ) (end : SessionEnd)
    (front : List ℕ) : Type 0 where
  pub said : SessionSaid
  pub is : Session g test front back said
  pub ending : said.ending ≡ end
  pub answers : Appends out0.bytes out1.bytes (flat said.answers)
  pub requests_are : requests ≡ flat said.requests

-- by its end: the back, which is in memory, never fails
abbrev pub SessionEnds : GatewayData → Test → List ℕ → Stream → Stream → Stream → Stream → List ℕ → SessionEnd → Type 0
SessionEnds g test back in0 in1 out0 out1 requests Closed = IfSome in0.bytes (WholeSession g test back out0 out1 requests Closed)
SessionEnds g test back in0 in1 out0 out1 requests Quota = IfSome in0.bytes (WholeSession g test back out0 out1 requests Quota)
SessionEnds g test back in0 in1 out0 out1 requests FrontEnded = IfSome in0.bytes (WholeSession g test back out0 out1 requests FrontEnded)
SessionEnds g test back in0 in1 out0 out1 requests BackEnded = IfSome in0.bytes (WholeSession g test back out0 out1 requests BackEnded)
SessionEnds g test back in0 in1 out0 out1 requests (FrontFraming why) =
    IfSome in0.bytes (WholeSession g test back out0 out1 requests (FrontFraming why))
SessionEnds g test back in0 in1 out0 out1 requests (BackFraming why) =
    IfSome in0.bytes (WholeSession g test back out0 out1 requests (BackFraming why))
SessionEnds g test back in0 in1 out0 out1 requests FrontRead = Rose in0.faults in1.faults
SessionEnds g test back in0 in1 out0 out1 requests FrontWrite = Rose out0.faults out1.faults
SessionEnds g test back in0 in1 out0 out1 requests BackRead = ⊥
SessionEnds g test back in0 in1 out0 out1 requests BackWrite = ⊥
SessionEnds g test back in0 in1 out0 out1 requests NoMemory = Unit {0}

-- parts of what a session says were put
pub record PartsPut (out0 out1 : Stream) (requests : List ℕ) (said : SessionSaid) : Type 0 where
  pub answers : AppendsPrefix out0.bytes out1.bytes (flat said.answers)
  pub requests_are : AppendsPrefix (Some []) (Some requests) (flat said.requests)

pub record RanOver (g : GatewayData) (test : Test) (back : List ℕ) (in0 in1 out0 out1 : Stream) (requests : List ℕ) (end : SessionEnd)
    : Type 0 where
  pub so : SessionEnds g test back in0 in1 out0 out1 requests end
  pub parts : IfSome in0.bytes (λ front. (said : SessionSaid) → Session g test front back said → PartsPut out0 out1 requests said)

-- what a link was, whose back is these bytes and was asked these requests
abbrev pub RunsOver : GatewayData → Test → LinkSeen → LinkSeen → SessionEnd → Type 0
RunsOver g test before after end =
    (back requests : List ℕ) → before.back_in.bytes ≡ Some back → before.back_out.bytes ≡ Some [] → after.back_out.bytes ≡ Some requests
    → Quiet before.back_in.faults after.back_in.faults → Quiet before.back_out.faults after.back_out.faults
    → RanOver g test back before.front_in after.front_in before.front_out after.front_out requests end

-- ---- the requests are written, whatever the end

abbrev pub status_after : SessionEnd → Result (Unit {0}) FileRefusal → Status
status_after end (Ok done) = end_status end
status_after end (Err Failed) = WriteFault
status_after end (Err TooLong) = WriteFault
status_after end (Err no_room) = ends_by_memory

-- a session was run, and its requests were written, or not
pub record RunsAndWrites (g : GatewayData) (test : Test) (back name : List ℕ) (files files1 : FilesSeen) (in0 in1 out0 out1 : Stream)
    (status : Status) : Type 0 where
  pub requests : List ℕ
  pub end : SessionEnd
  pub ran : RanOver g test back in0 in1 out0 out1 requests end
  pub result : Result (Unit {0}) FileRefusal
  pub writes : WritesFile files.held files1.held name requests result
  pub cause : HasCause (IsErrOf result Failed) files.write_faults files1.write_faults
  pub is : status ≡ status_after end result
