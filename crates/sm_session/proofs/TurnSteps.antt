-- A turn from its steps: the request that was read, what it came to, and what was put.
use Rattle.std.proofs.Common.{◌≡◌, ◌≤◌, ℕ, suc, false, List, [], ◌++◌, refl, sym, subst, append_assoc, inl, inr, Option, Some, None, Ok, Err}
use Rattle.std.specs.Prelude.{is_some}
use Rattle.std.specs.Io.KnownBytes.{prepend_known, Consumes, Appends}
use Rattle.sm_io.specs.Reading.{LosesPrefix}
use Rattle.sm_io.specs.Seen.{Stream, LinkSeen}
use Rattle.sm_io.specs.Writing.{AppendsPrefix}
use Rattle.sm_http.specs.declared.message.Message.{Message}
use Rattle.sm_http.specs.declared.message.MessageSide.TheVariants.{Request as of_requests}
use Rattle.sm_http.specs.Framed.{message, Framed}
use Rattle.sm_http.specs.Calls.{Uses}
use Rattle.sm_http.specs.Laws.{HasOneFraming}
use Rattle.sm_session.specs.declared.session_end.SessionEnd.{SessionEnd}
use Rattle.sm_session.specs.declared.session_end.SessionEnd.TheVariants.{Closed, Quota, FrontEnded, BackEnded, FrontFraming, BackFraming}
use Rattle.sm_session.specs.declared.session_end.SessionEnd.TheVariants.{FrontRead, FrontWrite, BackRead, BackWrite, NoMemory}
use Rattle.sm_session.specs.declared.turning.Answered.{Answered}
use Rattle.sm_session.specs.declared.responder.Turn.{Turn}
use Rattle.sm_session.specs.Turns.{Asking, Replying, TurnBy}
use Rattle.sm_session.specs.Responding.{ComesTo}
use Rattle.sm_session.specs.Sessions.{flat, piece_of, turn_end, answer_text}
use Rattle.sm_session.specs.Ends.{EndsSo, SessionRun}
use Rattle.sm_session.specs.Laws.{HasOneAsked, HasOneTurn, HasOneSession}
use Rattle.sm_session.specs.steps.Turning.{AnswersSo, FinishesTurn, RunsTurn}
use Rattle.sm_session.proofs.TurnExits.{IsKept, nothing_put, kept_none, whole_prefix}
use Rattle.sm_session.proofs.TurnsEnded.{asked_run, unanswered, last_run, turn_ran, part_run}

-- ---- what is held

-- a source behind what is held of it
pub held_used : (held : List ℕ) (left : Option (List ℕ)) → Consumes (prepend_known held left) left held
held_used held None = tt
held_used held (Some bytes) = refl

taken_behind_held : (held taken : List ℕ) (left rest : Option (List ℕ)) → Consumes left rest taken
    → Consumes (prepend_known held left) rest (held ++ taken)
taken_behind_held held taken None rest x = tt
taken_behind_held held taken (Some bytes) None x = absurd x
taken_behind_held held taken (Some bytes) (Some more) x = subst (λ s. held ++ s ≡ (held ++ taken) ++ more) (sym x) (sym (append_assoc held taken more))

-- a source that lost some, seen with what was held
pub loses_held : (held : List ℕ) (left rest : Option (List ℕ)) → LosesPrefix left rest → LosesPrefix (prepend_known held left) rest
loses_held held left rest (taken, x) = (held ++ taken, taken_behind_held held taken left rest x)

-- nothing is held at first
pub nothing_held : (left : Option (List ℕ)) → prepend_known [] left ≡ left
nothing_held None = refl
nothing_held (Some bytes) = refl

-- ---- the back wasn't heard

pub unheard_run : (asking : Asking) (replying : Replying) (after : ℕ) (before last : LinkSeen) (now in1 : Option (List ℕ)) (m : Message)
    (held : List ℕ) (end : SessionEnd) → HasOneAsked asking → HasOneFraming of_requests → IsKept before last
    → Uses before.front_in.bytes now (λ used more. Framed of_requests (used ++ more) (message m more))
    → Consumes now last.front_in.bytes held
    → Appends before.front_out.bytes last.front_out.bytes []
    → AnswersSo asking (TurnBy asking replying) m before.back_in (record { bytes = in1; faults = last.back_in.faults }) last.back_in.bytes
    before.back_out last.back_out (Err end)
    → SessionRun (TurnBy asking replying) (suc after) before last end
unheard_run asking replying after before last now in1 m held BackWrite one framing kept uses holds front (text, asked, put, rose) =
    asked_run asking replying after before last now m text BackWrite one framing kept uses asked front put rose
unheard_run asking replying after before last now in1 m held BackRead one framing kept uses holds front (text, asked, put, rose, taken) =
    asked_run asking replying after before last now m text BackRead one framing kept uses asked front
    (whole_prefix before.back_out.bytes last.back_out.bytes text put)
    (rose, unanswered asking replying after before last now m text held uses holds asked taken front put)
unheard_run asking replying after before last now in1 m held NoMemory one framing kept uses holds front (text, asked, put) =
    asked_run asking replying after before last now m text NoMemory one framing kept uses asked front put tt
unheard_run asking replying after before last now in1 m held Closed one framing kept uses holds front x = absurd x
unheard_run asking replying after before last now in1 m held Quota one framing kept uses holds front x = absurd x
unheard_run asking replying after before last now in1 m held FrontEnded one framing kept uses holds front x = absurd x
unheard_run asking replying after before last now in1 m held BackEnded one framing kept uses holds front x = absurd x
unheard_run asking replying after before last now in1 m held (FrontFraming why) one framing kept uses holds front x = absurd x
unheard_run asking replying after before last now in1 m held (BackFraming why) one framing kept uses holds front x = absurd x
unheard_run asking replying after before last now in1 m held FrontRead one framing kept uses holds front x = absurd x
unheard_run asking replying after before last now in1 m held FrontWrite one framing kept uses holds front x = absurd x

-- ---- the answer was put

pub put_run : (asking : Asking) (replying : Replying) (after : ℕ) (before now last : LinkSeen) (m : Message) (said : Answered)
    (end : Option SessionEnd) → HasOneFraming of_requests → HasOneTurn (TurnBy asking replying) → HasOneSession (TurnBy asking replying)
    → IsKept before last → now.front_out ≡ last.front_out → now.back_out ≡ last.back_out → now.front_in.faults ≡ last.front_in.faults
    → now.back_in.faults ≡ last.back_in.faults
    → Uses before.front_in.bytes now.front_in.bytes (λ used more. Framed of_requests (used ++ more) (message m more))
    → AnswersSo asking (TurnBy asking replying) m before.back_in now.back_in last.back_in.bytes before.back_out last.back_out (Ok said)
    → turn_end after m.head said.ending ≡ end
    → Appends before.front_out.bytes last.front_out.bytes (answer_text m.head (is_some end) said.answer)
    → RunsTurn (TurnBy asking replying) after before now last end
put_run asking replying after before now last m said None framing once one kept fronts backs front_faults back_faults uses
    (request, turns, own, asked) is put =
    turn_ran (TurnBy asking replying) after before now m request said.answer said.ending framing once
    (record {
      front_in = subst (λ n. before.front_in.faults ≤ n) (sym front_faults) kept.counts.front_in;
      front_out = subst (λ s. before.front_out.faults ≤ s.faults) (sym fronts) kept.counts.front_out;
      back_in = subst (λ n. before.back_in.faults ≤ n) (sym back_faults) kept.counts.back_in;
      back_out = subst (λ s. before.back_out.faults ≤ s.faults) (sym backs) kept.counts.back_out;
    })
    uses turns is
    (subst (λ s. Appends before.front_out.bytes s.bytes (answer_text m.head false said.answer)) (sym fronts) put)
    (subst (λ s. Appends before.back_out.bytes s.bytes (flat (piece_of request))) (sym backs) asked)
put_run asking replying after before now last m said (Some end) framing once one kept fronts backs front_faults back_faults uses
    (request, turns, own, asked) is put =
    last_run (TurnBy asking replying) after before last now.front_in.bytes now.back_in.bytes m request said.answer said.ending end one kept
    uses turns own is put asked

-- it wasn't, or in part
pub unput_run : (asking : Asking) (replying : Replying) (after : ℕ) (before last : LinkSeen) (front : Option (List ℕ)) (now : Stream)
    (m : Message) (said : Answered) (ending : Option SessionEnd) (end : SessionEnd) → HasOneFraming of_requests
    → HasOneTurn (TurnBy asking replying) → IsKept before last
    → Uses before.front_in.bytes front (λ used more. Framed of_requests (used ++ more) (message m more))
    → AnswersSo asking (TurnBy asking replying) m before.back_in now last.back_in.bytes
    before.back_out last.back_out (Ok said)
    → turn_end after m.head said.ending ≡ ending
    → AppendsPrefix before.front_out.bytes last.front_out.bytes (answer_text m.head (is_some ending) said.answer)
    → EndsSo (TurnBy asking replying) (suc after) before last end
    → SessionRun (TurnBy asking replying) (suc after) before last end
unput_run asking replying after before last front now m said ending end framing once kept uses (request, turns, own, asked) is put so =
    part_run (TurnBy asking replying) after before last front now.bytes m request said.answer said.ending end framing once kept uses turns
    (subst (λ e. AppendsPrefix before.front_out.bytes last.front_out.bytes (answer_text m.head (is_some e) said.answer)) (sym is) put)
    asked so

-- whichever it was
pub finishes_run : (asking : Asking) (replying : Replying) (after : ℕ) (before now last : LinkSeen) (m : Message) (said : Answered)
    (result : Option SessionEnd) → HasOneFraming of_requests → HasOneTurn (TurnBy asking replying) → HasOneSession (TurnBy asking replying)
    → IsKept before last → now.front_out ≡ last.front_out → now.back_out ≡ last.back_out → now.front_in.faults ≡ last.front_in.faults
    → now.back_in.faults ≡ last.back_in.faults
    → Uses before.front_in.bytes now.front_in.bytes (λ used more. Framed of_requests (used ++ more) (message m more))
    → AnswersSo asking (TurnBy asking replying) m before.back_in now.back_in last.back_in.bytes before.back_out last.back_out (Ok said)
    → FinishesTurn after m.head said before.front_out last.front_out result
    → RunsTurn (TurnBy asking replying) after before now last result
finishes_run asking replying after before now last m said result framing once one kept fronts backs front_faults back_faults uses answers
    (inl (is, put)) =
    subst (RunsTurn (TurnBy asking replying) after before now last) (sym is)
    (put_run asking replying after before now last m said (turn_end after m.head said.ending) framing once one kept fronts backs
    front_faults back_faults uses answers refl put)
finishes_run asking replying after before now last m said result framing once one kept fronts backs front_faults back_faults uses answers
    (inr (inl (is, put, rose))) =
    subst (RunsTurn (TurnBy asking replying) after before now last) (sym is)
    (unput_run asking replying after before last now.front_in.bytes now.back_in m said (turn_end after m.head said.ending) FrontWrite
    framing once kept uses answers refl put rose)
finishes_run asking replying after before now last m said result framing once one kept fronts backs front_faults back_faults uses answers
    (inr (inr (is, keeps))) =
    subst (RunsTurn (TurnBy asking replying) after before now last) (sym is)
    (unput_run asking replying after before last now.front_in.bytes now.back_in m said (turn_end after m.head said.ending) NoMemory
    framing once kept uses answers refl
    (nothing_put before.front_out.bytes last.front_out.bytes
    (answer_text m.head (is_some (turn_end after m.head said.ending)) said.answer)
    (kept_none before.front_out.bytes last.front_out.bytes keeps)) tt)

-- what was appended to a cleared vector
pub comes_alone : {C : Type 0} (asking : Asking) (calls : C → Message → Type 0) (m : Message) (before out text : List ℕ) (turn : Turn C)
    → before ≡ [] → text ≡ out → ComesTo asking calls m before out turn → ComesTo asking calls m [] text turn
comes_alone asking calls m before out text turn none same x =
    subst (λ s. ComesTo asking calls m [] s turn) (sym same) (subst (λ b. ComesTo asking calls m b out turn) none x)
