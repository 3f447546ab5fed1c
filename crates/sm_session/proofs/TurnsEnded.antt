-- The ways out of one turn whose request was read.
use Rattle.std.proofs.Common.{◌≡◌, ◌<◌, ℕ, zero, suc, Bool, true, false, List, [], ◌∷◌, ◌++◌, refl, sym, ap, ◌∙◌, subst, arith}
use Rattle.std.proofs.Common.{append-nil, inl, inr, Option, Some, None}
use Rattle.std.specs.Prelude.{is_some, if◌then◌else◌, ◌==◌}
use Rattle.std.specs.Io.KnownBytes.{Consumes, Appends}
use Rattle.sm_io.specs.Causes.{Rose}
use Rattle.sm_io.specs.Seen.{LinkSeen}
use Rattle.sm_io.specs.Writing.{AppendsPrefix}
use Rattle.sm_io.proofs.Told.{consumes_both}
use Rattle.sm_http.specs.declared.message.Message.{Message}
use Rattle.sm_http.specs.declared.message.MessageSide.TheVariants.{Request as of_requests, Response as of_responses}
use Rattle.sm_http.specs.declared.refusal.HttpRefusal.{HttpRefusal}
use Rattle.sm_http.specs.declared.refusal.HttpRefusal.TheVariants.{ReadFault, Ended, HeadTooLarge, Coding, Length, TooLong, Chunk}
use Rattle.sm_http.specs.declared.refusal.HttpRefusal.TheVariants.{Head as BadHead, NoMemory as OutOfMemory}
use Rattle.sm_http.specs.Framed.{message, Framed}
use Rattle.sm_http.specs.Connections.{says_close}
use Rattle.sm_http.specs.Calls.{Uses, IfTaken, IsOpen}
use Rattle.sm_http.specs.Laws.{HasOneFraming}
use Rattle.sm_session.specs.declared.session_end.SessionEnd.{SessionEnd}
use Rattle.sm_session.specs.declared.session_end.SessionEnd.TheVariants.{Closed, Quota, FrontEnded, BackEnded, FrontFraming, BackFraming}
use Rattle.sm_session.specs.declared.session_end.SessionEnd.TheVariants.{FrontRead, FrontWrite, BackRead, BackWrite, NoMemory}
use Rattle.sm_session.specs.OwnAnswers.{back_answer}
use Rattle.sm_session.specs.Turns.{Asking, asks, Replying, Turning, TurnSaid, TurnBy, back_silent, back_cut, back_lost}
use Rattle.sm_session.specs.Sessions.{SessionSaid, TurnsFrom, flat, ends, piece_of, turn_then, or_end, turn_end, answer_text, last_turn}
use Rattle.sm_session.specs.Ends.{IfBoth, PutsPrefixes, IsPutUnanswered, EndsSo, CountsStay, SessionRun}
use Rattle.sm_session.specs.Ends.{Ended as EndedSo}
use Rattle.sm_session.specs.Laws.{HasOneAsked, HasOneTurn, HasOneSession}
use Rattle.sm_session.specs.steps.Taking.{RefusesMessage}
use Rattle.sm_session.specs.steps.Turning.{turn_said, TurnsSo, IsSaid, IsBackEnd, TurnRan, RefusesFront}
use Rattle.sm_session.proofs.TurnsOnce.{asked_text}
use Rattle.sm_session.proofs.SessionViews.{BehindTurn, seen_by, seen_behind}
use Rattle.sm_session.proofs.SessionsThere.{turn_limit_ends}
use Rattle.sm_session.proofs.Playing.{played_turn}
use Rattle.sm_session.proofs.SessionRuns.{appends_none, prefix_flat}
use Rattle.sm_session.proofs.TurnExits.{IsKept, one_piece, nothing_put, first_prefix, used_told, kept_none, run_whole, run_nothing, cut_run}
use Rattle.sm_session.proofs.TurnExits.{failed_run, refused_run}

-- ---- what a session begins with

-- behind a request, whatever the turn's end, its text stands first, and its answer
first_request : (turning : Turning) (rest : List ℕ) (after : ℕ) (m : Message) (t : TurnSaid) (s : SessionSaid) (end : Option SessionEnd)
    → BehindTurn turning rest after m t s end → (more : List (List ℕ)) × (s.requests ≡ piece_of t.request ++ more)
first_request turning rest after m t s (Some end) x = ([], ap (λ y. y.requests) x)
first_request turning rest after m t s None x = (x.0.requests, ap (λ y. y.requests) x.2)

first_answer : (turning : Turning) (rest : List ℕ) (after : ℕ) (m : Message) (t : TurnSaid) (s : SessionSaid) (end : Option SessionEnd)
    → BehindTurn turning rest after m t s end → (more : List (List ℕ)) × (s.answers ≡ answer_text m.head (is_some end) t.answer ∷ more)
first_answer turning rest after m t s (Some end) x = ([], ap (λ y. y.answers) x)
first_answer turning rest after m t s None x = (x.0.answers, ap (λ y. y.answers) x.2)

-- a session of a request that is asked puts its text first
text_first : (asking : Asking) (replying : Replying) (after : ℕ) (front back rest : List ℕ) (m : Message) (text : List ℕ) (s : SessionSaid)
    → HasOneAsked asking → HasOneFraming of_requests → Framed of_requests front (message m rest) → asking m (asks text)
    → TurnsFrom (TurnBy asking replying) (suc after) front back s → (more : List (List ℕ)) × (s.requests ≡ text ∷ more)
text_first asking replying after front back rest m text s one framing framed asked x =
    let seen = seen_by (TurnBy asking replying) (suc after) front back s (message m rest) framing framed x in
    let first = first_request (TurnBy asking replying) rest seen.0 m seen.2 s (turn_end seen.0 m.head seen.2.ending) seen.4 in
    let text_is : seen.2.request ≡ Some text = asked_text asking replying one m text back seen.2 asked seen.3 in
    (first.0, first.1 ∙ ap (λ r. piece_of r ++ first.0) text_is)

-- the source of the front is told, or nothing is said
used_only : (f0 f1 b : Option (List ℕ)) (P Q : List ℕ → List ℕ → Type 0) → Uses f0 f1 P
    → ((used more back : List ℕ) → P used more → Q (used ++ more) back) → IfBoth f0 b Q
used_only f0 f1 None P Q uses on = nothing_told f0
  where
    nothing_told : (f : Option (List ℕ)) → IfBoth f None Q
    nothing_told None = tt
    nothing_told (Some f) = tt
used_only f0 f1 (Some b) P Q uses on = used_told f0 f1 (Some b) P (λ back. Unit {0}) Q uses tt (λ used more back x y. on used more back x)

-- ---- the back was asked, and nothing is answered

pub asked_run : (asking : Asking) (replying : Replying) (after : ℕ) (before last : LinkSeen) (now : Option (List ℕ)) (m : Message)
    (text : List ℕ) (end : SessionEnd) → HasOneAsked asking → HasOneFraming of_requests → IsKept before last
    → Uses before.front_in.bytes now (λ used more. Framed of_requests (used ++ more) (message m more)) → asking m (asks text)
    → Appends before.front_out.bytes last.front_out.bytes [] → AppendsPrefix before.back_out.bytes last.back_out.bytes text
    → EndsSo (TurnBy asking replying) (suc after) before last end → SessionRun (TurnBy asking replying) (suc after) before last end
asked_run asking replying after before last now m text end one framing kept uses asked front back so = record {
  so = so;
  prefixes = used_only before.front_in.bytes now before.back_in.bytes (λ used more. Framed of_requests (used ++ more) (message m more))
      (λ f b. (s : SessionSaid) → TurnsFrom (TurnBy asking replying) (suc after) f b s → PutsPrefixes before last s) uses
      (λ used more b framed s x.
      let first = text_first asking replying after (used ++ more) b more m text s one framing framed asked x in
      record {
        answers = nothing_put before.front_out.bytes last.front_out.bytes (flat s.answers) front;
        requests = subst (λ r. AppendsPrefix before.back_out.bytes last.back_out.bytes (flat r)) (sym first.1)
            (first_prefix before.back_out.bytes last.back_out.bytes text (flat first.0) back);
      });
  front_taken = kept.front_taken;
  back_taken = kept.back_taken;
  counts = kept.counts;
}

lost_turn : (asking : Asking) (replying : Replying) (m : Message) (back text : List ℕ) → asking m (asks text) → IsOpen of_responses back
    → TurnBy asking replying m back (back_lost text Ended BackEnded)
lost_turn asking replying m back text asked (inl x) = back_silent asked x
lost_turn asking replying m back text asked (inr x) = back_cut asked x

-- the back couldn't be read on
pub unanswered : (asking : Asking) (replying : Replying) (after : ℕ) (before last : LinkSeen) (now : Option (List ℕ)) (m : Message)
    (text held : List ℕ) → Uses before.front_in.bytes now (λ used more. Framed of_requests (used ++ more) (message m more))
    → Consumes now last.front_in.bytes held → asking m (asks text) → IfTaken before.back_in.bytes last.back_in.bytes (IsOpen of_responses)
    → Appends before.front_out.bytes last.front_out.bytes [] → Appends before.back_out.bytes last.back_out.bytes text
    → IsPutUnanswered (TurnBy asking replying) (suc after) before last
unanswered asking replying after before last now m text held (used, consumes, framed) holds asked (taken, takes, opened) front back =
    record {
      front = used ++ held;
      back = taken;
      front_taken = consumes_both before.front_in.bytes now last.front_in.bytes used held consumes holds;
      back_taken = takes;
      said = turn_then (Some text) (answer_text m.head true (back_answer Ended)) (ends BackEnded);
      session = last_turn (framed held) (lost_turn asking replying m taken text asked opened) refl;
      ending = refl;
      put = [];
      last = answer_text m.head true (back_answer Ended);
      answers = refl;
      puts = record { answers = front; requests = one_piece before.back_out.bytes last.back_out.bytes text back };
    }

-- ---- the answer was put

said_ends : (turning : Turning) (left : ℕ) (before last : LinkSeen) (end : SessionEnd) → IsSaid end → EndedSo turning left before last end
    → EndsSo turning left before last end
said_ends turning left before last Closed is x = x
said_ends turning left before last Quota is x = x
said_ends turning left before last FrontEnded is x = x
said_ends turning left before last BackEnded is x = x
said_ends turning left before last (FrontFraming why) is x = x
said_ends turning left before last (BackFraming why) is x = x
said_ends turning left before last FrontRead is x = absurd is
said_ends turning left before last FrontWrite is x = absurd is
said_ends turning left before last BackRead is x = absurd is
said_ends turning left before last BackWrite is x = absurd is
said_ends turning left before last NoMemory is x = absurd is

own_end : (closes last : Bool) (end : SessionEnd) → (if closes then Some Closed else (if last then Some Quota else None)) ≡ Some end
    → IsSaid end
own_end true last end is = subst IsSaid (let same : Closed ≡ end = cc in same) tt
own_end false true end is = subst IsSaid (let same : Quota ≡ end = cc in same) tt
own_end false false end is = absurd (cc)

turn_ends : (closes last : Bool) (ending : Option SessionEnd) (end : SessionEnd) → IsBackEnd ending
    → or_end ending (if closes then Some Closed else (if last then Some Quota else None)) ≡ Some end → IsSaid end
turn_ends closes last None end said is = own_end closes last end is
turn_ends closes last (Some e) end said is = subst IsSaid (let same : e ≡ end = cc in same) said

pub turn_is_said : (after : ℕ) (m : Message) (ending : Option SessionEnd) (end : SessionEnd) → IsBackEnd ending
    → turn_end after m.head ending ≡ Some end → IsSaid end
turn_is_said after m ending end said is = turn_ends (says_close m.head) (after == 0) ending end said is

-- behind it the session ends
pub last_run : (turning : Turning) (after : ℕ) (before last : LinkSeen) (now spent : Option (List ℕ)) (m : Message)
    (request : Option (List ℕ)) (answer : Message) (ending : Option SessionEnd) (end : SessionEnd)
    → HasOneSession turning → IsKept before last
    → Uses before.front_in.bytes now (λ used more. Framed of_requests (used ++ more) (message m more))
    → TurnsSo turning m before.back_in.bytes spent request answer ending → IsBackEnd ending → turn_end after m.head ending ≡ Some end
    → Appends before.front_out.bytes last.front_out.bytes (answer_text m.head true answer)
    → Appends before.back_out.bytes last.back_out.bytes (flat (piece_of request))
    → SessionRun turning (suc after) before last end
last_run turning after before last now spent m request answer ending end one kept uses turns own is front back =
    run_whole turning (suc after) before last (turn_then request (answer_text m.head true answer) (ends end)) one kept
    (used_told before.front_in.bytes now before.back_in.bytes (λ used more. Framed of_requests (used ++ more) (message m more))
    (λ b. (behind : List ℕ) × turning m b (turn_said request behind answer ending))
    (λ f b. TurnsFrom turning (suc after) f b (turn_then request (answer_text m.head true answer) (ends end)))
    uses turns.told (λ used more b framed turned. last_turn framed turned.1 is))
    (record {
      answers = one_piece before.front_out.bytes last.front_out.bytes (answer_text m.head true answer) front;
      requests = subst (λ r. Appends before.back_out.bytes last.back_out.bytes (flat r)) (sym (append-nil (piece_of request))) back;
    })
    (said_ends turning (suc after) before last end (turn_is_said after m ending end own is))

none_of : (after : ℕ) (m : Message) (ending : Option SessionEnd) → turn_end after m.head ending ≡ None → ending ≡ None
none_of after m None is = refl
none_of after m (Some end) is = absurd (cc)

behind_last : (after : ℕ) (m : Message) (ending : Option SessionEnd) → turn_end after m.head ending ≡ None → 0 < after
behind_last zero m ending is = absurd (turn_limit_ends m ending is)
behind_last (suc after) m ending is = omega arith

-- behind it the session goes on
pub turn_ran : (turning : Turning) (after : ℕ) (before now : LinkSeen) (m : Message) (request : Option (List ℕ)) (answer : Message)
    (ending : Option SessionEnd) → HasOneFraming of_requests → HasOneTurn turning → CountsStay before now
    → Uses before.front_in.bytes now.front_in.bytes (λ used more. Framed of_requests (used ++ more) (message m more))
    → TurnsSo turning m before.back_in.bytes now.back_in.bytes request answer ending → turn_end after m.head ending ≡ None
    → Appends before.front_out.bytes now.front_out.bytes (answer_text m.head false answer)
    → Appends before.back_out.bytes now.back_out.bytes (flat (piece_of request))
    → TurnRan turning after before now
turn_ran turning after before now m request answer ending framing once counts uses turns is front back =
    let none = none_of after m ending is in
    record {
      answers = answer_text m.head false answer ∷ [];
      requests = piece_of request;
      played = played_turn turning after before.front_in.bytes now.front_in.bytes before.back_in.bytes now.back_in.bytes m request answer
          framing once (subst (λ e. turn_end after m.head e ≡ None) none is) uses
          (subst (λ e. Uses before.back_in.bytes now.back_in.bytes (λ used more. turning m (used ++ more) (turn_said request more answer e))) none
          (turns.on none));
      put_answers = one_piece before.front_out.bytes now.front_out.bytes (answer_text m.head false answer) front;
      put_requests = back;
      counts = counts;
      more = behind_last after m ending is;
    }

-- a request that was put, behind which more may come
more_pieces : (a b : Option (List ℕ)) (x y : List (List ℕ)) → Appends a b (flat x) → AppendsPrefix a b (flat (x ++ y))
more_pieces a b x y put = prefix_flat a b b x y put (0, appends_none b)

-- it was put in part
pub part_run : (turning : Turning) (after : ℕ) (before last : LinkSeen) (now spent : Option (List ℕ)) (m : Message)
    (request : Option (List ℕ)) (answer : Message) (ending : Option SessionEnd) (end : SessionEnd)
    → HasOneFraming of_requests → HasOneTurn turning → IsKept before last
    → Uses before.front_in.bytes now (λ used more. Framed of_requests (used ++ more) (message m more))
    → TurnsSo turning m before.back_in.bytes spent request answer ending
    → AppendsPrefix before.front_out.bytes last.front_out.bytes (answer_text m.head (is_some (turn_end after m.head ending)) answer)
    → Appends before.back_out.bytes last.back_out.bytes (flat (piece_of request))
    → EndsSo turning (suc after) before last end → SessionRun turning (suc after) before last end
part_run turning after before last now spent m request answer ending end framing once kept uses turns front back so = record {
  so = so;
  prefixes = used_told before.front_in.bytes now before.back_in.bytes (λ used more. Framed of_requests (used ++ more) (message m more))
      (λ b. (behind : List ℕ) × turning m b (turn_said request behind answer ending))
      (λ f b. (s : SessionSaid) → TurnsFrom turning (suc after) f b s → PutsPrefixes before last s)
      uses turns.told (λ used more b framed turned s x.
      let seen = seen_behind turning after (used ++ more) b more m (turn_said request turned.0 answer ending) s framing once framed
      turned.1 x in
      let first = first_answer turning more after m (turn_said request turned.0 answer ending) s (turn_end after m.head ending) seen in
      let asked = first_request turning more after m (turn_said request turned.0 answer ending) s (turn_end after m.head ending) seen in
      record {
        answers = subst (λ r. AppendsPrefix before.front_out.bytes last.front_out.bytes (flat r)) (sym first.1)
            (first_prefix before.front_out.bytes last.front_out.bytes
            (answer_text m.head (is_some (turn_end after m.head ending)) answer) (flat first.0) front);
        requests = subst (λ r. AppendsPrefix before.back_out.bytes last.back_out.bytes (flat r)) (sym asked.1)
            (more_pieces before.back_out.bytes last.back_out.bytes (piece_of request) asked.0 back);
      });
  front_taken = kept.front_taken;
  back_taken = kept.back_taken;
  counts = kept.counts;
}

-- ---- the front's bytes are refused

pub front_refused_run : (turning : Turning) (left : ℕ) (before last : LinkSeen) (why : HttpRefusal) (end : SessionEnd)
    → HasOneSession turning → IsKept before last → (why ≡ ReadFault → Rose before.front_in.faults last.front_in.faults)
    → RefusesMessage of_requests before.front_in.bytes last.front_in.bytes why → RefusesFront why before.front_out last.front_out end
    → Appends before.back_out.bytes last.back_out.bytes [] → SessionRun turning left before last end
front_refused_run turning left before last ReadFault end one kept rose taken (is, keeps) back =
    subst (SessionRun turning left before last) (sym is)
    (failed_run turning left before last kept (rose refl) taken (kept_none before.front_out.bytes last.front_out.bytes keeps) back)
front_refused_run turning left before last OutOfMemory end one kept rose x (is, keeps) back =
    subst (SessionRun turning left before last) (sym is)
    (run_nothing turning left before last NoMemory kept (kept_none before.front_out.bytes last.front_out.bytes keeps) back tt)
front_refused_run turning left before last Ended end one kept rose cut (is, keeps) back =
    subst (SessionRun turning left before last) (sym is)
    (cut_run turning left before last one kept cut (kept_none before.front_out.bytes last.front_out.bytes keeps) back)
front_refused_run turning left before last BadHead end one kept rose refused x back =
    refused_run turning left before last BadHead end one kept (λ e. absurd (cc)) refused x back
front_refused_run turning left before last HeadTooLarge end one kept rose refused x back =
    refused_run turning left before last HeadTooLarge end one kept (λ e. absurd (cc)) refused x back
front_refused_run turning left before last Coding end one kept rose refused x back =
    refused_run turning left before last Coding end one kept (λ e. absurd (cc)) refused x back
front_refused_run turning left before last Length end one kept rose refused x back =
    refused_run turning left before last Length end one kept (λ e. absurd (cc)) refused x back
front_refused_run turning left before last TooLong end one kept rose refused x back =
    refused_run turning left before last TooLong end one kept (λ e. absurd (cc)) refused x back
front_refused_run turning left before last Chunk end one kept rose refused x back =
    refused_run turning left before last Chunk end one kept (λ e. absurd (cc)) refused x back
