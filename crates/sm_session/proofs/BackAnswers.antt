-- From what the back said to what the turn comes to.
use Rattle.std.proofs.Common.{◌≡◌, ℕ, Bool, true, false, List, [], ◌++◌, refl, sym, ◌∙◌, subst, inl, inr, Option, Some, None, Ok, Err}
use Rattle.std.specs.Prelude.{◌≢◌, IfSome, Result}
use Rattle.std.specs.Io.KnownBytes.{Appends}
use Rattle.sm_io.specs.Seen.{Stream}
use Rattle.sm_io.specs.Causes.{Rose}
use Rattle.sm_io.proofs.Told.{consumes_none}
use Rattle.sm_http.specs.declared.message.Message.{Message}
use Rattle.sm_http.specs.declared.message.MessageSide.TheVariants.{Response as of_responses}
use Rattle.sm_http.specs.declared.refusal.HttpRefusal.{HttpRefusal}
use Rattle.sm_http.specs.declared.refusal.HttpRefusal.TheVariants.{ReadFault, HeadTooLarge, Coding, Length, TooLong, Chunk}
use Rattle.sm_http.specs.declared.refusal.HttpRefusal.TheVariants.{Head as BadHead, Ended as CutOff, NoMemory as OutOfMemory}
use Rattle.sm_http.specs.Framed.{no_message, message, message_refused, Framed}
use Rattle.sm_http.specs.Connections.{says_close}
use Rattle.sm_http.specs.Calls.{Uses}
use Rattle.sm_session.specs.declared.session_end.SessionEnd.{SessionEnd}
use Rattle.sm_session.specs.declared.session_end.SessionEnd.TheVariants.{Closed, Quota, FrontEnded, BackEnded, FrontFraming, BackFraming}
use Rattle.sm_session.specs.declared.session_end.SessionEnd.TheVariants.{FrontRead, FrontWrite, BackRead, BackWrite, NoMemory}
use Rattle.sm_session.specs.declared.turning.Answered.{Answered}
use Rattle.sm_session.specs.OwnAnswers.{back_answer}
use Rattle.sm_session.specs.Turns.{Asking, answered, asks, Replying, Turning, TurnBy, back_end, answered_at_once, back_silent, back_cut}
use Rattle.sm_session.specs.Turns.{back_refused, back_replied}
use Rattle.sm_session.specs.steps.Taking.{RefusesMessage}
use Rattle.sm_session.specs.steps.Turning.{turn_said, TurnsSo, IsSaid, IsBackEnd, AnswersSo, IsLost, LosesBack, RepliesSo}
use Rattle.sm_session.proofs.TurnExits.{one_piece, whole_prefix}

as_said : (turning : Turning) (m : Message) (back : List ℕ) (request : Option (List ℕ)) (behind : List ℕ) (a b : Message)
    (e d : Option SessionEnd) → b ≡ a → d ≡ e → turning m back (turn_said request behind a e) → turning m back (turn_said request behind b d)
as_said turning m back request behind a b e d answers ends x =
    subst (λ z. turning m back (turn_said request behind b z)) (sym ends)
    (subst (λ y. turning m back (turn_said request behind y e)) (sym answers) x)

back_end_said : (closes : Bool) → IsBackEnd (back_end closes)
back_end_said true = tt
back_end_said false = tt

-- of what was used of the bytes ahead, where they are told
told_of : (ahead now : Option (List ℕ)) (P : List ℕ → List ℕ → Type 0) (Q : List ℕ → Type 0) → Uses ahead now P
    → ((used more : List ℕ) → P used more → Q (used ++ more)) → IfSome ahead Q
told_of None now P Q uses on = tt
told_of (Some a) None P Q (used, consumes, holds) on = absurd consumes
told_of (Some a) (Some b) P Q (used, consumes, holds) on = subst Q (sym consumes) (on used b (holds b))

if_on : (a : Option (List ℕ)) (P Q : List ℕ → Type 0) → ((x : List ℕ) → P x → Q x) → IfSome a P → IfSome a Q
if_on None P Q on x = tt
if_on (Some a) P Q on x = on a x

-- an answer of the back
replied_so : (asking : Asking) (replying : Replying) (m b : Message) (text : List ℕ) (ahead now : Option (List ℕ)) (answer : Message)
    (ending : Option SessionEnd) → asking m (asks text) → Uses ahead now (λ used more. Framed of_responses (used ++ more) (message b more))
    → replying m b answer → ending ≡ back_end (says_close b.head)
    → TurnsSo (TurnBy asking replying) m ahead now (Some text) answer ending
replied_so asking replying m b text ahead now answer ending asked (used, consumes, framed) reply is = record {
  told = told_of ahead now (λ u more. Framed of_responses (u ++ more) (message b more))
      (λ back. (behind : List ℕ) × TurnBy asking replying m back (turn_said (Some text) behind answer ending)) (used, consumes, framed)
      (λ u more x. (
        more,
        as_said (TurnBy asking replying) m (u ++ more) (Some text) more answer answer (back_end (says_close b.head)) ending refl is
            (back_replied asked x reply),
      ));
  on = λ none. (
    used,
    consumes,
    λ more. as_said (TurnBy asking replying) m (used ++ more) (Some text) more answer answer (back_end (says_close b.head)) ending refl is
        (back_replied asked (framed more) reply),
  );
}

-- the back's bytes are no answer
lost_so : (asking : Asking) (replying : Replying) (m : Message) (text : List ℕ) (ahead now : Option (List ℕ)) (answer : Message)
    (ending : Option SessionEnd) (why : HttpRefusal) (end : SessionEnd) (P : List ℕ → Type 0)
    → ((back : List ℕ) → P back → TurnBy asking replying m back (turn_said (Some text) [] (back_answer why) (Some end)))
    → IfSome ahead P → answer ≡ back_answer why → ending ≡ Some end
    → TurnsSo (TurnBy asking replying) m ahead now (Some text) answer ending
lost_so asking replying m text ahead now answer ending why end P on told answers ends = record {
  told = if_on ahead P (λ back. (behind : List ℕ) × TurnBy asking replying m back (turn_said (Some text) behind answer ending))
      (λ back x. ([], as_said (TurnBy asking replying) m back (Some text) [] (back_answer why) answer (Some end) ending answers ends (on back x)))
      told;
  on = λ none. let same : Some end ≡ None = sym ends ∙ none in absurd (cc);
}

ended_said : (ending : Option SessionEnd) (end : SessionEnd) → ending ≡ Some end → IsSaid end → IsBackEnd ending
ended_said ending end is said = subst IsBackEnd (sym is) said

-- what was put, and a turn behind it
asked_so : (asking : Asking) (replying : Replying) (m : Message) (text : List ℕ) (in0 in1 : Stream) (left : Option (List ℕ))
    (out0 out1 : Stream) (said : Answered)
    → TurnsSo (TurnBy asking replying) m in0.bytes in1.bytes (Some text) said.answer said.ending → IsBackEnd said.ending
    → Appends out0.bytes out1.bytes text → AnswersSo asking (TurnBy asking replying) m in0 in1 left out0 out1 (Ok said)
asked_so asking replying m text in0 in1 left out0 out1 said turns own put =
    (Some text, turns, own, one_piece out0.bytes out1.bytes text put)

refused_so : (asking : Asking) (replying : Replying) (m : Message) (text : List ℕ) (in0 in1 : Stream) (left : Option (List ℕ))
    (out0 out1 : Stream) (said : Answered) (why : HttpRefusal) → why ≢ CutOff → asking m (asks text)
    → IfSome in0.bytes (λ bytes. Framed of_responses bytes (message_refused why)) → IsLost why (BackFraming why) (Ok said)
    → Appends out0.bytes out1.bytes text → AnswersSo asking (TurnBy asking replying) m in0 in1 left out0 out1 (Ok said)
refused_so asking replying m text in0 in1 left out0 out1 said why other asked refused lost put =
    asked_so asking replying m text in0 in1 left out0 out1 said
    (lost_so asking replying m text in0.bytes in1.bytes said.answer said.ending why (BackFraming why)
    (λ bytes. Framed of_responses bytes (message_refused why)) (λ back x. back_refused asked x other) refused lost.0 lost.1)
    (ended_said said.ending (BackFraming why) lost.1 tt) put

lost_by : (asking : Asking) (replying : Replying) (m : Message) (text : List ℕ) (in0 in1 : Stream) (left : Option (List ℕ))
    (out0 out1 : Stream) (said : Answered) (why : HttpRefusal) → asking m (asks text)
    → IfSome in0.bytes (λ bytes. Framed of_responses bytes (message_refused why)) → LosesBack why (Ok said)
    → Appends out0.bytes out1.bytes text → AnswersSo asking (TurnBy asking replying) m in0 in1 left out0 out1 (Ok said)
lost_by asking replying m text in0 in1 left out0 out1 said ReadFault asked refused lost put = absurd (cc)
lost_by asking replying m text in0 in1 left out0 out1 said OutOfMemory asked refused lost put = absurd (cc)
lost_by asking replying m text in0 in1 left out0 out1 said CutOff asked refused lost put =
    asked_so asking replying m text in0 in1 left out0 out1 said
    (lost_so asking replying m text in0.bytes in1.bytes said.answer said.ending CutOff BackEnded
    (λ bytes. Framed of_responses bytes (message_refused CutOff)) (λ back x. back_cut asked x) refused lost.0 lost.1)
    (ended_said said.ending BackEnded lost.1 tt) put
lost_by asking replying m text in0 in1 left out0 out1 said BadHead asked refused lost put =
    refused_so asking replying m text in0 in1 left out0 out1 said BadHead (λ e. absurd (cc)) asked refused lost put
lost_by asking replying m text in0 in1 left out0 out1 said HeadTooLarge asked refused lost put =
    refused_so asking replying m text in0 in1 left out0 out1 said HeadTooLarge (λ e. absurd (cc)) asked refused lost put
lost_by asking replying m text in0 in1 left out0 out1 said Coding asked refused lost put =
    refused_so asking replying m text in0 in1 left out0 out1 said Coding (λ e. absurd (cc)) asked refused lost put
lost_by asking replying m text in0 in1 left out0 out1 said Length asked refused lost put =
    refused_so asking replying m text in0 in1 left out0 out1 said Length (λ e. absurd (cc)) asked refused lost put
lost_by asking replying m text in0 in1 left out0 out1 said TooLong asked refused lost put =
    refused_so asking replying m text in0 in1 left out0 out1 said TooLong (λ e. absurd (cc)) asked refused lost put
lost_by asking replying m text in0 in1 left out0 out1 said Chunk asked refused lost put =
    refused_so asking replying m text in0 in1 left out0 out1 said Chunk (λ e. absurd (cc)) asked refused lost put

pub replies_answer : (asking : Asking) (replying : Replying) (called : Message → Type 0) (m : Message) (text : List ℕ) (in0 in1 : Stream)
    (left : Option (List ℕ)) (out0 out1 : Stream) (result : Result Answered SessionEnd) → asking m (asks text) → called m
    → Appends out0.bytes out1.bytes text → RepliesSo replying called in0 in1 left result
    → AnswersSo asking (TurnBy asking replying) m in0 in1 left out0 out1 result
replies_answer asking replying called m text in0 in1 left out0 out1 (Ok said) asked call put (inl f) =
    let r = f m call in
    asked_so asking replying m text in0 in1 left out0 out1 said
    (replied_so asking replying m r.0 text in0.bytes in1.bytes said.answer said.ending asked r.1 r.2 r.3)
    (subst IsBackEnd (sym r.3) (back_end_said (says_close r.0.head))) put
replies_answer asking replying called m text in0 in1 left out0 out1 (Ok said) asked call put (inr (inl (none, lost))) =
    asked_so asking replying m text in0 in1 left out0 out1 said
    (lost_so asking replying m text in0.bytes in1.bytes said.answer said.ending CutOff BackEnded
    (λ bytes. Framed of_responses bytes no_message) (λ back x. back_silent asked x) none lost.0 lost.1)
    (ended_said said.ending BackEnded lost.1 tt) put
replies_answer asking replying called m text in0 in1 left out0 out1 (Ok said) asked call put (inr (inr (why, refused, lost))) =
    lost_by asking replying m text in0 in1 left out0 out1 said why asked refused lost put
replies_answer asking replying called m text in0 in1 left out0 out1 (Err BackRead) asked call put (rose, taken) =
    (text, asked, put, rose, taken)
replies_answer asking replying called m text in0 in1 left out0 out1 (Err NoMemory) asked call put x =
    (text, asked, whole_prefix out0.bytes out1.bytes text put)
replies_answer asking replying called m text in0 in1 left out0 out1 (Err Closed) asked call put x = absurd x
replies_answer asking replying called m text in0 in1 left out0 out1 (Err Quota) asked call put x = absurd x
replies_answer asking replying called m text in0 in1 left out0 out1 (Err FrontEnded) asked call put x = absurd x
replies_answer asking replying called m text in0 in1 left out0 out1 (Err BackEnded) asked call put x = absurd x
replies_answer asking replying called m text in0 in1 left out0 out1 (Err (FrontFraming why)) asked call put x = absurd x
replies_answer asking replying called m text in0 in1 left out0 out1 (Err (BackFraming why)) asked call put x = absurd x
replies_answer asking replying called m text in0 in1 left out0 out1 (Err FrontRead) asked call put x = absurd x
replies_answer asking replying called m text in0 in1 left out0 out1 (Err FrontWrite) asked call put x = absurd x
replies_answer asking replying called m text in0 in1 left out0 out1 (Err BackWrite) asked call put x = absurd x

-- the back isn't asked
pub answers_at_once : (asking : Asking) (replying : Replying) (m answer : Message) (bytes : Option (List ℕ)) → asking m (answered answer)
    → TurnsSo (TurnBy asking replying) m bytes bytes None answer None
answers_at_once asking replying m answer bytes x = record {
  told = if_all bytes (λ back. (behind : List ℕ) × TurnBy asking replying m back (turn_said None behind answer None))
      (λ back. (back, answered_at_once x));
  on = λ none. ([], consumes_none bytes, λ more. answered_at_once x);
}
  where
    if_all : (a : Option (List ℕ)) (P : List ℕ → Type 0) → ((x : List ℕ) → P x) → IfSome a P
    if_all None P on = tt
    if_all (Some a) P on = on a

-- ---- a refusal of the back's bytes

lost_word : (replying : Replying) (called : Message → Type 0) (in0 in1 : Stream) (left : Option (List ℕ)) (why : HttpRefusal)
    (end : SessionEnd) (result : Result Answered SessionEnd)
    → ((said : Answered) → IsLost why end (Ok said) → RepliesSo replying called in0 in1 left (Ok said))
    → IsLost why end result → RepliesSo replying called in0 in1 left result
lost_word replying called in0 in1 left why end (Ok said) on lost = on said lost
lost_word replying called in0 in1 left why end (Err fault) on lost =
    subst (λ f. RepliesSo replying called in0 in1 left (Err f)) (sym lost) tt

pub refusal_replies : (replying : Replying) (called : Message → Type 0) (in0 in1 : Stream) (left : Option (List ℕ)) (why : HttpRefusal)
    (result : Result Answered SessionEnd) → RefusesMessage of_responses in0.bytes left why
    → (why ≡ ReadFault → Rose in0.faults in1.faults) → LosesBack why result → RepliesSo replying called in0 in1 left result
refusal_replies replying called in0 in1 left ReadFault result refused rose is =
    subst (RepliesSo replying called in0 in1 left) (sym is) (rose refl, refused)
refusal_replies replying called in0 in1 left OutOfMemory result refused rose is =
    subst (RepliesSo replying called in0 in1 left) (sym is) tt
refusal_replies replying called in0 in1 left CutOff result refused rose is =
    lost_word replying called in0 in1 left CutOff BackEnded result (λ said lost. inr (inr (CutOff, refused, lost))) is
refusal_replies replying called in0 in1 left BadHead result refused rose is =
    lost_word replying called in0 in1 left BadHead (BackFraming BadHead) result (λ said lost. inr (inr (BadHead, refused, lost))) is
refusal_replies replying called in0 in1 left HeadTooLarge result refused rose is =
    lost_word replying called in0 in1 left HeadTooLarge (BackFraming HeadTooLarge) result
    (λ said lost. inr (inr (HeadTooLarge, refused, lost))) is
refusal_replies replying called in0 in1 left Coding result refused rose is =
    lost_word replying called in0 in1 left Coding (BackFraming Coding) result (λ said lost. inr (inr (Coding, refused, lost))) is
refusal_replies replying called in0 in1 left Length result refused rose is =
    lost_word replying called in0 in1 left Length (BackFraming Length) result (λ said lost. inr (inr (Length, refused, lost))) is
refusal_replies replying called in0 in1 left TooLong result refused rose is =
    lost_word replying called in0 in1 left TooLong (BackFraming TooLong) result (λ said lost. inr (inr (TooLong, refused, lost))) is
refusal_replies replying called in0 in1 left Chunk result refused rose is =
    lost_word replying called in0 in1 left Chunk (BackFraming Chunk) result (λ said lost. inr (inr (Chunk, refused, lost))) is
