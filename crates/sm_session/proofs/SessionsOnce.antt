-- Bytes come to one session, where a turn comes to one thing.
use Rattle.std.proofs.Common.{◌≡◌, ℕ, zero, suc, false, List, sym, ap, ◌∙◌, subst, inl, inr, Option, Some, None}
use Rattle.sm_http.specs.declared.message.Message.{Message}
use Rattle.sm_http.specs.declared.message.MessageSide.TheVariants.{Request as of_requests}
use Rattle.sm_http.specs.Framed.{Framing, no_message, message, message_refused, Framed}
use Rattle.sm_http.specs.Laws.{HasOneFraming}
use Rattle.sm_session.specs.declared.session_end.SessionEnd.{SessionEnd}
use Rattle.sm_session.specs.Turns.{Turning, TurnSaid}
use Rattle.sm_session.specs.Sessions.{SessionSaid, turn_then, turn_end, answer_text, TurnsFrom}
use Rattle.sm_session.specs.Laws.{HasOneTurn, HasOneSession}
use Rattle.sm_session.proofs.SessionViews.{BehindTurn, FrontSeen, session_seen, seen_by, seen_behind}

-- sessions from here on are one
abbrev Alike : Turning → ℕ → Type 0
Alike turning left =
    (front back : List ℕ) (a b : SessionSaid) → TurnsFrom turning left front back a → TurnsFrom turning left front back b → a ≡ b

same_behind : (turning : Turning) (rest : List ℕ) (after : ℕ) (m : Message) (t : TurnSaid) (a b : SessionSaid) (end : Option SessionEnd)
    → Alike turning after → BehindTurn turning rest after m t a end → BehindTurn turning rest after m t b end → a ≡ b
same_behind turning rest after m t a b (Some end) once x y = x ∙ sym y
same_behind turning rest after m t a b None once x y =
    x.2 ∙ ap (turn_then t.request (answer_text m.head false t.answer)) (once rest t.behind x.0 y.0 x.1 y.1) ∙ sym y.2

same_front : (turning : Turning) (after : ℕ) (front back : List ℕ) (a b : SessionSaid) (g : Framing) → HasOneFraming of_requests
    → HasOneTurn turning → Alike turning after → Framed of_requests front g → FrontSeen turning (suc after) back a g
    → TurnsFrom turning (suc after) front back b → a ≡ b
same_front turning after front back a b no_message framing once alike framed x y =
    x ∙ sym (seen_by turning (suc after) front back b no_message framing framed y)
same_front turning after front back a b (message_refused why) framing once alike framed (inl x) y =
    elim (seen_by turning (suc after) front back b (message_refused why) framing framed y) [
      | inl z ↦ x.1 ∙ sym z.1
      | inr z ↦ absurd (z.0 x.0)
    ]
same_front turning after front back a b (message_refused why) framing once alike framed (inr x) y =
    elim (seen_by turning (suc after) front back b (message_refused why) framing framed y) [
      | inl z ↦ absurd (x.0 z.0)
      | inr z ↦ x.1 ∙ sym z.1
    ]
same_front turning after front back a b (message m rest) framing once alike framed (k, is, t, turned, behind) y =
    let same : k ≡ after = cc in
    same_behind turning rest after m t a b (turn_end after m.head t.ending) alike
    (subst (λ n. BehindTurn turning rest n m t a (turn_end n m.head t.ending)) same behind)
    (seen_behind turning after front back rest m t b framing once framed turned y)

same_none : (turning : Turning) (front back : List ℕ) (a b : SessionSaid) (g : Framing) → HasOneFraming of_requests
    → Framed of_requests front g → FrontSeen turning zero back a g → TurnsFrom turning zero front back b → a ≡ b
same_none turning front back a b no_message framing framed x y = x ∙ sym (seen_by turning zero front back b no_message framing framed y)
same_none turning front back a b (message_refused why) framing framed (inl x) y =
    elim (seen_by turning zero front back b (message_refused why) framing framed y) [
      | inl z ↦ x.1 ∙ sym z.1
      | inr z ↦ absurd (z.0 x.0)
    ]
same_none turning front back a b (message_refused why) framing framed (inr x) y =
    elim (seen_by turning zero front back b (message_refused why) framing framed y) [
      | inl z ↦ absurd (x.0 z.0)
      | inr z ↦ x.1 ∙ sym z.1
    ]
same_none turning front back a b (message m rest) framing framed (k, is, t, turned, behind) y = absurd (cc)

pub one_session_said : (turning : Turning) → HasOneFraming of_requests → HasOneTurn turning → HasOneSession turning
one_session_said turning framing once zero front back a b x y =
    let seen = session_seen turning zero front back a x in
    same_none turning front back a b seen.0 framing seen.1 seen.2 y
one_session_said turning framing once (suc after) front back a b x y =
    let seen = session_seen turning (suc after) front back a x in
    same_front turning after front back a b seen.0 framing once (one_session_said turning framing once after) seen.1 seen.2 y
