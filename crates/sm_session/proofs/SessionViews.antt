-- A session, by what the front's bytes come to.
use Rattle.std.proofs.Common.{◌≡◌, ℕ, suc, true, false, List, refl, sym, subst, inl, inr, Option, Some, None}
use Rattle.std.specs.Prelude.{◌≢◌, ◌⊎◌}
use Rattle.sm_http.specs.declared.message.Message.{Message}
use Rattle.sm_http.specs.declared.message.MessageSide.TheVariants.{Request as of_requests}
use Rattle.sm_http.specs.declared.refusal.HttpRefusal.TheVariants.{Ended}
use Rattle.sm_http.specs.Framed.{Framing, no_message, message, message_refused, Framed}
use Rattle.sm_http.specs.Laws.{HasOneFraming}
use Rattle.sm_session.specs.declared.session_end.SessionEnd.{SessionEnd}
use Rattle.sm_session.specs.declared.session_end.SessionEnd.TheVariants.{Closed, FrontEnded, FrontFraming}
use Rattle.sm_session.specs.OwnAnswers.{framing_text}
use Rattle.sm_session.specs.Turns.{Turning, TurnSaid}
use Rattle.sm_session.specs.Sessions.{SessionSaid, ends, turn_then, turn_end, answer_text, TurnsFrom}
use Rattle.sm_session.specs.Sessions.{front_closed, front_cut, front_refused, last_turn, one_turn}
use Rattle.sm_session.specs.Laws.{HasOneTurn}

-- what is said from a turn on, by its end
abbrev pub BehindTurn : Turning → List ℕ → ℕ → Message → TurnSaid → SessionSaid → Option SessionEnd → Type 0
BehindTurn turning rest after m t s (Some end) = s ≡ turn_then t.request (answer_text m.head true t.answer) (ends end)
BehindTurn turning rest after m t s None =
    (more : SessionSaid) × TurnsFrom turning after rest t.behind more
    × (s ≡ turn_then t.request (answer_text m.head false t.answer) more)

-- what a session says, by what the front's bytes come to
abbrev pub FrontSeen : Turning → ℕ → List ℕ → SessionSaid → Framing → Type 0
FrontSeen turning left back s no_message = s ≡ ends Closed
FrontSeen turning left back s (message_refused why) =
    ((why ≡ Ended) × (s ≡ ends FrontEnded)) ⊎ ((why ≢ Ended) × (s ≡ turn_then None (framing_text why) (ends (FrontFraming why))))
FrontSeen turning left back s (message m rest) =
    (after : ℕ) × (left ≡ suc after) × (t : TurnSaid) × turning m back t
    × BehindTurn turning rest after m t s (turn_end after m.head t.ending)

abbrev pub SessionSeen : Turning → ℕ → List ℕ → List ℕ → SessionSaid → Type 0
SessionSeen turning left front back s = (g : Framing) × Framed of_requests front g × FrontSeen turning left back s g

pub session_seen : (turning : Turning) (left : ℕ) (front back : List ℕ) (s : SessionSaid) → TurnsFrom turning left front back s
    → SessionSeen turning left front back s
session_seen turning left front back s (front_closed framed) = (no_message, framed, refl)
session_seen turning left front back s (front_cut framed) = (message_refused Ended, framed, inl (refl, refl))
session_seen turning left front back s (front_refused {why = why} framed other) = (message_refused why, framed, inr (other, refl))
session_seen turning left front back s (last_turn {after = after} {rest = rest} {m = m} {t = t} {end = end} framed turned is) = (
  message m rest,
  framed,
  (
    after,
    refl,
    t,
    turned,
    subst (BehindTurn turning rest after m t (turn_then t.request (answer_text m.head true t.answer) (ends end))) (sym is) refl,
  ),
)
session_seen turning left front back s (one_turn {after = after} {rest = rest} {m = m} {t = t} {more = more} framed turned is below) = (
  message m rest,
  framed,
  (
    after,
    refl,
    t,
    turned,
    subst (BehindTurn turning rest after m t (turn_then t.request (answer_text m.head false t.answer) more)) (sym is) (more, below, refl),
  ),
)

-- by another framing of the same bytes
pub seen_by : (turning : Turning) (left : ℕ) (front back : List ℕ) (s : SessionSaid) (g : Framing) → HasOneFraming of_requests
    → Framed of_requests front g → TurnsFrom turning left front back s → FrontSeen turning left back s g
seen_by turning left front back s g one framed x =
    let seen = session_seen turning left front back s x in
    subst (FrontSeen turning left back s) (one front seen.0 g seen.1 framed) seen.2

suc_same : (a b : ℕ) → suc a ≡ suc b → a ≡ b
suc_same a b e = cc

-- a session that begins with this turn
pub seen_behind : (turning : Turning) (after : ℕ) (front back rest : List ℕ) (m : Message) (t : TurnSaid) (s : SessionSaid)
    → HasOneFraming of_requests → HasOneTurn turning → Framed of_requests front (message m rest) → turning m back t
    → TurnsFrom turning (suc after) front back s → BehindTurn turning rest after m t s (turn_end after m.head t.ending)
seen_behind turning after front back rest m t s framing once framed turned x =
    let seen = seen_by turning (suc after) front back s (message m rest) framing framed x in
    let same : seen.0 ≡ after = suc_same seen.0 after (sym seen.1) in
    let turns : seen.2 ≡ t = once m back seen.2 t seen.3 turned in
    subst (λ u. BehindTurn turning rest after m u s (turn_end after m.head u.ending)) turns
    (subst (λ k. BehindTurn turning rest k m seen.2 s (turn_end k m.head seen.2.ending)) same seen.4)
