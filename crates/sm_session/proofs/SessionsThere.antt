-- No bytes are without a session, where no turn is.
use Rattle.std.proofs.Common.{◌≡◌, ℕ, zero, suc, Bool, true, false, List, refl, subst, arith, Option, Some, None}
use Rattle.std.specs.Prelude.{if◌then◌else◌}
use Rattle.sm_http.specs.declared.message.Message.{Message}
use Rattle.sm_http.specs.declared.message.MessageSide.TheVariants.{Request as of_requests}
use Rattle.sm_http.specs.Framed.{Framing, no_message, message, message_refused, Framed}
use Rattle.sm_http.specs.Laws.{HasSomeFraming}
use Rattle.sm_http.specs.Connections.{says_close}
use Rattle.sm_session.specs.declared.session_end.SessionEnd.{SessionEnd}
use Rattle.sm_session.specs.declared.session_end.SessionEnd.TheVariants.{Closed, Quota, FrontEnded, FrontFraming}
use Rattle.sm_session.specs.OwnAnswers.{framing_text}
use Rattle.sm_session.specs.Turns.{Turning, TurnSaid}
use Rattle.sm_session.specs.Sessions.{SessionSaid, ends, or_end, turn_then, turn_end, answer_text, TurnsFrom}
use Rattle.sm_session.specs.Sessions.{front_closed, front_cut, front_refused, last_turn, one_turn}
use Rattle.sm_session.specs.Laws.{HasSomeTurn, HasSomeSession}

-- a turn behind which none may come is the last
last_ends : (closes : Bool) (ending : Option SessionEnd) → or_end ending (if closes then Some Closed else Some Quota) ≡ None → ⊥
last_ends true None is = absurd (cc)
last_ends false None is = absurd (cc)
last_ends true (Some end) is = absurd (cc)
last_ends false (Some end) is = absurd (cc)

pub turn_limit_ends : (m : Message) (ending : Option SessionEnd) → turn_end 0 m.head ending ≡ None → ⊥
turn_limit_ends m ending is = last_ends (says_close m.head) ending is

-- every session of these bytes is denied
abbrev Denied : Turning → ℕ → List ℕ → List ℕ → Type 0
Denied turning left front back = (s : SessionSaid) → TurnsFrom turning left front back s → ⊥

-- there are sessions in which so many turns may come
abbrev There : Turning → ℕ → Type 0
There turning left = (front back : List ℕ) → Denied turning left front back → ⊥

some_behind : (turning : Turning) (after : ℕ) (front back rest : List ℕ) (m : Message) (t : TurnSaid) (end : Option SessionEnd)
    → Framed of_requests front (message m rest) → turning m back t → turn_end after m.head t.ending ≡ end
    → (turn_end after m.head t.ending ≡ None → There turning after) → Denied turning (suc after) front back → ⊥
some_behind turning after front back rest m t (Some end) framed turned is there deny =
    deny (turn_then t.request (answer_text m.head true t.answer) (ends end)) (last_turn framed turned is)
some_behind turning after front back rest m t None framed turned is there deny =
    there is rest t.behind (λ more below.
    deny (turn_then t.request (answer_text m.head false t.answer) more) (one_turn framed turned is below))

some_front : (turning : Turning) (after : ℕ) (front back : List ℕ) → HasSomeTurn turning
    → ((m : Message) (t : TurnSaid) → turn_end after m.head t.ending ≡ None → There turning after)
    → Denied turning (suc after) front back → (g : Framing) → Framed of_requests front g → ⊥
some_front turning after front back some there deny no_message framed = deny (ends Closed) (front_closed framed)
some_front turning after front back some there deny (message_refused why) framed =
    deny (turn_then None (framing_text why) (ends (FrontFraming why))) (front_refused framed (λ same.
    deny (ends FrontEnded) (front_cut (subst (λ w. Framed of_requests front (message_refused w)) same framed))))
some_front turning after front back some there deny (message m rest) framed =
    some m back (λ t turned.
    some_behind turning after front back rest m t (turn_end after m.head t.ending) framed turned refl (there m t) deny)

there_from : (turning : Turning) → HasSomeFraming of_requests → HasSomeTurn turning → (after : ℕ) → There turning (suc after)
there_from turning framing some zero front back deny =
    framing front (some_front turning zero front back some (λ m t is. absurd (turn_limit_ends m t.ending is)) deny)
there_from turning framing some (suc after) front back deny =
    framing front (some_front turning (suc after) front back some (λ m t is. there_from turning framing some after) deny)

pub some_session_said : (turning : Turning) → HasSomeFraming of_requests → HasSomeTurn turning → HasSomeSession turning
some_session_said turning framing some zero front back positive deny = absurd (omega arith)
some_session_said turning framing some (suc after) front back positive deny = there_from turning framing some after front back deny
