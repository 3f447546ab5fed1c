-- A session of one turning is one of another, where each of its turns is.
use Rattle.std.proofs.Common.{ℕ, List, Option, None, Some}
use Rattle.std.specs.Prelude.{IfSome}
use Rattle.sm_http.specs.declared.message.Message.{Message}
use Rattle.sm_io.specs.Seen.{LinkSeen}
use Rattle.sm_session.specs.Ends.{EndsSo, IfBoth, IsPut, IsPutAsTaken, IsPutUnanswered, PutsPrefixes, SessionRun}
use Rattle.sm_session.specs.Sessions.{SessionSaid, TurnsFrom, front_closed, front_cut, front_refused, last_turn, one_turn}
use Rattle.sm_session.specs.Turns.{Asked, Asking, Replying, TurnBy, TurnSaid, Turning, answered, asks}
use Rattle.sm_session.specs.Turns.{answered_at_once, back_cut, back_refused, back_replied, back_silent}
use Rattle.sm_session.specs.declared.session_end.SessionEnd.{SessionEnd}
use Rattle.sm_session.specs.declared.session_end.SessionEnd.TheVariants.{BackEnded, BackFraming, BackRead, BackWrite, Closed, FrontEnded}
use Rattle.sm_session.specs.declared.session_end.SessionEnd.TheVariants.{FrontFraming, FrontRead, FrontWrite, NoMemory, Quota}

abbrev pub AreTurns : Turning → Turning → Type 0
AreTurns T U = (m : Message) (back : List ℕ) (t : TurnSaid) → T m back t → U m back t

pub turn_alike : (A B : Asking) (R S : Replying) → ((m : Message) (a : Asked) → A m a → B m a)
    → ((m said a : Message) → R m said a → S m said a) → AreTurns (TurnBy A R) (TurnBy B S)
turn_alike A B R S f g m back t (answered_at_once {a = a} x) = answered_at_once (f m (answered a) x)
turn_alike A B R S f g m back t (back_silent {text = text} x framed) = back_silent (f m (asks text) x) framed
turn_alike A B R S f g m back t (back_cut {text = text} x framed) = back_cut (f m (asks text) x) framed
turn_alike A B R S f g m back t (back_refused {text = text} x framed other) = back_refused (f m (asks text) x) framed other
turn_alike A B R S f g m back t (back_replied {said = said} {a = a} {text = text} x framed y) =
    back_replied (f m (asks text) x) framed (g m said a y)

session_alike : (T U : Turning) → AreTurns T U → (left : ℕ) (front back : List ℕ) (said : SessionSaid) → TurnsFrom T left front back said
    → TurnsFrom U left front back said
session_alike T U f left front back said (front_closed x) = front_closed x
session_alike T U f left front back said (front_cut x) = front_cut x
session_alike T U f left front back said (front_refused x other) = front_refused x other
session_alike T U f left front back said (last_turn {m = m} {t = t} framed turned ends) = last_turn framed (f m back t turned) ends
session_alike T U f left front back said (one_turn {after = after} {rest = rest} {m = m} {t = t} {more = more} framed turned none behind) =
    one_turn framed (f m back t turned) none (session_alike T U f after rest t.behind more behind)

both_alike : (front back : Option (List ℕ)) (P Q : List ℕ → List ℕ → Type 0) → ((f b : List ℕ) → P f b → Q f b) → IfBoth front back P
    → IfBoth front back Q
both_alike None back P Q h x = tt
both_alike (Some f) None P Q h x = tt
both_alike (Some f) (Some b) P Q h x = h f b x

some_alike : (back : Option (List ℕ)) (P Q : List ℕ → Type 0) → ((b : List ℕ) → P b → Q b) → IfSome back P → IfSome back Q
some_alike None P Q h x = tt
some_alike (Some b) P Q h x = h b x

put_alike : (T U : Turning) → AreTurns T U → (left : ℕ) (before after : LinkSeen) (end : SessionEnd) (front back : List ℕ)
    → IsPut T left before after end front back → IsPut U left before after end front back
put_alike T U f left before after end front back x = record {
  said = x.said;
  session = session_alike T U f left front back x.said x.session;
  ending = x.ending;
  puts = x.puts;
}

ended_alike : (T U : Turning) → AreTurns T U → (left : ℕ) (before after : LinkSeen) (end : SessionEnd)
    → IfBoth before.front_in.bytes before.back_in.bytes (IsPut T left before after end)
    → IfBoth before.front_in.bytes before.back_in.bytes (IsPut U left before after end)
ended_alike T U f left before after end x =
    both_alike before.front_in.bytes before.back_in.bytes (IsPut T left before after end) (IsPut U left before after end)
    (put_alike T U f left before after end) x

taken_alike : (T U : Turning) → AreTurns T U → (left : ℕ) (before after : LinkSeen) (back : List ℕ)
    → IsPutAsTaken T left before after back → IsPutAsTaken U left before after back
taken_alike T U f left before after back x = record {
  front = x.front;
  taken = x.taken;
  said = x.said;
  session = session_alike T U f left x.front back x.said x.session;
  puts = x.puts;
}

unanswered_alike : (T U : Turning) → AreTurns T U → (left : ℕ) (before after : LinkSeen) → IsPutUnanswered T left before after
    → IsPutUnanswered U left before after
unanswered_alike T U f left before after x = record {
  front = x.front;
  back = x.back;
  front_taken = x.front_taken;
  back_taken = x.back_taken;
  said = x.said;
  session = session_alike T U f left x.front x.back x.said x.session;
  ending = x.ending;
  put = x.put;
  last = x.last;
  answers = x.answers;
  puts = x.puts;
}

ends_alike : (T U : Turning) → AreTurns T U → (left : ℕ) (before after : LinkSeen) (end : SessionEnd) → EndsSo T left before after end
    → EndsSo U left before after end
ends_alike T U f left before after Closed x = ended_alike T U f left before after Closed x
ends_alike T U f left before after Quota x = ended_alike T U f left before after Quota x
ends_alike T U f left before after FrontEnded x = ended_alike T U f left before after FrontEnded x
ends_alike T U f left before after BackEnded x = ended_alike T U f left before after BackEnded x
ends_alike T U f left before after (FrontFraming why) x = ended_alike T U f left before after (FrontFraming why) x
ends_alike T U f left before after (BackFraming why) x = ended_alike T U f left before after (BackFraming why) x
ends_alike T U f left before after FrontRead (rose, x) = (
  rose,
  some_alike before.back_in.bytes (IsPutAsTaken T left before after) (IsPutAsTaken U left before after)
      (taken_alike T U f left before after) x,
)
ends_alike T U f left before after BackRead (rose, x) = (rose, unanswered_alike T U f left before after x)
ends_alike T U f left before after FrontWrite x = x
ends_alike T U f left before after BackWrite x = x
ends_alike T U f left before after NoMemory x = x

abbrev AllPrefixes : Turning → ℕ → LinkSeen → LinkSeen → List ℕ → List ℕ → Type 0
AllPrefixes T left before after front back =
    (said : SessionSaid) → TurnsFrom T left front back said → PutsPrefixes before after said

-- a session that was run, where the turns of both are the same
pub run_alike : (T U : Turning) → AreTurns T U → AreTurns U T → (left : ℕ) (before after : LinkSeen) (end : SessionEnd)
    → SessionRun T left before after end → SessionRun U left before after end
run_alike T U f g left before after end x = record {
  so = ends_alike T U f left before after end x.so;
  prefixes = both_alike before.front_in.bytes before.back_in.bytes (AllPrefixes T left before after) (AllPrefixes U left before after)
      (λ front back p said s. p said (session_alike U T g left front back said s)) x.prefixes;
  front_taken = x.front_taken;
  back_taken = x.back_taken;
  counts = x.counts;
}
