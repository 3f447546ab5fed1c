-- What was played of a session, turn behind turn.
use Rattle.std.proofs.Common.{◌≡◌, ℕ, suc, false, List, [], ◌∷◌, ◌++◌, refl, sym, ap, ◌∙◌, subst, append_assoc, Option, None}
use Rattle.sm_io.proofs.Told.{consumes_both, consumes_none}
use Rattle.sm_http.specs.declared.message.Message.{Message}
use Rattle.sm_http.specs.declared.message.MessageSide.TheVariants.{Request as of_requests}
use Rattle.sm_http.specs.Framed.{message, Framed}
use Rattle.sm_http.specs.Calls.{Uses}
use Rattle.sm_http.specs.Laws.{HasOneFraming}
use Rattle.sm_session.specs.Turns.{Turning}
use Rattle.sm_session.specs.Sessions.{SessionSaid, TurnsFrom, one_turn, turn_end, answer_text, piece_of}
use Rattle.sm_session.specs.Laws.{HasOneTurn}
use Rattle.sm_session.specs.steps.Played.{Played, behind_said}
use Rattle.sm_session.specs.steps.Turning.{turn_said}
use Rattle.sm_session.proofs.SessionViews.{BehindTurn, seen_behind}

pub played_none : (turning : Turning) (left : ℕ) (front back : Option (List ℕ)) → Played turning left left front front back back [] []
played_none turning left front back = record {
  used_front = [];
  used_back = [];
  front_used = consumes_none front;
  back_used = consumes_none back;
  on = λ f b s x. x;
  from = λ f b s x. (s, x, refl);
}

said_assoc : (a b q r : List (List ℕ)) (s : SessionSaid)
    → behind_said a q (behind_said b r s) ≡ behind_said (a ++ b) (q ++ r) s
said_assoc a b q r s =
    ap (λ x. record { answers = x; requests = q ++ (r ++ s.requests); ending = s.ending }) (sym (append_assoc a b s.answers))
    ∙ ap (λ y. record { answers = (a ++ b) ++ s.answers; requests = y; ending = s.ending }) (sym (append_assoc q r s.requests))

pub played_then : (turning : Turning) (l0 l1 l2 : ℕ) (f0 f1 f2 b0 b1 b2 : Option (List ℕ)) (a b q r : List (List ℕ))
    → Played turning l0 l1 f0 f1 b0 b1 a q → Played turning l1 l2 f1 f2 b1 b2 b r → Played turning l0 l2 f0 f2 b0 b2 (a ++ b) (q ++ r)
played_then turning l0 l1 l2 f0 f1 f2 b0 b1 b2 a b q r one two = record {
  used_front = one.used_front ++ two.used_front;
  used_back = one.used_back ++ two.used_back;
  front_used = consumes_both f0 f1 f2 one.used_front two.used_front one.front_used two.front_used;
  back_used = consumes_both b0 b1 b2 one.used_back two.used_back one.back_used two.back_used;
  on = λ f g s x.
      subst (λ u. TurnsFrom turning l0 u ((one.used_back ++ two.used_back) ++ g) (behind_said (a ++ b) (q ++ r) s))
      (sym (append_assoc one.used_front two.used_front f))
      (subst (λ v. TurnsFrom turning l0 (one.used_front ++ (two.used_front ++ f)) v (behind_said (a ++ b) (q ++ r) s))
      (sym (append_assoc one.used_back two.used_back g))
      (subst (λ t. TurnsFrom turning l0 (one.used_front ++ (two.used_front ++ f)) (one.used_back ++ (two.used_back ++ g)) t)
      (said_assoc a b q r s)
      (one.on (two.used_front ++ f) (two.used_back ++ g) (behind_said b r s) (two.on f g s x))));
  from = λ f g s x.
      let first = one.from (two.used_front ++ f) (two.used_back ++ g) s
      (subst (λ u. TurnsFrom turning l0 u (one.used_back ++ (two.used_back ++ g)) s) (append_assoc one.used_front two.used_front f)
      (subst (λ v. TurnsFrom turning l0 ((one.used_front ++ two.used_front) ++ f) v s) (append_assoc one.used_back two.used_back g) x)) in
      let next = two.from f g first.0 first.1 in
      (next.0, next.1, first.2 ∙ ap (behind_said a q) next.2 ∙ said_assoc a b q r next.0);
}

-- one turn behind which the session goes on
pub played_turn : (turning : Turning) (after : ℕ) (f0 f1 b0 b1 : Option (List ℕ)) (m : Message) (request : Option (List ℕ)) (answer : Message)
    → HasOneFraming of_requests → HasOneTurn turning → turn_end after m.head None ≡ None
    → Uses f0 f1 (λ used more. Framed of_requests (used ++ more) (message m more))
    → Uses b0 b1 (λ used more. turning m (used ++ more) (turn_said request more answer None))
    → Played turning (suc after) after f0 f1 b0 b1 (answer_text m.head false answer ∷ []) (piece_of request)
played_turn turning after f0 f1 b0 b1 m request answer framing once is (used, front_used, framed) (gone, back_used, turned) = record {
  used_front = used;
  used_back = gone;
  front_used = front_used;
  back_used = back_used;
  on = λ f g s x. one_turn (framed f) (turned g) is x;
  from = λ f g s x.
      subst (BehindTurn turning f after m (turn_said request g answer None) s) is
      (seen_behind turning after (used ++ f) (gone ++ g) f m (turn_said request g answer None) s framing once (framed f) (turned g) x);
}
