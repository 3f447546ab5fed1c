-- A turn comes to one thing, where what a request comes to and what a reply comes to do; and there is one, where they are there.
use Rattle.std.proofs.Common.{◌≡◌, ℕ, List, refl, sym, ap, ◌∙◌, subst, inl, inr, Some}
use Rattle.std.specs.Prelude.{◌≢◌, ◌⊎◌}
use Rattle.sm_http.specs.declared.message.Message.{Message}
use Rattle.sm_http.specs.declared.message.MessageSide.TheVariants.{Response as of_responses}
use Rattle.sm_http.specs.declared.refusal.HttpRefusal.TheVariants.{Ended}
use Rattle.sm_http.specs.Framed.{Framing, no_message, message, message_refused, Framed}
use Rattle.sm_http.specs.Laws.{HasOneFraming, HasSomeFraming}
use Rattle.sm_session.specs.declared.session_end.SessionEnd.TheVariants.{BackEnded, BackFraming}
use Rattle.sm_session.specs.Turns.{Asking, Replying, Asked, answered, asks, TurnSaid, at_once, back_lost, replied_with, TurnBy}
use Rattle.sm_session.specs.Turns.{answered_at_once, back_silent, back_cut, back_refused, back_replied}
use Rattle.sm_session.specs.Laws.{HasOneAsked, HasSomeAsked, HasOneReply, HasSomeReply, HasOneTurn, HasSomeTurn}

-- what is asked is one text
pub one_text : (asking : Asking) → HasOneAsked asking → (m : Message) (t u : List ℕ) → asking m (asks t) → asking m (asks u) → t ≡ u
one_text asking one m t u x y = let same : asks t ≡ asks u = one m (asks t) (asks u) x y in cc

-- what is answered at once asks nothing
pub asks_nothing : (asking : Asking) → HasOneAsked asking → (m a : Message) (t : List ℕ) → asking m (answered a) → asking m (asks t) → ⊥
asks_nothing asking one m a t x y = let same : answered a ≡ asks t = one m (answered a) (asks t) x y in cc

-- a turn that asks the back, by what the back's bytes come to
abbrev pub BackTurn : Replying → Message → List ℕ → Framing → TurnSaid → Type 0
BackTurn replying m text no_message t = t ≡ back_lost text Ended BackEnded
BackTurn replying m text (message_refused why) t =
    ((why ≡ Ended) × (t ≡ back_lost text Ended BackEnded)) ⊎ ((why ≢ Ended) × (t ≡ back_lost text why (BackFraming why)))
BackTurn replying m text (message said rest) t = (a : Message) × replying m said a × (t ≡ replied_with text said rest a)

-- a turn, by what its request comes to
abbrev pub TurnSeen : Asking → Replying → Message → List ℕ → TurnSaid → Type 0
TurnSeen asking replying m back t =
    ((a : Message) × asking m (answered a) × (t ≡ at_once back a))
    ⊎ ((text : List ℕ) × asking m (asks text) × (g : Framing) × Framed of_responses back g × BackTurn replying m text g t)

pub turn_seen : (asking : Asking) (replying : Replying) (m : Message) (back : List ℕ) (t : TurnSaid) → TurnBy asking replying m back t
    → TurnSeen asking replying m back t
turn_seen asking replying m back t (answered_at_once {a = a} x) = inl (a, x, refl)
turn_seen asking replying m back t (back_silent {text = text} x framed) = inr (text, x, no_message, framed, refl)
turn_seen asking replying m back t (back_cut {text = text} x framed) = inr (text, x, message_refused Ended, framed, inl (refl, refl))
turn_seen asking replying m back t (back_refused {text = text} {why = why} x framed other) =
    inr (text, x, message_refused why, framed, inr (other, refl))
turn_seen asking replying m back t (back_replied {said = said} {a = a} {text = text} {rest = rest} x framed y) =
    inr (text, x, message said rest, framed, (a, y, refl))

same_back : (replying : Replying) → HasOneReply replying → (m : Message) (text : List ℕ) (g : Framing) (t u : TurnSaid)
    → BackTurn replying m text g t → BackTurn replying m text g u → t ≡ u
same_back replying one m text no_message t u x y = x ∙ sym y
same_back replying one m text (message_refused why) t u (inl x) (inl y) = x.1 ∙ sym y.1
same_back replying one m text (message_refused why) t u (inl x) (inr y) = absurd (y.0 x.0)
same_back replying one m text (message_refused why) t u (inr x) (inl y) = absurd (x.0 y.0)
same_back replying one m text (message_refused why) t u (inr x) (inr y) = x.1 ∙ sym y.1
same_back replying one m text (message said rest) t u x y =
    x.2 ∙ ap (replied_with text said rest) (one m said x.0 y.0 x.1 y.1) ∙ sym y.2

same_seen : (asking : Asking) (replying : Replying) → HasOneAsked asking → HasOneReply replying → HasOneFraming of_responses
    → (m : Message) (back : List ℕ) (t u : TurnSaid) → TurnSeen asking replying m back t → TurnSeen asking replying m back u → t ≡ u
same_seen asking replying one reply framed m back t u (inl x) (inl y) =
    let same : answered x.0 ≡ answered y.0 = one m (answered x.0) (answered y.0) x.1 y.1 in
    let answers : x.0 ≡ y.0 = cc in
    x.2 ∙ ap (at_once back) answers ∙ sym y.2
same_seen asking replying one reply framed m back t u (inl x) (inr y) = absurd (asks_nothing asking one m x.0 y.0 x.1 y.1)
same_seen asking replying one reply framed m back t u (inr x) (inl y) = absurd (asks_nothing asking one m y.0 x.0 y.1 x.1)
same_seen asking replying one reply framed m back t u (inr x) (inr y) =
    let texts : x.0 ≡ y.0 = one_text asking one m x.0 y.0 x.1 y.1 in
    let ways : x.2 ≡ y.2 = framed back x.2 y.2 x.3 y.3 in
    same_back replying reply m y.0 y.2 t u
    (subst (λ g. BackTurn replying m y.0 g t) ways (subst (λ s. BackTurn replying m s x.2 t) texts x.4)) y.4

pub one_turn_said : (asking : Asking) (replying : Replying) → HasOneAsked asking → HasOneReply replying → HasOneFraming of_responses
    → HasOneTurn (TurnBy asking replying)
one_turn_said asking replying one reply framed m back t u x y =
    same_seen asking replying one reply framed m back t u (turn_seen asking replying m back t x) (turn_seen asking replying m back u y)

-- the back is asked for what its turn puts
pub asked_text : (asking : Asking) (replying : Replying) → HasOneAsked asking → (m : Message) (text back : List ℕ) (t : TurnSaid)
    → asking m (asks text) → TurnBy asking replying m back t → t.request ≡ Some text
asked_text asking replying one m text back t x (answered_at_once {a = a} y) = absurd (asks_nothing asking one m a text y x)
asked_text asking replying one m text back t x (back_silent {text = other} y framed) = ap Some (one_text asking one m other text y x)
asked_text asking replying one m text back t x (back_cut {text = other} y framed) = ap Some (one_text asking one m other text y x)
asked_text asking replying one m text back t x (back_refused {text = other} y framed not_cut) =
    ap Some (one_text asking one m other text y x)
asked_text asking replying one m text back t x (back_replied {text = other} y framed reply) =
    ap Some (one_text asking one m other text y x)

-- a turn that asks the back has an end, or not, but is there
some_back : (asking : Asking) (replying : Replying) → HasSomeReply asking replying → (m : Message) (back text : List ℕ)
    → asking m (asks text) → ((t : TurnSaid) → TurnBy asking replying m back t → ⊥) → (g : Framing) → Framed of_responses back g → ⊥
some_back asking replying some m back text x deny no_message framed = deny (back_lost text Ended BackEnded) (back_silent x framed)
some_back asking replying some m back text x deny (message_refused why) framed =
    deny (back_lost text why (BackFraming why)) (back_refused x framed (λ same.
    deny (back_lost text Ended BackEnded)
    (back_cut x (subst (λ w. Framed of_responses back (message_refused w)) same framed))))
some_back asking replying some m back text x deny (message said rest) framed =
    some m said text x (λ a y. deny (replied_with text said rest a) (back_replied x framed y))

some_way : (asking : Asking) (replying : Replying) → HasSomeReply asking replying → HasSomeFraming of_responses → (m : Message)
    (back : List ℕ) → ((t : TurnSaid) → TurnBy asking replying m back t → ⊥) → (a : Asked) → asking m a → ⊥
some_way asking replying reply framed m back deny (answered a) x = deny (at_once back a) (answered_at_once x)
some_way asking replying reply framed m back deny (asks text) x = framed back (some_back asking replying reply m back text x deny)

pub some_turn_said : (asking : Asking) (replying : Replying) → HasSomeAsked asking → HasSomeReply asking replying
    → HasSomeFraming of_responses → HasSomeTurn (TurnBy asking replying)
some_turn_said asking replying some reply framed m back deny = some m (some_way asking replying reply framed m back deny)
