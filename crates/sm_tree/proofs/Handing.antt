-- Events handed on: those of two steps together, and what they are of a text's events that bytes complete.
use Rattle.std.proofs.Common.{◌≡◌, ℕ, ◌≤◌, ◌<◌, true, false, cond, List, [], ◌∷◌, ◌++◌, refl, ap, sym, subst, ◌∙◌, arith, append-nil}
use Rattle.std.proofs.Common.{append_assoc}
use Rattle.std.proofs.lemmas.Bool.Decides.{nat_tests}
use Rattle.std.specs.Prelude.{nat_le}
use Rattle.sm_tree.specs.Events.{NodeEvent}
use Rattle.sm_tree.specs.Timing.{TimedEvent, by_byte, by_end, untimed, complete_with, HandsOn}
use Rattle.sm_tree.specs.Streams.{StandsFor, BeginsStream, Streams}
use Rattle.sm_tree.specs.steps.Handing.{AreLater, TakesAll}

-- with fewer bytes to come they are complete too
pub hands_sooner : (more left : ℕ) (ts : List TimedEvent) (out : List NodeEvent) → left ≤ more → HandsOn more ts out → HandsOn left ts out
hands_sooner more left [] [] few h = tt
hands_sooner more left [] (e ∷ out) few h = h
hands_sooner more left (by_byte e k ∷ ts) [] few h = h
hands_sooner more left (by_byte e k ∷ ts) (f ∷ out) few (same, late, rest) = (same, omega arith, hands_sooner more left ts out few rest)
hands_sooner more left (by_end e ∷ ts) out few h = absurd h

-- and those of two steps
pub hands_joined : (left : ℕ) (ts us : List TimedEvent) (out more : List NodeEvent) → HandsOn left ts out → HandsOn left us more
    → HandsOn left (ts ++ us) (out ++ more)
hands_joined left [] us [] more h g = g
hands_joined left [] us (e ∷ out) more h g = absurd h
hands_joined left (by_byte e k ∷ ts) us [] more h g = absurd h
hands_joined left (by_byte e k ∷ ts) us (f ∷ out) more (same, late, rest) g = (same, late, hands_joined left ts us out more rest g)
hands_joined left (by_end e ∷ ts) us out more h g = absurd h

-- what is handed on is complete, and what is later isn't
soon : (left k : ℕ) → left ≤ k → nat_le left k ≡ true
soon left k h = grind (arith, nat_tests)

late : (left k : ℕ) → k < left → nat_le left k ≡ false
late left k h = grind (arith, nat_tests)

later_none : (left : ℕ) (ts : List TimedEvent) → AreLater left ts → complete_with left ts ≡ []
later_none left [] h = refl
later_none left (by_byte e k ∷ ts) (here, rest) =
    ap (λ b. cond b (e ∷ complete_with left ts) (complete_with left ts)) (late left k here) ∙ later_none left ts rest
later_none left (by_end e ∷ ts) h = later_none left ts h

-- what is handed on stands before what is complete of the rest
pub handed_before : (left : ℕ) (ts us : List TimedEvent) (out : List NodeEvent) → HandsOn left ts out
    → complete_with left (ts ++ us) ≡ out ++ complete_with left us
handed_before left [] us [] h = refl
handed_before left [] us (e ∷ out) h = absurd h
handed_before left (by_byte e k ∷ ts) us [] h = absurd h
handed_before left (by_byte e k ∷ ts) us (f ∷ out) (same, here, rest) =
    ap (λ b. cond b (e ∷ complete_with left (ts ++ us)) (complete_with left (ts ++ us))) (soon left k here)
    ∙ ap (λ es. e ∷ es) (handed_before left ts us out rest) ∙ ap (λ x. x ∷ (out ++ complete_with left us)) same
handed_before left (by_end e ∷ ts) us out h = absurd h

-- so where the rest is later, that is all that is complete
pub handed_complete : (left : ℕ) (ts us : List TimedEvent) (out : List NodeEvent) → HandsOn left ts out → AreLater left us
    → complete_with left (ts ++ us) ≡ out
handed_complete left ts us out h later =
    handed_before left ts us out h ∙ ap (λ es. out ++ es) (later_none left us later) ∙ append-nil out

-- what is later stays so where more bytes are to come
pub later_sooner : (left more : ℕ) (ts : List TimedEvent) → left ≤ more → AreLater left ts → AreLater more ts
later_sooner left more [] up h = tt
later_sooner left more (by_byte e k ∷ ts) up (here, rest) = (omega arith, later_sooner left more ts up rest)
later_sooner left more (by_end e ∷ ts) up h = later_sooner left more ts up h

-- without their times, what is handed on is the events that are told
pub hands_untimed : (left : ℕ) (ts : List TimedEvent) (out : List NodeEvent) → HandsOn left ts out → untimed ts ≡ out
hands_untimed left [] [] h = refl
hands_untimed left [] (e ∷ out) h = absurd h
hands_untimed left (by_byte e k ∷ ts) [] h = absurd h
hands_untimed left (by_byte e k ∷ ts) (f ∷ out) (same, late, rest) =
    ap (λ x. x ∷ untimed ts) same ∙ ap (λ fs. f ∷ fs) (hands_untimed left ts out rest)
hands_untimed left (by_end e ∷ ts) out h = absurd h

pub untimed_append : (ts us : List TimedEvent) → untimed (ts ++ us) ≡ untimed ts ++ untimed us
untimed_append [] us = refl
untimed_append (by_byte e k ∷ ts) us = ap (λ fs. e ∷ fs) (untimed_append ts us)
untimed_append (by_end e ∷ ts) us = ap (λ fs. e ∷ fs) (untimed_append ts us)

-- what is handed on stands before the events of the rest
pub handed_untimed : (left : ℕ) (ts us : List TimedEvent) (out : List NodeEvent) → HandsOn left ts out
    → untimed (ts ++ us) ≡ out ++ untimed us
handed_untimed left ts us out h = untimed_append ts us ∙ ap (λ es. es ++ untimed us) (hands_untimed left ts out h)

-- what begins a stream's beginning begins it
pub begins_before : (es fs : List NodeEvent) → BeginsStream (es ++ fs) → BeginsStream es
begins_before es fs (n, more, h) = (n, fs ++ more, subst (λ gs. Streams n gs []) (append_assoc es fs more) h)

-- no events, one and then others, and some and then others
pub takes_none : (S : StandsFor) → TakesAll S [] S
takes_none S es stands begins = subst S (sym (append-nil es)) stands

pub takes_both : (S M T : StandsFor) (out more : List NodeEvent) → TakesAll S out M → TakesAll M more T → TakesAll S (out ++ more) T
takes_both S M T out more first behind es stands begins =
    let is = append_assoc es out more in
    let all = subst BeginsStream (sym is) begins in
    subst T is (behind (es ++ out) (first es stands (begins_before (es ++ out) more all)) all)
