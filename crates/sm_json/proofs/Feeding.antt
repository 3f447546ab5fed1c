-- A reader and its sink: one step behind another, and that each event which a step completes is one that the sink may be brought.
use Rattle.std.proofs.Common.{◌≡◌, ℕ, ◌≤◌, List, [], ◌∷◌, ◌++◌, refl, sym, ap, subst, ◌∙◌, length, append_assoc, append-nil}
use Rattle.sm_tree.specs.Node.{Node}
use Rattle.sm_tree.specs.Numbers.{NumberText}
use Rattle.sm_tree.specs.Events.{NodeEvent, events}
use Rattle.sm_tree.specs.Streams.{Streams, StandsFor, BeginsStream, MayTake}
use Rattle.sm_tree.specs.Timing.{TimedEvent, untimed, HandsOn}
use Rattle.sm_tree.specs.Syntax.{most_levels}
use Rattle.sm_tree.specs.steps.Handing.{TakesAll}
use Rattle.sm_tree.specs.declared.build.OpenKind.{OpenKind}
use Rattle.sm_tree.proofs.Streams.{events_stream}
use Rattle.sm_tree.proofs.Handing.{hands_untimed, untimed_append, begins_before}
use Rattle.sm_json.specs.Timing.{by_next}
use Rattle.sm_json.specs.steps.Rest.{after, numeral, JsonState, json_start, JsonRest, JsonLeads, JsonGoesOn}
use Rattle.sm_json.specs.steps.Feeding.{IsPlaced}
use Rattle.sm_json.proofs.Opening.{at}
use Rattle.sm_json.proofs.Leaves.{number_one}
use Rattle.sm_json.proofs.Timed.{next_untimed}
use Rattle.sm_json.proofs.Whole.{start_text}
use Rattle.sm_json.proofs.Closing.{after_goes_on}

-- what came and what comes, in one list
parted : (es out : List NodeEvent) (left : ℕ) (os us : List TimedEvent) → HandsOn left os out
    → es ++ untimed (os ++ us) ≡ (es ++ out) ++ untimed us
parted es out left os us h =
    ap (λ fs. es ++ fs) (untimed_append os us ∙ ap (λ fs. fs ++ untimed us) (hands_untimed left os out h))
    ∙ sym (append_assoc es out (untimed us))

-- behind a step, as before it: what may come there begins a stream with what came
pub comes_behind : (x y : JsonState) (w : List ℕ) (es out : List NodeEvent) → JsonLeads most_levels x w out y
    → ((s : List ℕ) (ts : List TimedEvent) → JsonRest most_levels x s ts → BeginsStream (es ++ untimed ts))
    → (s : List ℕ) (us : List TimedEvent) → JsonRest most_levels y s us → BeginsStream ((es ++ out) ++ untimed us)
comes_behind x y w es out leads comes s us rest =
    let (os, handed, before) = leads.back s us rest in
    subst BeginsStream (parted es out (length s) os us handed) (comes (w ++ s) (os ++ us) before)

pub placed_on : (x y : JsonState) (w : List ℕ) (S T : StandsFor) (out : List NodeEvent) → IsPlaced x S → JsonLeads most_levels x w out y
    → JsonGoesOn most_levels y [] → TakesAll S out T → IsPlaced y T
placed_on x y w S T out (es, stands, comes) leads (s, us, rest) hands = (
  es ++ out,
  hands es stands (begins_before (es ++ out) (untimed us) (comes_behind x y w es out leads comes s us rest)),
  comes_behind x y w es out leads comes,
)

-- the first event that a step completes is one that the sink may be brought
pub event_placed : (x y : JsonState) (w : List ℕ) (S : StandsFor) (e : NodeEvent) (out : List NodeEvent) → IsPlaced x S
    → JsonLeads most_levels x w (e ∷ out) y → JsonGoesOn most_levels y [] → MayTake S e
event_placed x y w S e out (es, stands, comes) leads (s, us, rest) =
    let all : BeginsStream ((es ++ e ∷ out) ++ untimed us) = comes_behind x y w es (e ∷ out) leads comes s us rest in
    let same : (es ++ e ∷ out) ++ untimed us ≡ (es ++ e ∷ []) ++ (out ++ untimed us) =
    append_assoc es (e ∷ out) (untimed us) ∙ sym (append_assoc es (e ∷ []) (out ++ untimed us)) in
    (es, stands, begins_before (es ++ e ∷ []) (out ++ untimed us) (subst BeginsStream same all))

-- so is the event of a number that is whole
pub number_placed : (b : List ℕ) (ks : List OpenKind) (S : StandsFor) (n : Node) (e : NodeEvent) → IsPlaced (at (numeral b) ks) S
    → length ks ≤ most_levels → NumberText n b → events n [] ≡ e ∷ [] → MayTake S e
number_placed b ks S n e (es, stands, comes) room is one =
    let (s, us, ends) = after_goes_on most_levels ks room in
    let whole : JsonRest most_levels (at (numeral b) ks) s (by_next e s ∷ us) =
    (n, [], s, us, refl, subst (NumberText n) (sym (append-nil b)) is, ends, (e, one, refl)) in
    let all : BeginsStream (es ++ e ∷ untimed us) = subst (λ fs. BeginsStream (es ++ fs)) (next_untimed e s us)
    (comes s (by_next e s ∷ us) whole) in
    (es, stands, begins_before (es ++ e ∷ []) (untimed us) (subst BeginsStream (sym (append_assoc es (e ∷ []) (untimed us))) all))

-- and behind it the sink is placed as behind a value
pub number_placed_on : (b : List ℕ) (ks : List OpenKind) (S T : StandsFor) (n : Node) → IsPlaced (at (numeral b) ks) S
    → length ks ≤ most_levels → NumberText n b → TakesAll S (events n []) T → IsPlaced (at after ks) T
number_placed_on b ks S T n (es, stands, comes) room is hands =
    let (s, us, ends) = after_goes_on most_levels ks room in (
      es ++ events n [],
      hands es stands (begins_before (es ++ events n []) (untimed us) (behind_number b ks n es is comes s us ends)),
      behind_number b ks n es is comes,
    )
  where
    behind_number : (b : List ℕ) (ks : List OpenKind) (n : Node) (es : List NodeEvent) → NumberText n b
        → ((s : List ℕ) (ts : List TimedEvent) → JsonRest most_levels (at (numeral b) ks) s ts → BeginsStream (es ++ untimed ts))
        → (s : List ℕ) (us : List TimedEvent) → JsonRest most_levels (at after ks) s us → BeginsStream ((es ++ events n []) ++ untimed us)
    behind_number b ks n es is comes s us ends =
        let (e, one) = number_one n b is in
        let all : BeginsStream (es ++ untimed (by_next e s ∷ us)) =
        comes s (by_next e s ∷ us) (n, [], s, us, refl, subst (NumberText n) (sym (append-nil b)) is, ends, (e, one, refl)) in
        let same : untimed (by_next e s ∷ us) ≡ events n [] ++ untimed us = next_untimed e s us ∙ ap (λ fs. fs ++ untimed us) (sym one) in
        subst BeginsStream (sym (append_assoc es (events n []) (untimed us))) (subst (λ fs. BeginsStream (es ++ fs)) same all)

-- a sink that stands for what the bytes so far complete is placed, at the first byte and behind a run
pub run_placed : (bs : List ℕ) (out : List NodeEvent) (x : JsonState) (S : StandsFor) → JsonLeads most_levels json_start bs out x → S out
    → IsPlaced x S
run_placed bs out x S leads stands = (out, stands, comes_behind json_start x bs [] out leads begun)
  where
    begun : (s : List ℕ) (ts : List TimedEvent) → JsonRest most_levels json_start s ts → BeginsStream ([] ++ untimed ts)
    begun s ts rest =
        let (n, text, room, is) = start_text most_levels s ts rest in
        (n, [], subst (λ fs. Streams n fs []) (sym (append-nil (untimed ts) ∙ is)) (events_stream n []))
