-- A sink beside the machine: it may take what a step hands on, and then stands for more; and what it stands for are the events
-- that the bytes so far complete.
use Rattle.std.proofs.Common.{◌≤◌, ◌+◌, ℕ, List, [], ◌∷◌, ◌++◌, sym, ap, subst, ◌∙◌, length, append-nil}
use Rattle.sm_tree.specs.Limits.{most_levels}
use Rattle.sm_tree.specs.Events.{NodeEvent}
use Rattle.sm_tree.specs.Streams.{Streams, StandsFor, BeginsStream, MayTake, TakesOn}
use Rattle.sm_tree.specs.Timing.{untimed, Follows}
use Rattle.sm_tree.specs.steps.Handing.{TakesAll}
use Rattle.sm_tree.proofs.Handing.{hands_untimed, untimed_append}
use Rattle.sm_cbor.specs.CborItem.{TextString}
use Rattle.sm_cbor.specs.Timing.{cbor_timing}
use Rattle.sm_cbor.specs.steps.Marks.{plain}
use Rattle.sm_cbor.specs.steps.Rest.{CborState, CborLeads, LeadsBack, first_state}
use Rattle.sm_cbor.specs.steps.Machine.{opens, Lives, Begun}
use Rattle.sm_cbor.specs.steps.Sinks.{Reached, Owed}
use Rattle.sm_cbor.proofs.Endings.{goes_on}
use Rattle.sm_cbor.proofs.Readings.{back_joined}
use Rattle.sm_cbor.proofs.Timings.{timed_stream}
use Rattle.sm_cbor.proofs.Starting.{start_item}
use Rattle.sm_cbor.proofs.Completing.{leads_complete, complete_leads}

-- something may come from the state
abbrev pub CanGoOn : CborState → Type 0
CanGoOn x = Lives x.place × (length x.levels + opens x.place ≤ most_levels)

-- what leads there from the first state begins a tree's stream
pub begun_stream : (bs : List ℕ) (out : List NodeEvent) (x : CborState) → LeadsBack plain most_levels first_state bs out x → CanGoOn x
    → BeginsStream out
begun_stream bs out x back (lives, room) =
    let (s, es, rest) = goes_on plain most_levels x.place x.held x.levels room lives in
    let (os, hands, first) = back s es rest in
    let (n, timed, deep) = start_item plain most_levels (bs ++ s) (os ++ es) first in (
      n,
      untimed es,
      subst (λ gs. Streams n gs []) (untimed_append os es ∙ ap (λ gs. gs ++ untimed es) (hands_untimed (length s) os out hands))
          (timed_stream TextString n (bs ++ s) [] (os ++ es) [] timed),
    )

-- where a step hands on nothing, and where it owes an event: that may be taken, and then the sink has reached the state
pub reached_by : (S : StandsFor) (x y : CborState) (v : List ℕ) → Reached S x → CborLeads plain most_levels x v [] y → Reached S y
reached_by S x y v (bs, es, back, stands) step = (
  bs ++ v,
  es,
  subst (λ out. LeadsBack plain most_levels first_state (bs ++ v) out y) (append-nil es)
      (back_joined plain most_levels first_state x y bs v es [] back step.back),
  stands,
)

pub owed_by : (S : StandsFor) (x y : CborState) (v : List ℕ) (e : NodeEvent) → Reached S x → CborLeads plain most_levels x v (e ∷ []) y
    → Owed S e y
owed_by S x y v e (bs, es, back, stands) step =
    (bs ++ v, es, back_joined plain most_levels first_state x y bs v es (e ∷ []) back step.back, stands)

pub owed_may : (S : StandsFor) (x : CborState) (e : NodeEvent) → Owed S e x → CanGoOn x → MayTake S e
owed_may S x e (bs, es, back, stands) can = (es, stands, begun_stream bs (es ++ e ∷ []) x back can)

pub owed_taken : (S T : StandsFor) (x : CborState) (e : NodeEvent) → Owed S e x → CanGoOn x → TakesOn S e T → Reached T x
owed_taken S T x e (bs, es, back, stands) can takes =
    (bs, es ++ e ∷ [], back, takes es stands (begun_stream bs (es ++ e ∷ []) x back can))

pub may_take : (S : StandsFor) (x y : CborState) (v : List ℕ) (e : NodeEvent) → Reached S x
    → CborLeads plain most_levels x v (e ∷ []) y → CanGoOn y → MayTake S e
may_take S x y v e reached step can = owed_may S y e (owed_by S x y v e reached step) can

-- behind a step that hands on any events
pub reached_on : (S T : StandsFor) (x y : CborState) (v : List ℕ) (out : List NodeEvent) → Reached S x
    → CborLeads plain most_levels x v out y → CanGoOn y → TakesAll S out T → Reached T y
reached_on S T x y v out (bs, es, back, stands) step can takes =
    let both = back_joined plain most_levels first_state x y bs v es out back step.back in
    (bs ++ v, es ++ out, both, takes es stands (begun_stream (bs ++ v) (es ++ out) y both can))

-- what stands for what was handed on follows the bytes, and the other way round
pub stands_follow : (S : StandsFor) (bs : List ℕ) (out : List NodeEvent) (x : CborState) → CborLeads plain most_levels first_state bs out x
    → Begun x.place x.levels → S out → Follows cbor_timing S bs
stands_follow S bs out x leads begun stands es complete = subst S (sym (complete_leads bs out es x leads begun complete)) stands

pub follow_stands : (S : StandsFor) (bs : List ℕ) (out : List NodeEvent) (x : CborState) → CborLeads plain most_levels first_state bs out x
    → Begun x.place x.levels → CanGoOn x → Follows cbor_timing S bs → S out
follow_stands S bs out x leads begun (lives, room) follows = follows out (leads_complete bs out x leads begun lives room)
