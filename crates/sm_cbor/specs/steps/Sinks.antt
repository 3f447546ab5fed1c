-- A sink beside the machine. The reader's contracts cite it.
use Rattle.std.specs.Prelude.{ℕ, List, [], ◌∷◌, ◌++◌}
use Rattle.sm_tree.specs.Limits.{most_levels}
use Rattle.sm_tree.specs.Events.{NodeEvent}
use Rattle.sm_tree.specs.Streams.{StandsFor}
use Rattle.sm_cbor.specs.steps.Marks.{plain}
use Rattle.sm_cbor.specs.steps.Rest.{CborState, LeadsBack, first_state}

-- it stands for the events of some bytes behind which whatever may come at the state may come. Other things may too: behind
-- an entry that a break may follow, the sink has also reached the place where the next entry must come
abbrev pub Reached : StandsFor → CborState → Type 0
Reached S x = (bs : List ℕ) × (es : List NodeEvent) × LeadsBack plain most_levels first_state bs es x × S es

-- and for all of them but this event
abbrev pub Owed : StandsFor → NodeEvent → CborState → Type 0
Owed S e x = (bs : List ℕ) × (es : List NodeEvent) × LeadsBack plain most_levels first_state bs (es ++ e ∷ []) x × S es
