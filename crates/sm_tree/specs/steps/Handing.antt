-- What of a text's events is still to be handed on, and what a sink stands for that took some. The contracts and lemmas of
-- readers cite it; what a prefix of a text completes (`Completes`) is said without it.
use Rattle.std.specs.Prelude.{◌<◌, ℕ, List, [], ◌∷◌, ◌++◌}
use Rattle.sm_tree.specs.Events.{NodeEvent}
use Rattle.sm_tree.specs.Streams.{StandsFor, BeginsStream}
use Rattle.sm_tree.specs.Timing.{TimedEvent, by_byte, by_end}

-- none of these is complete where so many of the text's bytes are still to come
abbrev pub AreLater : ℕ → List TimedEvent → Type 0
AreLater left [] = Unit {0}
AreLater left (by_byte e k ∷ ts) = (k < left) × AreLater left ts
AreLater left (by_end e ∷ ts) = AreLater left ts

-- what stood for a stream that these events may follow stands for both
abbrev pub TakesAll : StandsFor → List NodeEvent → StandsFor → Type 0
TakesAll S out T = (es : List NodeEvent) → S es → BeginsStream (es ++ out) → T (es ++ out)
