-- When the bytes of a text complete its events. An event is completed by the last byte of its own text: that of an opener or
-- a tag is its head, that of a name or a leaf the whole of it, that of an end its bracket or break; in a CBOR array or map of
-- stated length the end is completed with the last item, or with the head where there is none. A JSON number is completed by
-- the byte after it, and where the text ends with it, by that end. Formats say for each text when its events are complete;
-- here stands what a prefix of a text then completes.
use Rattle.std.specs.Prelude.{◌≡◌, ◌≤◌, ℕ, nat_le, cond, List, [], ◌∷◌, ◌++◌, length}
use Rattle.sm_tree.specs.Node.{Node}
use Rattle.sm_tree.specs.Levels.{levels}
use Rattle.sm_tree.specs.Limits.{most_levels}
use Rattle.sm_tree.specs.Events.{NodeEvent}
use Rattle.sm_tree.specs.Streams.{StandsFor}

-- an event of a text and its time: complete with the byte behind which this many of the text's bytes stand, or only where the
-- text ends. The events of a text stand in their order, so the number behind never rises
pub data TimedEvent : Type 0 where
  by_byte : NodeEvent → ℕ → TimedEvent
  by_end : NodeEvent → TimedEvent

-- the bytes are a text of this tree, and these are its events, each with its time
abbrev pub Timing : Type 1
Timing = Node → List ℕ → List TimedEvent → Type 0

-- the events without their times
abbrev pub untimed : List TimedEvent → List NodeEvent
untimed [] = []
untimed (by_byte e k ∷ ts) = e ∷ untimed ts
untimed (by_end e ∷ ts) = e ∷ untimed ts

-- those that are complete where so many of the text's bytes are still to come
abbrev pub complete_with : ℕ → List TimedEvent → List NodeEvent
complete_with left [] = []
complete_with left (by_byte e k ∷ ts) = cond (nat_le left k) (e ∷ complete_with left ts) (complete_with left ts)
complete_with left (by_end e ∷ ts) = complete_with left ts

-- the bytes begin a text of at most 100 levels, of which they complete these events
abbrev pub Completes : Timing → List ℕ → List NodeEvent → Type 0
Completes T bs es =
    (more : List ℕ) × (n : Node) × (ts : List TimedEvent) × T n (bs ++ more) ts × (levels n ≤ most_levels)
    × (es ≡ complete_with (length more) ts)

-- a text of at most 100 levels ends here: all its events are complete
abbrev pub CompletesAll : Timing → List ℕ → List NodeEvent → Type 0
CompletesAll T bs es = (n : Node) × (ts : List TimedEvent) × T n bs ts × (levels n ≤ most_levels) × (es ≡ untimed ts)

-- what stands for streams by this relation stands for the events that the bytes complete
abbrev pub Follows : Timing → StandsFor → List ℕ → Type 0
Follows T S bs = (es : List NodeEvent) → Completes T bs es → S es

-- these events, each complete where so many of the text's bytes are still to come
abbrev pub HandsOn : ℕ → List TimedEvent → List NodeEvent → Type 0
HandsOn left [] [] = Unit {0}
HandsOn left [] (e ∷ es) = ⊥
HandsOn left (by_byte d k ∷ ts) [] = ⊥
HandsOn left (by_byte d k ∷ ts) (e ∷ es) = (d ≡ e) × (left ≤ k) × HandsOn left ts es
HandsOn left (by_end d ∷ ts) es = ⊥
