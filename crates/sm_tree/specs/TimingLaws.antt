-- What is to hold of a format's timing.
use Rattle.std.specs.Prelude.{◌≡◌, ◌≤◌, ◌*◌, ℕ, List, [], ◌++◌, length}
use Rattle.sm_tree.specs.Node.{Node}
use Rattle.sm_tree.specs.Levels.{levels}
use Rattle.sm_tree.specs.Limits.{most_levels}
use Rattle.sm_tree.specs.Events.{NodeEvent}
use Rattle.sm_tree.specs.Streams.{Streams}
use Rattle.sm_tree.specs.Syntax.{TreeFormat}
use Rattle.sm_tree.specs.Timing.{TimedEvent, Timing, untimed, Completes}

-- it times the texts of the format and no others, and their events are a stream of the text's tree
pub record TimesTexts (F : TreeFormat) (T : Timing) : Type 0 where
  pub timed : (n : Node) (bs : List ℕ) → F n bs → (ts : List TimedEvent) × T n bs ts
  pub text : (n : Node) (bs : List ℕ) (ts : List TimedEvent) → T n bs ts → F n bs
  pub streams : (n : Node) (bs : List ℕ) (ts : List TimedEvent) → T n bs ts → Streams n (untimed ts) []

-- bytes complete one list of events at most
abbrev pub HasOneCompletion : Timing → Type 0
HasOneCompletion T = (bs : List ℕ) (es fs : List NodeEvent) → Completes T bs es → Completes T bs fs → es ≡ fs

-- more bytes complete the same events, and perhaps more
abbrev pub GoesFurther : Timing → Type 0
GoesFurther T =
    (bs more : List ℕ) (es fs : List NodeEvent) → Completes T bs es → Completes T (bs ++ more) fs
    → (gs : List NodeEvent) × (fs ≡ es ++ gs)

-- at most two events a byte
abbrev pub HasFewEvents : Timing → Type 0
HasFewEvents T = (bs : List ℕ) (es : List NodeEvent) → Completes T bs es → length es ≤ 2 * length bs

-- what bytes complete begins a stream of a tree of at most 100 levels
abbrev pub BeginsTrees : Timing → Type 0
BeginsTrees T =
    (bs : List ℕ) (es : List NodeEvent) → Completes T bs es
    → (n : Node) × (more : List NodeEvent) × Streams n (es ++ more) [] × (levels n ≤ most_levels)
