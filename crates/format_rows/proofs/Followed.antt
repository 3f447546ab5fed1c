-- A builder that took a whole stream has nothing open.
use Rattle.std.proofs.Common.{◌≡◌, List, [], sym, ◌∙◌, false}
use Rattle.sm_tree.specs.Node.{Node}
use Rattle.sm_tree.specs.Events.{NodeEvent}
use Rattle.sm_tree.specs.Streams.{Streams, unnumbered}
use Rattle.sm_tree.specs.Building.{Building, so_far, kinds, awaits_value}
use Rattle.sm_tree.proofs.Awaited.{whole_closed}
use Rattle.sm_tree.proofs.Streams.{stream_events}

pub followed_closed : (n : Node) (es : List NodeEvent) (b : Building) → Streams n es [] → unnumbered es ≡ so_far b
    → (kinds b ≡ []) × (awaits_value b ≡ false)
followed_closed n es b stream is = whole_closed b n (sym is ∙ stream_events n es [] stream)
