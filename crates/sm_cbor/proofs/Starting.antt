-- What may come in the first state is an item, and nothing behind it.
use Rattle.std.proofs.Common.{◌≤◌, ℕ, List, [], refl, subst, arith}
use Rattle.sm_tree.specs.Node.{Node}
use Rattle.sm_tree.specs.Levels.{levels}
use Rattle.sm_tree.specs.Timing.{TimedEvent}
use Rattle.sm_cbor.specs.CborItem.{Item as ItemBytes}
use Rattle.sm_cbor.specs.Timing.{ItemTimed}
use Rattle.sm_cbor.specs.steps.Marks.{Keys, key_of}
use Rattle.sm_cbor.specs.steps.Rest.{first_state, CborRest}
use Rattle.sm_cbor.proofs.Timings.{item_timed}

pub item_start : (w : Keys) (limit : ℕ) (bs : List ℕ) (n : Node) → ItemBytes (key_of w) n bs [] → levels n ≤ limit
    → (es : List TimedEvent) × CborRest w limit first_state bs es
item_start w limit bs n h room =
    let (es, timed) = item_timed (key_of w) n bs [] [] h in (es, (n, [], [], timed, omega arith, (refl, refl)))

pub start_item : (w : Keys) (limit : ℕ) (bs : List ℕ) (es : List TimedEvent) → CborRest w limit first_state bs es
    → (n : Node) × ItemTimed (key_of w) n bs [] es [] × (levels n ≤ limit)
start_item w limit bs es (n, r, fs, h, room, (e, f)) =
    (n, subst (λ x. ItemTimed (key_of w) n bs x es []) e (subst (λ x. ItemTimed (key_of w) n bs r es x) f h), omega arith)
