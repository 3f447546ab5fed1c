-- What the definitions are worth beside what `HasOneReading`, `HasOneAnswer` and `HasSomeAnswer` of sm_tree say of any
-- syntax, as statements that the functions of src/laws.rt prove.
use Rattle.std.specs.Prelude.{◌≡◌, ◌<◌, ◌≤◌, ◌^◌, length, Result, Ok}
use Rattle.sm_tree.specs.Node.{Node}
use Rattle.sm_tree.specs.Json.{IsCbor}
use Rattle.sm_tree.specs.Levels.{levels}
use Rattle.sm_tree.specs.Limits.{most_levels}
use Rattle.sm_tree.specs.Syntax.{IsRead, ComesTo}
use Rattle.sm_tree.specs.declared.refusal.SyntaxRefusal.{SyntaxRefusal}
use Rattle.sm_cbor.specs.CborItem.{CborItem}
use Rattle.sm_cbor.specs.Refusals.{cbor_syntax}
use Rattle.sm_cbor.specs.Written.{written_item}

-- what is written for a tree is an item of that tree, if 64 bits hold its length
abbrev pub WrittenIsItem : Type 0
WrittenIsItem = (n : Node) → IsCbor n → length (written_item n) < 2 ^ 64 → CborItem n (written_item n)

-- a tree of at most 100 levels is read again as itself: what is written for it is read as it, and comes to nothing else
abbrev pub WrittenItemIsRead : Type 0
WrittenItemIsRead =
    (n : Node) → IsCbor n → length (written_item n) < 2 ^ 64 → (levels n ≤ most_levels)
    → IsRead CborItem n (written_item n) × ((a : Result Node SyntaxRefusal) → ComesTo cbor_syntax (written_item n) a → a ≡ Ok n)
