-- What joining parts is given of a body, and which content it stands for.
use Rattle.std.specs.Prelude.{◌≡◌, ℕ, Bool, true, false, Option, None, Some}
use Rattle.sm_tree.specs.Node.{Node, no_members, object}
use Rattle.sm_shapes.specs.Places.{root_place}
use Rattle.sm_codec.specs.Codec.{Codec}
use Rattle.sm_codec.specs.FrameView.{outcome_of}
use Rattle.sm_codec.specs.Kept.{IsOutcome}
use Rattle.sm_codec.specs.Named.{is_null}
use Rattle.sm_codec.specs.Readings.{reading}
use Rattle.sm_messages.specs.MessageForm.{Content, a_tree, nothing, raw_bytes}
use Rattle.sm_bind.specs.Roles.{Bound, has_document}
use Rattle.sm_bind_read.specs.declared.body.PartBody.{PartBody}
use Rattle.sm_bind_read.specs.declared.body.PartBody.TheVariants.{Empty, Raw, Tree}

-- A tree by the shape of its body. A payload that is null stands for nothing, and nothing for a document without members
abbrev pub IsTreeOf : Bool → Codec → Option ℕ → Node → PartBody → Type 0
IsTreeOf document c None n body = ⊥
IsTreeOf true c (Some s) n (Tree o) = IsOutcome (reading c n (root_place s)) (outcome_of o)
IsTreeOf false c (Some s) n (Tree o) = (is_null n ≡ false) × IsOutcome (reading c n (root_place s)) (outcome_of o)
IsTreeOf true c (Some s) n Empty = Path Node n (object no_members)
IsTreeOf false c (Some s) n Empty = is_null n ≡ true
IsTreeOf document c (Some s) n (Raw bytes) = ⊥

-- `c` is the codec over the table of documents, and the number that of the body's shape there
abbrev pub StandsForContent : Bound → Codec → Option ℕ → Content → PartBody → Type 0
StandsForContent b c shape nothing Empty = Unit {0}
StandsForContent b c shape nothing (Raw bytes) = ⊥
StandsForContent b c shape nothing (Tree o) = ⊥
StandsForContent b c shape (raw_bytes u) (Raw bytes) = u ≡ bytes
StandsForContent b c shape (raw_bytes u) Empty = ⊥
StandsForContent b c shape (raw_bytes u) (Tree o) = ⊥
StandsForContent b c shape (a_tree n) body = IsTreeOf (has_document b) c shape n body
