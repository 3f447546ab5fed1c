-- How little the body of a message holds while its pieces come, whatever is sent and however it is cut.
use Rattle.std.specs.Prelude.{◌≡◌, ℕ, ◌≤◌, ◌+◌, ◌*◌, List, [], Some, length}
use Rattle.sm_tree.specs.Limits.{most_levels}
use Rattle.sm_tree.specs.Sources.{SourceOf}
use Rattle.sm_tree.specs.declared.refusal.SyntaxRefusal.TheVariants.{NoMemory}
use Rattle.sm_shapes.specs.InOrder.{most_defaults}
use Rattle.sm_shapes.specs.TableData.{TableData}
use Rattle.sm_codec.specs.Codec.{Codec}
use Rattle.sm_bodies.specs.Fed.{BodyFed}
use Rattle.sm_messages.specs.Begun.{BodyState, failed, fed, held}
use Rattle.sm_messages.specs.Pieces.{frames_in, nodes_in}

-- the bytes of a message that is held whole: none where they go to a decoder
abbrev pub bytes_in : {R : Type 0} → BodyState R → List ℕ
bytes_in failed = []
bytes_in (held o m) = m.body
bytes_in (fed o r d) = []

-- of the bytes that have come, no more than these; for each of them two nodes of values at most, and with each node the defaults of one
-- structure of the table; and a frame for each level that is read, and one more
pub record HoldsFew {R : Type 0} (t : TableData) (come : List ℕ) (b : BodyState R) : Type 0 where
  pub bytes : length (bytes_in b) ≤ length come
  pub nodes : nodes_in b ≤ (1 + most_defaults t) * (2 * length come)
  pub frames : frames_in b ≤ most_levels + 1

-- these bytes have come to a body, and memory sufficed: a message that is held keeps them, or drops some; or a reader was fed them, and the
-- decoder beside it has what they complete
abbrev pub HasReceived : {R : Type 0} → SourceOf R → Codec → List ℕ → BodyState R → Type 0
HasReceived S c come failed = Unit {0}
HasReceived S c come (held o m) = length m.body ≤ length come
HasReceived S c come (fed o r d) = (S.refusal r ≡ Some NoMemory → ⊥) × (shape : ℕ) × BodyFed S c shape r d come
