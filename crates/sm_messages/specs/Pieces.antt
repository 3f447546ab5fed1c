-- What the calls say that read a body by pieces, whatever the protocol. A relation between a head, whether the body is empty, the bytes that
-- have come and the body says what the body stands for: each protocol's crate has its own.
use Rattle.std.specs.Prelude.{◌≡◌, ℕ, Bool, List, [], ◌++◌, Result, Ok, Err, Some, length}
use Rattle.sm_tree.specs.Sources.{SourceOf}
use Rattle.sm_tree.specs.declared.refusal.SyntaxRefusal.TheVariants.{NoMemory}
use Rattle.sm_shapes.specs.TableData.{TableData}
use Rattle.sm_codec.specs.Bound.{decoding_nodes}
use Rattle.sm_codec.specs.Codec.{Codec}
use Rattle.sm_codec.specs.DecodingView.{decoding_of}
use Rattle.sm_codec.specs.declared.decoder.Decoder.{Decoder}
use Rattle.sm_bodies.specs.Fed.{BodyFed, SomeFed}
use Rattle.sm_http.specs.declared.message.Head.{Head}
use Rattle.sm_messages.specs.Answers.{AtHead, RefusedAs}
use Rattle.sm_messages.specs.Begun.{BodyState, failed, fed, held}
use Rattle.sm_messages.specs.HeadAnswers.{HeadAnswer, refused_at_head}
use Rattle.sm_messages.specs.Heads.{is_empty}
use Rattle.sm_messages.specs.declared.refusal.MessageRefusal.{MessageRefusal}

-- a body is begun that stands for no bytes; or its message is refused at the head
abbrev pub BeginsAs : {B : Type 0} → (HeadAnswer → Type 0) → (B → Type 0) → Result B MessageRefusal → Type 0
BeginsAs judged begun (Ok b) = begun b
BeginsAs judged begun (Err refusal) = RefusedAs (AtHead (λ r. judged (refused_at_head r))) refusal

-- what is made of this, unless memory runs out
abbrev pub UnlessMemory : {B : Type 0} → (B → Type 0) → Result B MessageRefusal → Type 0
UnlessMemory is (Ok b) = is b
UnlessMemory is (Err refusal) = RefusedAs (λ r. ⊥) refusal

-- a body that is fed from now on, for the shape with this number of this table
abbrev pub StartsFed : {R : Type 0} → SourceOf R → TableData → ℕ → ℕ → BodyState R → Type 0
StartsFed S t o shape failed = ⊥
StartsFed S t o shape (held p m) = ⊥
StartsFed S t o shape (fed p r d) =
    (p ≡ o) × (S.refusal r ≡ Some NoMemory → ⊥) × ((c : Codec) → c.table ≡ t → BodyFed S c shape r d [])

-- memory didn't run out
abbrev pub IsLive : {R : Type 0} → BodyState R → Type 0
IsLive failed = ⊥
IsLive (held o m) = Unit {0}
IsLive (fed o r d) = Unit {0}

-- a reader and its decoder were fed some bytes
abbrev pub MayTake : {R : Type 0} → SourceOf R → Codec → BodyState R → Type 0
MayTake S c failed = Unit {0}
MayTake S c (held o m) = Unit {0}
MayTake S c (fed o r d) = SomeFed S c r d

-- a reader and its decoder are fed a piece, and find memory
abbrev pub FeedsOn : {R : Type 0} → SourceOf R → Codec → R → Decoder → List ℕ → R → Decoder → Type 0
FeedsOn S c r d piece q e =
    (S.refusal q ≡ Some NoMemory → ⊥)
    × ((shape : ℕ) (bytes : List ℕ) → BodyFed S c shape r d bytes → BodyFed S c shape q e (bytes ++ piece))

-- what a body takes of a piece: the message that is held has it behind its bytes; or the reader was fed it, and the decoder has what it
-- completes
abbrev pub TakesPiece : {R : Type 0} → SourceOf R → Codec → BodyState R → List ℕ → BodyState R → Type 0
TakesPiece {R} S c failed piece now = ⊥
TakesPiece {R} S c (held o m) piece now = now ≡ held o (record { head = m.head; body = m.body ++ piece })
TakesPiece {R} S c (fed o r d) piece now = (q : R) × (e : Decoder) × (now ≡ fed o q e) × FeedsOn S c r d piece q e

-- all bytes of a message have come, and what was told of its body is true
abbrev pub HasAll : (Head → Bool → List ℕ → Type 0) → Type 0
HasAll begun = (head : Head) × (bytes : List ℕ) × begun head (is_empty bytes) bytes

-- so what is answered holds of each message of which all bytes may have come
abbrev pub OfAll : (Head → Bool → List ℕ → Type 0) → (Head → List ℕ → Type 0) → Type 0
OfAll begun answers = (head : Head) (bytes : List ℕ) → begun head (is_empty bytes) bytes → answers head bytes

-- the operation of a message, where memory didn't run out
abbrev pub number_in : {R : Type 0} → BodyState R → ℕ
number_in failed = 0
number_in (held o m) = o
number_in (fed o r d) = o

-- the nodes of the values that a decoder holds, and its frames: none where there is no decoder
abbrev pub nodes_in : {R : Type 0} → BodyState R → ℕ
nodes_in failed = 0
nodes_in (held o m) = 0
nodes_in (fed o r d) = decoding_nodes (decoding_of d)

abbrev pub frames_in : {R : Type 0} → BodyState R → ℕ
frames_in failed = 0
frames_in (held o m) = 0
frames_in (fed o r d) = length (decoding_of d).frames
