-- What the parts of reading a body say: of a reader's answer, of a decoder to which its events were handed, and of both.
use Rattle.std.specs.Prelude.{◌≡◌, ℕ, List, [], ◌++◌, Result, Ok, Err}
use Rattle.sm_tree.specs.Events.{NodeEvent}
use Rattle.sm_tree.specs.Node.{Node}
use Rattle.sm_tree.specs.Streams.{Streams}
use Rattle.sm_tree.specs.Sources.{SourceOf, ReadsInto}
use Rattle.sm_tree.specs.declared.refusal.SyntaxRefusal.{SyntaxRefusal}
use Rattle.sm_tree.specs.declared.refusal.SyntaxRefusal.TheVariants.{Bad, Ended, TooDeep, KeyKind, NoMemory}
use Rattle.sm_shapes.specs.Places.{root_place}
use Rattle.sm_shapes.specs.ValueView.{val_of}
use Rattle.sm_shapes.specs.declared.values.Value.{Value}
use Rattle.sm_codec.specs.Answers.{Decodes}
use Rattle.sm_codec.specs.Codec.{Codec}
use Rattle.sm_codec.specs.CodecLaws.{IsCodec}
use Rattle.sm_codec.specs.Decoding.{Decoding}
use Rattle.sm_codec.specs.DecodingView.{decoding_of, IsFed}
use Rattle.sm_codec.specs.FrameView.{fault_at}
use Rattle.sm_codec.specs.Kept.{Kept}
use Rattle.sm_codec.specs.declared.decoder.Decoder.{Decoder}
use Rattle.sm_bodies.specs.Fed.{BodyFed}
use Rattle.sm_bodies.specs.declared.reading.BodyRefusal.{BodyRefusal}
use Rattle.sm_bodies.specs.declared.reading.BodyRefusal.TheVariants as body

-- what a piece does to a reader and the decoder beside it, unless memory ran out: what was fed is longer by it
abbrev pub FeedsDecoder : {R : Type 0} → SourceOf R → Codec → R → Decoder → List ℕ → R → Decoder → Result (Unit {0}) SyntaxRefusal → Type 0
FeedsDecoder s c r d piece q e fed =
    (shape : ℕ) (bytes : List ℕ) → BodyFed s c shape r d bytes → (fed ≡ Err NoMemory → ⊥) → BodyFed s c shape q e (bytes ++ piece)

-- what the end of the bytes does to them: the decoder has a whole stream of their tree; or they are refused
abbrev pub EndsDecoder : {R : Type 0} → SourceOf R → Codec → List (List ℕ) → R → Decoder → Decoder → Result (Unit {0}) SyntaxRefusal
    → Type 0
EndsDecoder s c added r d e end =
    ((decoding_of e).shape ≡ (decoding_of d).shape)
    × ((shape : ℕ) (bytes : List ℕ) → BodyFed s c shape r d bytes → ReadsInto s.syntax (IsFed c added e) bytes end)

abbrev pub body_refusal : SyntaxRefusal → BodyRefusal
body_refusal (Bad at) = body.Syntax (Bad at)
body_refusal Ended = body.Syntax Ended
body_refusal (TooDeep at) = body.Syntax (TooDeep at)
body_refusal (KeyKind at) = body.Syntax (KeyKind at)
body_refusal NoMemory = body.NoMemory

-- a tree spells the value, or has the fault as its first
abbrev pub TreeGives : Codec → ℕ → Node → Result Value BodyRefusal → Type 0
TreeGives c shape n (Ok v) = Decodes c (root_place shape) n (Ok (val_of v))
TreeGives c shape n (Err (body.Fault f)) = Decodes c (root_place shape) n (Err (fault_at f))
TreeGives c shape n (Err (body.Syntax refusal)) = ⊥
TreeGives c shape n (Err body.NoMemory) = ⊥

-- so does each tree whose whole stream a decoder has taken
abbrev pub FinishesAs : Decoding → Result Value BodyRefusal → Type 0
FinishesAs d r = (c : Codec) (es : List NodeEvent) (n : Node) → IsCodec c → Kept c es d → Streams n es [] → TreeGives c d.shape n r

-- what a decoder answers to which a reader handed its events, where the reader answered this
abbrev pub AnswersRead : Decoding → Result (Unit {0}) SyntaxRefusal → Result Value BodyRefusal → Type 0
AnswersRead d (Ok x) r = FinishesAs d r
AnswersRead d (Err refusal) r = r ≡ Err (body_refusal refusal)
