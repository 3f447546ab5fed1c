-- What a body by pieces stands for: the bytes of all its pieces. Its reader was fed them, and its decoder has what they complete.
use Rattle.std.specs.Prelude.{◌≡◌, ℕ, List}
use Rattle.sm_tree.specs.Sources.{SourceOf, HasFed}
use Rattle.sm_codec.specs.Codec.{Codec}
use Rattle.sm_codec.specs.DecodingView.{decoding_of, decodes_so_far}
use Rattle.sm_codec.specs.declared.decoder.Decoder.{Decoder}

-- by a codec and for the shape with this number a reader and a decoder beside it were fed these bytes, and no others
abbrev pub BodyFed : {R : Type 0} → SourceOf R → Codec → ℕ → R → Decoder → List ℕ → Type 0
BodyFed s c shape r d bytes = ((decoding_of d).shape ≡ shape) × HasFed s r (decodes_so_far c d) bytes

-- some bytes were fed
abbrev pub SomeFed : {R : Type 0} → SourceOf R → Codec → R → Decoder → Type 0
SomeFed s c r d = (shape : ℕ) × (bytes : List ℕ) × BodyFed s c shape r d bytes
