-- What a decoder of the code stands for. Contracts that speak of one cite it.
use Rattle.std.specs.Prelude.{◌≡◌, ℕ, List, [], Result, Ok, Err}
use Rattle.std.specs.Option.{option_map}
use Rattle.sm_tree.specs.Node.{Node}
use Rattle.sm_tree.specs.Events.{NodeEvent}
use Rattle.sm_tree.specs.Streams.{StandsFor, Streams}
use Rattle.sm_shapes.specs.InOrder.{Shaped, AreStored}
use Rattle.sm_shapes.specs.Places.{Place, root_place}
use Rattle.sm_shapes.specs.TableData.{TableData}
use Rattle.sm_shapes.specs.ValueView.{val_of}
use Rattle.sm_shapes.specs.declared.values.Value.{Value}
use Rattle.sm_codec.specs.Answers.{Decodes}
use Rattle.sm_codec.specs.Codec.{Codec}
use Rattle.sm_codec.specs.Decoding as decoding
use Rattle.sm_codec.specs.FrameView.{fault_at, outcome_of}
use Rattle.sm_codec.specs.Kept.{Kept}
use Rattle.sm_codec.specs.StackView.{frames_of}
use Rattle.sm_codec.specs.declared.decoder.Decoder.{Decoder}
use Rattle.sm_codec.specs.declared.decoder.Refusal.{Refusal}
use Rattle.sm_codec.specs.declared.decoder.Refusal.TheVariants.{Fault as refused, NoMemory}

abbrev pub decoding_of : Decoder → decoding.Decoding
decoding_of d = record { shape = d.shape; frames = frames_of d.frames; result = option_map outcome_of d.result }

-- a decoder stands for the events of which it holds what they come to
abbrev pub decodes_so_far : Codec → Decoder → StandsFor
decodes_so_far c d es = Kept c es (decoding_of d)

-- by each codec of the table it stands for no event
abbrev pub StartsEmpty : TableData → decoding.Decoding → Type 0
StartsEmpty t d = (c : Codec) → c.table ≡ t → Kept c [] d

-- what a finished decoder answers of a tree
abbrev pub Finishes : Codec → ℕ → Node → Result Value Refusal → Type 0
Finishes c shape n (Ok v) = Decodes c (root_place shape) n (Ok (val_of v))
Finishes c shape n (Err (refused f)) = Decodes c (root_place shape) n (Err (fault_at f))
Finishes c shape n (Err NoMemory) = ⊥

-- what decoding a whole tree answers: where memory is refused, nothing is said
abbrev pub DecodesTree : Codec → Place → Node → Result Value Refusal → Type 0
DecodesTree c p n (Ok v) = Decodes c p n (Ok (val_of v))
DecodesTree c p n (Err (refused f)) = Decodes c p n (Err (fault_at f))
DecodesTree c p n (Err NoMemory) = Unit {0}

-- it has taken the whole stream of some tree
abbrev pub IsWhole : decoding.Decoding → Type 0
IsWhole d = (c : Codec) × (es : List NodeEvent) × (n : Node) × Kept c es d × Streams n es []

-- what a decoder in a sink stands for: its events, over a table that is in order and whose patterns the store has
abbrev pub IsFed : Codec → List (List ℕ) → Decoder → StandsFor
IsFed c added d es = Kept c es (decoding_of d) × Shaped c.table × AreStored c.table.patterns added
