-- What the bytes of a body are decoded to, by a syntax, a codec and a shape; and what is written for a value.
use Rattle.std.specs.Prelude.{◌≡◌, ℕ, List, [], Some, Result, Ok, Err}
use Rattle.sm_tree.specs.Node.{Node}
use Rattle.sm_tree.specs.Syntax.{Syntax, IsRead, IsRefused}
use Rattle.sm_shapes.specs.Places.{Place, root_place}
use Rattle.sm_shapes.specs.TableData.{TableData}
use Rattle.sm_shapes.specs.Values.{Val}
use Rattle.sm_shapes.specs.ValueView.{val_of}
use Rattle.sm_shapes.specs.declared.values.Value.{Value}
use Rattle.sm_codec.specs.Answers.{Decodes}
use Rattle.sm_codec.specs.Codec.{Codec}
use Rattle.sm_codec.specs.Convention.{Convention}
use Rattle.sm_codec.specs.Encoded.{first_path}
use Rattle.sm_codec.specs.FrameView.{fault_at}
use Rattle.sm_codec.specs.Written.{written, uncarried}
use Rattle.sm_bodies.specs.declared.reading.BodyRefusal.{BodyRefusal}
use Rattle.sm_bodies.specs.declared.reading.BodyRefusal.TheVariants.{Syntax as a_syntax, Fault as a_fault, NoMemory}
use Rattle.sm_bodies.specs.declared.writing.WrittenBody.{WrittenBody}
use Rattle.sm_bodies.specs.declared.writing.WrittenBody.TheVariants.{Bytes, NotCarried}

-- the bytes are a text, of at most 100 levels, of a tree that spells the value or has the fault as its first; or they are refused so
abbrev pub DecodesAs : Syntax → Codec → ℕ → List ℕ → Result Value BodyRefusal → Type 0
DecodesAs S c shape bytes (Ok v) = (n : Node) × IsRead S.text n bytes × Decodes c (root_place shape) n (Ok (val_of v))
DecodesAs S c shape bytes (Err (a_fault f)) = (n : Node) × IsRead S.text n bytes × Decodes c (root_place shape) n (Err (fault_at f))
DecodesAs S c shape bytes (Err (a_syntax refusal)) = IsRefused S bytes refusal
DecodesAs S c shape bytes (Err NoMemory) = Unit {0}

-- what is written for a value by a convention, as a format has the bytes of its tree; or the way to the first leaf that isn't carried
abbrev pub WritesBody : (Node → List ℕ) → TableData → Convention → Place → Val → WrittenBody → Type 0
WritesBody format t l p v (Bytes bytes) = (uncarried t l p v ≡ []) × (bytes.items ≡ format (written t l p v))
WritesBody format t l p v (NotCarried path) = first_path (uncarried t l p v) ≡ Some path
