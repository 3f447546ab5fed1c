-- Of a body that was read: what its tree comes to, its bytes come to; and its value fits.
use Rattle.std.proofs.Common.{◌≡◌, ℕ, List, subst, sym}
use Rattle.std.specs.Prelude.{Result, Ok, Err, IfOk, OnOk}
use Rattle.sm_tree.specs.Node.{Node}
use Rattle.sm_tree.specs.Sources.{RefusedSo, ReadsInto}
use Rattle.sm_tree.specs.Syntax.{Syntax, IsRead}
use Rattle.sm_tree.specs.declared.refusal.SyntaxRefusal.{SyntaxRefusal}
use Rattle.sm_tree.specs.declared.refusal.SyntaxRefusal.TheVariants.{Bad, Ended, TooDeep, KeyKind, NoMemory}
use Rattle.sm_shapes.specs.Fitting.{Test, any_text, Fits}
use Rattle.sm_shapes.specs.Places.{Place, root_place}
use Rattle.sm_shapes.specs.TableData.{TableData}
use Rattle.sm_shapes.specs.Values.{Val}
use Rattle.sm_shapes.specs.ValueView.{val_of}
use Rattle.sm_shapes.specs.declared.values.Value.{Value}
use Rattle.sm_codec.specs.Answers.{Decodes}
use Rattle.sm_codec.specs.Codec.{Codec, codec_of}
use Rattle.sm_codec.specs.CodecLaws.{IsCodec}
use Rattle.sm_codec.specs.Convention.{Convention}
use Rattle.sm_codec.specs.DecodingView.{decoding_of, IsWhole, IsFed}
use Rattle.sm_codec.specs.Spelling.{Spells}
use Rattle.sm_codec.specs.declared.decoder.Decoder.{Decoder}
use Rattle.sm_bodies.specs.Bodies.{DecodesAs}
use Rattle.sm_bodies.specs.steps.Reading.{body_refusal, TreeGives, AnswersRead}
use Rattle.sm_bodies.specs.declared.reading.BodyRefusal.{BodyRefusal}
use Rattle.sm_bodies.specs.declared.reading.BodyRefusal.TheVariants as body
use Rattle.sm_bodies.proofs.FitsAny.{fits_any}

tree_given : (S : Syntax) (c : Codec) (shape : ℕ) (bytes : List ℕ) (n : Node) (r : Result Value BodyRefusal) → IsRead S.text n bytes
    → TreeGives c shape n r → DecodesAs S c shape bytes r
tree_given S c shape bytes n (Ok v) is gives = (n, is, gives)
tree_given S c shape bytes n (Err (body.Fault f)) is gives = (n, is, gives)
tree_given S c shape bytes n (Err (body.Syntax refusal)) is gives = absurd gives
tree_given S c shape bytes n (Err body.NoMemory) is gives = absurd gives

bytes_refused : (S : Syntax) (c : Codec) (shape : ℕ) (bytes : List ℕ) (refusal : SyntaxRefusal) → RefusedSo S bytes refusal
    → DecodesAs S c shape bytes (Err (body_refusal refusal))
bytes_refused S c shape bytes (Bad p) h = h
bytes_refused S c shape bytes Ended h = h
bytes_refused S c shape bytes (TooDeep p) h = h
bytes_refused S c shape bytes (KeyKind p) h = h
bytes_refused S c shape bytes NoMemory h = tt

-- a decoder that was fed a whole tree
pub read_whole : (S : Syntax) (c : Codec) (added : List (List ℕ)) (d : Decoder) (bytes : List ℕ) (read : Result (Unit {0}) SyntaxRefusal)
    → ReadsInto S (IsFed c added d) bytes read → OnOk read (IsWhole (decoding_of d))
read_whole S c added d bytes (Ok x) (n, es, is, streams, fed) = (c, es, n, fed.0, streams)
read_whole S c added d bytes (Err refusal) h = tt

pub read_gives : (S : Syntax) (c : Codec) (added : List (List ℕ)) (d : Decoder) (shape : ℕ) (bytes : List ℕ)
    (read : Result (Unit {0}) SyntaxRefusal) (r : Result Value BodyRefusal) → ReadsInto S (IsFed c added d) bytes read → IsCodec c
    → (decoding_of d).shape ≡ shape → AnswersRead (decoding_of d) read r → DecodesAs S c shape bytes r
read_gives S c added d shape bytes (Ok x) r (n, es, is, streams, fed) laws root answers =
    tree_given S c shape bytes n r is (subst (λ s. TreeGives c s n r) root (answers c es n laws fed.0 streams))
read_gives S c added d shape bytes (Err refusal) r h laws root answers =
    subst (λ x. DecodesAs S c shape bytes x) (sym answers) (bytes_refused S c shape bytes refusal h)

spelled_fits : (c : Codec) (p : Place) (v : Val) (n : Node) → Spells c p v n → Fits c.table c.test p v
spelled_fits c p v n h = h.0

decoded_fits : (c : Codec) (p : Place) (v : Val) (n : Node) → Decodes c p n (Ok v) → Fits c.table c.test p v
decoded_fits c p v n h = spelled_fits c p v n h.0

pub body_fits : (S : Syntax) (t : TableData) (l : Convention) (test : Test) (shape : ℕ) (bytes : List ℕ) (r : Result Value BodyRefusal)
    → DecodesAs S (codec_of t l test) shape bytes r → IfOk r (λ v. Fits t any_text (root_place shape) (val_of v))
body_fits S t l test shape bytes (Ok v) (n, is, decodes) =
    fits_any t test (root_place shape) (val_of v) (decoded_fits (codec_of t l test) (root_place shape) (val_of v) n decodes)
body_fits S t l test shape bytes (Err e) h = tt
