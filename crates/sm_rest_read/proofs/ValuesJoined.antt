-- What parts and what counts of a body come to.
use Rattle.std.proofs.Common.{◌≡◌, ◌<◌, ℕ, Bool, true, false, List, Some, refl, sym, ap, ◌∙◌, subst}
use Rattle.std.specs.Prelude.{Err, Ok, Option, Result}
use Rattle.sm_tree.specs.Node.{no_members, object}
use Rattle.sm_tree.specs.Syntax.{IsRead}
use Rattle.sm_json.specs.JsonText.{JsonText}
use Rattle.sm_json.specs.Stands.{json_source}
use Rattle.sm_json.specs.declared.pieces.JsonReader.{JsonReader}
use Rattle.sm_shapes.specs.Fitting.{Test}
use Rattle.sm_shapes.specs.TableData.{TableData, shape_count}
use Rattle.sm_shapes.specs.declared.fault.Fault.{Fault}
use Rattle.sm_shapes.specs.declared.values.Value.{Value}
use Rattle.sm_codec.specs.Codec.{Codec, codec_of}
use Rattle.sm_codec.specs.Conventions.{json_convention}
use Rattle.sm_codec.specs.declared.decoder.Decoder.{Decoder}
use Rattle.sm_codec.specs.declared.decoder.Refusal.TheVariants as codec
use Rattle.sm_bodies.specs.Fed.{BodyFed}
use Rattle.sm_rest.specs.messages.Heads.{is_empty}
use Rattle.sm_rest.specs.messages.MessageForm.{BodyUse, Content, HasContent, a_tree, as_text, nothing, raw_bytes}
use Rattle.sm_rest.specs.messages.declared.refusal.MessageRefusal.{MessageRefusal}
use Rattle.sm_rest.specs.messages.declared.refusal.MessageRefusal.TheVariants as refused
use Rattle.sm_part_values.specs.Joins.{JoinsTo}
use Rattle.sm_rest.specs.bind.BindingsView.{BindingsData, body_at}
use Rattle.sm_rest.specs.bind.PartsData.{PartsData}
use Rattle.sm_rest.specs.bind.Roles.{Bound, has_document}
use Rattle.sm_rest.specs.bind_read.Outcomes.{IsTreeOf, StandsForContent}
use Rattle.sm_rest.specs.bind_read.PartFaults.{parts_reading}
use Rattle.sm_rest.specs.bind_read.declared.body.PartBody.{PartBody}
use Rattle.sm_rest.specs.bind_read.declared.body.PartBody.TheVariants as body
use Rattle.sm_rest.specs.bind_read.declared.body.PartBody.TheVariants.{Empty}
use Rattle.sm_rest.specs.rest_heads.BodyParts.{part_of, rest_use, use_by}
use Rattle.sm_rest.specs.rest_heads.declared.bodies.BodyPart.{BodyPart}
use Rattle.sm_rest.specs.rest_heads.declared.bodies.BodyPart.TheVariants.{Document, Nothing, Raw, Tree}
use Rattle.sm_rest_read.specs.Begun.{bindings_codec}
use Rattle.sm_rest_read.specs.steps.Contents.{BodyJoins, GivesContent, GivesTree, is_document}
use Rattle.sm_rest_read.specs.steps.Places.{IsJoinable}
use Rattle.sm_rest_read.proofs.BodyShapes.{document_is, part_has, shape_used, shape_within}
use Rattle.sm_rest_read.proofs.ContentsGiven.{text_given}

module _ (b : Bound) (test : Test) (parts : PartsData) (used : BodyUse) (bytes : List ℕ) (c : Codec) (shape : Option ℕ) where
  pub joined_good : (body : PartBody) (v : Value) → GivesContent b used c shape bytes (Ok body)
      → ((content : Content) → StandsForContent b c shape content body → JoinsTo (parts_reading b test parts content) (Ok v))
      → BodyJoins b test parts used bytes (Ok v)
  joined_good body v (content, has, stands) joins = (content, has, joins content stands)

  pub joined_faulty : (body : PartBody) (f : Fault) → GivesContent b used c shape bytes (Ok body)
      → ((content : Content) → StandsForContent b c shape content body
      → JoinsTo (parts_reading b test parts content) (Err (codec.Fault f)))
      → BodyJoins b test parts used bytes (Err (refused.Fault f))
  joined_faulty body f (content, has, stands) joins = (content, has, joins content stands)

  pub joined_refused : (e : MessageRefusal) → GivesContent b used c shape bytes (Err e) → BodyJoins b test parts used bytes (Err e)
  joined_refused (refused.Syntax r) h = h
  joined_refused refused.NoMemory h = tt
  joined_refused refused.Protocol h = absurd h
  joined_refused refused.UnknownOperation h = absurd h
  joined_refused (refused.Unserved path) h = absurd h
  joined_refused refused.MediaType h = absurd h
  joined_refused refused.UnknownError h = absurd h
  joined_refused (refused.Fault f) h = absurd h

-- what counts of bytes that aren't empty, by the shape of the table of documents
pub full_given : (b : Bound) (d : BindingsData) (test : Test) (shape : ℕ) (bytes : List ℕ) (document : Bool)
    (r : Result PartBody MessageRefusal) → IsJoinable b d → body_at d b.side b.shape ≡ Some shape → is_empty bytes ≡ false
    → document ≡ is_document (part_of b) → GivesTree document (bindings_codec d test) shape bytes r
    → GivesContent b (rest_use b (is_empty bytes)) (bindings_codec d test) (body_at d b.side b.shape) bytes r
full_given b d test shape bytes document r is at full same gives =
    text_given (rest_use b (is_empty bytes)) bytes b (bindings_codec d test) (body_at d b.side b.shape) shape document r
    (ap (rest_use b) full
    ∙ shape_used b (body_at d b.side b.shape) shape (part_has b d is.bindings is.shape is.structure) at)
    (document_is b ∙ sym same) at gives

-- no bytes of a document are the empty object, and none of a payload are nothing
empty_by : (b : Bound) (c : Codec) (shape : ℕ) (bytes : List ℕ) (p : BodyPart) (z : Bool) → has_document b ≡ z → z ≡ is_document p
    → use_by p false ≡ as_text
    → (content : Content) × HasContent (IsRead JsonText) (use_by p true) bytes content × StandsForContent b c (Some shape) content Empty
empty_by b c shape bytes Document z has is text =
    (a_tree (object no_members), refl, subst (λ y. IsTreeOf y c (Some shape) (object no_members) Empty) (sym (has ∙ is)) refl)
empty_by b c shape bytes Tree z has is text = (nothing, refl, tt)
empty_by b c shape bytes (Raw k) z has is text = absurd cc
empty_by b c shape bytes Nothing z has is text = absurd cc

pub empty_given : (b : Bound) (c : Codec) (o : Option ℕ) (shape : ℕ) (bytes : List ℕ) → rest_use b false ≡ as_text → is_empty bytes ≡ true
    → o ≡ Some shape → GivesContent b (rest_use b (is_empty bytes)) c o bytes (Ok Empty)
empty_given b c o shape bytes json empty at =
    let found = empty_by b c shape bytes (part_of b) (has_document b) refl (document_is b) json in (
      found.0,
      subst (λ e. HasContent (IsRead JsonText) (rest_use b e) bytes found.0) (sym empty) found.1,
      subst (λ s. StandsForContent b c s found.0 Empty) (sym at) found.2,
    )

pub number_there : (b : Bound) (d : BindingsData) (shape : ℕ) → IsJoinable b d → body_at d b.side b.shape ≡ Some shape
    → shape < shape_count d.documents
number_there b d shape is at = shape_within b d shape is.shaped is.bindings is.shape is.structure at

-- what counts of a payload's bytes, and of a body that isn't read
pub raw_given : (b : Bound) (c : Codec) (o : Option ℕ) (k : ℕ) (bytes : List ℕ) → part_of b ≡ Raw k
    → GivesContent b (rest_use b (is_empty bytes)) c o bytes (Ok (body.Raw bytes))
raw_given b c o k bytes e = (
  raw_bytes bytes,
  subst (λ p. HasContent (IsRead JsonText) (use_by p (is_empty bytes)) bytes (raw_bytes bytes)) (sym e) refl,
  refl,
)

pub unread_given : (b : Bound) (c : Codec) (o : Option ℕ) (bytes : List ℕ) → part_of b ≡ Nothing
    → GivesContent b (rest_use b (is_empty bytes)) c o bytes (Ok Empty)
unread_given b c o bytes e = (
  nothing,
  subst (λ p. HasContent (IsRead JsonText) (use_by p (is_empty bytes)) bytes nothing) (sym e) refl,
  tt,
)

-- whole bytes, by the table of documents
pub text_content_given : (b : Bound) (d : BindingsData) (test : Test) (t : TableData) (shape : ℕ) (bytes : List ℕ) (document : Bool)
    (r : Result PartBody MessageRefusal) → t ≡ d.documents → IsJoinable b d → body_at d b.side b.shape ≡ Some shape
    → is_empty bytes ≡ false → has_document b ≡ document → GivesTree document (codec_of t (json_convention true) test) shape bytes r
    → GivesContent b (rest_use b (is_empty bytes)) (bindings_codec d test) (body_at d b.side b.shape) bytes r
text_content_given b d test t shape bytes document r same is at full has gives =
    full_given b d test shape bytes document r is at full (sym has ∙ document_is b)
    (subst (λ x. GivesTree document (codec_of x (json_convention true) test) shape bytes r) same gives)

-- what is said of a table is said of the table of documents that it is
abbrev pub GivesFed : TableData → Test → Bool → JsonReader → Decoder → Result PartBody MessageRefusal → Type 0
GivesFed t test document j e r =
    (shape : ℕ) (bytes : List ℕ) → shape < shape_count t → BodyFed json_source (codec_of t (json_convention true) test) shape j e bytes
    → GivesTree document (codec_of t (json_convention true) test) shape bytes r

pub fed_given : (b : Bound) (d : BindingsData) (test : Test) (t : TableData) (document : Bool) (j : JsonReader) (e : Decoder)
    (r : Result PartBody MessageRefusal) (shape : ℕ) (bytes : List ℕ) → t ≡ d.documents → IsJoinable b d
    → body_at d b.side b.shape ≡ Some shape → is_empty bytes ≡ false → document ≡ is_document (part_of b) → GivesFed t test document j e r
    → BodyFed json_source (bindings_codec d test) shape j e bytes
    → GivesContent b (rest_use b (is_empty bytes)) (bindings_codec d test) (body_at d b.side b.shape) bytes r
fed_given b d test t document j e r shape bytes same is at full told gives come =
    full_given b d test shape bytes document r is at full told
    (subst (λ x. GivesFed x test document j e r) same gives shape bytes (number_there b d shape is at) come)
