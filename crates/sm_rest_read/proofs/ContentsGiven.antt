-- What of a body counts, by what its reader and its decoder come to.
use Rattle.std.proofs.Common.{◌≡◌, ◌↔◌, ℕ, ◌<◌, Bool, true, false, List, [], ◌∷◌, None, Some, refl, sym, ◌∙◌, subst}
use Rattle.std.specs.Prelude.{Err, IsTrue, Ok, Option, Result}
use Rattle.sm_tree.specs.Events.{null_event}
use Rattle.sm_tree.specs.Node.{Node}
use Rattle.sm_tree.specs.Syntax.{IsRead}
use Rattle.sm_tree.specs.Timing.{Completes}
use Rattle.sm_tree.specs.declared.refusal.SyntaxRefusal.TheVariants.{NoMemory}
use Rattle.sm_json.specs.JsonText.{JsonText}
use Rattle.sm_json.specs.Stands.{JsonHasCome, json_source, refusal_of}
use Rattle.sm_json.specs.Timing.{json_timing}
use Rattle.sm_json.specs.declared.pieces.JsonReader.{JsonReader}
use Rattle.sm_shapes.specs.Places.{Place, root_place}
use Rattle.sm_shapes.specs.TableData.{shape_count}
use Rattle.sm_shapes.specs.Values.{Val}
use Rattle.sm_codec.specs.Answers.{Decodes}
use Rattle.sm_codec.specs.Codec.{Codec, InTable}
use Rattle.sm_codec.specs.CodecLaws.{IsCodec}
use Rattle.sm_codec.specs.Decoding as decoding
use Rattle.sm_codec.specs.FaultLists.{FaultAt, Reading, faults_in}
use Rattle.sm_codec.specs.FrameView.{outcome_of}
use Rattle.sm_codec.specs.Kept.{IsOutcome}
use Rattle.sm_codec.specs.Named.{is_null}
use Rattle.sm_codec.specs.Readings.{reading}
use Rattle.sm_codec.specs.declared.decoder.Decoder.{Decoder}
use Rattle.sm_codec.specs.declared.frames.Outcome.{Outcome}
use Rattle.sm_codec.proofs.KeptOn as kept
use Rattle.sm_codec.proofs.ReadValues.{one_value}
use Rattle.sm_bodies.specs.Fed.{BodyFed}
use Rattle.sm_rest.specs.messages.MessageForm.{BodyUse, HasContent, a_tree, as_text}
use Rattle.sm_rest.specs.messages.declared.refusal.MessageRefusal.{MessageRefusal}
use Rattle.sm_rest.specs.messages.declared.refusal.MessageRefusal.TheVariants as refused
use Rattle.sm_rest.specs.bind.Roles.{Bound, has_document}
use Rattle.sm_rest.specs.bind_read.Outcomes.{IsTreeOf}
use Rattle.sm_rest.specs.bind_read.declared.body.PartBody.{PartBody}
use Rattle.sm_rest.specs.bind_read.declared.body.PartBody.TheVariants.{Empty, Tree}
use Rattle.sm_rest_read.specs.steps.Contents.{GivesContent, GivesTree}
use Rattle.sm_rest_read.proofs.NullBodies.{absent_is}

-- a document, a payload that is null, and one that isn't
module _ (c : Codec) (shape : ℕ) (n : Node) (document absent : Bool) where
  pub document_given : (o : Outcome) → document ≡ true → IsOutcome (reading c n (root_place shape)) (outcome_of o)
      → IsTreeOf document c (Some shape) n (Tree o)
  document_given o is h = subst (λ z. IsTreeOf z c (Some shape) n (Tree o)) (sym is) h

  pub absent_given : document ≡ false → absent ≡ true → absent ≡ is_null n → IsTreeOf document c (Some shape) n Empty
  absent_given is up same = subst (λ z. IsTreeOf z c (Some shape) n Empty) (sym is) (sym same ∙ up)

  pub present_given : (o : Outcome) → document ≡ false → absent ≡ false → absent ≡ is_null n
      → IsOutcome (reading c n (root_place shape)) (outcome_of o) → IsTreeOf document c (Some shape) n (Tree o)
  present_given o is down same h = subst (λ z. IsTreeOf z c (Some shape) n (Tree o)) (sym is) (sym same ∙ down, h)

-- what decoding answers is the outcome
good_is : (c : Codec) (p : Place) (n : Node) (v : Val) → IsCodec c → InTable c.table p → Decodes c p n (Ok v)
    → IsOutcome (reading c n p) (decoding.good v)
good_is c p n v laws inside (spells, none) =
    subst (λ (r : Reading). IsOutcome r (decoding.good v)) (sym ((one_value c p v n laws inside).0 spells)) refl

bad_by : (r : Reading) (f : FaultAt) (rest : List FaultAt) → faults_in r ≡ f ∷ rest → IsOutcome r (decoding.bad f)
bad_by (Ok w) f rest e = absurd cc
bad_by (Err fs) f rest e = (f, rest, e, refl)

outcome_is : (c : Codec) (p : Place) (n : Node) (o : decoding.Outcome) → IsCodec c → InTable c.table p → Decodes c p n (kept.outcome_of o)
    → IsOutcome (reading c n p) o
outcome_is c p n (decoding.good v) laws inside h = good_is c p n v laws inside h
outcome_is c p n (decoding.bad f) laws inside (rest, e) = bad_by (reading c n p) f rest e

-- a tree that was read, as what counts of a body
pub tree_given : (c : Codec) (j : JsonReader) (d : Decoder) (shape : ℕ) (bytes : List ℕ) (document absent : Bool) (o : Outcome)
    (body : PartBody) → IsCodec c → shape < shape_count c.table → (json_source.refusal j ≡ Some NoMemory → ⊥)
    → ((bs : List ℕ) → JsonHasCome j bs
    → IsTrue absent ↔ (refusal_of j ≡ None) × Completes json_timing bs (null_event ∷ []))
    → ((c : Codec) (shape : ℕ) (n : Node) → absent ≡ is_null n → IsOutcome (reading c n (root_place shape)) (outcome_of o)
    → IsTreeOf document c (Some shape) n body)
    → BodyFed json_source c shape j d bytes
    → (n : Node) × IsRead JsonText n bytes × Decodes c (root_place shape) n (kept.outcome_of (outcome_of o))
    → GivesTree document c shape bytes (Ok body)
tree_given c j d shape bytes document absent o body laws inside memory told given (is, fed) (n, read, decodes) =
    let come = fed.0.1 in (
      n,
      read,
      given c shape n (absent_is j n bytes absent memory come read (told bytes come))
          (outcome_is c (root_place shape) n (outcome_of o) laws inside decodes),
    )

-- where they are a document's or a payload's
refused_content : (used : BodyUse) (bytes : List ℕ) (b : Bound) (c : Codec) (shape : Option ℕ) (s : ℕ) (document : Bool) (e : MessageRefusal)
    → used ≡ as_text → GivesTree document c s bytes (Err e) → GivesContent b used c shape bytes (Err e)
refused_content used bytes b c shape s document (refused.Syntax r) text h = (text, h)
refused_content used bytes b c shape s document refused.NoMemory text h = tt
refused_content used bytes b c shape s document refused.Protocol text h = absurd h
refused_content used bytes b c shape s document refused.UnknownOperation text h = absurd h
refused_content used bytes b c shape s document (refused.Unserved path) text h = absurd h
refused_content used bytes b c shape s document refused.MediaType text h = absurd h
refused_content used bytes b c shape s document refused.UnknownError text h = absurd h
refused_content used bytes b c shape s document (refused.Fault f) text h = absurd h

pub text_given : (used : BodyUse) (bytes : List ℕ) (b : Bound) (c : Codec) (shape : Option ℕ) (s : ℕ) (document : Bool)
    (r : Result PartBody MessageRefusal) → used ≡ as_text → has_document b ≡ document → shape ≡ Some s → GivesTree document c s bytes r
    → GivesContent b used c shape bytes r
text_given used bytes b c shape s document (Ok body) text same at (n, read, is) = (
  a_tree n,
  subst (λ u. HasContent (IsRead JsonText) u bytes (a_tree n)) (sym text) read,
  subst (λ z. IsTreeOf z c shape n body) (sym same) (subst (λ o. IsTreeOf document c o n body) (sym at) is),
)
text_given used bytes b c shape s document (Err e) text same at h = refused_content used bytes b c shape s document e text h
