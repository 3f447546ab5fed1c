-- The answers of a line are framed as themselves, and still are where they say that the connection ends.
use Rattle.std.proofs.Common.{◌≡◌, ℕ, ◌≤◌, Bool, true, false, List, [], ◌∷◌, length, refl, ◌∙◌, arith}
use Rattle.std.specs.Prelude.{◌==◌, All, codes, if◌then◌else◌}
use Rattle.std.proofs.lemmas.Bool.Decides.{nat_tests}
use Rattle.std.proofs.lemmas.List.Elements.{All-cons, All-head, All-nil, All-tail}
use Rattle.httparse.specs.Grammar.{is_token_byte}
use Rattle.sm_http.specs.declared.message.Field.{Field}
use Rattle.sm_http.specs.declared.message.Message.{Message}
use Rattle.sm_http.specs.declared.message.MessageSide.TheVariants.{Response as of_responses}
use Rattle.sm_http.specs.declared.refusal.HttpRefusal.{HttpRefusal}
use Rattle.sm_http.specs.declared.refusal.HttpRefusal.TheVariants.{Coding, Length, TooLong, HeadTooLarge, Chunk, Ended, ReadFault, NoMemory}
use Rattle.sm_http.specs.declared.refusal.HttpRefusal.TheVariants.{Head as BadHead}
use Rattle.sm_http.specs.Connections.{close_field, fields_with_close, is_length_field, with_close}
use Rattle.sm_http.specs.Limits.{message_body_limit}
use Rattle.sm_http.specs.Laws.{KeepsOtherFields, WrittenIsRead}
use Rattle.sm_http.specs.Written.{IsWritableField}
use Rattle.sm_session.specs.OwnAnswers.{back_line, framing_line, framing_status, line_answer, text_field}
use Rattle.sm_bind_laws.specs.messages.WrittenHeads.{length_field}
use Rattle.sm_bind_laws.specs.messages.HeadAnswers.{HeadRefusal, not_served, unknown_error, unknown_operation, wrong_media_type, wrong_protocol}
use Rattle.sm_bind_laws.specs.messages.MessageAnswers.{Refusal, by_fault, by_head, by_syntax}
use Rattle.sm_gateway.specs.RefusalAnswers.{head_status, refusal_line, refusal_status}
use Rattle.sm_framed_laws.specs.Framing.{AnswerIsFramed, AnswersAreFramed}
use Rattle.sm_framed_laws.proofs.PlainTexts.{token_is}
use Rattle.sm_framed_laws.proofs.WrittenHeads.{IsFinalStatus, SaysLength, final_start, length_writable, other_body, response_of_length, type_token}
use Rattle.sm_framed_laws.proofs.WrittenHeads.{visible_field}

close_writable : IsWritableField close_field
unfolding is_token_byte
close_writable = visible_field (codes "connection") (codes "close") (token_is (codes "connection") refl) refl

-- with the field that ends the connection
one_closing : (f : Field) (is : Bool) → IsWritableField f → All IsWritableField (if is then close_field ∷ f ∷ [] else f ∷ close_field ∷ [])
one_closing f true h =
    All-cons IsWritableField close_field (f ∷ []) close_writable (All-cons IsWritableField f [] h (All-nil IsWritableField))
one_closing f false h =
    All-cons IsWritableField f (close_field ∷ []) h (All-cons IsWritableField close_field [] close_writable (All-nil IsWritableField))

closing_writable : (fs : List Field) → All IsWritableField fs → All IsWritableField (fields_with_close fs)
closing_writable [] h = All-cons IsWritableField close_field [] close_writable (All-nil IsWritableField)
closing_writable (f ∷ []) h = one_closing f (is_length_field f) (All-head IsWritableField f [] h)
closing_writable (f ∷ g ∷ fs) h =
    All-cons IsWritableField f (fields_with_close (g ∷ fs)) (All-head IsWritableField f (g ∷ fs) h)
    (closing_writable (g ∷ fs) (All-tail IsWritableField f (g ∷ fs) h))

-- an answer of a line
pub record IsAnswerStatus (status : ℕ) : Type 0 where
  pub final : IsFinalStatus status
  pub with_length : status == 204 ≡ false
  pub with_body : status == 304 ≡ false

line_says : (status : ℕ) (line : List ℕ) → IsAnswerStatus status → SaysLength (line_answer status line).head (length line)
line_says status line h =
    let start = final_start status h.final in
    record { high = start.0; final = start.1; with_body = other_body status h.with_length h.with_body; coding = refl; length = refl }

line_fields : (status : ℕ) (line : List ℕ) → length line ≤ message_body_limit → All IsWritableField (line_answer status line).head.fields
line_fields status line within =
    let size = length_field line in
    All-cons IsWritableField text_field (size ∷ []) (visible_field (codes "content-type") (codes "text/plain") type_token refl)
    (All-cons IsWritableField size [] (length_writable line within) (All-nil IsWritableField))

-- where no field but that of the connection comes to it, it says the same of its body
closing_says : (said : Message) → KeepsOtherFields said → SaysLength said.head (length said.body)
    → SaysLength (with_close said).head (length said.body)
closing_says said keeps says = record {
  high = says.high;
  final = says.final;
  with_body = says.with_body;
  coding = keeps (codes "transfer-encoding") refl ∙ says.coding;
  length = keeps (codes "content-length") refl ∙ says.length;
}

line_framed : WrittenIsRead of_responses → ((said : Message) → KeepsOtherFields said) → (status : ℕ) (line : List ℕ) → IsAnswerStatus status
    → AnswerIsFramed (line_answer status line)
line_framed answered keeps status line is false within = λ rest.
    let m = line_answer status line in
    answered m rest (response_of_length m status refl is.final (line_says status line is) (line_fields status line within.body) within)
line_framed answered keeps status line is true within = λ rest.
    let m = line_answer status line in
    answered (with_close m) rest (response_of_length (with_close m) status refl is.final (closing_says m (keeps m) (line_says status line is))
    (closing_writable m.head.fields (line_fields status line within.body)) within)

-- each status that is answered with
answer_status : (status : ℕ) → 400 ≤ status → status ≤ 599 → IsAnswerStatus status
answer_status status low high = record {
  final = record { low = omega (arith, low); high = omega (arith, high) };
  with_length = grind (arith, nat_tests);
  with_body = grind (arith, nat_tests);
}

head_answer : (r : HeadRefusal) → IsAnswerStatus (head_status r)
head_answer wrong_protocol = answer_status 400 (omega arith) (omega arith)
head_answer unknown_operation = answer_status 404 (omega arith) (omega arith)
head_answer (not_served path) = answer_status 501 (omega arith) (omega arith)
head_answer wrong_media_type = answer_status 415 (omega arith) (omega arith)
head_answer unknown_error = answer_status 400 (omega arith) (omega arith)

refused_answer : (r : Refusal) → IsAnswerStatus (refusal_status r)
refused_answer (by_head r) = head_answer r
refused_answer (by_syntax r) = answer_status 400 (omega arith) (omega arith)
refused_answer (by_fault path kind) = answer_status 400 (omega arith) (omega arith)

unframed_answer : (why : HttpRefusal) → IsAnswerStatus (framing_status why)
unframed_answer BadHead = answer_status 400 (omega arith) (omega arith)
unframed_answer HeadTooLarge = answer_status 431 (omega arith) (omega arith)
unframed_answer Coding = answer_status 400 (omega arith) (omega arith)
unframed_answer Length = answer_status 400 (omega arith) (omega arith)
unframed_answer TooLong = answer_status 413 (omega arith) (omega arith)
unframed_answer Chunk = answer_status 400 (omega arith) (omega arith)
unframed_answer Ended = answer_status 400 (omega arith) (omega arith)
unframed_answer ReadFault = answer_status 400 (omega arith) (omega arith)
unframed_answer NoMemory = answer_status 400 (omega arith) (omega arith)

pub answers_framed : WrittenIsRead of_responses → ((said : Message) → KeepsOtherFields said) → AnswersAreFramed
answers_framed answered keeps = record {
  refused = λ r. line_framed answered keeps (refusal_status r) (refusal_line r) (refused_answer r);
  back_refused = λ r. line_framed answered keeps 502 (back_line (refusal_line r)) (answer_status 502 (omega arith) (omega arith));
  unframed = λ why. line_framed answered keeps (framing_status why) (framing_line why) (unframed_answer why);
  back_unframed = λ why. line_framed answered keeps 502 (back_line (framing_line why)) (answer_status 502 (omega arith) (omega arith));
}
