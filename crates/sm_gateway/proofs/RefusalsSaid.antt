-- The refusal that a call tells is the one of which its clauses speak.
use Rattle.std.proofs.Common.{◌≡◌, ℕ, Bool, List, refl, sym, ap, ◌∙◌, subst}
use Rattle.std.specs.Prelude.{Ok, true, false}
use Rattle.std.proofs.lemmas.Option.{same_Some}
use Rattle.sm_http.specs.declared.message.Message.{Message}
use Rattle.sm_session.specs.OwnAnswers.{back_line, line_answer}
use Rattle.sm_protocols.specs.messages.Answers.{AtHead, RefusedAs}
use Rattle.sm_protocols.specs.messages.HeadAnswers.{HeadRefusal, wrong_media_type}
use Rattle.sm_protocols.specs.messages.MessageAnswers.{Refusal, by_fault, by_head, by_syntax}
use Rattle.sm_protocols.specs.messages.declared.refusal.MessageRefusal.{MessageRefusal}
use Rattle.sm_protocols.specs.messages.declared.refusal.MessageRefusal.TheVariants.{Fault, MediaType, NoMemory, Protocol, Syntax, UnknownError}
use Rattle.sm_protocols.specs.messages.declared.refusal.MessageRefusal.TheVariants.{UnknownOperation, Unserved}
use Rattle.sm_gateway.specs.Answers.{AnswersRefusal, IsSaid}
use Rattle.sm_gateway.specs.RefusalAnswers.{back_refusal_answer, closing, refusal_answer, refusal_line, refusal_status}
use Rattle.sm_gateway.specs.declared.body.GatewayBody.TheVariants.{Refused}
use Rattle.sm_gateway.specs.steps.Reading.{IsMediaType, RefusesBody}
use Rattle.sm_gateway.specs.steps.Telling.{ToldAs}

-- what holds of the refusal holds of the one that is told
pub said_is : (is : Refusal → Type 0) (refusal : MessageRefusal) (r : Refusal) → IsSaid refusal r → RefusedAs is refusal → is r
said_is is Protocol r said x = subst is (same_Some _ r said) x
said_is is UnknownOperation r said x = subst is (same_Some _ r said) x
said_is is (Unserved path) r said x = subst is (same_Some _ r said) x
said_is is MediaType r said x = subst is (same_Some _ r said) x
said_is is UnknownError r said x = subst is (same_Some _ r said) x
said_is is (Syntax why) r said x = subst is (same_Some _ r said) x
said_is is (Fault f) r said x = subst is (same_Some _ r said) x
said_is is NoMemory r said x = absurd cc

-- and back
pub is_said : (is : Refusal → Type 0) (refusal : MessageRefusal) (r : Refusal) → IsSaid refusal r → is r → RefusedAs is refusal
is_said is Protocol r said x = subst is (sym (same_Some _ r said)) x
is_said is UnknownOperation r said x = subst is (sym (same_Some _ r said)) x
is_said is (Unserved path) r said x = subst is (sym (same_Some _ r said)) x
is_said is MediaType r said x = subst is (sym (same_Some _ r said)) x
is_said is UnknownError r said x = subst is (sym (same_Some _ r said)) x
is_said is (Syntax why) r said x = subst is (sym (same_Some _ r said)) x
is_said is (Fault f) r said x = subst is (sym (same_Some _ r said)) x
is_said is NoMemory r said x = tt

-- the refusal of a head is one of heads
pub at_head_of : (is : HeadRefusal → Type 0) (r : Refusal) → AtHead is r → (h : HeadRefusal) × (r ≡ by_head h) × is h
at_head_of is (by_head h) x = (h, refl, x)
at_head_of is (by_syntax why) x = absurd x
at_head_of is (by_fault path kind) x = absurd x

-- another refusal than that of a media type
pub other_said : (refusal : MessageRefusal) (h : HeadRefusal) → IsMediaType refusal false → IsSaid refusal (by_head h)
    → h ≡ wrong_media_type → ⊥
other_said Protocol h isnt said e = cc
other_said UnknownOperation h isnt said e = cc
other_said (Unserved path) h isnt said e = cc
other_said MediaType h isnt said e = cc
other_said UnknownError h isnt said e = cc
other_said (Syntax why) h isnt said e = cc
other_said (Fault f) h isnt said e = cc
other_said NoMemory h isnt said e = cc

pub media_said : (refusal : MessageRefusal) → IsMediaType refusal true → refusal ≡ MediaType
media_said MediaType is = refl
media_said Protocol is = absurd cc
media_said UnknownOperation is = absurd cc
media_said (Unserved path) is = absurd cc
media_said UnknownError is = absurd cc
media_said (Syntax why) is = absurd cc
media_said (Fault f) is = absurd cc
media_said NoMemory is = absurd cc

-- what is told of a refusal is told of the one that is said
pub told_is : (is : Refusal → Type 0) (refusal : MessageRefusal) → ToldAs is refusal → (r : Refusal) × IsSaid refusal r × is r
told_is is Protocol x = (_, refl, x)
told_is is UnknownOperation x = (_, refl, x)
told_is is (Unserved path) x = (_, refl, x)
told_is is MediaType x = (_, refl, x)
told_is is UnknownError x = (_, refl, x)
told_is is (Syntax why) x = (_, refl, x)
told_is is (Fault f) x = (_, refl, x)
told_is is NoMemory x = absurd x

-- the answer to a request that is refused
pub refusal_told : (refusal : MessageRefusal) (status : ℕ) (line : List ℕ) (answer : Message)
    → ToldAs (λ r. line ≡ refusal_line r) refusal → RefusedAs (λ r. status ≡ refusal_status r) refusal
    → answer ≡ line_answer status line → (r : Refusal) × IsSaid refusal r × (answer ≡ refusal_answer r)
refusal_told refusal status line answer told judged is =
    let (r, said, same) = told_is (λ k. line ≡ refusal_line k) refusal told in
    let status_is = said_is (λ k. status ≡ refusal_status k) refusal r said judged in
    (r, said, is ∙ ap (λ n. line_answer n line) status_is ∙ ap (line_answer (refusal_status r)) same)

-- and where the back's answer is refused
pub back_refusal_told : (refusal : MessageRefusal) (line told_line : List ℕ) (answer : Message)
    → ToldAs (λ r. line ≡ refusal_line r) refusal → told_line ≡ back_line line → answer ≡ line_answer 502 told_line
    → (r : Refusal) × IsSaid refusal r × (answer ≡ back_refusal_answer r)
back_refusal_told refusal line told_line answer told back is =
    let (r, said, same) = told_is (λ k. line ≡ refusal_line k) refusal told in
    (r, said, is ∙ ap (line_answer 502) back ∙ ap (λ u. line_answer 502 (back_line u)) same)

-- and with what stands in it where the session ends behind it
pub refusal_closed : (refusal : MessageRefusal) (close : Bool) (answer closed : Message)
    → ((r : Refusal) × IsSaid refusal r × (answer ≡ refusal_answer r)) → closed ≡ closing close answer → AnswersRefusal refusal close closed
refusal_closed refusal close answer closed (r, said, same) is = (r, said, is ∙ ap (closing close) same)

-- a message that is refused so
pub refuses : (refusal k : MessageRefusal) (r : Refusal) → refusal ≡ k → IsSaid k r → RefusesBody refusal (Ok (Refused k))
refuses refusal k r at said = (r, subst (λ e. IsSaid e r) (sym at) said, ap Refused (sym at))
