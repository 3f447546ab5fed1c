-- No bytes are without an answer.
use Rattle.std.proofs.Common.{◌≡◌, ℕ, Bool, true, false, List, [], ◌∷◌, ◌++◌, length, take, drop, refl, subst, arith, inl, inr, Option}
use Rattle.std.proofs.Common.{Some, None}
use Rattle.std.specs.Prelude.{nat_lt}
use Rattle.std.proofs.lemmas.Bool.{ltb-true, ltb-false}
use Rattle.std.proofs.lemmas.List.{length-append, length-drop, take-append-drop}
use Rattle.sm_http.specs.declared.message.MessageSide.{MessageSide}
use Rattle.sm_http.specs.declared.message.MessageSide.TheVariants.{Request as of_requests, Response as of_responses}
use Rattle.sm_http.specs.declared.message.BodyLeft.{BodyLeft}
use Rattle.sm_http.specs.declared.refusal.HttpRefusal.{HttpRefusal}
use Rattle.sm_http.specs.declared.refusal.HttpRefusal.TheVariants.{Ended, HeadTooLarge, TooLong, Chunk}
use Rattle.sm_http.specs.declared.refusal.HttpRefusal.TheVariants.{Head as BadHead}
use Rattle.sm_http.specs.Limits.{head_limit}
use Rattle.sm_http.specs.Heads.{HeadText, request_text, response_text, ReadsHead, HasNoHead, HeadStands, AwaitsHead}
use Rattle.sm_http.specs.BodyFields.{head_refusal, body_begin}
use Rattle.sm_http.specs.Bodies.{BodyFraming, body, body_refused, BodyFramed}
use Rattle.sm_http.specs.Framed.{Framing, no_message, message, message_refused, Framed}
use Rattle.sm_http.specs.Laws.{HasSomeFraming}
use Rattle.sm_http.proofs.ReadingHeads.{reads_on}

some_body : (left : BodyLeft) (bytes : List ℕ) → ((a : BodyFraming) → BodyFramed left bytes a → ⊥) → ⊥
some_body left bytes deny =
    deny (body_refused Ended) (
      (λ content rest x. deny (body content rest) (x, λ past. deny (body_refused TooLong) past)),
      (λ never. deny (body_refused Chunk) (never, λ past. deny (body_refused TooLong) past)),
      λ past. deny (body_refused TooLong) past,
    )

-- a whole head has an answer
head_answer : (side : MessageSide) (bytes : List ℕ) (text : HeadText) (rest : List ℕ) (why : Option HttpRefusal)
    → head_refusal text ≡ why → HeadStands side bytes text rest → ((a : Framing) → Framed side bytes a → ⊥) → ⊥
head_answer side bytes text rest (Some why) e whole deny = deny (message_refused why) (inl (inr (text, rest, whole, e)))
head_answer side bytes text rest None e whole deny = some_body (body_begin text.head) rest answer
  where
    answer : (a : BodyFraming) → BodyFramed (body_begin text.head) rest a → ⊥
    answer (body content behind) x =
        deny (message (record { head = text.head; body = content }) behind) (rest, (text, whole, e, refl), x)
    answer (body_refused why) x = deny (message_refused why) (inr (text.head, rest, (text, whole, e, refl), x))

-- a head within the limit stands
within_stands : (side : MessageSide) (bytes : List ℕ) (text : HeadText) (rest : List ℕ) → ReadsHead side (take head_limit bytes) text rest
    → HeadStands side bytes text (rest ++ drop head_limit bytes)
within_stands side bytes text rest reads = record {
  reads = subst (λ bs. ReadsHead side bs text (rest ++ drop head_limit bytes)) (take-append-drop head_limit bytes)
      (reads_on side (take head_limit bytes) rest (drop head_limit bytes) text reads);
  within = let whole = length-append rest (drop head_limit bytes) in let behind = length-drop head_limit bytes in omega arith;
}

no_whole : (side : MessageSide) (bytes : List ℕ) → ((text : HeadText) (rest : List ℕ) → HeadStands side bytes text rest → ⊥)
    → HasNoHead side (take head_limit bytes)
no_whole of_requests bytes none = λ h rest x. none (request_text h) _ (within_stands of_requests bytes (request_text h) rest (h, x, refl))
no_whole of_responses bytes none = λ h rest x. none (response_text h) _
    (within_stands of_responses bytes (response_text h) rest (h, x, refl))

by_length : (side : MessageSide) (bytes : List ℕ) (short : Bool) → nat_lt (length bytes) head_limit ≡ short → AwaitsHead side bytes
    → ((a : Framing) → Framed side bytes a → ⊥) → ⊥
by_length side bytes true e awaits deny =
    deny (message_refused Ended) (inl (inl (awaits, ltb-true (length bytes) head_limit e)))
by_length side bytes false e awaits deny =
    deny (message_refused HeadTooLarge) (inl (inl (awaits, ltb-false (length bytes) head_limit e)))

pub some_framing : (side : MessageSide) → HasSomeFraming side
some_framing side [] deny = deny no_message refl
some_framing side (b ∷ bytes) deny = by_length side (b ∷ bytes) _ refl awaits deny
  where
    awaits : AwaitsHead side (b ∷ bytes)
    awaits = record {
      some = omega arith;
      no_head = no_whole side (b ∷ bytes) (λ text rest whole. head_answer side (b ∷ bytes) text rest _ refl whole deny);
      not_refused = λ none. deny (message_refused BadHead) (inl (inl none));
    }
