-- From a head and a body to a message.
use Rattle.std.proofs.Common.{◌≡◌, ℕ, ◌+◌, Bool, true, false, List, [], ◌∷◌, ◌++◌, refl, sym, subst, arith}
use Rattle.std.proofs.Common.{append_assoc, append-nil, inl, inr, Option, Some, None, Ok, Err}
use Rattle.std.specs.Prelude.{IfSome, if◌then◌else◌}
use Rattle.std.proofs.lemmas.Bool.{ltb-false}
use Rattle.std.specs.Str.Parse.{digits_value}
use Rattle.sm_http.specs.declared.message.Head.{Head}
use Rattle.sm_http.specs.declared.message.MessageSide.{MessageSide}
use Rattle.sm_http.specs.declared.message.BodyLeft.{BodyLeft}
use Rattle.sm_http.specs.declared.message.BodyLeft.TheVariants.{Known, Done}
use Rattle.sm_http.specs.declared.refusal.HttpRefusal.{HttpRefusal}
use Rattle.sm_http.specs.declared.refusal.HttpRefusal.TheVariants.{ReadFault, Ended, HeadTooLarge, Coding, Length, TooLong, Chunk, NoMemory}
use Rattle.sm_http.specs.declared.refusal.HttpRefusal.TheVariants.{Head as BadHead}
use Rattle.sm_http.specs.Limits.{message_body_limit}
use Rattle.sm_http.specs.Heads.{HeadText}
use Rattle.sm_http.specs.BodyFields.{head_refusal, body_begin, told_body, is_past_limit, has_no_body, codings, lengths}
use Rattle.sm_http.specs.Bodies.{body, body_refused, BodyFramed}
use Rattle.sm_http.specs.Framed.{head, head_refused, HeadFramed, message_refused, Framed}
use Rattle.sm_io.proofs.Told.{consumes_both}
use Rattle.sm_http.specs.Calls.{IsOpen, IsOpenHead, ReadsAHead, IsWithinLimit, ReadsAMessage}
use Rattle.sm_http.specs.steps.Passing.{RefusesBody, GoesTo}
use Rattle.sm_http.proofs.BodySteps.{framed_on}

-- ---- a head that isn't refused begins no body past the limit

last_of : (a b c d e : Bool) → (if a then Some BadHead else (if b then Some HeadTooLarge else (if c then Some Coding else (
    if d then Some Length else (if e then Some TooLong else None))))) ≡ None → e ≡ false
last_of true b c d e x = absurd (cc)
last_of false true c d e x = absurd (cc)
last_of false false true d e x = absurd (cc)
last_of false false false true e x = absurd (cc)
last_of false false false false true x = absurd (cc)
last_of false false false false false x = refl

told_within : (cs vs : List (List ℕ)) → is_past_limit (told_body cs vs) ≡ false → IsWithinLimit (told_body cs vs)
told_within (c ∷ cs) vs e = omega arith
told_within [] (v ∷ vs) e = ltb-false message_body_limit (digits_value 10 v) e
told_within [] [] e = omega arith

begun_within : (t : Bool) (cs vs : List (List ℕ)) → is_past_limit (if t then Known 0 else told_body cs vs) ≡ false
    → IsWithinLimit (if t then Known 0 else told_body cs vs)
begun_within true cs vs e = omega arith
begun_within false cs vs e = told_within cs vs e

pub begins_within : (text : HeadText) (left : BodyLeft) → head_refusal text ≡ None → left ≡ body_begin text.head → IsWithinLimit left
begins_within text left e is =
    subst IsWithinLimit (sym is)
    (begun_within (has_no_body text.head.start) (codings text.head) (lengths text.head) (last_of _ _ _ _ _ e))

-- ---- a head alone

pub head_word : (side : MessageSide) (a : Option (List ℕ)) (why : HttpRefusal) → IfSome a (λ bytes. HeadFramed side bytes (head_refused why))
    → IfSome a (λ bytes. Framed side bytes (message_refused why))
head_word side None why x = tt
head_word side (Some a) why x = inl x

pub open_head : (side : MessageSide) (taken : List ℕ) → IsOpenHead side taken → IsOpen side taken
open_head side taken (inl x) = inl x
open_head side taken (inr x) = inr (inl x)

pub refused_head : (side : MessageSide) (a n m l : Option (List ℕ)) (why : HttpRefusal) → ReadsAHead side a n l (Err why)
    → ReadsAMessage side a m l (Err why)
refused_head side a n m l ReadFault x = (x.0, x.1, open_head side x.0 x.2)
refused_head side a n m l Ended x = head_word side a Ended x
refused_head side a n m l BadHead x = head_word side a BadHead x
refused_head side a n m l HeadTooLarge x = head_word side a HeadTooLarge x
refused_head side a n m l Coding x = head_word side a Coding x
refused_head side a n m l Length x = head_word side a Length x
refused_head side a n m l TooLong x = head_word side a TooLong x
refused_head side a n m l Chunk x = head_word side a Chunk x
refused_head side a n m l NoMemory x = tt

-- ---- a head and a body

pub said_ahead : (side : MessageSide) (a b c l k : Option (List ℕ)) (h : Head) (left : BodyLeft) (content : List ℕ)
    → ReadsAHead side a b l (Ok (Some (h, left))) → GoesTo left Done b c content
    → ReadsAMessage side a c k (Ok (Some (record { head = h; body = content })))
said_ahead side a b c l k h left content (begun, (used, consumes, framed)) goes = (
  used ++ goes.used,
  consumes_both a b c used goes.used consumes goes.consumes,
  λ more. (
    goes.used ++ more,
    subst (λ s. HeadFramed side s (head h (goes.used ++ more))) (sym (append_assoc used goes.used more)) (framed (goes.used ++ more)),
    subst (λ p. BodyFramed p (goes.used ++ more) (body content more)) begun
        (subst (λ s. BodyFramed left (goes.used ++ more) (body s more)) (append-nil content)
        (framed_on left Done goes.used content goes.steps more (body [] more) (([], (refl, refl), refl), λ p. p))),
  ),
)

pub body_word : (side : MessageSide) (a b l : Option (List ℕ)) (h : Head) (left : BodyLeft) (why : HttpRefusal)
    → ReadsAHead side a b l (Ok (Some (h, left))) → IfSome b (λ bytes. BodyFramed left bytes (body_refused why))
    → IfSome a (λ bytes. Framed side bytes (message_refused why))
body_word side None b l h left why x y = tt
body_word side (Some a) None l h left why (begun, (used, consumes, framed)) y = absurd consumes
body_word side (Some a) (Some b) l h left why (begun, (used, consumes, framed)) y =
    inr (h, b, subst (λ s. HeadFramed side s (head h b)) (sym consumes) (framed b), subst (λ p. BodyFramed p b (body_refused why)) begun y)

pub refused_body : (side : MessageSide) (a b m l k : Option (List ℕ)) (h : Head) (left : BodyLeft) (why : HttpRefusal)
    → ReadsAHead side a b l (Ok (Some (h, left))) → RefusesBody left b k why → ReadsAMessage side a m k (Err why)
refused_body side a b m l k h left ReadFault (begun, (used, consumes, framed)) (taken, takes, opened) = (
  used ++ taken,
  consumes_both a b k used taken consumes takes,
  inr (inr (h, taken, framed taken, subst (λ p. BodyFramed p taken (body_refused Ended)) begun opened)),
)
refused_body side a b m l k h left Ended x y = body_word side a b l h left Ended x y
refused_body side a b m l k h left BadHead x y = body_word side a b l h left BadHead x y
refused_body side a b m l k h left HeadTooLarge x y = body_word side a b l h left HeadTooLarge x y
refused_body side a b m l k h left Coding x y = body_word side a b l h left Coding x y
refused_body side a b m l k h left Length x y = body_word side a b l h left Length x y
refused_body side a b m l k h left TooLong x y = body_word side a b l h left TooLong x y
refused_body side a b m l k h left Chunk x y = body_word side a b l h left Chunk x y
refused_body side a b m l k h left NoMemory x y = tt
