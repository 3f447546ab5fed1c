-- Bytes come to one answer.
use Rattle.std.proofs.Common.{◌≡◌, ℕ, List, refl, ap, ◌∙◌, subst, inl, inr}
use Rattle.sm_http.specs.declared.message.Head.{Head}
use Rattle.sm_http.specs.declared.message.Message.{Message}
use Rattle.sm_http.specs.declared.message.MessageSide.{MessageSide}
use Rattle.sm_http.specs.declared.refusal.HttpRefusal.{HttpRefusal}
use Rattle.sm_http.specs.BodyFields.{body_begin}
use Rattle.sm_http.specs.Bodies.{BodyFraming, body, body_refused, BodyFramed}
use Rattle.sm_http.specs.Framed.{no_head, head, head_refused, HeadFramed, no_message, message, message_refused, Framed}
use Rattle.sm_http.specs.Laws.{HasOneFraming}
use Rattle.sm_http.proofs.OneHead.{one_head}
use Rattle.sm_http.proofs.OneBody.{one_body}

-- two heads of the same bytes are followed by one answer
same_behind : (side : MessageSide) (bytes : List ℕ) (h k : Head) (r q : List ℕ) (a b : BodyFraming)
    → HeadFramed side bytes (head h r) → HeadFramed side bytes (head k q)
    → BodyFramed (body_begin h) r a → BodyFramed (body_begin k) q b → (h ≡ k) × (a ≡ b)
same_behind side bytes h k r q a b x y p w =
    let same : head h r ≡ head k q = one_head side bytes (head h r) (head k q) x y in
    let heads : h ≡ k = cc in
    let rests : r ≡ q = cc in (
      heads,
      one_body (body_begin k) q a b
          (subst (λ s. BodyFramed (body_begin k) s a) rests (subst (λ s. BodyFramed (body_begin s) r a) heads p)) w,
    )

-- a head is no other answer
headed_or_none : (side : MessageSide) (bytes : List ℕ) (h : Head) (r : List ℕ) → HeadFramed side bytes (head h r)
    → HeadFramed side bytes no_head → ⊥
headed_or_none side bytes h r x y = let same : head h r ≡ no_head = one_head side bytes (head h r) no_head x y in cc

headed_or_refused : (side : MessageSide) (bytes : List ℕ) (h : Head) (r : List ℕ) (why : HttpRefusal) → HeadFramed side bytes (head h r)
    → HeadFramed side bytes (head_refused why) → ⊥
headed_or_refused side bytes h r why x y =
    let same : head h r ≡ head_refused why = one_head side bytes (head h r) (head_refused why) x y in cc

none_or_refused : (side : MessageSide) (bytes : List ℕ) (why : HttpRefusal) → HeadFramed side bytes no_head
    → Framed side bytes (message_refused why) → ⊥
none_or_refused side bytes why x (inl y) =
    let same : no_head ≡ head_refused why = one_head side bytes no_head (head_refused why) x y in cc
none_or_refused side bytes why x (inr y) = headed_or_none side bytes y.0 y.1 y.2 x

said_or_refused : (side : MessageSide) (bytes : List ℕ) (said : Message) (rest : List ℕ) (why : HttpRefusal)
    → Framed side bytes (message said rest) → Framed side bytes (message_refused why) → ⊥
said_or_refused side bytes said rest why x (inl y) = headed_or_refused side bytes said.head x.0 why x.1 y
said_or_refused side bytes said rest why x (inr y) =
    let same = same_behind side bytes said.head y.0 x.0 y.1 (body said.body rest) (body_refused why) x.1 y.2 x.2 y.3 in
    let words = same.1 in
    cc

one_refusal : (side : MessageSide) (bytes : List ℕ) (a b : HttpRefusal) → Framed side bytes (message_refused a)
    → Framed side bytes (message_refused b) → a ≡ b
one_refusal side bytes a b (inl x) (inl y) =
    let same : head_refused a ≡ head_refused b = one_head side bytes (head_refused a) (head_refused b) x y in cc
one_refusal side bytes a b (inl x) (inr y) = absurd (headed_or_refused side bytes y.0 y.1 a y.2 x)
one_refusal side bytes a b (inr x) (inl y) = absurd (headed_or_refused side bytes x.0 x.1 b x.2 y)
one_refusal side bytes a b (inr x) (inr y) =
    let same = same_behind side bytes x.0 y.0 x.1 y.1 (body_refused a) (body_refused b) x.2 y.2 x.3 y.3 in
    let words = same.1 in
    cc

one_said : (side : MessageSide) (bytes : List ℕ) (a b : Message) (r q : List ℕ) → Framed side bytes (message a r)
    → Framed side bytes (message b q) → message a r ≡ message b q
one_said side bytes a b r q x y =
    let same = same_behind side bytes a.head b.head x.0 y.0 (body a.body r) (body b.body q) x.1 y.1 x.2 y.2 in
    let bodies = same.1 in
    let data_same : a.body ≡ b.body = cc in
    let rests : r ≡ q = cc in
    ap (λ h. message (record { head = h; body = a.body }) r) same.0
    ∙ ap (λ c. message (record { head = b.head; body = c }) r) data_same ∙ ap (λ s. message b s) rests

pub one_framing : (side : MessageSide) → HasOneFraming side
one_framing side bytes no_message no_message x y = refl
one_framing side bytes no_message (message b q) x y = absurd (headed_or_none side bytes b.head y.0 y.1 x)
one_framing side bytes no_message (message_refused b) x y = absurd (none_or_refused side bytes b x y)
one_framing side bytes (message a r) no_message x y = absurd (headed_or_none side bytes a.head x.0 x.1 y)
one_framing side bytes (message a r) (message b q) x y = one_said side bytes a b r q x y
one_framing side bytes (message a r) (message_refused b) x y = absurd (said_or_refused side bytes a r b x y)
one_framing side bytes (message_refused a) no_message x y = absurd (none_or_refused side bytes a y x)
one_framing side bytes (message_refused a) (message b q) x y = absurd (said_or_refused side bytes b q a y x)
one_framing side bytes (message_refused a) (message_refused b) x y = ap message_refused (one_refusal side bytes a b x y)
