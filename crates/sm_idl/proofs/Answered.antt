-- What a method answers of a part, as an answer of what the part stands in, whichever the answer is.
use Rattle.std.proofs.Common.{inl, inr, Result, Ok, Err}
use Rattle.sm_idl.specs.Productions.{Tokens, Production, ◌>>=◌, ◌or◌}
use Rattle.sm_idl.specs.declared.reader.ReadStop.{ReadStop}
use Rattle.sm_idl.specs.steps.Firm.{Class, HeadIs, AreApart, IsFirm}
use Rattle.sm_idl.specs.steps.ReaderView.{NoToken, ReadsAs, ReadsOn}
use Rattle.sm_idl.proofs.Passing.{read_wider, stop_wider, whole_read, stops_behind}
use Rattle.sm_idl.proofs.Choosing.{left_stop, right_stop}

-- what ends by itself, as what may go on
pub as_on : {V X : Type 0} {A : Class} (H : Class) (view : V → X) (P : Production X) → IsFirm ⊥ A NoToken P → (s r : Tokens)
    (result : Result V ReadStop) → ReadsAs view P s r result → ReadsOn H view P s r result
as_on H view P p s r (Ok v) h = read_wider P (view v) s r (λ t n. absurd n) (whole_read P p (view v) s r h)
as_on H view P p s r (Err stop) h = stop_wider P s r stop (λ t n. absurd n) h

-- behind what was read
pub as_behind : {V X Y : Type 0} {E : Type 0} {A : Class} (view : V → Y) (P : Production X) (Q : X → Production Y) → IsFirm E A NoToken P
    → (x : X) (s a r : Tokens) (result : Result V ReadStop) → P.whole x s a → ReadsAs view (Q x) a r result
    → ReadsAs view (P >>= Q) s r result
as_behind view P Q p x s a r (Ok v) h k = (x, a, h, k)
as_behind view P Q p x s a r (Err stop) h k = stops_behind NoToken P Q p x s a r stop h k

-- either of two, by the first token
module _ {V X : Type 0} (A B : Class) (view : V → X) (P Q : Production X) (p : IsFirm ⊥ A NoToken P) (q : IsFirm ⊥ B NoToken Q)
    (apart : AreApart A B) where
  pub as_left : (s r : Tokens) (result : Result V ReadStop) → (HeadIs B s → ⊥) → ReadsAs view P s r result
      → ReadsAs view (P or Q) s r result
  as_left s r (Ok v) none h = inl h
  as_left s r (Err stop) none h = left_stop A B NoToken NoToken P Q p q apart s r stop none h

  pub as_right : (s r : Tokens) (result : Result V ReadStop) → (HeadIs A s → ⊥) → ReadsAs view Q s r result
      → ReadsAs view (P or Q) s r result
  as_right s r (Ok v) none h = inr h
  as_right s r (Err stop) none h = right_stop A B NoToken NoToken P Q p q (λ t b a. apart t a b) s r stop none h
