-- What is read from a source that tells its bytes, where nothing is held yet.
use Rattle.std.proofs.Common.{◌≡◌, ℕ, List, [], ◌∷◌, length, refl, sym, arith, subst, Option, Some, None, Result, Ok, Err}
use Rattle.std.specs.Prelude.{IfSome}
use Rattle.std.specs.Io.KnownBytes.{prepend_known}
use Rattle.sm_http.specs.declared.message.Message.{Message}
use Rattle.sm_http.specs.declared.message.MessageSide.{MessageSide}
use Rattle.sm_http.specs.declared.refusal.HttpRefusal.{HttpRefusal}
use Rattle.sm_http.specs.Framed.{message, Framed}
use Rattle.sm_http.specs.Calls.{ReadsAMessage}
use Rattle.speeds.specs.HttpTurns.{MessageOf}

told : (side : MessageSide) (bytes : List ℕ) (now left : Option (List ℕ)) (result : Result (Option Message) HttpRefusal)
    → ReadsAMessage side (Some bytes) now left result → MessageOf side bytes result
told side bytes None left (Ok None) r = absurd r
told side bytes (Some rest) left (Ok None) r = r.0
told side bytes None left (Ok (Some said)) (used, consumes, framed) = absurd consumes
told side bytes (Some rest) left (Ok (Some said)) (used, consumes, framed) =
    (rest, subst (λ b. Framed side b (message said rest)) (sym consumes) (framed rest))
told side bytes now left (Err refusal) r = tt

all_told : (side : MessageSide) (source now left : Option (List ℕ)) (result : Result (Option Message) HttpRefusal)
    → ReadsAMessage side (prepend_known [] source) now left result → IfSome source (λ bytes. MessageOf side bytes result)
all_told side None now left result r = tt
all_told side (Some bytes) now left result r = told side bytes now left result r

pub message_told : (side : MessageSide) (held : List ℕ) (source now left : Option (List ℕ)) (result : Result (Option Message) HttpRefusal)
    → held ≡ [] → ReadsAMessage side (prepend_known held source) now left result → IfSome source (λ bytes. MessageOf side bytes result)
message_told side held source now left result nothing r =
    all_told side source now left result (subst (λ h. ReadsAMessage side (prepend_known h source) now left result) nothing r)

-- of a source that tells these bytes
pub message_at : (side : MessageSide) (bytes : List ℕ) (source : Option (List ℕ)) (result : Result (Option Message) HttpRefusal)
    → source ≡ Some bytes → IfSome source (λ bytes. MessageOf side bytes result) → MessageOf side bytes result
message_at side bytes source result is r = subst (λ x. IfSome x (λ bytes. MessageOf side bytes result)) is r

pub none_held : (xs : List ℕ) → length xs ≡ 0 → xs ≡ []
none_held [] e = refl
none_held (x ∷ xs) e = absurd (omega (arith, e))
