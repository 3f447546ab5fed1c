-- A body whose first piece was read before it was begun.
use Rattle.std.proofs.Common.{◌≡◌, ◌<◌, ℕ, List, [], length, take, subst, Option, Some, None, Ok, Err}
use Rattle.std.specs.Prelude.{◌==◌, Result}
use Rattle.sm_http.specs.declared.message.Head.{Head}
use Rattle.sm_http.specs.declared.message.Message.{Message}
use Rattle.sm_http.specs.declared.message.BodyLeft.{BodyLeft}
use Rattle.sm_http.specs.declared.message.BodyLeft.TheVariants.{Done}
use Rattle.sm_http.specs.declared.refusal.HttpRefusal.{HttpRefusal}
use Rattle.sm_http.specs.Calls.{Uses, GoesOn}
use Rattle.sm_session.specs.Responding.{Reads}
use Rattle.sm_session.specs.steps.Feeding.{FeedsRest, ReadsBody, OfRequest, OfReply}
use Rattle.sm_session.proofs.BodiesFed.{whole_behind, refused_piece}

pub request_read : {B : Type 0} (reads : B → Reads) (body : B) (head : Head) (begun place : BodyLeft)
    (ahead middle now left : Option (List ℕ)) (buffer : List ℕ) (count : ℕ) (result : Result B HttpRefusal)
    → 0 < length buffer → reads body (record { request = None; head = head; empty = count == 0 }) []
    → (count ≡ 0 → place ≡ Done) → Uses ahead middle (λ used more. GoesOn begun place buffer count used more)
    → FeedsRest (reads body) reads place middle now left (take count buffer) result
    → ReadsBody (OfRequest reads head) begun ahead now left result
request_read reads body head begun place ahead middle now left buffer count (Ok taken) some x ends uses (rest, framed, on) =
    let whole = whole_behind (reads body) (reads taken) begun place ahead middle now buffer count rest some ends uses framed on in (
      whole.0,
      whole.1,
      subst (λ e. reads taken (record { request = None; head = head; empty = e }) whole.0) whole.3
          (whole.2 (record { request = None; head = head; empty = count == 0 }) [] x),
    )
request_read reads body head begun place ahead middle now left buffer count (Err why) some x ends uses refused =
    refused_piece begun place ahead middle left buffer count why uses refused

pub reply_read : {B : Type 0} (reads : B → Reads) (body : B) (called : Message → Type 0) (head : Head) (begun place : BodyLeft)
    (ahead middle now left : Option (List ℕ)) (buffer : List ℕ) (count : ℕ) (result : Result B HttpRefusal)
    → 0 < length buffer
    → ((m : Message) → called m → reads body (record { request = Some m; head = head; empty = count == 0 }) [])
    → (count ≡ 0 → place ≡ Done) → Uses ahead middle (λ used more. GoesOn begun place buffer count used more)
    → FeedsRest (reads body) reads place middle now left (take count buffer) result
    → ReadsBody (OfReply reads called head) begun ahead now left result
reply_read reads body called head begun place ahead middle now left buffer count (Ok taken) some x ends uses (rest, framed, on) =
    let whole = whole_behind (reads body) (reads taken) begun place ahead middle now buffer count rest some ends uses framed on in (
      whole.0,
      whole.1,
      λ m call. subst (λ e. reads taken (record { request = Some m; head = head; empty = e }) whole.0) whole.3
          (whole.2 (record { request = Some m; head = head; empty = count == 0 }) [] (x m call)),
    )
reply_read reads body called head begun place ahead middle now left buffer count (Err why) some x ends uses refused =
    refused_piece begun place ahead middle left buffer count why uses refused
