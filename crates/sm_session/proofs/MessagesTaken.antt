-- From a head and the body behind it to a message.
use Rattle.std.proofs.Common.{ℕ, List, ◌++◌, sym, subst, append_assoc, Option, Some, Ok}
use Rattle.sm_io.proofs.Told.{consumes_both}
use Rattle.sm_http.specs.declared.message.Head.{Head}
use Rattle.sm_http.specs.declared.message.MessageSide.{MessageSide}
use Rattle.sm_http.specs.declared.message.BodyLeft.{BodyLeft}
use Rattle.sm_http.specs.Bodies.{BodyFramed, body}
use Rattle.sm_http.specs.Framed.{head, HeadFramed, message, Framed}
use Rattle.sm_http.specs.Calls.{Uses, ReadsAHead}
use Rattle.sm_session.specs.steps.Feeding.{message_of}

-- a head and its body
pub message_taken : (side : MessageSide) (ahead now left0 after : Option (List ℕ)) (h : Head) (begun : BodyLeft) (content : List ℕ)
    → ReadsAHead side ahead now left0 (Ok (Some (h, begun)))
    → Uses now after (λ used more. BodyFramed begun (used ++ more) (body content more))
    → Uses ahead after (λ used more. Framed side (used ++ more) (message (message_of h content) more))
message_taken side ahead now left0 after h begun content (is, (used, consumes, framed)) (next, uses, has) = (
  used ++ next,
  consumes_both ahead now after used next consumes uses,
  λ more. (
    next ++ more,
    subst (λ s. HeadFramed side s (head h (next ++ more))) (sym (append_assoc used next more)) (framed (next ++ more)),
    subst (λ p. BodyFramed p (next ++ more) (body content more)) is (has more),
  ),
)
