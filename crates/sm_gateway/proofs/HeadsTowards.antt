-- A message is judged at a near end, and then by what the far end serves: what comes of the two is what it comes to on the way from one
-- to the other.
use Rattle.std.proofs.Common.{◌≡◌, ℕ, Bool, true, false, List, Option, None, Some, refl, sym, ap, ◌∙◌, subst}
use Rattle.sm_tree.specs.Syntax.{IsRead}
use Rattle.sm_shapes.specs.Fitting.{Test}
use Rattle.sm_compile.specs.declared.compiled.Served.{Served}
use Rattle.sm_compile.specs.declared.compiled.Served.TheVariants.{Yes, Unserved}
use Rattle.sm_http.specs.declared.message.Head.{Head}
use Rattle.sm_protocols.specs.service.ServiceData.{ServiceData}
use Rattle.sm_protocols.specs.messages.Crossings.{or_by, towards}
use Rattle.sm_protocols.specs.messages.Goals.{Asked, Goal, a_request, a_response, goal_of, operation_at, the_input}
use Rattle.sm_protocols.specs.messages.HeadAnswers.{Address, HeadAnswer, HeadRefusal, IsJudged, addressed, not_served, of_request, of_response}
use Rattle.sm_protocols.specs.messages.HeadAnswers.{is_request_type, path_unserved, refused_at_head, served_answer}
use Rattle.sm_protocols.specs.messages.HeadAnswers.{to_goal, typed_answer, unmarked, unserved, wrong_media_type}
use Rattle.sm_protocols.specs.messages.Heads.{is_empty}
use Rattle.sm_protocols.specs.messages.IsForm.{ReadsMessages, Serves}
use Rattle.sm_protocols.specs.messages.MessageAnswers.{MessageAnswer, MessageAnswers, Reaches, at_head, fault, no_name, no_text, value}
use Rattle.sm_protocols.specs.messages.MessageForm.{MessageForm}
use Rattle.sm_protocols.specs.messages.Begun.{operation_of}
use Rattle.sm_protocols.proofs.messages.CrossedMessages.{far_led}
use Rattle.sm_protocols.proofs.messages.HeadsJudged.{judged_address}
use Rattle.sm_protocols.specs.ProtocolBodies.{IsHeadFor}
use Rattle.sm_gateway.specs.steps.Reading.{IsAdmitted}

request_or_response : (o : ℕ) → a_response o ≡ a_request → ⊥
request_or_response o e = cc

-- the far end has no part in how responses are judged
pub response_admitted : (near far : MessageForm) (s : ServiceData) (o : ℕ) (head : Head) → IsAdmitted near far s (a_response o) head
response_admitted near far s o head p asked goes = absurd (request_or_response o asked)

pub judged_towards : (near far : MessageForm) (s : ServiceData) (asked : Asked) (head : Head) (empty : Bool) (a : HeadAnswer)
    → IsAdmitted near far s asked head → IsJudged near s asked head empty a → IsJudged (towards near far) s asked head empty a
judged_towards near far s asked head empty a same (unmarked m e) = unmarked m e
judged_towards near far s asked head empty a same (of_request None m r x e) = of_request None m r x e
judged_towards near far s asked head empty a same (of_request (Some o) m r x e) =
    of_request (Some o) m r x
    (e ∙ sym (ap (λ u. served_answer u (typed_answer (is_request_type near s o head empty) (to_goal (goal_of o the_input)))) (same o r x)))
judged_towards near far s asked head empty a same (of_response o m r e) = of_response o m r e

reaches_towards : (near far : MessageForm) (s : ServiceData) (asked : Asked) (head : Head) (body : List ℕ) (g : Goal)
    → IsAdmitted near far s asked head → Reaches near s asked head body g → Reaches (towards near far) s asked head body g
reaches_towards near far s asked head body g same there = record {
  there = there.there;
  judged = judged_towards near far s asked head (is_empty body) _ same there.judged;
  goal = far_led near far (IsRead near.syntax.text) s body there.there g there.goal;
  content = there.content;
  has = there.has;
}

pub answers_towards : (near far : MessageForm) (s : ServiceData) (test : Test) (asked : Asked) (head : Head) (body : List ℕ)
    (a : MessageAnswer) → IsAdmitted near far s asked head → MessageAnswers near s test asked head body a
    → MessageAnswers (towards near far) s test asked head body a
unfolding reaches_towards
answers_towards near far s test asked head body a same (at_head r judged e) =
    at_head r (judged_towards near far s asked head (is_empty body) (refused_at_head r) same judged) e
answers_towards near far s test asked head body a same (no_text there r judged used bad e) =
    no_text there r (judged_towards near far s asked head (is_empty body) (addressed there) same judged) used bad e
answers_towards near far s test asked head body a same (no_name o n judged has none e) =
    no_name o n (judged_towards near far s asked head (is_empty body) _ same judged) has none e
answers_towards near far s test asked head body a same (fault g path kind later there first e) =
    fault g path kind later (reaches_towards near far s asked head body g same there) first e
answers_towards near far s test asked head body a same (value g v there spells e) =
    value g v (reaches_towards near far s asked head body g same there) spells e

-- an operation that the far end restricts in no way is served as at the near end
pub served_alike : (near far : MessageForm) (s : ServiceData) (o : ℕ) → or_by (near.restriction s o) (far.restriction s o) ≡ None
    → unserved (towards near far) s o ≡ unserved near s o
served_alike near far s o none = by (operation_at s o).served (near.restriction s o) none
  where
    by : (served : Served) (path : Option (List ℕ)) → or_by path (far.restriction s o) ≡ None
        → path_unserved served (or_by path (far.restriction s o)) ≡ path_unserved served path
    by (Unserved other) path e = refl
    by Yes None e = e
    by Yes (Some path) e = absurd cc

-- the operation of a request, where it goes to one that the near end judges
pub admitted : (near far : MessageForm) → ReadsMessages near → (s : ServiceData) (test : Test) → Serves near s test → (asked : Asked)
    (head : Head) (o : ℕ) → near.goes_to s head o → or_by (near.restriction s o) (far.restriction s o) ≡ None
    → IsAdmitted near far s asked head
admitted near far is s test serves asked head o goes none p request other =
    subst (λ k. unserved (towards near far) s k ≡ unserved near s k) (is.one_operation s test head o p serves goes other)
    (served_alike near far s o none)

-- a request that is marked and goes to an operation which either end doesn't serve
pub judged_unserved : (near far : MessageForm) (s : ServiceData) (head : Head) (empty : Bool) (o : ℕ) (path : List ℕ)
    → near.is_marked head ≡ true → near.goes_to s head o → unserved (towards near far) s o ≡ Some path
    → IsJudged (towards near far) s a_request head empty (refused_at_head (not_served path))
judged_unserved near far s head empty o path m goes some =
    of_request (Some o) m refl goes
    (sym (ap (λ u. served_answer u (typed_answer (is_request_type near s o head empty) (to_goal (goal_of o the_input)))) some))

-- what the far end restricts, and the near end serves, isn't served
pub restricted : (near far : MessageForm) (s : ServiceData) (o : ℕ) (path : List ℕ) → unserved near s o ≡ None
    → or_by (near.restriction s o) (far.restriction s o) ≡ Some path → unserved (towards near far) s o ≡ Some path
restricted near far s o path none some = by (operation_at s o).served none
  where
    by : (served : Served) → path_unserved served (near.restriction s o) ≡ None
        → path_unserved served (or_by (near.restriction s o) (far.restriction s o)) ≡ Some path
    by Yes e = some
    by (Unserved other) e = absurd cc

-- and what the near end doesn't serve isn't, for the same reason
near_unserved : (near far : MessageForm) (s : ServiceData) (o : ℕ) (path : List ℕ) → unserved near s o ≡ Some path
    → unserved (towards near far) s o ≡ Some path
near_unserved near far s o path some = by (operation_at s o).served (near.restriction s o) some
  where
    by : (served : Served) (own : Option (List ℕ)) → path_unserved served own ≡ Some path
        → path_unserved served (or_by own (far.restriction s o)) ≡ Some path
    by (Unserved other) own e = e
    by Yes (Some own) e = e
    by Yes None e = absurd cc

-- a head that is refused for another reason than its media type is refused so on the way too
pub refused_towards : (near far : MessageForm) (s : ServiceData) (head : Head) (empty : Bool) (r : HeadRefusal)
    → (r ≡ wrong_media_type → ⊥) → IsJudged near s a_request head empty (refused_at_head r)
    → IsJudged (towards near far) s a_request head empty (refused_at_head r)
refused_towards near far s head empty r other (unmarked m e) = unmarked m e
refused_towards near far s head empty r other (of_request None m k x e) = of_request None m k x e
refused_towards near far s head empty r other (of_request (Some o) m k x e) =
    by (unserved near s o) (is_request_type near s o head empty) refl e
  where
    by : (u : Option (List ℕ)) (b : Bool) → unserved near s o ≡ u
        → refused_at_head r ≡ served_answer u (typed_answer b (to_goal (goal_of o the_input)))
        → IsJudged (towards near far) s a_request head empty (refused_at_head r)
    by None true none d = absurd cc
    by None false none d = let media : r ≡ wrong_media_type = cc in absurd (other media)
    by (Some path) b some d =
        let same : r ≡ not_served path = cc in
        subst (λ h. IsJudged (towards near far) s a_request head empty (refused_at_head h)) (sym same)
        (judged_unserved near far s head empty o path m x (near_unserved near far s o path some))
refused_towards near far s head empty r other (of_response o m k e) = absurd (request_or_response o (sym k))

-- a request whose media type is wrong goes to an operation that the near end serves
pub record GoesTo (near : MessageForm) (s : ServiceData) (head : Head) : Type 0 where
  pub operation : ℕ
  pub marked : near.is_marked head ≡ true
  pub goes : near.goes_to s head operation
  pub free : unserved near s operation ≡ None

pub media_goes : (near : MessageForm) (s : ServiceData) (head : Head) (empty : Bool)
    → IsJudged near s a_request head empty (refused_at_head wrong_media_type) → GoesTo near s head
media_goes near s head empty (unmarked m e) = absurd cc
media_goes near s head empty (of_request None m k x e) = absurd cc
media_goes near s head empty (of_request (Some o) m k x e) = by (unserved near s o) refl e
  where
    by : (u : Option (List ℕ)) → unserved near s o ≡ u
        → refused_at_head wrong_media_type
        ≡ served_answer u (typed_answer (is_request_type near s o head empty) (to_goal (goal_of o the_input)))
        → GoesTo near s head
    by None none d = record { operation = o; marked = m; goes = x; free = none }
    by (Some path) some d = absurd cc
media_goes near s head empty (of_response o m k e) = absurd (request_or_response o (sym k))

-- so does one that has an address
marked_address : (near : MessageForm) (s : ServiceData) (head : Head) (empty : Bool) (there : Address)
    → IsJudged near s a_request head empty (addressed there) → near.is_marked head ≡ true
marked_address near s head empty there (unmarked m e) = absurd cc
marked_address near s head empty there (of_request o m k x e) = m
marked_address near s head empty there (of_response o m k e) = m

pub head_goes : (near : MessageForm) → ReadsMessages near → (s : ServiceData) (head : Head) (empty : Bool) (o : ℕ)
    → IsHeadFor near s a_request head empty o → (x : GoesTo near s head) × (x.operation ≡ o)
head_goes near is s head empty o (there, judged, number) =
    let (head_of, (p, goes, free, same)) = judged_address near is s a_request head empty there judged in (
      record { operation = p; marked = marked_address near s head empty there judged; goes = goes; free = free },
      sym (ap operation_of same) ∙ number,
    )
