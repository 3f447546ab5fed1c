-- A head has one answer and some; and where it has an address, it is the head of a message with that address.
use Rattle.std.proofs.Common.{◌≡◌, ℕ, ◌<◌, Bool, true, false, cond, List, Option, None, Some, length, map, refl, sym, ap, ◌∙◌, subst}
use Rattle.std.proofs.lemmas.Option.{slice_get_within}
use Rattle.std.proofs.lemmas.List.{length-map}
use Rattle.sm_ids.proofs.Cutting.{clash}
use Rattle.sm_tree.specs.Syntax.{TreeFormat}
use Rattle.sm_shapes.specs.Fitting.{Test}
use Rattle.sm_http.specs.declared.message.Head.{Head}
use Rattle.sm_service.specs.ErrorOrder.{place_named}
use Rattle.sm_service.specs.ServiceData.{ServiceData, name_of_error}
use Rattle.sm_service.specs.declared.error.ErrorShape.{ErrorShape}
use Rattle.sm_service.proofs.ErrorsNamed.{some_named}
use Rattle.sm_messages.specs.Goals.{Asked, Goal, HasRole, a_request, a_response, goal_of, is_input, operation_at, the_error, the_input}
use Rattle.sm_messages.specs.Goals.{the_output}
use Rattle.sm_messages.specs.HeadAnswers.{Address, HeadAnswer, IsJudged, IsNamed, addressed, error_answer, is_request_type, known_error}
use Rattle.sm_messages.specs.HeadAnswers.{of_request, of_response, refused_at_head, request_answer, response_answer, served_answer, to_goal}
use Rattle.sm_messages.specs.HeadAnswers.{to_named_error, typed_answer, unmarked, unserved, wrong_media_type, wrong_protocol}
use Rattle.sm_messages.specs.Heads.{is_plain, is_success}
use Rattle.sm_messages.specs.IsForm.{ReadsMessages, Serves, ServesGoal, ServesOperation}
use Rattle.sm_messages.specs.Laws.{MayAsk}
use Rattle.sm_messages.specs.MessageForm.{MessageForm}
use Rattle.sm_messages.specs.Messages.{IsHeadOf, LeadsTo, NamesError, error_of_tree, place_told, request_head, response_head}
use Rattle.sm_messages.specs.Names.{error_name, error_told}

pub one_named : (f : MessageForm) → ReadsMessages f → (s : ServiceData) (test : Test) → Serves f s test → (head : Head) (o p : Option ℕ)
    → IsNamed f s head o → IsNamed f s head p → o ≡ p
one_named f is s test serves head None None x y = refl
one_named f is s test serves head None (Some p) x y = absurd (x p y)
one_named f is s test serves head (Some o) None x y = absurd (y o x)
one_named f is s test serves head (Some o) (Some p) x y = ap Some (is.one_operation s test head o p serves x y)

request_or_response : (o : ℕ) → a_request ≡ a_response o → ⊥
request_or_response o e = cc

same_asked : (o p : ℕ) → a_response o ≡ a_response p → o ≡ p
same_asked o p e = cc

pub one_judged : (f : MessageForm) → ReadsMessages f → (s : ServiceData) (test : Test) → Serves f s test → (asked : Asked) (head : Head)
    (empty : Bool) (a b : HeadAnswer) → IsJudged f s asked head empty a → IsJudged f s asked head empty b → a ≡ b
one_judged f is s test serves asked head empty a b (unmarked m e) (unmarked n d) = e ∙ sym d
one_judged f is s test serves asked head empty a b (unmarked m e) (of_request p n q y d) = absurd (clash (f.is_marked head) n m)
one_judged f is s test serves asked head empty a b (unmarked m e) (of_response p n q d) = absurd (clash (f.is_marked head) n m)
one_judged f is s test serves asked head empty a b (of_request o m r x e) (unmarked n d) = absurd (clash (f.is_marked head) m n)
one_judged f is s test serves asked head empty a b (of_request o m r x e) (of_request p n q y d) =
    e ∙ ap (request_answer f s head empty) (one_named f is s test serves head o p x y) ∙ sym d
one_judged f is s test serves asked head empty a b (of_request o m r x e) (of_response p n q d) =
    absurd (request_or_response p (sym r ∙ q))
one_judged f is s test serves asked head empty a b (of_response o m r e) (unmarked n d) = absurd (clash (f.is_marked head) m n)
one_judged f is s test serves asked head empty a b (of_response o m r e) (of_request p n q y d) =
    absurd (request_or_response o (sym q ∙ r))
one_judged f is s test serves asked head empty a b (of_response o m r e) (of_response p n q d) =
    e ∙ ap (response_answer f s head) (same_asked o p (sym r ∙ q)) ∙ sym d

-- it can't be that each answer is denied
pub some_judged : (f : MessageForm) (s : ServiceData) (asked : Asked) (head : Head) (empty : Bool)
    → ((a : HeadAnswer) → IsJudged f s asked head empty a → ⊥) → ⊥
some_judged f s asked head empty none = by (f.is_marked head) refl asked refl
  where
    by : (b : Bool) → f.is_marked head ≡ b → (k : Asked) → asked ≡ k → ⊥
    by false m k r = none (refused_at_head wrong_protocol) (unmarked m refl)
    by true m a_request r =
        none (request_answer f s head empty None)
        (of_request None m r (λ o h. none (request_answer f s head empty (Some o)) (of_request (Some o) m r h refl)) refl)
    by true m (a_response o) r = none (response_answer f s head o) (of_response o m r refl)

pub same_address : (a b : Address) → addressed a ≡ addressed b → a ≡ b
same_address a b e = cc

-- a request with an address is one for an operation that is served
pub served_request : (f : MessageForm) (s : ServiceData) (head : Head) (empty : Bool) (o : ℕ) (there : Address)
    → request_answer f s head empty (Some o) ≡ addressed there
    → (unserved f s o ≡ None) × (is_request_type f s o head empty ≡ true) × (there ≡ to_goal (goal_of o the_input))
served_request f s head empty o there e = by (unserved f s o) (is_request_type f s o head empty) refl refl e
  where
    by : (u : Option (List ℕ)) (b : Bool) → unserved f s o ≡ u → is_request_type f s o head empty ≡ b
        → served_answer u (typed_answer b (to_goal (goal_of o the_input))) ≡ addressed there
        → (unserved f s o ≡ None) × (is_request_type f s o head empty ≡ true) × (there ≡ to_goal (goal_of o the_input))
    by None true free right h = (free, right, sym (same_address (to_goal (goal_of o the_input)) there h))
    by None false free right h = absurd cc
    by (Some path) b free right h = absurd cc

-- and back
pub request_addressed : (f : MessageForm) (s : ServiceData) (head : Head) (empty : Bool) (o : ℕ) → unserved f s o ≡ None
    → is_request_type f s o head empty ≡ true → request_answer f s head empty (Some o) ≡ addressed (to_goal (goal_of o the_input))
request_addressed f s head empty o free right =
    ap (λ u. served_answer u (typed_answer (is_request_type f s o head empty) (to_goal (goal_of o the_input)))) free
    ∙ ap (λ b. typed_answer b (to_goal (goal_of o the_input))) right

-- what is asked, by the address of a head
abbrev pub AskedAt : MessageForm → ServiceData → Asked → Head → Address → Type 0
AskedAt f s a_request head there = (o : ℕ) × f.goes_to s head o × (unserved f s o ≡ None) × (there ≡ to_goal (goal_of o the_input))
AskedAt f s (a_response o) head there = response_answer f s head o ≡ addressed there

abbrev IsRefusal : HeadAnswer → Type 0
IsRefusal (refused_at_head r) = Unit {0}
IsRefusal (addressed there) = ⊥

address_or_refusal : (a : HeadAnswer) (there : Address) → a ≡ addressed there → IsRefusal a → ⊥
address_or_refusal (refused_at_head r) there e h = cc
address_or_refusal (addressed a) there e h = h

pub judged_address : (f : MessageForm) → ReadsMessages f → (s : ServiceData) (asked : Asked) (head : Head) (empty : Bool) (there : Address)
    → IsJudged f s asked head empty (addressed there) → IsHeadOf f s head empty there × AskedAt f s asked head there
judged_address f is s asked head empty there (unmarked m e) = absurd (address_or_refusal (refused_at_head wrong_protocol) there (sym e) tt)
judged_address f is s asked head empty there (of_request None m r x e) =
    absurd (address_or_refusal (request_answer f s head empty None) there (sym e) tt)
judged_address f is s asked head empty there (of_request (Some o) m r x e) =
    let (free, right, same) = served_request f s head empty o there (sym e) in (
      request_head o m (is.asked_for s head o x) right same,
      subst (λ k. AskedAt f s k head there) (sym r) (o, x, free, same),
    )
judged_address f is s asked head empty there (of_response o m r e) =
    (response_head o m (sym e), subst (λ k. AskedAt f s k head there) (sym r) (sym e))

-- the error of a name is one of the errors
pub place_within : (es : List ErrorShape) (w : List ℕ) (k : ℕ) → place_named es w ≡ Some k → k < length es
place_within es w k e =
    subst (λ n. k < n) (length-map es name_of_error) (slice_get_within (map name_of_error es) k w (some_named es w k e))

pub told_within : (s : ServiceData) (o : ℕ) (told : Option (List ℕ)) (e : ℕ) → place_told s o told ≡ Some e
    → HasRole (operation_at s o) (the_error e)
told_within s o None e h = absurd cc
told_within s o (Some told) e h = place_within (operation_at s o).errors (error_name told) e h

-- the addresses of responses to an operation
abbrev pub AddressOf : ServiceData → ℕ → Address → Type 0
AddressOf s o (to_goal g) = (g.operation ≡ o) × (is_input g.role ≡ false) × HasRole (operation_at s o) g.role
AddressOf s o (to_named_error p) = p ≡ o

known_of : (s : ServiceData) (o : ℕ) (place : Option ℕ) (told : List ℕ) → error_told s o told ≡ place → (there : Address)
    → known_error o place ≡ addressed there → AddressOf s o there
known_of s o None told is there e = absurd (address_or_refusal (known_error o None) there e tt)
known_of s o (Some place) told is there e =
    subst (λ t. AddressOf s o t) (same_address (to_goal (goal_of o (the_error place))) there e)
    (refl, refl, place_within (operation_at s o).errors (error_name told) place is)

error_of : (s : ServiceData) (o : ℕ) (told : Option (List ℕ)) (there : Address) → error_answer s o told ≡ addressed there
    → AddressOf s o there
error_of s o None there e = subst (λ t. AddressOf s o t) (same_address (to_named_error o) there e) refl
error_of s o (Some told) there e = known_of s o (error_told s o told) told refl there e

pub response_of : (f : MessageForm) (s : ServiceData) (head : Head) (o : ℕ) (there : Address)
    → response_answer f s head o ≡ addressed there → AddressOf s o there
response_of f s head o there e = by (is_plain head) (is_success head.start) e
  where
    by : (plain success : Bool)
        → cond plain (cond success (addressed (to_goal (goal_of o the_output))) (error_answer s o (f.head_error head)))
        (refused_at_head wrong_media_type)
        ≡ addressed there
        → AddressOf s o there
    by true true h = subst (λ t. AddressOf s o t) (same_address (to_goal (goal_of o the_output)) there h) (refl, refl, tt)
    by true false h = error_of s o (f.head_error head) there h
    by false success h = absurd (address_or_refusal (refused_at_head wrong_media_type) there h tt)

-- and their goals
pub goal_of_response : (F : TreeFormat) (f : MessageForm) (s : ServiceData) (body : List ℕ) (o : ℕ) (there : Address) (g : Goal)
    → AddressOf s o there → LeadsTo F f s body there g
    → (g.operation ≡ o) × (is_input g.role ≡ false) × HasRole (operation_at s o) g.role
goal_of_response F f s body o (to_goal k) g at led =
    subst (λ h. (h.operation ≡ o) × (is_input h.role ≡ false) × HasRole (operation_at s o) h.role) led at
goal_of_response F f s body o (to_named_error p) g at led =
    let names = led.1 in
    subst (λ h. (h.operation ≡ o) × (is_input h.role ≡ false) × HasRole (operation_at s o) h.role) (sym led.2) (
      at,
      refl,
      subst (λ q. HasRole (operation_at s q) (the_error led.0)) at (told_within s p (f.body_error names.tree) led.0 names.names),
    )

input_served : (f : MessageForm) (s : ServiceData) (o : ℕ) → ServesOperation f s o → ServesGoal f s (goal_of o the_input)
input_served f s o serves = record { operation = serves; goal = (serves.within, tt) }

-- the goal of a message with an address is one that is served
pub goal_served : (f : MessageForm) → ReadsMessages f → (F : TreeFormat) (s : ServiceData) (asked : Asked) (head : Head) (body : List ℕ)
    (there : Address) (g : Goal) → MayAsk f s asked → AskedAt f s asked head there → LeadsTo F f s body there g → ServesGoal f s g
goal_served f is F s a_request head body there g may (o, goes, free, same) led =
    let to_input : LeadsTo F f s body (to_goal (goal_of o the_input)) g = subst (λ t. LeadsTo F f s body t g) same led in
    subst (λ h. ServesGoal f s h) to_input
    (input_served f s o (record { within = is.within s head o (is.asked_for s head o goes); served = free }))
goal_served f is F s (a_response o) head body there g may at led =
    let (same, side, role) = goal_of_response F f s body o there g (response_of f s head o there at) led in
    let serves : ServesOperation f s g.operation = subst (λ p. ServesOperation f s p) (sym same) may in
    record {
      operation = serves;
      goal = (serves.within, subst (λ p. HasRole (operation_at s p) g.role) (sym same) role);
    }
