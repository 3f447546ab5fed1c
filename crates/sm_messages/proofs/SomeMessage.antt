-- No message is without an answer.
use Rattle.std.proofs.Common.{◌≡◌, ℕ, Bool, true, false, cond, List, [], ◌∷◌, Option, None, Some, refl, sym, ap, ◌∙◌, subst}
use Rattle.std.specs.Prelude.{◌&&◌, Result, Ok, Err}
use Rattle.sm_tree.specs.Node.{Node, object, no_members}
use Rattle.sm_tree.specs.Syntax.{ComesTo, IsRead, IsRefused, Syntax}
use Rattle.sm_tree.specs.SyntaxLaws.{HasSomeAnswer}
use Rattle.sm_tree.specs.declared.refusal.SyntaxRefusal.{SyntaxRefusal}
use Rattle.sm_shapes.specs.Fitting.{Test}
use Rattle.sm_codec.specs.FaultLists.{FaultAt}
use Rattle.sm_http.specs.declared.message.Head.{Head}
use Rattle.sm_service.specs.ServiceData.{ServiceData}
use Rattle.sm_messages.specs.Goals.{Asked, Goal, goal_of, the_error}
use Rattle.sm_messages.specs.HeadAnswers.{Address, HeadAnswer, IsJudged, addressed, refused_at_head, to_goal, to_named_error, unknown_error}
use Rattle.sm_messages.specs.Heads.{is_empty}
use Rattle.sm_messages.specs.IsForm.{ReadsMessages, Serves}
use Rattle.sm_messages.specs.Laws.{MayAsk, SomeAnswer}
use Rattle.sm_messages.specs.MessageAnswers.{MessageAnswer, MessageAnswers, Reaches, at_head, by_fault, by_head, by_syntax, fault, no_name}
use Rattle.sm_messages.specs.MessageAnswers.{no_text, the_refusal, the_value, value}
use Rattle.sm_messages.specs.MessageForm.{BodyUse, Content, HasContent, MessageForm, a_tree, as_bytes, as_empty_object, as_text, naming}
use Rattle.sm_messages.specs.MessageForm.{nothing, raw_bytes, unread}
use Rattle.sm_messages.specs.Messages.{LeadsTo, error_of_tree, place_told}
use Rattle.sm_messages.proofs.HeadsJudged.{goal_served, judged_address, some_judged}

-- bytes that are used in some way have a content, or are refused as a text
some_content : (S : Syntax) → HasSomeAnswer S → (u : BodyUse) (body : List ℕ)
    → ((c : Content) → HasContent (IsRead S.text) u body c → ⊥) → (u ≡ as_text → (r : SyntaxRefusal) → IsRefused S body r → ⊥) → ⊥
some_content S some as_text body none never = some body each
  where
    each : (a : Result Node SyntaxRefusal) → ComesTo S body a → ⊥
    each (Ok n) h = none (a_tree n) h
    each (Err r) h = never refl r h
some_content S some as_empty_object body none never = none (a_tree (object no_members)) refl
some_content S some as_bytes body none never = none (raw_bytes body) refl
some_content S some unread body none never = none nothing refl

module _ (f : MessageForm) (is : ReadsMessages f) (s : ServiceData) (test : Test) (asked : Asked) (head : Head) (body : List ℕ)
    (serves : Serves f s test) (may : MayAsk f s asked) (none : (a : MessageAnswer) → MessageAnswers f s test asked head body a → ⊥) where
  at_goal : (g : Goal) → (there : Reaches f s asked head body g) → ⊥
  at_goal g there = by (f.faults s test g head there.content) refl
    where
      by : (fs : List FaultAt) → f.faults s test g head there.content ≡ fs → ⊥
      by [] e =
          let at = (judged_address f is s asked head (is_empty body) there.there there.judged).1 in
          let served = goal_served f is (IsRead f.syntax.text) s asked head body there.there g may at there.goal in
          let found = (is.no_fault s test g head there.content serves served).0 e in
          none (the_value g found.0) (value g found.0 there found.1 refl)
      by (k ∷ ks) e = none (the_refusal (by_fault k.0 k.1)) (fault g k.0 k.1 ks there e refl)

  led : (there : Address) (g : Goal) → IsJudged f s asked head (is_empty body) (addressed there)
      → LeadsTo (IsRead f.syntax.text) f s body there g
      → (f.body_use s g (is_empty body) ≡ as_text → (r : SyntaxRefusal) → IsRefused f.syntax body r → ⊥) → ⊥
  led there g judged goal never =
      some_content f.syntax is.some_answer (f.body_use s g (is_empty body)) body
      (λ c has. at_goal g (record { there = there; judged = judged; goal = goal; content = c; has = has })) never

  -- a body that is to tell an error, and is read as text
  refused : (o : ℕ) → IsJudged f s asked head (is_empty body) (addressed (to_named_error o)) → naming f (is_empty body) ≡ as_text
      → (r : SyntaxRefusal) → IsRefused f.syntax body r → ⊥
  refused o judged used r h = none (the_refusal (by_syntax r)) (no_text (to_named_error o) r judged used h refl)

  named : (o : ℕ) (n : Node) → IsJudged f s asked head (is_empty body) (addressed (to_named_error o))
      → naming f (is_empty body) ≡ as_text → HasContent (IsRead f.syntax.text) (naming f (is_empty body)) body (a_tree n)
      → (e : Option ℕ) → error_of_tree f s o n ≡ e → ⊥
  named o n judged used has None e = none (the_refusal (by_head unknown_error)) (no_name o n judged has e refl)
  named o n judged used has (Some place) e =
      led (to_named_error o) (goal_of o (the_error place)) judged (place, record { tree = n; has = has; names = e }, refl)
      (λ same r h. refused o judged used r h)

  with_tree : (o : ℕ) → IsJudged f s asked head (is_empty body) (addressed (to_named_error o)) → naming f (is_empty body) ≡ as_text
      → (c : Content) → HasContent (IsRead f.syntax.text) as_text body c → ⊥
  with_tree o judged used (a_tree n) h =
      named o n judged used (subst (λ u. HasContent (IsRead f.syntax.text) u body (a_tree n)) (sym used) h) (error_of_tree f s o n) refl
  with_tree o judged used (raw_bytes b) h = h
  with_tree o judged used nothing h = h

  by_named : (o : ℕ) → IsJudged f s asked head (is_empty body) (addressed (to_named_error o)) → (b : Bool)
      → (f.empty_is_object && is_empty body) ≡ b → ⊥
  by_named o judged true e =
      let used : naming f (is_empty body) ≡ as_empty_object = ap (λ x. cond x as_empty_object as_text) e in
      none (the_refusal (by_head unknown_error)) (no_name o (object no_members) judged
      (subst (λ u. HasContent (IsRead f.syntax.text) u body (a_tree (object no_members))) (sym used) refl)
      (ap (place_told s o) is.empty_tells_none) refl)
  by_named o judged false e =
      let used : naming f (is_empty body) ≡ as_text = ap (λ x. cond x as_empty_object as_text) e in
      some_content f.syntax is.some_answer as_text body (with_tree o judged used) (λ same r h. refused o judged used r h)

  by_address : (there : Address) → IsJudged f s asked head (is_empty body) (addressed there) → ⊥
  by_address (to_goal g) judged =
      led (to_goal g) g judged refl
      (λ used r h. none (the_refusal (by_syntax r)) (no_text (to_goal g) r judged used h refl))
  by_address (to_named_error o) judged = by_named o judged (f.empty_is_object && is_empty body) refl

  by_head_answer : (j : HeadAnswer) → IsJudged f s asked head (is_empty body) j → ⊥
  by_head_answer (refused_at_head r) judged = none (the_refusal (by_head r)) (at_head r judged refl)
  by_head_answer (addressed there) judged = by_address there judged

pub some_message : (f : MessageForm) → ReadsMessages f → SomeAnswer f
some_message f is s test asked head body serves may none =
    some_judged f s asked head (is_empty body) (by_head_answer f is s test asked head body serves may none)
