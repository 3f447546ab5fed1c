-- What the head of a request comes to, by the parts of it that are judged.
use Rattle.std.proofs.Common.{◌≡◌, ℕ, Bool, true, false, List, None, Some, sym, ap, ◌∙◌}
use Rattle.std.specs.Prelude.{Option}
use Rattle.sm_compile.specs.declared.compiled.Served.{Served}
use Rattle.sm_http.specs.declared.message.Head.{Head}
use Rattle.sm_rest.specs.service.ServiceData.{OperationData, ServiceData}
use Rattle.sm_rest.specs.messages.Goals.{goal_of, operation_at, the_input}
use Rattle.sm_rest.specs.messages.HeadAnswers.{HeadAnswer, addressed, is_request_type, not_served, path_unserved, refused_at_head, request_answer}
use Rattle.sm_rest.specs.messages.HeadAnswers.{served_answer, to_goal, typed_answer, unserved, wrong_media_type}
use Rattle.sm_rest.specs.RestForm.{rest_form}

-- why an operation isn't served
pub unserved_by : (s : ServiceData) (o : ℕ) (d : OperationData) (served : Served) → d ≡ operation_at s o → d.served ≡ served
    → path_unserved served (rest_form.restriction s o) ≡ unserved rest_form s o
unserved_by s o d served at is =
    ap (λ x. path_unserved x (rest_form.restriction s o)) (sym is ∙ ap (λ x. x.served) at)

-- what a request comes to, by that and by the type of its body
module _ (s : ServiceData) (head : Head) (empty : Bool) (o : ℕ) where
  abbrev answered : Option (List ℕ) → Bool → HeadAnswer
  answered path right = served_answer path (typed_answer right (to_goal (goal_of o the_input)))

  pub unserved_answer : (path : List ℕ) → Some path ≡ unserved rest_form s o
      → request_answer rest_form s head empty (Some o) ≡ refused_at_head (not_served path)
  unserved_answer path is = ap (λ u. answered u (is_request_type rest_form s o head empty)) (sym is)

  pub right_answer : None ≡ unserved rest_form s o → is_request_type rest_form s o head empty ≡ true
      → request_answer rest_form s head empty (Some o) ≡ addressed (to_goal (goal_of o the_input))
  right_answer is right =
      ap (λ u. answered u (is_request_type rest_form s o head empty)) (sym is) ∙ ap (answered None) right

  pub wrong_answer : None ≡ unserved rest_form s o → is_request_type rest_form s o head empty ≡ false
      → request_answer rest_form s head empty (Some o) ≡ refused_at_head wrong_media_type
  wrong_answer is wrong =
      ap (λ u. answered u (is_request_type rest_form s o head empty)) (sym is) ∙ ap (answered None) wrong
