-- What a message of restJson1 comes to whose head has an address. The decisions stand in their order.
use Rattle.std.specs.Prelude.{◌≡◌, ℕ, List, ◌∷◌, Ok, Err}
use Rattle.sm_tree.specs.Syntax.{IsRead, IsRefused}
use Rattle.sm_tree.specs.declared.path.Step.{Step}
use Rattle.sm_tree.specs.declared.refusal.SyntaxRefusal.{SyntaxRefusal}
use Rattle.sm_json.specs.JsonText.{JsonText, json_syntax}
use Rattle.sm_shapes.specs.Fitting.{Test}
use Rattle.sm_shapes.specs.Values.{Val}
use Rattle.sm_shapes.specs.declared.fault.FaultKind.{FaultKind}
use Rattle.sm_codec.specs.FaultLists.{FaultAt}
use Rattle.sm_http.specs.declared.message.Head.{Head}
use Rattle.sm_rest.specs.service.ServiceData.{ServiceData}
use Rattle.sm_rest.specs.messages.Goals.{Goal}
use Rattle.sm_rest.specs.messages.HeadAnswers.{Address, to_named_error, unknown_error}
use Rattle.sm_rest.specs.messages.Heads.{is_empty}
use Rattle.sm_rest.specs.messages.MessageAnswers.{MessageAnswer, by_fault, by_head, by_syntax, the_refusal, the_value, use_of}
use Rattle.sm_rest.specs.messages.MessageForm.{Content, HasContent, as_text}
use Rattle.sm_rest.specs.messages.Messages.{LeadsTo}
use Rattle.sm_rest.specs.bind_read.BoundGoals.{bound_at}
use Rattle.sm_rest.specs.rest_heads.BodyParts.{rest_use}
use Rattle.sm_rest.specs.RestForm.{rest_form, rest_reading}
use Rattle.sm_rest_read.specs.steps.Contents.{TellsNone}

pub data RestAnswers (s : ServiceData) (test : Test) (there : Address) (head : Head) (bytes : List ℕ) (a : MessageAnswer) : Type 0 where
  not_read : (r : SyntaxRefusal) → use_of rest_form s bytes there ≡ as_text → IsRefused json_syntax bytes r → a ≡ the_refusal (by_syntax r)
      → RestAnswers s test there head bytes a
  none_named : (o : ℕ) → there ≡ to_named_error o → TellsNone s o bytes → a ≡ the_refusal (by_head unknown_error)
      → RestAnswers s test there head bytes a
  first_fault : (g : Goal) → (content : Content) → (path : List Step) → (kind : FaultKind) → (later : List FaultAt)
      → LeadsTo (IsRead JsonText) rest_form s bytes there g
      → HasContent (IsRead JsonText) (rest_use (bound_at s g) (is_empty bytes)) bytes content
      → rest_reading s test g head content ≡ Err ((path, kind) ∷ later) → a ≡ the_refusal (by_fault path kind)
      → RestAnswers s test there head bytes a
  spelled : (g : Goal) → (content : Content) → (v : Val) → LeadsTo (IsRead JsonText) rest_form s bytes there g
      → HasContent (IsRead JsonText) (rest_use (bound_at s g) (is_empty bytes)) bytes content
      → rest_reading s test g head content ≡ Ok v → a ≡ the_value g v → RestAnswers s test there head bytes a
