-- Forms whose bodies are one tree of the whole value, by a convention, and that serve what their models serve.
use Rattle.std.specs.Prelude.{◌≡◌, ℕ, Bool, false, List, Option, None, Some}
use Rattle.sm_shapes.specs.Fitting.{Test}
use Rattle.sm_shapes.specs.Values.{Val}
use Rattle.sm_codec.specs.Convention.{Convention}
use Rattle.sm_http.specs.declared.message.Head.{Head}
use Rattle.sm_service.specs.ServiceData.{ServiceData}
use Rattle.sm_messages.specs.Goals.{Goal}
use Rattle.sm_messages.specs.MessageForm.{Content, MessageForm}
use Rattle.sm_messages.specs.TreeBodies.{tree_faults, tree_spells, tree_use}

-- with this content type
pub record IsTreeForm (f : MessageForm) (l : Convention) (content_type : List ℕ) : Type 0 where
  pub free : (s : ServiceData) (o : ℕ) → f.restriction s o ≡ None
  pub typed : (s : ServiceData) (o : ℕ) → f.content_type s o ≡ Some content_type
  pub body : (s : ServiceData) (g : Goal) (empty : Bool) → f.body_use s g empty ≡ tree_use s g empty
  pub naming : f.empty_is_object ≡ false
  pub spells : (s : ServiceData) (test : Test) (g : Goal) (head : Head) (c : Content) (v : Val) → tree_spells l s test g c v
      → f.spells s test g head c v
  pub faults : (s : ServiceData) (test : Test) (g : Goal) (head : Head) (c : Content) → f.faults s test g head c ≡ tree_faults l s test g c
