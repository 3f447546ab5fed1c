-- How messages of restJson1 are read.
use Rattle.std.proofs.Common.{◌≡◌, ℕ, true, refl, sym, ◌∙◌}
use Rattle.std.specs.Prelude.{None, Ok, Option, Some}
use Rattle.sm_tree.proofs.OneAnswer.{one_answer}
use Rattle.sm_tree.proofs.SomeAnswer.{some_answer}
use Rattle.sm_json.specs.JsonText.{json_syntax}
use Rattle.sm_json.proofs.OneTree.{one_tree}
use Rattle.sm_json.proofs.WrittenTrees.{null_begins}
use Rattle.sm_shapes.specs.Fitting.{Test}
use Rattle.sm_shapes.specs.Places.{root_place}
use Rattle.sm_shapes.specs.Values.{Val}
use Rattle.sm_codec.specs.CodecLaws.{IsCodec}
use Rattle.sm_codec.specs.FaultLists.{Reading}
use Rattle.sm_codec.proofs.JsonLaws.{json_laws}
use Rattle.sm_codec.proofs.NoFaults.{same_reading}
use Rattle.sm_http.specs.declared.message.Head.{Head}
use Rattle.sm_bind_read.specs.service.ServiceData.{ServiceData}
use Rattle.sm_bind_read.specs.messages.Goals.{Goal, goal_shape}
use Rattle.sm_bind_read.specs.messages.HeadAnswers.{IsNamed}
use Rattle.sm_bind_read.specs.messages.IsForm.{ReadsMessages, Serves, ServesGoal}
use Rattle.sm_bind_read.specs.messages.MessageForm.{Content}
use Rattle.sm_bind_read.proofs.messages.TreeBodies.{goal_structure}
use Rattle.sm_bind_read.specs.BoundGoals.{bound_at}
use Rattle.sm_bind_read.specs.PartFaults.{bound_codec}
use Rattle.sm_rest_heads.specs.RestParts.{head_parts}
use Rattle.sm_rest_heads.specs.RestRoutes.{IsAskedFor}
use Rattle.sm_rest_heads.proofs.RoutesAsked.{asked_for, for_within, one_asked}
use Rattle.sm_rest.specs.RestForm.{rest_form, rest_reading}
use Rattle.sm_rest.proofs.BoundFit.{parts_fit}
use Rattle.sm_rest.proofs.GoalsServed.{goal_targets}
use Rattle.sm_rest.proofs.ReadingsFit.{ReadingFits, clean_fits, value_fits}

-- the operation to which a head goes, or none
pub named_as_asked : (s : ServiceData) (head : Head) (o : Option ℕ) → IsAskedFor s head o → IsNamed rest_form s head o
named_as_asked s head None h = h
named_as_asked s head (Some o) h = h

-- what a message to a goal comes to is a value of the goal, where it has no fault
pub goal_fits : (s : ServiceData) (test : Test) (g : Goal) (head : Head) (content : Content) → Serves rest_form s test
    → ServesGoal rest_form s g
    → ReadingFits (bound_codec (bound_at s g) test) (root_place (goal_shape s g)) (rest_reading s test g head content)
goal_fits s test g head content serves served =
    let at = goal_structure s g serves.servable served.goal in
    let laws : IsCodec (bound_codec (bound_at s g) test) =
    record { convention = json_laws true; table = serves.servable.shaped; defaults = serves.defaults } in
    parts_fit (bound_at s g) test (head_parts s g head) content laws at.0 at.1 (goal_targets s g serves.asks.http served)

one_value_read : (r : Reading) (v w : Val) → r ≡ Ok v → r ≡ Ok w → v ≡ w
one_value_read r v w x y = same_reading v w (sym x ∙ y)

pub rest_reads : ReadsMessages rest_form
rest_reads = record {
  one_operation = λ s test head o p serves x y. one_asked s head o p serves.servable x y;
  asked_for = asked_for;
  within = for_within;
  one_reading = one_tree;
  one_answer = one_answer json_syntax one_tree;
  some_answer = some_answer json_syntax null_begins;
  empty_tells_none = refl;
  no_fault = λ s test g head c serves served.
      clean_fits (bound_codec (bound_at s g) test) (root_place (goal_shape s g)) (rest_reading s test g head c)
      (goal_fits s test g head c serves served);
  one_value = λ s test g head c v w serves served x y. one_value_read (rest_reading s test g head c) v w x y;
  spelled_fits = λ s test g head c v serves served x.
      value_fits (bound_codec (bound_at s g) test) (root_place (goal_shape s g)) (rest_reading s test g head c) v
      (goal_fits s test g head c serves served) x;
}
