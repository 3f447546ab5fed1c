-- What a message of one protocol comes to on the side of another: the message that the far protocol writes for the value that it spells, or
-- why it is refused. An operation that either doesn't serve is refused at the head; behind all else stands what the far protocol can't
-- carry.
use Rattle.std.specs.Prelude.{◌≡◌, ◌↔◌, ℕ, true, false, List, [], ◌∷◌, Option, None, Some}
use Rattle.sm_tree.specs.declared.path.Step.{Step}
use Rattle.sm_shapes.specs.Fitting.{Test}
use Rattle.sm_shapes.specs.Values.{Val}
use Rattle.sm_shapes.specs.declared.fault.FaultKind.TheVariants.{NotCarried}
use Rattle.sm_http.specs.declared.message.Head.{Head}
use Rattle.sm_http.specs.declared.message.Message.{Message}
use Rattle.sm_service.specs.ServiceData.{ServiceData}
use Rattle.sm_messages.specs.Goals.{Asked, Goal, a_request, a_response, is_input}
use Rattle.sm_messages.specs.IsForm.{Serves, ServesGoal, ServesOperation}
use Rattle.sm_messages.specs.Laws.{MayAsk}
use Rattle.sm_messages.specs.MessageAnswers.{MessageAnswers, Refusal, by_fault, the_refusal, the_value}
use Rattle.sm_messages.specs.MessageForm.{MessageForm}
use Rattle.sm_messages.specs.Messages.{ShortMsg}

-- a form towards another: an operation that the other doesn't serve isn't served, where it would be by the first
abbrev pub or_by : Option (List ℕ) → Option (List ℕ) → Option (List ℕ)
or_by (Some path) far = Some path
or_by None far = far

abbrev pub towards : MessageForm → MessageForm → MessageForm
towards near far = record near {
  serves = λ s. near.serves s × far.serves s;
  restriction = λ s o. or_by (near.restriction s o) (far.restriction s o);
}

pub data Crossing : Type 0 where
  crosses : Goal → Message → Crossing
  stays : Refusal → Crossing

-- of a message to a near end, for a far end, to which a request names this host
pub data CrossesAs (near far : MessageForm) (s : ServiceData) (test : Test) (asked : Asked) (host : List ℕ) (head : Head) (body : List ℕ)
    (a : Crossing) : Type 0 where
  refused : (r : Refusal) → MessageAnswers (towards near far) s test asked head body (the_refusal r) → a ≡ stays r
      → CrossesAs near far s test asked host head body a
  not_carried : (g : Goal) → (v : Val) → (path : List Step) → (more : List (List Step))
      → MessageAnswers (towards near far) s test asked head body (the_value g v) → far.uncarried s g v ≡ path ∷ more
      → a ≡ stays (by_fault path NotCarried) → CrossesAs near far s test asked host head body a
  written : (g : Goal) → (v : Val) → MessageAnswers (towards near far) s test asked head body (the_value g v) → far.uncarried s g v ≡ []
      → a ≡ crosses g (far.written s g host v) → CrossesAs near far s test asked host head body a

-- the goal is one of what is asked about: of the operation to which a request goes, or of the one that a response answers
abbrev pub IsAsked : MessageForm → ServiceData → Asked → Head → Goal → Type 0
IsAsked f s a_request head g = f.goes_to s head g.operation × (is_input g.role ≡ true)
IsAsked f s (a_response o) head g = (g.operation ≡ o) × (is_input g.role ≡ false)

-- a message crosses exactly where its operation is served at both ends, it spells a value, its body nests at most 100 levels where it is
-- read as the text of a tree, and the far end carries the value
abbrev pub CrossesOrRefused : MessageForm → MessageForm → Type 0
CrossesOrRefused near far =
    (s : ServiceData) (test : Test) (asked : Asked) (host : List ℕ) (m : Message) (g : Goal) → Serves (towards near far) s test
    → MayAsk (towards near far) s asked
    → ((far_message : Message) × CrossesAs near far s test asked host m.head m.body (crosses g far_message))
    ↔ (ServesOperation (towards near far) s g.operation × IsAsked near s asked m.head g
    × ((v : Val) × ShortMsg near s test g v m × (far.uncarried s g v ≡ [])))
