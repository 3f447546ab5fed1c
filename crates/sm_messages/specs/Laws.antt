-- What holds of the messages of each protocol that is a form. A law over all forms is no contract of a call: each protocol's crate says it
-- of its own.
use Rattle.std.specs.Prelude.{◌≡◌, ◌<◌, ◌^◌, ℕ, List, [], length}
use Rattle.sm_shapes.specs.Fitting.{Fits, Test}
use Rattle.sm_shapes.specs.Places.{root_place}
use Rattle.sm_shapes.specs.Values.{Val}
use Rattle.sm_http.specs.declared.message.Head.{Head}
use Rattle.sm_http.specs.declared.message.Message.{Message}
use Rattle.sm_service.specs.ServiceData.{ServiceData}
use Rattle.sm_messages.specs.Goals.{AreOfOne, Asked, Goal, a_request, a_response, goal_shape}
use Rattle.sm_messages.specs.IsForm.{Serves, ServesGoal, ServesOperation}
use Rattle.sm_messages.specs.MessageAnswers.{MessageAnswer, MessageAnswers}
use Rattle.sm_messages.specs.MessageForm.{MessageForm}
use Rattle.sm_messages.specs.Messages.{Msg}

-- a response is asked about only where its operation is served
abbrev pub MayAsk : MessageForm → ServiceData → Asked → Type 0
MayAsk f s a_request = Unit {0}
MayAsk f s (a_response o) = ServesOperation f s o

-- a message spells one value at most for an operation, on one side
abbrev pub OneReply : MessageForm → Type 0
OneReply f =
    (s : ServiceData) (test : Test) (g h : Goal) (v w : Val) (m : Message) → Serves f s test → ServesOperation f s g.operation → AreOfOne g h
    → Msg f s test g v m → Msg f s test h w m → (g ≡ h) × (v ≡ w)

-- what is written for a value that is carried is a message that spells it, where the length of its body fits 64 bits: a CBOR item has no
-- longer texts
abbrev pub WrittenIsMessage : MessageForm → Type 0
WrittenIsMessage f =
    (s : ServiceData) (test : Test) (g : Goal) (host : List ℕ) (v : Val) → Serves f s test → ServesGoal f s g
    → Fits s.table test (root_place (goal_shape s g)) v → f.uncarried s g v ≡ [] → length (f.written s g host v).body < 2 ^ 64
    → Msg f s test g v (f.written s g host v)

-- a message has one answer at most. So each comes exactly where its reason is
abbrev pub OneAnswer : MessageForm → Type 0
OneAnswer f =
    (s : ServiceData) (test : Test) (asked : Asked) (head : Head) (body : List ℕ) (a b : MessageAnswer) → Serves f s test → MayAsk f s asked
    → MessageAnswers f s test asked head body a → MessageAnswers f s test asked head body b → a ≡ b

-- and it is never without one: it can't be that each is denied
abbrev pub SomeAnswer : MessageForm → Type 0
SomeAnswer f =
    (s : ServiceData) (test : Test) (asked : Asked) (head : Head) (body : List ℕ) → Serves f s test → MayAsk f s asked
    → ((a : MessageAnswer) → MessageAnswers f s test asked head body a → ⊥) → ⊥
