-- What is to hold of crossings: that each message has one, and what it keeps.
use Rattle.std.specs.Prelude.{◌≡◌, ◌<◌, ◌^◌, ℕ, List, length}
use Rattle.sm_shapes.specs.Fitting.{Test}
use Rattle.sm_shapes.specs.Values.{Val}
use Rattle.sm_http.specs.declared.message.Head.{Head}
use Rattle.sm_http.specs.declared.message.Message.{Message}
use Rattle.sm_protocols.specs.service.ServiceData.{ServiceData}
use Rattle.sm_session.specs.Laws.{HasOneSession, HasSomeSession}
use Rattle.sm_protocols.specs.messages.Crossings.{Crossing, CrossesAs, crosses, towards}
use Rattle.sm_protocols.specs.messages.Goals.{AreOfOne, Asked, Goal}
use Rattle.sm_protocols.specs.messages.IsForm.{Serves}
use Rattle.sm_protocols.specs.messages.Laws.{MayAsk}
use Rattle.sm_protocols.specs.messages.MessageForm.{MessageForm}
use Rattle.sm_protocols.specs.messages.Messages.{Msg, ShortMsg}
use Rattle.sm_gateway.specs.GatewayData.{GatewayData, ServesBoth}
use Rattle.sm_gateway.specs.GatewayTurns.{gateway_turn}

-- a message crosses in one way at most, or is refused for one reason
abbrev pub OneCrossing : MessageForm → MessageForm → Type 0
OneCrossing near far =
    (s : ServiceData) (test : Test) (asked : Asked) (host : List ℕ) (head : Head) (body : List ℕ) (a b : Crossing)
    → Serves (towards near far) s test → MayAsk (towards near far) s asked → CrossesAs near far s test asked host head body a
    → CrossesAs near far s test asked host head body b → a ≡ b

-- and no message comes to nothing: it can't be that each crossing and each refusal is denied
abbrev pub SomeCrossing : MessageForm → MessageForm → Type 0
SomeCrossing near far =
    (s : ServiceData) (test : Test) (asked : Asked) (host : List ℕ) (head : Head) (body : List ℕ) → Serves (towards near far) s test
    → MayAsk (towards near far) s asked → ((a : Crossing) → CrossesAs near far s test asked host head body a → ⊥) → ⊥

-- the message spells this value for an operation, on its side, and no other
pub record SpellsAlone (f : MessageForm) (s : ServiceData) (test : Test) (g : Goal) (v : Val) (m : Message) : Type 0 where
  pub is : Msg f s test g v m
  pub alone : (h : Goal) (w : Val) → AreOfOne g h → Msg f s test h w m → (g ≡ h) × (v ≡ w)

-- a value that both messages spell, and alone: the near one nests at most 100 levels where it is read as the text of a tree, and the far
-- one is the one message that is written for the value
pub record KeepsValue (near far : MessageForm) (s : ServiceData) (test : Test) (g : Goal) (host : List ℕ) (m n : Message) : Type 0 where
  pub value : Val
  pub short : ShortMsg near s test g value m
  pub near_spells : SpellsAlone near s test g value m
  pub same : n ≡ far.written s g host value
  pub far_spells : SpellsAlone far s test g value n

-- the value of a message that crosses is kept, where the length of the far body fits 64 bits
abbrev pub ValuesKept : MessageForm → MessageForm → Type 0
ValuesKept near far =
    (s : ServiceData) (test : Test) (asked : Asked) (host : List ℕ) (m n : Message) (g : Goal) → Serves (towards near far) s test
    → MayAsk (towards near far) s asked → CrossesAs near far s test asked host m.head m.body (crosses g n) → length n.body < 2 ^ 64
    → KeepsValue near far s test g host m n

-- bytes of the front and of the back come to one session of a gateway at most, and never to none
abbrev pub OneSession : Type 0
OneSession = (g : GatewayData) (test : Test) → ServesBoth g test → HasOneSession (gateway_turn g test)

abbrev pub SomeSession : Type 0
SomeSession = (g : GatewayData) (test : Test) → ServesBoth g test → HasSomeSession (gateway_turn g test)
