-- What is to hold of the definitions: bytes come to one answer, never to none, a message is one by its own bytes alone, and a written
-- message is read as itself; and what a message that ends its connection says, and one that answers `HEAD`.
use Rattle.std.specs.Prelude.{◌≡◌, ℕ, List, ◌++◌, true, false, codes}
use Rattle.std.specs.Str.{str_eq_ignore_ascii_case}
use Rattle.sm_http.specs.declared.message.Head.{Head}
use Rattle.sm_http.specs.declared.message.Message.{Message}
use Rattle.sm_http.specs.declared.message.MessageSide.{MessageSide}
use Rattle.sm_http.specs.declared.message.BodyLeft.{BodyLeft}
use Rattle.sm_http.specs.Bodies.{BodyFraming, BodyFramed}
use Rattle.sm_http.specs.Framed.{HeadFraming, HeadFramed, Framing, Framed, message}
use Rattle.sm_http.specs.Written.{IsWritableMessage, written, written_head}
use Rattle.sm_http.specs.FieldValues.{values_named}
use Rattle.sm_http.specs.Connections.{says_close, with_close, asks_head, for_head}

-- bytes come to one answer at most
abbrev pub HasOneHead : MessageSide → Type 0
HasOneHead side = (bytes : List ℕ) (a b : HeadFraming) → HeadFramed side bytes a → HeadFramed side bytes b → a ≡ b

abbrev pub HasOneBody : BodyLeft → Type 0
HasOneBody left = (bytes : List ℕ) (a b : BodyFraming) → BodyFramed left bytes a → BodyFramed left bytes b → a ≡ b

abbrev pub HasOneFraming : MessageSide → Type 0
HasOneFraming side = (bytes : List ℕ) (a b : Framing) → Framed side bytes a → Framed side bytes b → a ≡ b

-- no bytes are without an answer: it can't be that each of them is denied
abbrev pub HasSomeFraming : MessageSide → Type 0
HasSomeFraming side = (bytes : List ℕ) → ((a : Framing) → Framed side bytes a → ⊥) → ⊥

-- a message is so many bytes, and is that message whatever follows these
abbrev pub HasMessageByItself : MessageSide → Type 0
HasMessageByItself side = (bytes : List ℕ) (said : Message) (rest : List ℕ) → Framed side bytes (message said rest)
    → (used : List ℕ) × (bytes ≡ used ++ rest) × ((more : List ℕ) → Framed side (used ++ more) (message said more))

-- a written message is read again as itself, whatever follows it
abbrev pub WrittenIsRead : MessageSide → Type 0
WrittenIsRead side = (said : Message) (rest : List ℕ) → IsWritableMessage side said → Framed side (written said ++ rest) (message said rest)

-- a message with `connection: close` says that its connection ends, and no field of another name changes
abbrev pub SaysItCloses : Message → Type 0
SaysItCloses said = says_close (with_close said).head ≡ true

abbrev pub KeepsOtherFields : Message → Type 0
KeepsOtherFields said = (name : List ℕ) → str_eq_ignore_ascii_case (codes "connection") name ≡ false
    → values_named name (with_close said).head.fields ≡ values_named name said.head.fields

-- what answers a request for a head is written as the answer's head alone
abbrev pub AnswersHeadAlone : Head → Type 0
AnswersHeadAlone asked = (answer : Message) → asks_head asked.start ≡ true → written (for_head asked answer) ≡ written_head answer.head
