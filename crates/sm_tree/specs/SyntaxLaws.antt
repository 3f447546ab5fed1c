-- What is to hold of a syntax: some bytes are a text of one tree at most, and they come to one answer, and to no two.
use Rattle.std.specs.Prelude.{◌≡◌, ℕ, List, Result}
use Rattle.sm_tree.specs.Node.{Node}
use Rattle.sm_tree.specs.Syntax.{Syntax, ComesTo}
use Rattle.sm_tree.specs.declared.refusal.SyntaxRefusal.{SyntaxRefusal}

-- bytes are a text of at most one tree
abbrev pub HasOneReading : Syntax → Type 0
HasOneReading S = (n m : Node) (bs : List ℕ) → S.text n bs → S.text m bs → n ≡ m

-- they are read as one tree at most, or refused by one word at one place, and never both
abbrev pub HasOneAnswer : Syntax → Type 0
HasOneAnswer S = (bs : List ℕ) (a b : Result Node SyntaxRefusal) → ComesTo S bs a → ComesTo S bs b → a ≡ b

-- and no bytes are without an answer: it can't be that each of them is denied
abbrev pub HasSomeAnswer : Syntax → Type 0
HasSomeAnswer S = (bs : List ℕ) → ((a : Result Node SyntaxRefusal) → ComesTo S bs a → ⊥) → ⊥
