-- Where bytes stop being a text: what the readers of JSON and of CBOR answer, and at which place they refuse. A syntax
-- says which bytes are a text of which tree, whatever its levels, and which keys of a map have no kind. Every answer
-- is stated over texts alone, and never over a reader.
use Rattle.std.specs.Prelude.{ℕ, ◌+◌, ◌≤◌, ◌<◌, List, ◌++◌, take, length, slice_index, Result, Ok, Err}
pub use Rattle.sm_tree.specs.Limits.{most_levels}
use Rattle.sm_tree.specs.Node.{Node}
use Rattle.sm_tree.specs.Levels.{levels}
use Rattle.sm_tree.specs.View.{node_of}
use Rattle.sm_tree.specs.declared.tree.Tree.{Tree}
use Rattle.sm_tree.specs.declared.refusal.SyntaxRefusal.{SyntaxRefusal}
use Rattle.sm_tree.specs.declared.refusal.SyntaxRefusal.TheVariants.{Bad, Ended, TooDeep, KeyKind, NoMemory}

-- a format of trees: these bytes are a text of this tree
abbrev pub TreeFormat : Type 1
TreeFormat = Node → List ℕ → Type 0

-- a format; and which keys have no kind: behind these bytes a map's key stands, and with this byte begins an item that
-- can't be one. JSON has none such: there a key that is no string is a bad byte as any other
pub record Syntax : Type 1 where
  pub text : TreeFormat
  pub wrong_key : List ℕ → ℕ → Type 0

-- the bytes are a text of this tree, which nests at most 100 levels
abbrev pub IsRead : TreeFormat → Node → List ℕ → Type 0
IsRead F n bs = F n bs × (levels n ≤ most_levels)

-- some text begins with these bytes
abbrev pub Begins : TreeFormat → List ℕ → Type 0
Begins F bs = (more : List ℕ) × (n : Node) × F n (bs ++ more)

-- some text of at most 100 levels begins with them: up to their end no place is bad
abbrev pub BeginsRead : TreeFormat → List ℕ → Type 0
BeginsRead F bs = (more : List ℕ) × (n : Node) × IsRead F n (bs ++ more)

-- the bytes are no text of at most 100 levels
abbrev pub IsUnread : TreeFormat → List ℕ → Type 0
IsUnread F bs = (n : Node) → IsRead F n bs → ⊥

-- up to this place nothing is bad, and with the byte there no text goes on
pub record IsBadAt (F : TreeFormat) (bs : List ℕ) (at : ℕ) : Type 0 where
  pub inside : at < length bs
  pub before : BeginsRead F (take at bs)
  pub behind : Begins F (take (at + 1) bs) → ⊥

-- `KeyKind`: such a place, where a map's key stands and the byte begins an item that can't be one
pub record IsKeyKindAt (S : Syntax) (bs : List ℕ) (at : ℕ) : Type 0 where
  pub bad : IsBadAt S.text bs at
  pub key : S.wrong_key (take at bs) (slice_index bs at)

-- `Bad`: any other such place
pub record IsBadByteAt (S : Syntax) (bs : List ℕ) (at : ℕ) : Type 0 where
  pub bad : IsBadAt S.text bs at
  pub no_key_kind : IsKeyKindAt S bs at → ⊥

-- `TooDeep`: up to this place nothing is bad, and the byte there opens level 101: with it texts go on, but only
-- such as nest deeper than is read
pub record IsTooDeepAt (F : TreeFormat) (bs : List ℕ) (at : ℕ) : Type 0 where
  pub inside : at < length bs
  pub before : BeginsRead F (take at bs)
  pub goes_on : Begins F (take (at + 1) bs)
  pub too_deep : BeginsRead F (take (at + 1) bs) → ⊥

-- `Ended`: no place is bad, and the bytes are no text
pub record IsCutShort (F : TreeFormat) (bs : List ℕ) : Type 0 where
  pub begun : BeginsRead F bs
  pub no_text : IsUnread F bs

-- the bytes are refused by this word, at this place
abbrev pub IsRefused : Syntax → List ℕ → SyntaxRefusal → Type 0
IsRefused S bs (Bad at) = IsBadByteAt S bs at
IsRefused S bs Ended = IsCutShort S.text bs
IsRefused S bs (TooDeep at) = IsTooDeepAt S.text bs at
IsRefused S bs (KeyKind at) = IsKeyKindAt S bs at
IsRefused S bs NoMemory = ⊥

-- the bytes are a text of this tree, or are refused so
abbrev pub ComesTo : Syntax → List ℕ → Result Node SyntaxRefusal → Type 0
ComesTo S bs (Ok n) = IsRead S.text n bs
ComesTo S bs (Err refusal) = IsRefused S bs refusal

-- what a reader answers for some bytes: what they come to, or that it is out of memory
abbrev pub Reads : Syntax → List ℕ → Result Tree SyntaxRefusal → Type 0
Reads S bs (Ok tree) = ComesTo S bs (Ok (node_of tree))
Reads S bs (Err (Bad at)) = IsRefused S bs (Bad at)
Reads S bs (Err Ended) = IsRefused S bs Ended
Reads S bs (Err (TooDeep at)) = IsRefused S bs (TooDeep at)
Reads S bs (Err (KeyKind at)) = IsRefused S bs (KeyKind at)
Reads S bs (Err NoMemory) = Unit {0}
