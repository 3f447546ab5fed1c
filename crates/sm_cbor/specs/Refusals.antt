-- Where bytes stop being an item, in what is CBOR's own: a map's key that is no text. All else is said by `Syntax` of
-- sm_tree, of any format.
use Rattle.std.specs.Prelude.{◌≡◌, ℕ, ◌⊎◌, List, [], ◌∷◌, ◌++◌}
use Rattle.sm_tree.specs.Node.{Node, null, bool, int, number, text, bytes, tag, opaque, list, object}
use Rattle.sm_tree.specs.Syntax.{Syntax}
use Rattle.sm_cbor.specs.Heads.{Byte}
use Rattle.sm_cbor.specs.CborItem.{KeyForm, TextString, Item, CborItem}

-- a key may also be a mark, which is no byte
abbrev pub mark : ℕ
mark = 256

abbrev pub MarkedKey : KeyForm
MarkedKey k s r = TextString k s r ⊎ (Byte mark s r × (k ≡ []))

-- a map's key stands behind these bytes: with a mark in place of that key an item goes on
abbrev pub EndsAtKey : List ℕ → Type 0
EndsAtKey bs = (more : List ℕ) × (n : Node) × Item MarkedKey n (bs ++ mark ∷ more) []

abbrev pub IsNoText : Node → Type 0
IsNoText null = Unit {0}
IsNoText (bool b) = Unit {0}
IsNoText (int z) = Unit {0}
IsNoText (number t) = Unit {0}
IsNoText (text t) = ⊥
IsNoText (bytes t) = Unit {0}
IsNoText (tag k n) = Unit {0}
IsNoText (opaque b) = Unit {0}
IsNoText (list ns) = Unit {0}
IsNoText (object ms) = Unit {0}

-- an item that isn't text begins with this byte
abbrev pub BeginsOther : ℕ → Type 0
BeginsOther b = (more : List ℕ) × (n : Node) × IsNoText n × CborItem n (b ∷ more)

-- the syntax by which items are read. A key has no kind where an item begins that isn't text
abbrev pub cbor_syntax : Syntax
cbor_syntax = record { text = CborItem; wrong_key = λ bs b. EndsAtKey bs × BeginsOther b }
