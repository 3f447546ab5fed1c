-- Which trees can be written as JSON, and which as CBOR. CBOR also spells integers that are no `int` and
-- opaque leaves, which aren't written.
use Rattle.std.specs.Prelude.{ℕ, ◌<◌, ◌^◌, IsUtf8, FitsSigned, List, [], ◌∷◌}
use Rattle.std.specs.Int.{w64}
use Rattle.sm_tree.specs.Node.{Node, Nodes, Members, null, bool, int, number, text, bytes, tag, opaque, list, object, no_nodes, node}
use Rattle.sm_tree.specs.Node.{no_members, member}
use Rattle.sm_tree.specs.Numbers.{NumberText}

abbrev mutual
  -- no byte string, tag or opaque leaf; each number is the text of one with a fraction, an exponent or a value
  -- out of the range of 64 bits with sign
  pub IsJson : Node → Type 0
  IsJson null = Unit {0}
  IsJson (bool b) = Unit {0}
  IsJson (int z) = FitsSigned w64 z
  IsJson (number t) = NumberText (number t) t
  IsJson (text t) = IsUtf8 t
  IsJson (bytes t) = ⊥
  IsJson (tag k n) = ⊥
  IsJson (opaque b) = ⊥
  IsJson (list ns) = AreJson ns
  IsJson (object ms) = AreJsonMembers ms

  pub AreJson : Nodes → Type 0
  AreJson no_nodes = Unit {0}
  AreJson (node n ns) = IsJson n × AreJson ns

  pub AreJsonMembers : Members → Type 0
  AreJsonMembers no_members = Unit {0}
  AreJsonMembers (member k n ms) = IsUtf8 k × IsJson n × AreJsonMembers ms

-- each of these is a byte
abbrev pub AreBytes : List ℕ → Type 0
AreBytes [] = Unit {0}
AreBytes (b ∷ bs) = (b < 256) × AreBytes bs

abbrev mutual
  -- no number that is a text, and no opaque leaf
  pub IsCbor : Node → Type 0
  IsCbor null = Unit {0}
  IsCbor (bool b) = Unit {0}
  IsCbor (int z) = FitsSigned w64 z
  IsCbor (number t) = ⊥
  IsCbor (text t) = IsUtf8 t
  IsCbor (bytes t) = AreBytes t
  IsCbor (tag k n) = (k < 2 ^ 64) × IsCbor n
  IsCbor (opaque b) = ⊥
  IsCbor (list ns) = AreCbor ns
  IsCbor (object ms) = AreCborMembers ms

  pub AreCbor : Nodes → Type 0
  AreCbor no_nodes = Unit {0}
  AreCbor (node n ns) = IsCbor n × AreCbor ns

  pub AreCborMembers : Members → Type 0
  AreCborMembers no_members = Unit {0}
  AreCborMembers (member k n ms) = IsUtf8 k × IsCbor n × AreCborMembers ms
