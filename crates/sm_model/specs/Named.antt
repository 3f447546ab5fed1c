-- Names of what a graph is made from, as every model has them that was read: traits stand under ids, and keys of metadata are
-- texts in UTF-8.
use Rattle.std.specs.Prelude.{ℕ, IsUtf8, List, [], ◌∷◌}
use Rattle.sm_ids.specs.IdText.{IsIdText}
use Rattle.sm_tree.specs.Node.{Node}
use Rattle.sm_model.specs.Graphs.{MemberGiven, ShapeGiven}

abbrev pub AreUnderIds : List (List ℕ × Node) → Type 0
AreUnderIds [] = Unit {0}
AreUnderIds (t ∷ ts) = IsIdText t.0 × AreUnderIds ts

abbrev pub MembersAreUnderIds : List MemberGiven → Type 0
MembersAreUnderIds [] = Unit {0}
MembersAreUnderIds (m ∷ ms) = AreUnderIds m.traits × MembersAreUnderIds ms

abbrev pub HaveTraitIds : List ShapeGiven → Type 0
HaveTraitIds [] = Unit {0}
HaveTraitIds (s ∷ ss) = AreUnderIds s.traits × MembersAreUnderIds s.members × HaveTraitIds ss

abbrev pub AreUnderTexts : List (List ℕ × Node) → Type 0
AreUnderTexts [] = Unit {0}
AreUnderTexts (m ∷ ms) = IsUtf8 m.0 × AreUnderTexts ms

pub record AreNamed (shapes : List ShapeGiven) (metadata : List (List ℕ × Node)) : Type 0 where
  pub traits : HaveTraitIds shapes
  pub keys : AreUnderTexts metadata
