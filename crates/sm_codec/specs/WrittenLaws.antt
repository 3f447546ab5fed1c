-- What the writers of formats ask of a convention, and that the tree which it writes for a value is then one of the format.
use Rattle.std.specs.Prelude.{◌≡◌, ℕ, ◌<◌, ◌≤◌, true, [], IsUtf8}
use Rattle.sm_tree.specs.Node.{Node}
use Rattle.sm_tree.specs.Json.{IsJson, IsCbor}
use Rattle.sm_shapes.specs.Values.{Val}
use Rattle.sm_shapes.specs.TableData.{TableData, member_count}
use Rattle.sm_shapes.specs.InOrder.{Shaped}
use Rattle.sm_shapes.specs.Places.{Place}
use Rattle.sm_shapes.specs.Fitting.{Test, Fits}
use Rattle.sm_codec.specs.declared.simple.Simple.{Simple}
use Rattle.sm_codec.specs.declared.simple.Simple.TheVariants.{Number}
use Rattle.sm_codec.specs.Convention.{Convention}
use Rattle.sm_codec.specs.Codec.{InTable}
use Rattle.sm_codec.specs.Written.{written, uncarried}

-- whole numbers of a table have at most 64 bits
abbrev pub HasWidth : Simple → Type 0
HasWidth (Number bits) = bits ≤ 64
HasWidth x = Unit {0}

-- the names of members are texts, and each leaf that is carried is written as a tree of this kind
pub record WritesTrees (IsTree : Node → Type 0) (l : Convention) : Type 0 where
  pub names : (t : TableData) → Shaped t → (s k : ℕ) → k < member_count t → IsUtf8 (l.name t s k)
  pub leaves : (x : Simple) (v : Val) → HasWidth x → l.carries x v ≡ true → IsTree (l.write x v)

abbrev pub WritesJson : Convention → Type 0
WritesJson l = WritesTrees IsJson l

abbrev pub WritesCbor : Convention → Type 0
WritesCbor l = WritesTrees IsCbor l

-- then the tree that is written for a value of a place is one
abbrev pub WrittenIs : (Node → Type 0) → Type 0
WrittenIs IsTree =
    (t : TableData) (l : Convention) (test : Test) (p : Place) (v : Val) → Shaped t → WritesTrees IsTree l → InTable t p → Fits t test p v
    → uncarried t l p v ≡ [] → IsTree (written t l p v)

abbrev pub WrittenIsJson : Type 0
WrittenIsJson = WrittenIs IsJson

abbrev pub WrittenIsCbor : Type 0
WrittenIsCbor = WrittenIs IsCbor
