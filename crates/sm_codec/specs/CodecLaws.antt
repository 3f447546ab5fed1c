-- The codec's laws, over the definitions alone: for every convention, every table in order and every test that its defaults pass.
use Rattle.std.specs.Prelude.{◌≡◌, ◌↔◌, [], Ok}
use Rattle.sm_tree.specs.Node.{Node}
use Rattle.sm_shapes.specs.Values.{Val}
use Rattle.sm_shapes.specs.InOrder.{Shaped, DefaultsPass}
use Rattle.sm_shapes.specs.Places.{Place}
use Rattle.sm_shapes.specs.Fitting.{Fits}
use Rattle.sm_codec.specs.Convention.{IsConvention}
use Rattle.sm_codec.specs.Codec.{Codec, InTable}
use Rattle.sm_codec.specs.Spelling.{Spells}
use Rattle.sm_codec.specs.Readings.{reading, faults}
use Rattle.sm_codec.specs.Written.{written, uncarried}

-- what the laws of reading ask of a codec
pub record IsCodec (c : Codec) : Type 0 where
  pub convention : IsConvention c.convention
  pub table : Shaped c.table
  pub defaults : DefaultsPass c.table c.test

-- a tree has no fault at a place exactly where it spells some value of the place
abbrev pub ValueOrFault : Type 0
ValueOrFault =
    (c : Codec) (p : Place) (n : Node) → IsCodec c → InTable c.table p → (faults c n p ≡ []) ↔ ((v : Val) × Spells c p v n)

-- and then it spells one, which is what it comes to
abbrev pub OneValue : Type 0
OneValue =
    (c : Codec) (p : Place) (v : Val) (n : Node) → IsCodec c → InTable c.table p → Spells c p v n ↔ (reading c n p ≡ Ok v)

-- the tree that is written for a value of the place, whose leaves are all carried, spells the value, by each test by which it fits
abbrev pub WrittenSpells : Type 0
WrittenSpells =
    (c : Codec) (p : Place) (v : Val) → IsConvention c.convention → Shaped c.table → InTable c.table p → Fits c.table c.test p v
    → uncarried c.table c.convention p v ≡ [] → Spells c p v (written c.table c.convention p v)
