-- What decoding a tree at a place answers: the value that it spells, or its first fault.
use Rattle.std.specs.Prelude.{◌≡◌, List, [], ◌∷◌, Result, Ok, Err}
use Rattle.sm_tree.specs.Node.{Node}
use Rattle.sm_shapes.specs.Values.{Val}
use Rattle.sm_shapes.specs.Places.{Place}
use Rattle.sm_codec.specs.Codec.{Codec}
use Rattle.sm_codec.specs.Spelling.{Spells}
use Rattle.sm_codec.specs.FaultLists.{FaultAt}
use Rattle.sm_codec.specs.Readings.{faults}

abbrev pub Decodes : Codec → Place → Node → Result Val FaultAt → Type 0
Decodes c p n (Ok v) = Spells c p v n × (faults c n p ≡ [])
Decodes c p n (Err f) = (rest : List FaultAt) × (faults c n p ≡ f ∷ rest)
