-- What writers make of the events of a value: they take those of the tree that is written for it, and what they write for them is the text
-- or the item of that tree.
use Rattle.std.specs.Prelude.{◌≡◌, []}
use Rattle.sm_tree.specs.Streams.{TakesEach, numbered}
use Rattle.sm_json.specs.Written as json
use Rattle.sm_json.specs.WrittenEvents.{IsJsonEvent, written_events}
use Rattle.sm_cbor.specs.Written.{written_item}
use Rattle.sm_cbor.specs.WrittenEvents.{IsCborEvent, written_item_events}
use Rattle.sm_shapes.specs.Fitting.{Test, Fits}
use Rattle.sm_shapes.specs.InOrder.{Shaped}
use Rattle.sm_shapes.specs.Places.{Place}
use Rattle.sm_shapes.specs.TableData.{TableData}
use Rattle.sm_shapes.specs.Values.{Val}
use Rattle.sm_codec.specs.Convention.{Convention}
use Rattle.sm_codec.specs.Codec.{InTable}
use Rattle.sm_codec.specs.Written.{written, uncarried}
use Rattle.sm_codec.specs.WrittenLaws.{WritesJson, WritesCbor}

-- of each value of a place whose leaves are all carried, by a convention whose leaves can be written as JSON
abbrev pub EncodesJson : Type 0
EncodesJson =
    (t : TableData) (l : Convention) (test : Test) (p : Place) (v : Val) → Shaped t → WritesJson l → InTable t p → Fits t test p v
    → uncarried t l p v ≡ []
    → TakesEach IsJsonEvent (numbered (written t l p v) [])
    × (written_events (numbered (written t l p v) []) ≡ json.written (written t l p v))

-- and as CBOR, where each opener tells its number
abbrev pub EncodesCbor : Type 0
EncodesCbor =
    (t : TableData) (l : Convention) (test : Test) (p : Place) (v : Val) → Shaped t → WritesCbor l → InTable t p → Fits t test p v
    → uncarried t l p v ≡ []
    → TakesEach IsCborEvent (numbered (written t l p v) [])
    × (written_item_events (numbered (written t l p v) []) ≡ written_item (written t l p v))
