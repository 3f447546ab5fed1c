-- The law of what is carried: its text is one that can stand there.
use Rattle.std.specs.Prelude.{◌≡◌, true}
use Rattle.sm_shapes.specs.Fitting.{IsOfKind}
use Rattle.sm_shapes.specs.Places.{Place, kind_of}
use Rattle.sm_shapes.specs.TableData.{TableData}
use Rattle.sm_shapes.specs.Values.{Val}
use Rattle.sm_part_texts.specs.CarriedTexts.{is_carried, passes, usual_in}
use Rattle.sm_part_texts.specs.PlaceTexts.{text_at}
use Rattle.sm_part_texts.specs.declared.carried.TextTest.{TextTest}

-- also where it is no text itself
abbrev pub CarriedTextsPass : Type 0
CarriedTextsPass =
    (test : TextTest) (t : TableData) (p : Place) (v : Val) → IsOfKind (kind_of t p) v → is_carried test t p v ≡ true
    → passes test (text_at (usual_in test) t p v) ≡ true
