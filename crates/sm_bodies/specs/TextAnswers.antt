-- What a body of the near side comes to on the far side, for a place of a table, over bytes alone. The decisions stand in their order: its
-- syntax, its faults, the leaves that the far side can't spell.
use Rattle.std.specs.Prelude.{◌≡◌, ℕ, List, [], ◌∷◌}
use Rattle.sm_tree.specs.Node.{Node}
use Rattle.sm_tree.specs.Syntax.{IsRead, IsRefused}
use Rattle.sm_tree.specs.declared.path.Step.{Step}
use Rattle.sm_tree.specs.declared.refusal.SyntaxRefusal.{SyntaxRefusal}
use Rattle.sm_shapes.specs.Fitting.{Test}
use Rattle.sm_shapes.specs.Places.{Place}
use Rattle.sm_shapes.specs.TableData.{TableData}
use Rattle.sm_shapes.specs.Values.{Val}
use Rattle.sm_shapes.specs.declared.fault.FaultKind.{FaultKind}
use Rattle.sm_shapes.specs.declared.fault.FaultKind.TheVariants.{NotCarried}
use Rattle.sm_codec.specs.Codec.{Codec, codec_of}
use Rattle.sm_codec.specs.FaultLists.{FaultAt}
use Rattle.sm_codec.specs.Readings.{faults}
use Rattle.sm_codec.specs.Spelling.{Spells}
use Rattle.sm_codec.specs.Written.{written, uncarried}
use Rattle.sm_bodies.specs.Sides.{side_of}
use Rattle.sm_bodies.specs.declared.form.BodyForm.{BodyForm}

-- an answer: a text of the far side, why the bytes are none of the near side, or a fault
pub data TextAnswer : Type 0 where
  the_text : List ℕ → TextAnswer
  the_refusal : SyntaxRefusal → TextAnswer
  the_fault : List Step → FaultKind → TextAnswer

-- the codec by which a body of the near side is read
abbrev pub near_codec : BodyForm → TableData → Test → Codec
near_codec near t test = codec_of t (side_of near).leaves test

-- the bytes are a text of this tree on the near side, of at most 100 levels
abbrev pub IsNearText : BodyForm → Node → List ℕ → Type 0
IsNearText near n body = IsRead (side_of near).syntax.text n body

-- the leaves of a value that the far side can't spell, and the text that is written for one that it can
abbrev pub far_uncarried : BodyForm → TableData → Place → Val → List (List Step)
far_uncarried far t p v = uncarried t (side_of far).leaves p v

abbrev pub far_text : BodyForm → TableData → Place → Val → List ℕ
far_text far t p v = (side_of far).text (written t (side_of far).leaves p v)

-- the answer to a body: the word and the place by which it is no text of at most 100 levels; its first fault; the first leaf of the value
-- that it spells, in model order, that the far side can't spell; or the one text of the far side that is written for that value
pub data TextAnswers (near far : BodyForm) (t : TableData) (test : Test) (p : Place) (body : List ℕ) (a : TextAnswer) : Type 0 where
  no_text : (refusal : SyntaxRefusal) → IsRefused (side_of near).syntax body refusal → a ≡ the_refusal refusal
      → TextAnswers near far t test p body a
  fault : (n : Node) → (path : List Step) → (kind : FaultKind) → (later : List FaultAt) → IsNearText near n body
      → faults (near_codec near t test) n p ≡ (path, kind) ∷ later → a ≡ the_fault path kind → TextAnswers near far t test p body a
  not_carried : (n : Node) → (v : Val) → (path : List Step) → (more : List (List Step)) → IsNearText near n body
      → Spells (near_codec near t test) p v n → far_uncarried far t p v ≡ path ∷ more → a ≡ the_fault path NotCarried
      → TextAnswers near far t test p body a
  value : (n : Node) → (v : Val) → IsNearText near n body → Spells (near_codec near t test) p v n → far_uncarried far t p v ≡ []
      → a ≡ the_text (far_text far t p v) → TextAnswers near far t test p body a
