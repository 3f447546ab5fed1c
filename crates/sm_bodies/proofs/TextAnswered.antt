-- A body has one answer, and some: it is what its near text, or its refusal, comes to by functions.
use Rattle.std.proofs.Common.{◌≡◌, ℕ, false, List, [], ◌∷◌, refl, sym, ap, ◌∙◌}
use Rattle.std.specs.Prelude.{Result, Ok, Err}
use Rattle.sm_tree.specs.Node.{Node}
use Rattle.sm_tree.specs.Syntax.{ComesTo}
use Rattle.sm_tree.specs.SyntaxLaws.{HasOneAnswer, HasSomeAnswer}
use Rattle.sm_tree.specs.declared.path.Step.{Step}
use Rattle.sm_tree.specs.declared.refusal.SyntaxRefusal.{SyntaxRefusal}
use Rattle.sm_tree.proofs.OneAnswer.{one_answer}
use Rattle.sm_tree.proofs.SomeAnswer.{some_answer}
use Rattle.sm_json.specs.JsonText.{json_syntax}
use Rattle.sm_json.proofs.OneTree.{one_tree}
use Rattle.sm_json.proofs.WrittenTrees.{null_begins}
use Rattle.sm_cbor.specs.Refusals.{cbor_syntax}
use Rattle.sm_shapes.specs.Fitting.{Test}
use Rattle.sm_shapes.specs.InOrder.{Shaped, DefaultsPass}
use Rattle.sm_shapes.specs.Places.{Place}
use Rattle.sm_shapes.specs.TableData.{TableData}
use Rattle.sm_shapes.specs.Values.{Val}
use Rattle.sm_shapes.specs.declared.fault.FaultKind.{FaultKind}
use Rattle.sm_shapes.specs.declared.fault.FaultKind.TheVariants.{NotCarried}
use Rattle.sm_codec.specs.Codec.{InTable}
use Rattle.sm_codec.specs.CodecLaws.{IsCodec}
use Rattle.sm_codec.specs.Convention.{IsConvention}
use Rattle.sm_codec.specs.FaultLists.{FaultAt, Reading, faults_in}
use Rattle.sm_codec.specs.Readings.{reading, faults}
use Rattle.sm_codec.specs.Spelling.{Spells}
use Rattle.sm_codec.proofs.JsonLaws.{json_laws}
use Rattle.sm_codec.proofs.CborLaws.{cbor_laws}
use Rattle.sm_codec.proofs.ReadValues.{one_value, value_or_fault}
use Rattle.sm_bodies.specs.Sides.{side_of}
use Rattle.sm_bodies.specs.TextAnswers.{TextAnswer, the_text, the_refusal, the_fault, TextAnswers, no_text, fault, not_carried, value}
use Rattle.sm_bodies.specs.TextAnswers.{near_codec, IsNearText, far_uncarried, far_text}
use Rattle.sm_bodies.specs.TextLaws.{OneTextAnswer, SomeTextAnswer}
use Rattle.sm_bodies.specs.declared.form.BodyForm.{BodyForm}
use Rattle.sm_bodies.specs.declared.form.BodyForm.TheVariants.{Json, Cbor}

near_leaves : (near : BodyForm) → IsConvention (side_of near).leaves
near_leaves Json = json_laws false
near_leaves Cbor = cbor_laws

-- that of CBOR is the law of sm_cbor
near_one : HasOneAnswer cbor_syntax → (near : BodyForm) → HasOneAnswer (side_of near).syntax
near_one items Json = one_answer json_syntax one_tree
near_one items Cbor = items

near_some : HasSomeAnswer cbor_syntax → (near : BodyForm) → HasSomeAnswer (side_of near).syntax
near_some items Json = some_answer json_syntax null_begins
near_some items Cbor = items

near_laws : (near : BodyForm) (t : TableData) (test : Test) → Shaped t → DefaultsPass t test → IsCodec (near_codec near t test)
near_laws near t test shaped pass = record { convention = near_leaves near; table = shaped; defaults = pass }

-- the answer for a value with these leaves that the far side can't spell; for what a tree comes to; for what the bytes come to
abbrev value_answer : BodyForm → TableData → Place → Val → List (List Step) → TextAnswer
value_answer far t p v [] = the_text (far_text far t p v)
value_answer far t p v (path ∷ more) = the_fault path NotCarried

abbrev tree_answer : BodyForm → TableData → Place → Reading → TextAnswer
tree_answer far t p (Ok v) = value_answer far t p v (far_uncarried far t p v)
tree_answer far t p (Err []) = the_text []
tree_answer far t p (Err (f ∷ fs)) = the_fault f.0 f.1

abbrev bytes_answer : BodyForm → BodyForm → TableData → Test → Place → Result Node SyntaxRefusal → TextAnswer
bytes_answer near far t test p (Ok n) = tree_answer far t p (reading (near_codec near t test) n p)
bytes_answer near far t test p (Err refusal) = the_refusal refusal

faulty : (far : BodyForm) (t : TableData) (p : Place) (r : Reading) (path : List Step) (kind : FaultKind) (later : List FaultAt)
    → faults_in r ≡ (path, kind) ∷ later → tree_answer far t p r ≡ the_fault path kind
faulty far t p (Ok v) path kind later h = absurd cc
faulty far t p (Err []) path kind later h = absurd cc
faulty far t p (Err (f ∷ fs)) path kind later h =
    let first : f ≡ (path, kind) = cc in
    ap (λ g. the_fault g.0 g.1) first

spelt : (near far : BodyForm) (t : TableData) (test : Test) (p : Place) (n : Node) (v : Val) (paths : List (List Step)) → Shaped t
    → DefaultsPass t test → InTable t p → Spells (near_codec near t test) p v n → far_uncarried far t p v ≡ paths
    → value_answer far t p v paths ≡ bytes_answer near far t test p (Ok n)
spelt near far t test p n v paths shaped pass inside spells are =
    sym (ap (tree_answer far t p) ((one_value (near_codec near t test) p v n (near_laws near t test shaped pass) inside).0 spells)
    ∙ ap (value_answer far t p v) are)

-- an answer is that of what the bytes come to
comes_so : (near far : BodyForm) (t : TableData) (test : Test) (p : Place) (body : List ℕ) (a : TextAnswer) → Shaped t → DefaultsPass t test
    → InTable t p → TextAnswers near far t test p body a
    → (r : Result Node SyntaxRefusal) × ComesTo (side_of near).syntax body r × (a ≡ bytes_answer near far t test p r)
comes_so near far t test p body a shaped pass inside (no_text refusal is e) = (Err refusal, is, e)
comes_so near far t test p body a shaped pass inside (fault n path kind later is first e) =
    (Ok n, is, e ∙ sym (faulty far t p (reading (near_codec near t test) n p) path kind later first))
comes_so near far t test p body a shaped pass inside (not_carried n v path more is spells are e) =
    (Ok n, is, e ∙ spelt near far t test p n v (path ∷ more) shaped pass inside spells are)
comes_so near far t test p body a shaped pass inside (value n v is spells are e) =
    (Ok n, is, e ∙ spelt near far t test p n v [] shaped pass inside spells are)

pub one_text_answer : HasOneAnswer cbor_syntax → OneTextAnswer
one_text_answer items near far t test p body a b shaped pass inside x y =
    let (r, come, is) = comes_so near far t test p body a shaped pass inside x in
    let (q, come1, is1) = comes_so near far t test p body b shaped pass inside y in
    is ∙ ap (bytes_answer near far t test p) (near_one items near body r q come come1) ∙ sym is1

-- a value has an answer, by the leaves that the far side can't spell
value_has : (near far : BodyForm) (t : TableData) (test : Test) (p : Place) (body : List ℕ) (n : Node) (v : Val) (paths : List (List Step))
    → IsNearText near n body → Spells (near_codec near t test) p v n → far_uncarried far t p v ≡ paths
    → (a : TextAnswer) × TextAnswers near far t test p body a
value_has near far t test p body n v [] is spells are = (the_text (far_text far t p v), value n v is spells are refl)
value_has near far t test p body n v (path ∷ more) is spells are =
    (the_fault path NotCarried, not_carried n v path more is spells are refl)

-- a tree has one, by its faults
tree_has : (near far : BodyForm) (t : TableData) (test : Test) (p : Place) (body : List ℕ) (n : Node) (fs : List FaultAt) → Shaped t
    → DefaultsPass t test → InTable t p → IsNearText near n body → faults (near_codec near t test) n p ≡ fs
    → (a : TextAnswer) × TextAnswers near far t test p body a
tree_has near far t test p body n [] shaped pass inside is none =
    let (v, spells) = (value_or_fault (near_codec near t test) p n (near_laws near t test shaped pass) inside).0 none in
    value_has near far t test p body n v (far_uncarried far t p v) is spells refl
tree_has near far t test p body n (f ∷ fs) shaped pass inside is first =
    (the_fault f.0 f.1, fault n f.0 f.1 fs is first refl)

-- and so have bytes
bytes_have : (near far : BodyForm) (t : TableData) (test : Test) (p : Place) (body : List ℕ) (r : Result Node SyntaxRefusal) → Shaped t
    → DefaultsPass t test → InTable t p → ComesTo (side_of near).syntax body r → (a : TextAnswer) × TextAnswers near far t test p body a
bytes_have near far t test p body (Ok n) shaped pass inside is =
    tree_has near far t test p body n (faults (near_codec near t test) n p) shaped pass inside is refl
bytes_have near far t test p body (Err refusal) shaped pass inside is = (the_refusal refusal, no_text refusal is refl)

pub some_text_answer : HasSomeAnswer cbor_syntax → SomeTextAnswer
some_text_answer items near far t test p body shaped pass inside none =
    near_some items near body (λ r come.
    let (a, answers) = bytes_have near far t test p body r shaped pass inside come in
    none a answers)
