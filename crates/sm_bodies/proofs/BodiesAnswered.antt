-- From what decoding and writing answer to what a body comes to on the other side.
use Rattle.std.proofs.Common.{◌≡◌, ℕ, List, [], ◌∷◌, ap}
use Rattle.std.specs.Prelude.{Result, Ok, Err, IfOk, Some}
use Rattle.sm_tree.specs.declared.path.Step.{Step}
use Rattle.sm_shapes.specs.Fitting.{Test}
use Rattle.sm_shapes.specs.Places.{root_place}
use Rattle.sm_shapes.specs.TableData.{TableData}
use Rattle.sm_shapes.specs.ValueView.{val_of}
use Rattle.sm_shapes.specs.declared.values.Value.{Value}
use Rattle.sm_codec.specs.Encoded.{first_path}
use Rattle.sm_bodies.specs.Sides.{side_of}
use Rattle.sm_bodies.specs.Bodies.{DecodesAs}
use Rattle.sm_bodies.specs.TextAnswers.{TextAnswer, the_text, the_refusal, the_fault, TextAnswers, no_text, fault, not_carried, value}
use Rattle.sm_bodies.specs.TextAnswers.{near_codec, far_uncarried}
use Rattle.sm_bodies.specs.AnswerView.{text_answer}
use Rattle.sm_bodies.specs.steps.Translating.{AnswersValue, AnswersRefusal}
use Rattle.sm_bodies.specs.declared.form.BodyForm.{BodyForm}
use Rattle.sm_bodies.specs.declared.reading.BodyRefusal.{BodyRefusal}
use Rattle.sm_bodies.specs.declared.reading.BodyRefusal.TheVariants as body
use Rattle.sm_bodies.specs.declared.translating.BodyAnswer.{BodyAnswer}

begins : (paths : List (List Step)) (path : List Step) → first_path paths ≡ Some path → (more : List (List Step)) × (paths ≡ path ∷ more)
begins [] path h = absurd cc
begins (first ∷ more) path h = (more, cc)

told : (near far : BodyForm) (t : TableData) (test : Test) (shape : ℕ) (bytes : List ℕ) (v : Value) (a : TextAnswer)
    → DecodesAs (side_of near).syntax (near_codec near t test) shape bytes (Ok v) → AnswersValue far t (root_place shape) (val_of v) a
    → TextAnswers near far t test (root_place shape) bytes a
told near far t test shape bytes v (the_text u) (n, is, decodes) (none, written) =
    value n (val_of v) is decodes.0 none (ap the_text written)
told near far t test shape bytes v (the_fault path kind) (n, is, decodes) (first, kinds) =
    let (more, paths) = begins (far_uncarried far t (root_place shape) (val_of v)) path first in
    not_carried n (val_of v) path more is decodes.0 paths (ap (the_fault path) kinds)
told near far t test shape bytes v (the_refusal refusal) h answers = absurd answers

-- of a body that has a value
pub value_told : {E : Type 0} (near far : BodyForm) (t : TableData) (test : Test) (shape : ℕ) (bytes : List ℕ) (v : Value)
    (r : Result BodyAnswer E) → DecodesAs (side_of near).syntax (near_codec near t test) shape bytes (Ok v)
    → IfOk r (λ answer. AnswersValue far t (root_place shape) (val_of v) (text_answer answer))
    → IfOk r (λ answer. TextAnswers near far t test (root_place shape) bytes (text_answer answer))
value_told near far t test shape bytes v (Ok answer) decodes answers =
    told near far t test shape bytes v (text_answer answer) decodes answers
value_told near far t test shape bytes v (Err e) decodes answers = tt

no_value : (near far : BodyForm) (t : TableData) (test : Test) (shape : ℕ) (bytes : List ℕ) (refusal : BodyRefusal) (a : TextAnswer)
    → DecodesAs (side_of near).syntax (near_codec near t test) shape bytes (Err refusal) → AnswersRefusal refusal a
    → TextAnswers near far t test (root_place shape) bytes a
no_value near far t test shape bytes (body.Syntax refusal) a h answers = no_text refusal h answers
no_value near far t test shape bytes (body.Fault f) a (n, is, decodes) answers = fault n f.path f.kind decodes.0 is decodes.1 answers
no_value near far t test shape bytes body.NoMemory a h answers = absurd answers

-- of one that has none
pub refusal_told : {E : Type 0} (near far : BodyForm) (t : TableData) (test : Test) (shape : ℕ) (bytes : List ℕ) (refusal : BodyRefusal)
    (r : Result BodyAnswer E) → DecodesAs (side_of near).syntax (near_codec near t test) shape bytes (Err refusal)
    → IfOk r (λ answer. AnswersRefusal refusal (text_answer answer))
    → IfOk r (λ answer. TextAnswers near far t test (root_place shape) bytes (text_answer answer))
refusal_told near far t test shape bytes refusal (Ok answer) h answers =
    no_value near far t test shape bytes refusal (text_answer answer) h answers
refusal_told near far t test shape bytes refusal (Err e) h answers = tt
