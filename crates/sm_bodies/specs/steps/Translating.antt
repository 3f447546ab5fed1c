-- What the answers to a body say: to one of a value, and to one without.
use Rattle.std.specs.Prelude.{◌≡◌, [], Some}
use Rattle.sm_shapes.specs.Places.{Place}
use Rattle.sm_shapes.specs.TableData.{TableData}
use Rattle.sm_shapes.specs.Values.{Val}
use Rattle.sm_shapes.specs.declared.fault.FaultKind.TheVariants.{NotCarried}
use Rattle.sm_codec.specs.Encoded.{first_path}
use Rattle.sm_bodies.specs.TextAnswers.{TextAnswer, the_text, the_refusal, the_fault, far_uncarried, far_text}
use Rattle.sm_bodies.specs.declared.form.BodyForm.{BodyForm}
use Rattle.sm_bodies.specs.declared.reading.BodyRefusal.{BodyRefusal}
use Rattle.sm_bodies.specs.declared.reading.BodyRefusal.TheVariants.{Syntax, Fault, NoMemory}

-- the far side's text of the value, or its first leaf that the far side can't spell
abbrev pub AnswersValue : BodyForm → TableData → Place → Val → TextAnswer → Type 0
AnswersValue far t p v (the_text u) = (far_uncarried far t p v ≡ []) × (u ≡ far_text far t p v)
AnswersValue far t p v (the_fault path kind) = (first_path (far_uncarried far t p v) ≡ Some path) × (kind ≡ NotCarried)
AnswersValue far t p v (the_refusal refusal) = ⊥

-- what the refusal tells
abbrev pub AnswersRefusal : BodyRefusal → TextAnswer → Type 0
AnswersRefusal (Syntax refusal) a = a ≡ the_refusal refusal
AnswersRefusal (Fault f) a = a ≡ the_fault f.path f.kind
AnswersRefusal NoMemory a = ⊥
