-- What an answer of the code stands for. Contracts that speak of one cite it.
use Rattle.sm_bodies.specs.TextAnswers.{TextAnswer, the_text, the_refusal, the_fault}
use Rattle.sm_bodies.specs.declared.translating.BodyAnswer.{BodyAnswer}
use Rattle.sm_bodies.specs.declared.translating.BodyAnswer.TheVariants.{Text, Syntax, Fault}

abbrev pub text_answer : BodyAnswer → TextAnswer
text_answer (Text bytes) = the_text bytes.items
text_answer (Syntax refusal) = the_refusal refusal
text_answer (Fault f) = the_fault f.path f.kind
