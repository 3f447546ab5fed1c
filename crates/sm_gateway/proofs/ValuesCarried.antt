-- A value of one side on the other: it is carried, or the first path that isn't is told.
use Rattle.std.proofs.Common.{◌≡◌, ℕ, List, [], ◌∷◌, None, Some, Ok, Err, refl, sym, ap, ◌∙◌, inr}
use Rattle.std.specs.Prelude.{IfOk, Result}
use Rattle.std.proofs.lemmas.Option.{same_Some}
use Rattle.sm_bytes.specs.declared.no_memory.NoMemory.{NoMemory}
use Rattle.sm_tree.specs.declared.path.Step.{Step}
use Rattle.sm_shapes.specs.Values.{Val}
use Rattle.sm_shapes.specs.declared.fault.FaultKind.TheVariants.{NotCarried}
use Rattle.sm_codec.specs.Encoded.{first_path}
use Rattle.sm_http.specs.declared.message.Message.{Message}
use Rattle.sm_protocols.specs.service.ServiceData.{ServiceData}
use Rattle.sm_protocols.specs.messages.Answers.{RefusedAs}
use Rattle.sm_protocols.specs.messages.Goals.{Goal}
use Rattle.sm_protocols.specs.messages.MessageAnswers.{Refusal, by_fault}
use Rattle.sm_protocols.specs.messages.MessageForm.{MessageForm}
use Rattle.sm_protocols.specs.messages.declared.refusal.MessageRefusal.{MessageRefusal}
use Rattle.sm_gateway.specs.Answers.{IsSaid}
use Rattle.sm_gateway.specs.RefusalAnswers.{back_refusal_answer, refusal_answer}
use Rattle.sm_gateway.specs.steps.Reading.{NotCarriedAs, TellsFor, WritesFor}
use Rattle.sm_gateway.proofs.RefusalsSaid.{is_said, said_is}

no_path : (paths : List (List Step)) → None ≡ first_path paths → paths ≡ []
no_path [] e = refl
no_path (path ∷ more) e = absurd cc

one_path : (paths : List (List Step)) (path : List Step) → Some path ≡ first_path paths → (more : List (List Step)) × (paths ≡ path ∷ more)
one_path [] path e = absurd cc
one_path (first ∷ more) path e = (more, ap (λ p. p ∷ more) (sym (same_Some path first e)))

pub carried_of : (f : MessageForm) (s : ServiceData) (goal : Goal) (v : Val) → None ≡ first_path (f.uncarried s goal v)
    → f.uncarried s goal v ≡ []
carried_of f s goal v told = no_path (f.uncarried s goal v) told

pub not_carried_of : (f : MessageForm) (s : ServiceData) (goal : Goal) (v : Val) (path : List Step)
    → Some path ≡ first_path (f.uncarried s goal v) → (more : List (List Step)) × (f.uncarried s goal v ≡ path ∷ more)
not_carried_of f s goal v path told = one_path (f.uncarried s goal v) path told

-- what is answered where it isn't
pub answered_uncarried : (refusal : MessageRefusal) (path : List Step) (a : Message) → IsSaid refusal (by_fault path NotCarried)
    → ((r : Refusal) × IsSaid refusal r × (a ≡ refusal_answer r)) → a ≡ refusal_answer (by_fault path NotCarried)
answered_uncarried refusal path a said (r, told, is) = is ∙ ap refusal_answer (same_Some r (by_fault path NotCarried) (sym told ∙ said))

pub refused_uncarried : (f : MessageForm) (s : ServiceData) (goal : Goal) (v : Val) (refusal : MessageRefusal) (path : List Step)
    → IsSaid refusal (by_fault path NotCarried) → ((more : List (List Step)) × (f.uncarried s goal v ≡ path ∷ more))
    → RefusedAs (NotCarriedAs f s goal v) refusal
refused_uncarried f s goal v refusal path said (more, are) =
    is_said (NotCarriedAs f s goal v) refusal (by_fault path NotCarried) said (path, more, are, refl)

pub told_uncarried : (f : MessageForm) (s : ServiceData) (host : List ℕ) (goal : Goal) (v : Val) (refusal : MessageRefusal)
    (result : Result Message NoMemory) → WritesFor f s host goal v (Err refusal)
    → IfOk result (λ a. (r : Refusal) × IsSaid refusal r × (a ≡ back_refusal_answer r)) → TellsFor f s host goal v result
told_uncarried f s host goal v refusal (Ok a) refused (r, said, is) =
    let (path, more, are, same) = said_is (NotCarriedAs f s goal v) refusal r said refused in
    inr (path, more, are, is ∙ ap back_refusal_answer same)
told_uncarried f s host goal v refusal (Err out_of_memory) refused told = tt
