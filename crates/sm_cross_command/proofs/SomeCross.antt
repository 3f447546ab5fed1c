-- Files that are there, an input and a store come to some session, or to an answer before it. Where a case can't be decided, each of its
-- two sides is denied in turn.
use Rattle.std.proofs.Common.{◌≡◌, ℕ, inl, inr, List, [], ◌∷◌, ◌++◌, Some, length, sym, subst, refl, arith}
use Rattle.std.proofs.lemmas.Bool.{cases_lt}
use Rattle.std.proofs.lemmas.List.Elements.{Contains-append_left, Contains-append_right}
use Rattle.sm_io.specs.Files.{Folder, Holds, file_at}
use Rattle.sm_asked_ends.specs.load.Laws.{ReadyModels, SomeLoad}
use Rattle.sm_asked_gateway.specs.service.Laws.{SomeService, StaysServable}
use Rattle.sm_session.specs.Sessions.{turn_limit}
use Rattle.sm_asked_ends.specs.asked.Answer.{Came, came, came_writing, past}
use Rattle.sm_asked_ends.specs.asked.Answer.InputUse.{in_part, untouched}
use Rattle.sm_asked_ends.specs.asked.AskedLaws.{AreThere, ComesToSome, TellsAll}
use Rattle.sm_asked_ends.specs.asked.Limits.{file_limit}
use Rattle.sm_asked_ends.specs.asked.Lines.{file_limit_line}
use Rattle.sm_asked_ends.specs.asked.Stages.{Told, IsInput}
use Rattle.sm_asked_gateway.specs.asked_service.ServiceStages.{ServiceMade}
use Rattle.sm_asked_gateway.proofs.asked_service.SomeServiceAsked.{service_answered}
use Rattle.sm_asked_gateway.specs.gateway.Laws.{SomeSession}
use Rattle.sm_asked_gateway.specs.rest.Laws.{TargetTextsWhereJson}
use Rattle.sm_cross_command.specs.Cross.{CrossSays, cross_asked, requests_file, session_answer}
use Rattle.sm_cross_command.specs.Cross.CrossAnswers.{not_made, long_back}
use Rattle.sm_cross_command.specs.Cross.CrossSays.{not_opened, session}
use Rattle.sm_cross_command.specs.CrossStages.{CrossOpens, gateway_of}
use Rattle.sm_cross_command.specs.CrossWords.{CrossAsked}
use Rattle.sm_cross_command.proofs.OneCross.{opens_serves}

module _ (stays : StaysServable) (texts : TargetTextsWhereJson) (sessions : SomeSession) (t : Told) (folder : Folder) (input : List ℕ)
    (all : TellsAll t folder input) (w : CrossAsked) (none : (c : Came) → CrossSays t w c → ⊥) where
  -- a session that may begin
  by_session : CrossOpens t w → ⊥
  by_session o =
      sessions (gateway_of t w o) t.test (opens_serves stays texts t w o) turn_limit input o.back.bytes (omega arith)
      (λ said x. none (came_writing in_part (session_answer said) (Some (requests_file w.out_file said)))
      (session o input (subst (λ i. IsInput i input) (sym all.input) refl) said x refl))

  -- the back's file, by its length
  by_back : ServiceMade t w.models w.service → (bytes : List ℕ) → file_at folder w.back_file ≡ Some bytes → ⊥
  by_back made bytes there = elim (cases_lt file_limit (length bytes)) [
    | inl long ↦ none (came untouched (past file_limit_line)) (not_opened (past file_limit_line)
        (long_back made (record { bytes = bytes; held = held; long = long }) refl) refl)
    | inr within ↦ by_session (record { made = made; back = record { bytes = bytes; held = held; within = within } })
  ]
    where
      held : Holds t.files w.back_file (Some bytes)
      held = subst (λ f. Holds f w.back_file (Some bytes)) (sym all.files) there

-- files that are read, and among them the last
behind_there : (folder : Folder) (names : List (List ℕ)) (last : List ℕ) → AreThere folder (names ++ last ∷ []) → AreThere folder names
behind_there folder names last there name among = there name (Contains-append_left names (last ∷ []) name among)

last_there : (folder : Folder) (names : List (List ℕ)) (last : List ℕ) → AreThere folder (names ++ last ∷ [])
    → (file : List ℕ) × (file_at folder last ≡ Some file)
last_there folder names last there = there last (Contains-append_right names (last ∷ []) last (0, omega arith, refl))

pub some_cross : SomeService → SomeLoad → ReadyModels → StaysServable → TargetTextsWhereJson → SomeSession → (w : CrossAsked)
    → ComesToSome (cross_asked w)
some_cross services loads ready stays texts sessions w t folder input all there none =
    let back = last_there folder w.models w.back_file there in
    service_answered services loads ready t folder all.files w.models w.service (behind_there folder w.models w.back_file there)
    (λ a says. none (came untouched a) (not_opened a (not_made says) refl))
    (λ made. by_back stays texts sessions t folder input all w none made back.0 back.1)
