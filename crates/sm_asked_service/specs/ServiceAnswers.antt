-- What stands before a service of a model that is compiled. The decisions stand in their order: the model files, the service, its patterns.
-- Each service of a model that is loaded can be compiled.
use Rattle.std.specs.Prelude.{◌≡◌, ℕ, List, Some, codes}
use Rattle.sm_compile.specs.Compiled.{IsFirstCarrier}
use Rattle.sm_rules.specs.Ready.{IsOfService}
use Rattle.sm_rules.specs.Words.{IsService}
use Rattle.sm_lines.specs.Lines.{line}
use Rattle.sm_asked_shape.specs.asked.Answer.{Answer, refused, pattern_refused}
use Rattle.sm_asked_shape.specs.asked.Lines.{pattern_line}
use Rattle.sm_asked_shape.specs.asked.Loading.{Loaded, LoadAnswers}
use Rattle.sm_asked_shape.specs.asked.Stages.{Told}
use Rattle.sm_asked_shape.specs.asked.declared.lines.Shown.TheVariants.{Errors}
use Rattle.sm_asked_service.specs.ServiceStages.{ServiceThere}

-- the model has no service of this name
abbrev pub no_service_line : List ℕ → List ℕ
no_service_line service = line (codes "NoService") service

pub data ServiceAnswers (t : Told) (names : List (List ℕ)) (service : List ℕ) (a : Answer) : Type 0 where
  not_loaded : LoadAnswers Errors t.files names a → ServiceAnswers t names service a
  no_service : (loaded : Loaded t.files names) → (IsService loaded.graph service → ⊥) → a ≡ refused (no_service_line service)
      → ServiceAnswers t names service a
  pattern : (there : ServiceThere t names service) → (u id : List ℕ) → t.refused ≡ Some u
      → IsFirstCarrier there.loaded.graph (IsOfService there.loaded.graph service) u id → a ≡ pattern_refused (pattern_line id)
      → ServiceAnswers t names service a
