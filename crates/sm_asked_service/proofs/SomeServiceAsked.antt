-- Files that are there, and a store, come to some answer before a service that is compiled, or to that service. Where a case can't be
-- decided, each of its two sides is denied in turn.
use Rattle.std.proofs.Common.{◌≡◌, ℕ, List, Option, Some, sym, subst, refl}
use Rattle.std.specs.Prelude.{Contains}
use Rattle.sm_io.specs.Files.{Folder}
use Rattle.sm_compile.specs.Answers.{StoreSeen}
use Rattle.sm_compile.specs.Compiled.{IsFirstCarrier, texts_of}
use Rattle.sm_compile.proofs.OnePatterns.{column_of}
use Rattle.sm_asked_shape.specs.load.Laws.{ReadyModels, SomeLoad}
use Rattle.sm_rules.specs.Ready.{IsOfService}
use Rattle.sm_rules.specs.Words.{IsService}
use Rattle.sm_service.specs.Answers.{IsServiceSeen}
use Rattle.sm_service.specs.Laws.{SomeService}
use Rattle.sm_service.specs.ServiceData.{ServiceData}
use Rattle.sm_asked_shape.specs.asked.Answer.{Answer, refused, pattern_refused}
use Rattle.sm_asked_shape.specs.asked.AskedLaws.{AreThere}
use Rattle.sm_asked_shape.specs.asked.Lines.{pattern_line}
use Rattle.sm_asked_shape.specs.asked.Loading.{Loaded, LoadAnswers}
use Rattle.sm_asked_shape.specs.asked.Stages.{Told}
use Rattle.sm_asked_shape.specs.asked.declared.lines.Shown.TheVariants.{Errors}
use Rattle.sm_asked_shape.proofs.asked.SomeLoad.{load_answered}
use Rattle.sm_asked_shape.proofs.LoadedSpelled.{loaded_spelled}
use Rattle.sm_asked_service.specs.ServiceAnswers.{ServiceAnswers, no_service_line}
use Rattle.sm_asked_service.specs.ServiceAnswers.ServiceAnswers.{not_loaded, no_service, pattern}
use Rattle.sm_asked_service.specs.ServiceStages.{ServiceThere, ServiceMade}

module _ (services : SomeService) (models : ReadyModels) (t : Told) (names : List (List ℕ)) (service : List ℕ)
    (none : (a : Answer) → ServiceAnswers t names service a → ⊥) (unmade : ServiceMade t names service → ⊥) where
  -- a service that is there: a pattern of its table is the one that is refused, or none is
  by_compiled : (h : ServiceThere t names service) (now : StoreSeen) (one : ServiceData)
      → IsServiceSeen h.loaded.graph service t.test t.store now one → ⊥
  by_compiled h now one compiled = unmade (record { there = h; now = now; one = one; compiled = compiled; free = free })
    where
      free : (u : List ℕ) → t.refused ≡ Some u → Contains (texts_of one.table.patterns) u → ⊥
      free u is among =
          let g = h.loaded.graph in
          let patterns = compiled.of_graph.compiled.patterns in
          let first = column_of (λ v id. IsFirstCarrier g (IsOfService g service) v id) (texts_of one.table.patterns) patterns.firsts
          patterns.each u among in
          none (pattern_refused (pattern_line first.0)) (pattern h u first.0 is first.2 refl)

  -- a graph without the service, and with it: each service of a model that is accepted can be compiled
  by_graph : Loaded t.files names → ⊥
  by_graph loaded = none (refused (no_service_line service)) (no_service loaded (λ there. with_service there) refl)
    where
      with_service : IsService loaded.graph service → ⊥
      with_service there =
          let h : ServiceThere t names service = record { loaded = loaded; is = there } in
          services loaded.graph service t.test t.store (loaded_spelled t.files names loaded) there
          (models loaded.texts.read loaded.graph loaded.accepted service)
          (λ now one compiled. by_compiled h now one compiled)

-- what files that are told come to
abbrev FilesLoad : Option Folder → List (List ℕ) → Type 0
FilesLoad files names = ((a : Answer) → LoadAnswers Errors files names a → ⊥) → (Loaded files names → ⊥) → ⊥

pub service_answered : SomeService → SomeLoad → ReadyModels → (t : Told) (folder : Folder) → t.files ≡ Some folder
    → (names : List (List ℕ)) (service : List ℕ) → AreThere folder names
    → ((a : Answer) → ServiceAnswers t names service a → ⊥) → (ServiceMade t names service → ⊥) → ⊥
service_answered services loads models t folder files names service there none unmade =
    let come : FilesLoad t.files names = subst (λ x. FilesLoad x names) (sym files) (load_answered loads Errors folder names there) in
    come (λ a says. none a (not_loaded says)) (λ loaded. by_graph services models t names service none unmade loaded)
