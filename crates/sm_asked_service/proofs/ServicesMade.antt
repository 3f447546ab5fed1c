-- What is known of a service that was compiled: the graph has it, its patterns are those that are carried, and it can be served once its
-- defaults are filled.
use Rattle.std.proofs.Common.{List, ℕ}
use Rattle.std.specs.Prelude.{Contains}
use Rattle.sm_model.specs.Graphs.{GraphMaps}
use Rattle.sm_shapes.specs.Fitting.{Test}
use Rattle.sm_codec.specs.Defaults.{filled}
use Rattle.sm_codec.proofs.FilledTables.{filled_is_shaped}
use Rattle.sm_compile.specs.Answers.{StoreSeen}
use Rattle.sm_compile.specs.Compiled.{IsFirstCarrier, texts_of}
use Rattle.sm_rules.specs.Ready.{IsOfService}
use Rattle.sm_rules.specs.Words.{IsService}
use Rattle.sm_service.specs.Answers.{IsServiceSeen}
use Rattle.sm_service.specs.Filled.{over_table}
use Rattle.sm_service.specs.Laws.{StaysServable}
use Rattle.sm_service.specs.ServiceData.{ServiceData}
use Rattle.sm_asked_service.specs.LoadsService.{CanBeServed}
use Rattle.sm_asked_service.specs.steps.ServiceSteps.{IsUnfilled}

module _ (g : GraphMaps) (service : List ℕ) (test : Test) (before now : StoreSeen) (one : ServiceData)
    (h : IsServiceSeen g service test before now one) where
  pub is_there : IsService g service
  is_there = (h.of_graph.s, h.of_graph.own, h.of_graph.kind)

  -- a pattern that is carried is one of the table's
  pub pattern_within : (u id : List ℕ) → IsFirstCarrier g (IsOfService g service) u id → Contains (texts_of one.table.patterns) u
  pattern_within u id first = h.of_graph.compiled.patterns.all u id first.carries

-- with its defaults filled it can be served
pub served_with : (s : ServiceData) (test : Test) (added : List (List ℕ)) → StaysServable → IsUnfilled s added
    → CanBeServed (over_table s (filled s.table test)) test added
served_with s test added stays h =
    let ready = filled_is_shaped s.table test h.servable.shaped h.none in
    record {
      servable = stays.stays s test h.servable ready.shaped;
      http_servable = stays.http_stays s test h.http_servable;
      pass = ready.pass;
      stored = h.stored;
    }

-- a service that was made is one to serve, once its defaults are filled
pub service_ready : (g : GraphMaps) (service : List ℕ) (test : Test) (before now : StoreSeen) (one : ServiceData)
    → IsServiceSeen g service test before now one → IsUnfilled one now.added
service_ready g service test before now one h =
    record { servable = h.servable; http_servable = h.http_servable; none = h.no_default; stored = h.built.stored }
