-- A service that is ready has one over each store: it can't be that it has none. So has each service of a graph in which no rule fails.
use Rattle.std.proofs.Common.{ℕ, List, [], ◌++◌, refl}
use Rattle.sm_model.specs.Graphs.{GraphMaps}
use Rattle.sm_shapes.specs.Fitting.{Test}
use Rattle.sm_shapes.specs.TableData.{TableData}
use Rattle.sm_compile.specs.Answers.{StoreSeen}
use Rattle.sm_compile.specs.Compiled.{Numbering, texts_of}
use Rattle.sm_compile.specs.steps.Numbered.{numbered_by}
use Rattle.sm_compile.proofs.SomeRows.{IsSoundSet}
use Rattle.sm_compile.proofs.SomeTable.{some_table_of_set}
use Rattle.sm_ids.specs.TextParts.{name_part}
use Rattle.sm_rules.specs.Ready.{IsOfService, Ready}
use Rattle.sm_rules.specs.Words.{IsService}
use Rattle.sm_accepted.proofs.ClosedSets.{service_closed}
use Rattle.sm_accepted.proofs.ReadyGraphs.{ready_graph, sound_ready}
use Rattle.sm_service.specs.Answers.{IsServiceSeen}
use Rattle.sm_service.specs.Compiled.{AreOperationsOf, IsServiceOf}
use Rattle.sm_service.specs.Laws.{ServiceWhereNoneFails, SomeService}
use Rattle.sm_service.specs.ServiceData.{OperationData, ServiceData}
use Rattle.sm_service.proofs.HttpServes.{http_servable}
use Rattle.sm_service.proofs.ServableServices.{servable_ready}
use Rattle.sm_service.proofs.SomeBindings.{IsBoundTableOf, bound_there}
use Rattle.sm_service.proofs.SomeOperations.{some_operations}

module _ (g : GraphMaps) (id : List ℕ) (is : IsService g id) (ready : Ready g id) where
  sound_inside : IsSoundSet g (IsOfService g id)
  sound_inside shape s inside there has = sound_ready g id is ready shape inside (s, there, has) shape s ([], refl) there

  module _ (test : Test) (before : StoreSeen) (n : Numbering) (t : TableData) (bound : IsBoundTableOf g id before.added n t)
      (os : List OperationData) (operations : AreOperationsOf g id n is.0 os) where
    abbrev service : ServiceData
    service = record { table = t; name = name_part id; operations = os }

    abbrev now : StoreSeen
    now = record { added = before.added ++ texts_of t.patterns; refused = before.refused; refusals = before.refusals }

    of_graph : IsServiceOf g id service
    of_graph = record {
      s = is.0;
      own = is.1;
      kind = is.2;
      numbering = n;
      compiled = bound.compiled;
      binds = bound.binds;
      name = refl;
      operations = operations;
    }

    made_seen : IsServiceSeen g id test before now service
    made_seen = record {
      of_graph = of_graph;
      numbered = bound.numbered;
      servable = servable_ready g id service ready of_graph bound.shaped;
      http_servable = http_servable g id service ready of_graph bound.shaped;
      built = bound.built test;
      no_default = bound.no_default;
      added = refl;
      refused = refl;
      refusals = refl;
    }

pub some_service : SomeService
some_service g id test before spelled is ready none =
    some_table_of_set g (IsOfService g id) before.added (service_closed g id is) (sound_inside g id is ready) spelled (λ ids t h.
    let u = bound_there g id is ready before.added ids t h in
    let n = numbered_by g ids in
    some_operations g id is ready n u.1.compiled.shapes (λ os operations.
    none (now g id is ready test before n u.0 u.1 os operations) (service g id is ready test before n u.0 u.1 os operations)
    (made_seen g id is ready test before n u.0 u.1 os operations)))

pub service_where_none_fails : ServiceWhereNoneFails
service_where_none_fails g id test before formed spelled none is =
    some_service g id test before spelled is (ready_graph g formed none id)
