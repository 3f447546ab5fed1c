-- The service that is made of a graph is that of the graph, and what refuses it is told.
use Rattle.std.proofs.Common.{ℕ, List, Err, subst, sym}
use Rattle.sm_model.specs.GraphView.{maps_of}
use Rattle.sm_model.specs.declared.graph.Graph.{Graph}
use Rattle.sm_shapes.specs.Fitting.{Test}
use Rattle.sm_shapes.specs.TableView.{table_data}
use Rattle.sm_shapes.specs.declared.tables.Table.{Table}
use Rattle.sm_compile.specs.Answers.{StoreSeen}
use Rattle.sm_compile.specs.steps.Numbered.{numbering}
use Rattle.sm_rules.specs.Ready.{Ready}
use Rattle.sm_rules.specs.Words.{IsService}
use Rattle.sm_service.specs.Answers.{CompilesService, IsServiceSeen}
use Rattle.sm_service.specs.Compiled.{IsServiceOf}
use Rattle.sm_service.specs.ServiceView.{service_data}
use Rattle.sm_service.specs.declared.refusal.ServiceRefusal.{ServiceRefusal}
use Rattle.sm_service.specs.declared.refusal.ServiceRefusal.TheVariants.{NoMemory, NoService, Pattern}
use Rattle.sm_service.specs.declared.service.Service.{Service}
use Rattle.sm_service.specs.steps.ServicesMade.{IsServiceFrom}
use Rattle.sm_service.specs.steps.ServiceTables.{IsBoundTable, TablesService}
use Rattle.sm_service.proofs.HttpServes.{http_servable}
use Rattle.sm_service.proofs.ServableServices.{servable_ready}

module _ (g : Graph) (id : List ℕ) (test : Test) (before now : StoreSeen) (is : IsService (maps_of g) id) where
  pub refused_service : (r : ServiceRefusal) → TablesService g id test before now (Err r)
      → CompilesService (maps_of g) id test before now (Err r)
  refused_service NoService none = absurd none
  refused_service (Pattern carrier) h = (is, h)
  refused_service NoMemory h = h

  module _ (shapes : List ℕ) (ready : Ready (maps_of g) id) (table : Table)
      (bound : IsBoundTable g id shapes test before now (table_data table)) (made : Service)
      (from : IsServiceFrom g id shapes table made) where
    own_table : IsBoundTable g id shapes test before now (table_data made.table)
    own_table = subst (λ t. IsBoundTable g id shapes test before now (table_data t)) (sym from.table_is) bound

    of_graph : IsServiceOf (maps_of g) id (service_data made)
    of_graph = record {
      s = is.0;
      own = is.1;
      kind = is.2;
      numbering = numbering g shapes;
      compiled = own_table.of_shapes.compiled;
      binds = own_table.binds;
      name = from.name;
      operations = from.operations is.0 is.1;
    }

    pub service_seen : IsServiceSeen (maps_of g) id test before now (service_data made)
    service_seen = record {
      of_graph = of_graph;
      numbered = own_table.of_shapes.numbered;
      servable = servable_ready (maps_of g) id (service_data made) ready of_graph own_table.of_shapes.shaped;
      http_servable = http_servable (maps_of g) id (service_data made) ready of_graph own_table.of_shapes.shaped;
      built = own_table.of_shapes.built;
      no_default = own_table.of_shapes.no_default;
      added = own_table.of_shapes.added;
      refused = own_table.of_shapes.refused;
      refusals = own_table.of_shapes.refusals;
    }
