-- The bindings and the routes that restJson1 keeps of a service.
use Rattle.std.specs.List.Sorted.{IsPermutation}
use Rattle.sm_bind_read.specs.service.ServiceData.{ServiceData}
use Rattle.sm_bind_read.specs.bind.BindingsView.{AreBindingsOf, bindings_data}
use Rattle.sm_routes.specs.RoutesView.{routes_view}
use Rattle.sm_rest_heads.specs.RestRoutes.{routes_of}
use Rattle.sm_rest.specs.declared.context.Rest.{Rest}

-- they are those of this service
pub record IsRestOf (s : ServiceData) (r : Rest) : Type 0 where
  pub bindings : AreBindingsOf s.table (bindings_data r.bindings)
  pub routes : IsPermutation (routes_of s) (routes_view r.routes)
