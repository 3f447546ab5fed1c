-- Which operation a request of restJson1 is for (Smithy 2.0, "http trait"): of the operations with a method and a pattern, whether they are
-- served or not, the one that no other goes before.
use Rattle.std.specs.Prelude.{◌≡◌, ◌++◌, ℕ, suc, true, List, [], ◌∷◌, Option, Some, None}
use Rattle.sm_http.specs.declared.message.Head.{Head}
use Rattle.sm_http.specs.declared.message.Start.{Start}
use Rattle.sm_http.specs.declared.message.Start.TheVariants.{Request}
use Rattle.sm_bind.specs.service.ServiceData.{HttpData, OperationData, ServiceData}
use Rattle.sm_routes.specs.Routes.{IsFirstRoute, RouteData, route_matches}
use Rattle.sm_messages.specs.Goals.{operation_at}

abbrev pub route_of : ℕ → List ℕ → HttpData → RouteData
route_of o name h = record { method = h.method; uri = h.uri; name = name; operation = o }

abbrev pub routes_at : ℕ → OperationData → Option HttpData → List RouteData
routes_at o operation None = []
routes_at o operation (Some h) = route_of o operation.name h ∷ []

abbrev pub routes_from : ℕ → List OperationData → List RouteData
routes_from o [] = []
routes_from o (operation ∷ operations) = routes_at o operation operation.http ++ routes_from (suc o) operations

abbrev pub routes_of : ServiceData → List RouteData
routes_of s = routes_from 0 s.operations

-- the head is one of a request that the pattern of the operation matches
pub record IsForOperation (s : ServiceData) (o : ℕ) (head : Head) : Type 0 where
  pub method : List ℕ
  pub target : List ℕ
  pub start : Path Start head.start (Request method target)
  pub rule : HttpData
  pub has_rule : (operation_at s o).http ≡ Some rule
  pub matches : route_matches method target (route_of o (operation_at s o).name rule) ≡ true

-- and no operation that it matches goes before this one
pub record GoesTo (s : ServiceData) (head : Head) (o : ℕ) : Type 0 where
  pub method : List ℕ
  pub target : List ℕ
  pub start : Path Start head.start (Request method target)
  pub first : IsFirstRoute (routes_of s) method target o

-- what a head asks for, if it asks for one
abbrev pub IsAskedFor : ServiceData → Head → Option ℕ → Type 0
IsAskedFor s head None = (o : ℕ) → GoesTo s head o → ⊥
IsAskedFor s head (Some o) = GoesTo s head o
