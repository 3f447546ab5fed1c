-- The routes of operations as texts.
use Rattle.std.specs.Prelude.{◌≡◌, ◌↔◌, ◌<◌, ◌++◌, ◌∷◌, ℕ, List, [], Option, Some, None, length}
use Rattle.std.specs.List.{Contains}
use Rattle.sm_bytes.specs.Ascii.{number_sign}
use Rattle.sm_model.specs.Graphs.{GraphMaps}
use Rattle.sm_model.specs.GraphView.{entries_of, maps_of}
use Rattle.sm_model.specs.Reaching.{id_of_number}
use Rattle.sm_model.specs.declared.graph.Graph.{Graph}
use Rattle.sm_uri.specs.UriPattern.{UriSaid, printed_uri}
use Rattle.sm_uri.specs.UriRoutes.{unnamed}
use Rattle.sm_rules.specs.Http.{HasSameRoute, HasUri, method_of}

-- a pattern without the names of its labels, and the method behind a `#`, which no pattern has
abbrev pub method_tail : Option (List ℕ) → List ℕ
method_tail None = []
method_tail (Some method) = number_sign ∷ method

abbrev pub key_of : UriSaid → Option (List ℕ) → List ℕ
key_of u method = printed_uri (unnamed u) ++ method_tail method

abbrev pub IsRouteKey : GraphMaps → List ℕ → List ℕ → Type 0
IsRouteKey g id key = (u : UriSaid) × HasUri g id u × (key ≡ key_of u (method_of g id))

abbrev pub IsKeyAt : Graph → ℕ → Option (List ℕ) → Type 0
IsKeyAt g k None = (key : List ℕ) → IsRouteKey (maps_of g) (id_of_number g k) key → ⊥
IsKeyAt g k (Some key) = IsRouteKey (maps_of g) (id_of_number g k) key

-- these rows are the routes of the numbers below one
abbrev pub AreRoutesBelow : Graph → ℕ → List (List ℕ × ℕ) → Type 0
AreRoutesBelow g n rows = (r : List ℕ × ℕ) → Contains rows r ↔ ((r.1 < n) × IsRouteKey (maps_of g) (id_of_number g r.1) r.0)

abbrev pub AreRoutes : Graph → List (List ℕ × ℕ) → Type 0
AreRoutes g rows = AreRoutesBelow g (length (entries_of g)) rows

-- the service in whose closure both stand
abbrev pub closure_of_route : (g : GraphMaps) (operation smaller : List ℕ) → HasSameRoute g operation smaller → List ℕ
closure_of_route g operation smaller h = h.service
