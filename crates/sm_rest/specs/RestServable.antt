-- What restJson1 asks of a service besides `Servable`: what HTTP bindings ask, and that the texts which it writes into targets are bytes.
-- By the definitions alone such a text may have numbers above 255, which no escape stands for; of a service of the code each is a text in
-- UTF-8.
use Rattle.std.specs.Prelude.{◌≡◌, ◌<◌, ℕ, All, List, Some}
use Rattle.std.specs.List.{Contains}
use Rattle.sm_uri.specs.UriPattern.{QueryLiteral, UriSaid}
use Rattle.sm_uri.specs.declared.pattern.Segment.{Segment}
use Rattle.sm_parts.specs.Laws.{AreBytesOf}
use Rattle.sm_routes.specs.KeptOrder.{literal_bytes}
use Rattle.sm_routes.specs.Routes.{literal_pair}
use Rattle.sm_shapes.specs.TableData.{binding_at, query}
use Rattle.sm_bind_read.specs.service.HttpServable.{HttpServable}
use Rattle.sm_bind_read.specs.service.ServiceData.{HttpData, OperationData, ServiceData}

abbrev pub AreTextBytes : List ℕ → Type 0
AreTextBytes u = All (λ b. b < 256) u

-- the literals of a pattern: those of its segments, and those of its query
pub record HasByteLiterals (u : UriSaid) : Type 0 where
  pub segments : (segment : Segment) → Contains u.segments segment → AreTextBytes (literal_bytes segment)
  pub literals : (l : QueryLiteral) → Contains u.literals l → AreBytesOf (literal_pair l)

-- what is written into a target and is no part of a value: the literals of patterns, and the keys of queries
pub record HasTargetTexts (s : ServiceData) : Type 0 where
  pub patterns : (o : OperationData) (h : HttpData) → Contains s.operations o → o.http ≡ Some h → HasByteLiterals h.uri
  pub queries : (k : ℕ) (name : List ℕ) → binding_at s.table k ≡ Some (query name) → AreTextBytes name

pub record RestServable (s : ServiceData) : Type 0 where
  pub http : HttpServable s
  pub texts : HasTargetTexts s
