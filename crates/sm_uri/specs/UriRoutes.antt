-- When two patterns of URIs are one route: equal but for the names of their labels (Smithy 2.0, "http trait", "URI pattern conflicts").
use Rattle.std.specs.Prelude.{◌≡◌, ◌↔◌, [], ◌∷◌, map}
use Rattle.sm_bytes.specs.Ascii.{small_a}
use Rattle.sm_uri.specs.UriPattern.{UriSaid, IsUri, printed_uri}
use Rattle.sm_uri.specs.declared.pattern.Segment.{Segment}
use Rattle.sm_uri.specs.declared.pattern.Segment.TheVariants.{Literal, Label, Greedy}

-- every label by one name
abbrev pub one_named : Segment → Segment
one_named (Literal text) = Literal text
one_named (Label name) = Label (small_a ∷ [])
one_named (Greedy name) = Greedy (small_a ∷ [])

abbrev pub unnamed : UriSaid → UriSaid
unnamed u = record { segments = map one_named u.segments; literals = u.literals }

-- literals as they are written, those of the query in order
pub record IsSameRoute (u v : UriSaid) : Type 0 where
  pub segments : map one_named u.segments ≡ map one_named v.segments
  pub literals : u.literals ≡ v.literals

-- a law: patterns are one route exactly where their texts are equal once every label has one name
abbrev pub RoutesByTexts : Type 0
RoutesByTexts = (u v : UriSaid) → IsUri u → IsUri v → (printed_uri (unnamed u) ≡ printed_uri (unnamed v)) ↔ IsSameRoute u v
