-- The order in which routes are kept: paths up to their first greedy label segment by segment, a literal before a label, a label before a
-- greedy one, that before the end of the path, and of two literals the smaller one first; where these are alike, that in which routes go
-- first. Of two routes that match one target it is the order in which they go first. So what begins alike stands together.
use Rattle.std.specs.Prelude.{ℕ, Bool, true, false, cond, List, [], ◌∷◌}
use Rattle.std.specs.Cmp.Lexicographic.{slice_cmp}
use Rattle.std.specs.List.Sorted.{IsSortedBy}
use Rattle.std.specs.Ordering.{is_lt, nat_cmp, ordering_then}
use Rattle.std.specs.declared.cmp.Ordering.{Ordering}
use Rattle.sm_model.specs.Graphs.{text_cmp}
use Rattle.sm_uri.specs.declared.pattern.Segment.{Segment}
use Rattle.sm_uri.specs.declared.pattern.Segment.TheVariants.{Literal, Label, Greedy}
use Rattle.sm_routes.specs.RouteView.{route_data}
use Rattle.sm_routes.specs.Routes.{RouteData, route_cmp, segment_rank}
use Rattle.sm_routes.specs.declared.route.Route.{Route}

abbrev pub is_greedy : Segment → Bool
is_greedy (Literal text) = false
is_greedy (Label name) = false
is_greedy (Greedy name) = true

abbrev pub literal_bytes : Segment → List ℕ
literal_bytes (Literal text) = text
literal_bytes (Label name) = []
literal_bytes (Greedy name) = []

-- where a segment stands among others
abbrev pub SegmentPlace : Type 0
SegmentPlace = ℕ × List ℕ

abbrev pub place_of : Segment → SegmentPlace
place_of segment = (segment_rank segment, literal_bytes segment)

abbrev pub place_cmp : SegmentPlace → SegmentPlace → Ordering
place_cmp p q = ordering_then (nat_cmp p.0 q.0) (text_cmp p.1 q.1)

-- the places of the segments up to the first greedy label; the end is the last
abbrev pub places_of : List Segment → List SegmentPlace
places_of [] = (3, []) ∷ []
places_of (segment ∷ segments) = place_of segment ∷ cond (is_greedy segment) [] (places_of segments)

abbrev pub places_cmp : List Segment → List Segment → Ordering
places_cmp ss ts = slice_cmp place_cmp (places_of ss) (places_of ts)

abbrev pub kept_cmp : RouteData → RouteData → Ordering
kept_cmp r s = ordering_then (places_cmp r.uri.segments s.uri.segments) (route_cmp r s)

abbrev pub stands_first : Route → Route → Bool
stands_first r s = is_lt (kept_cmp (route_data r) (route_data s))

-- none stands before the one that it goes behind
abbrev pub AreOrdered : List Route → Type 0
AreOrdered rows = IsSortedBy stands_first rows
