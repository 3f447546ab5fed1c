-- Which operation a request is for, by the methods and the patterns of URIs of operations (Smithy 2.0, "http trait"): which targets a pattern
-- matches, what its labels stand for, and which of several patterns that match goes first. That choice is this project's own.
use Rattle.std.specs.Prelude.{◌≡◌, ◌-◌, ◌&&◌, ℕ, Bool, true, false, nat_lt, cond, List, [], ◌∷◌, length, take, drop, Option, Some, None}
use Rattle.std.specs.Prelude.{unwrap_or, codes}
use Rattle.std.specs.List.{Contains, join_with_byte, list_all, list_any}
use Rattle.std.specs.Ordering.{nat_cmp, ordering_then}
use Rattle.std.specs.declared.cmp.Ordering.{Ordering}
use Rattle.std.specs.declared.cmp.Ordering.TheVariants.{Less, Equal}
use Rattle.std.specs.Str.{bytes_eq}
use Rattle.percent_encoding.specs.Percent.{percent_decode}
use Rattle.sm_bytes.specs.Ascii.{slash}
use Rattle.sm_model.specs.Graphs.{text_cmp}
use Rattle.sm_uri.specs.UriPattern.{QueryLiteral, UriSaid}
use Rattle.sm_uri.specs.declared.pattern.Segment.{Segment}
use Rattle.sm_uri.specs.declared.pattern.Segment.TheVariants.{Literal, Label, Greedy}
use Rattle.sm_parts.specs.HeaderLists.{is_filled}
use Rattle.sm_parts.specs.Targets.{QueryPair, path_of, query_of, query_pairs, segments_of}

-- an operation as requests find it
pub record RouteData : Type 0 where
  pub method : List ℕ
  pub uri : UriSaid
  pub name : List ℕ
  -- its number, which is answered
  pub operation : ℕ

-- operations with another method aren't found
abbrev pub routed_methods : List (List ℕ)
routed_methods = codes "GET" ∷ codes "PUT" ∷ codes "POST" ∷ codes "PATCH" ∷ codes "DELETE" ∷ []

abbrev pub is_routed : List ℕ → Bool
is_routed method = list_any (bytes_eq method) routed_methods

-- how many of these segments of a path a greedy label takes, where these are behind it in its pattern: no other is greedy, so each of them
-- takes one
abbrev pub greedy_count : List Segment → List (List ℕ) → ℕ
greedy_count behind pieces = length pieces - length behind

abbrev pub greedy_text : List Segment → List (List ℕ) → List ℕ
greedy_text behind pieces = join_with_byte slash (take (greedy_count behind pieces) pieces)

-- Segments of a pattern match those of a path: a literal is equal to one once that is decoded, a label takes one that isn't empty, and a greedy
-- label one or more whose text isn't empty
abbrev pub segments_match : List Segment → List (List ℕ) → Bool
segments_match [] [] = true
segments_match [] (piece ∷ pieces) = false
segments_match (segment ∷ segments) [] = false
segments_match (Literal text ∷ segments) (piece ∷ pieces) = bytes_eq (percent_decode piece) text && segments_match segments pieces
segments_match (Label name ∷ segments) (piece ∷ pieces) = is_filled piece && segments_match segments pieces
segments_match (Greedy name ∷ segments) (piece ∷ pieces) =
    nat_lt (length segments) (length (piece ∷ pieces))
    && (is_filled (greedy_text segments (piece ∷ pieces))
    && segments_match segments (drop (greedy_count segments (piece ∷ pieces)) (piece ∷ pieces)))

abbrev pub path_matches : List Segment → Option (List (List ℕ)) → Bool
path_matches segments None = false
path_matches segments (Some pieces) = segments_match segments pieces

-- a literal of a query as a pair: without a value it is the empty one
abbrev pub literal_pair : QueryLiteral → QueryPair
literal_pair l = (l.0, unwrap_or l.1 [])

abbrev pub is_pair : QueryPair → QueryPair → Bool
is_pair wanted pair = bytes_eq pair.0 wanted.0 && bytes_eq pair.1 wanted.1

-- each literal stands among the pairs
abbrev pub literals_stand : List QueryLiteral → List QueryPair → Bool
literals_stand literals pairs = list_all (λ l. list_any (is_pair (literal_pair l)) pairs) literals

-- the pattern matches the target
abbrev pub uri_matches : UriSaid → List ℕ → Bool
uri_matches u target =
    path_matches u.segments (segments_of (path_of target)) && literals_stand u.literals (query_pairs (query_of target))

abbrev pub route_matches : List ℕ → List ℕ → RouteData → Bool
route_matches method target r = is_routed method && (bytes_eq r.method method && uri_matches r.uri target)

-- what the labels stand for in a path that the segments match
abbrev pub labels_of : List Segment → List (List ℕ) → List (List ℕ × List ℕ)
labels_of [] pieces = []
labels_of (segment ∷ segments) [] = []
labels_of (Literal text ∷ segments) (piece ∷ pieces) = labels_of segments pieces
labels_of (Label name ∷ segments) (piece ∷ pieces) = (name, percent_decode piece) ∷ labels_of segments pieces
labels_of (Greedy name ∷ segments) (piece ∷ pieces) =
    (name, percent_decode (greedy_text segments (piece ∷ pieces)))
    ∷ labels_of segments (drop (greedy_count segments (piece ∷ pieces)) (piece ∷ pieces))

-- the pairs that members read: each literal takes the first pair equal to it that no earlier literal took
abbrev pub without_first : QueryPair → List QueryPair → List QueryPair
without_first wanted [] = []
without_first wanted (pair ∷ pairs) = cond (is_pair wanted pair) pairs (pair ∷ without_first wanted pairs)

abbrev pub without_literals : List QueryLiteral → List QueryPair → List QueryPair
without_literals [] pairs = pairs
without_literals (l ∷ ls) pairs = without_literals ls (without_first (literal_pair l) pairs)

-- Of two patterns that match, segment by segment a literal goes before a label and a label before a greedy one; where no segment decides,
-- more segments go first, then more literals of the query, then the smaller name
abbrev pub segment_rank : Segment → ℕ
segment_rank (Literal text) = 0
segment_rank (Label name) = 1
segment_rank (Greedy name) = 2

abbrev pub ranks_cmp : List Segment → List Segment → Ordering
ranks_cmp [] ts = Equal
ranks_cmp (s ∷ ss) [] = Equal
ranks_cmp (s ∷ ss) (t ∷ ts) = ordering_then (nat_cmp (segment_rank s) (segment_rank t)) (ranks_cmp ss ts)

abbrev pub route_cmp : RouteData → RouteData → Ordering
route_cmp r s =
    ordering_then (ranks_cmp r.uri.segments s.uri.segments)
    (ordering_then (nat_cmp (length s.uri.segments) (length r.uri.segments))
    (ordering_then (nat_cmp (length s.uri.literals) (length r.uri.literals)) (text_cmp r.name s.name)))

abbrev pub GoesBefore : RouteData → RouteData → Type 0
GoesBefore r s = route_cmp r s ≡ Less

-- of these routes, one with this number matches, and none that matches goes before it; or none matches
pub record IsFirstRoute (rs : List RouteData) (method target : List ℕ) (n : ℕ) : Type 0 where
  pub route : RouteData
  pub there : Contains rs route
  pub number : route.operation ≡ n
  pub matches : route_matches method target route ≡ true
  pub first : (r : RouteData) → Contains rs r → route_matches method target r ≡ true → GoesBefore r route → ⊥

abbrev pub IsRouted : List RouteData → List ℕ → List ℕ → Option ℕ → Type 0
IsRouted rs method target (Some n) = IsFirstRoute rs method target n
IsRouted rs method target None = (r : RouteData) → Contains rs r → route_matches method target r ≡ true → ⊥
