-- How the routes that a target can't match are passed without a look at each: those that begin alike, and of which the next segment stands
-- alike to the next one of the target.
use Rattle.std.specs.Prelude.{◌≡◌, ◌≤◌, ◌<◌, ◌&&◌, ℕ, Bool, true, false, cond, suc, zero, List, [], ◌∷◌, drop, get_or, length, Option, Some, None}
use Rattle.std.specs.Option.{option_copied}
use Rattle.std.specs.Str.{bytes_eq}
use Rattle.std.specs.declared.cmp.Ordering.{Ordering}
use Rattle.std.specs.declared.cmp.Ordering.TheVariants.{Less, Equal, Greater}
use Rattle.percent_encoding.specs.Percent.{percent_decode}
use Rattle.sm_model.specs.Graphs.{text_cmp}
use Rattle.sm_uri.specs.declared.pattern.Segment.{Segment}
use Rattle.sm_uri.specs.declared.pattern.Segment.TheVariants.{Literal, Label, Greedy}
use Rattle.sm_parts.specs.HeaderLists.{is_filled}
use Rattle.sm_routes.specs.Routes.{segments_match}
use Rattle.sm_routes.specs.declared.route.Route.{Route}
use Rattle.sm_routes.specs.declared.stand.Stand.{Stand}
use Rattle.sm_routes.specs.declared.stand.Stand.TheVariants.{Under, Alike, Over, Open, Wide, Short}
use Rattle.sm_routes.specs.declared.walk.Pieces.{Pieces}
use Rattle.sm_routes.specs.declared.walk.Stop.{Stop}
use Rattle.sm_routes.specs.declared.walk.Walk.{Walk}
use Rattle.sm_routes.specs.declared.walk.Walk.TheVariants.{Ends, Stops}
use Rattle.sm_routes.specs.steps.Matching.{pieces_left}

-- the first segment of what is left of a path
abbrev pub first_piece : List (List ℕ) → Option (List ℕ)
first_piece [] = None
first_piece (piece ∷ pieces) = Some piece

-- how a pattern of which these segments are left stands to that
abbrev pub literal_stand : Ordering → Stand
literal_stand Less = Under
literal_stand Equal = Alike
literal_stand Greater = Over

abbrev pub segment_stand : Segment → List ℕ → Stand
segment_stand (Literal text) piece = literal_stand (text_cmp text (percent_decode piece))
segment_stand (Label name) piece = cond (is_filled piece) Open Over
segment_stand (Greedy name) piece = Wide

abbrev pub stand_of : List Segment → Option (List ℕ) → Stand
stand_of [] None = Alike
stand_of (segment ∷ segments) None = Under
stand_of [] (Some piece) = Short
stand_of (segment ∷ segments) (Some piece) = segment_stand segment piece

-- what stands so doesn't match
abbrev pub misses : Stand → Bool
misses Under = true
misses Alike = false
misses Over = true
misses Open = false
misses Wide = false
misses Short = true

abbrev pub is_wide : Stand → Bool
is_wide Under = false
is_wide Alike = false
is_wide Over = false
is_wide Open = false
is_wide Wide = true
is_wide Short = false

-- so many first segments are alike, and none of them is greedy
abbrev pub is_alike : Segment → Segment → Bool
is_alike (Literal text) (Literal other) = bytes_eq text other
is_alike (Literal text) (Label other) = false
is_alike (Literal text) (Greedy other) = false
is_alike (Label name) (Literal other) = false
is_alike (Label name) (Label other) = true
is_alike (Label name) (Greedy other) = false
is_alike (Greedy name) other = false

abbrev pub begin_alike : ℕ → List Segment → List Segment → Bool
begin_alike zero ss ts = true
begin_alike (suc count) [] ts = false
begin_alike (suc count) (s ∷ ss) [] = false
begin_alike (suc count) (s ∷ ss) (t ∷ ts) = is_alike s t && begin_alike count ss ts

pub record BeginsAlike (first other : List Segment) (depth : ℕ) (rest : List Segment) : Type 0 where
  pub begins : begin_alike depth first other ≡ true
  pub left : drop depth other ≡ rest

-- the first segment of what is left of a path, and what is left behind it
pub record IsFirstCut (left : List (List ℕ)) (cut : Pieces) : Type 0 where
  pub first : option_copied cut.first ≡ first_piece left
  pub behind : pieces_left cut.behind ≡ drop 1 left

-- the segments end, or stop at one that misses
pub record StopsAt (segments : List Segment) (pieces : List (List ℕ)) (stop : Stop) : Type 0 where
  pub begins : begin_alike stop.depth segments segments ≡ true
  pub piece : option_copied stop.piece ≡ first_piece (drop stop.depth pieces)
  pub stand : stand_of (drop stop.depth segments) (option_copied stop.piece) ≡ stop.stand
  pub missed : misses stop.stand ≡ true

abbrev pub Walks : List Segment → List (List ℕ) → Walk → Type 0
Walks segments pieces (Ends matches) = segments_match segments pieces ≡ matches
Walks segments pieces (Stops stop) = StopsAt segments pieces stop

-- the second pattern begins as the first one, and stands alike at the stop
pub record StandsSo (first : List Segment) (stop : Stop) (segments : List Segment) : Type 0 where
  pub begins : begin_alike stop.depth first segments ≡ true
  pub stand : stand_of (drop stop.depth segments) (option_copied stop.piece) ≡ stop.stand

abbrev pub segments_at : List Route → ℕ → Route → List Segment
segments_at rows k d = (get_or rows k d).uri.segments.items

abbrev pub RowStandsSo : List Route → List Segment → Stop → ℕ → Type 0
RowStandsSo rows first stop k = (d : Route) → StandsSo first stop (segments_at rows k d)

-- a row from this one on that stands so
pub record IsPassedTo (rows : List Route) (first : List Segment) (stop : Stop) (at last : ℕ) : Type 0 where
  pub behind : at ≤ last
  pub within : last < length rows
  pub so : RowStandsSo rows first stop last
