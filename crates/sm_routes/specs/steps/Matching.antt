-- What each function of the matcher comes to.
use Rattle.std.specs.Prelude.{◌≡◌, ℕ, List, [], ◌∷◌, Option, Some, None, drop, take}
use Rattle.std.specs.List.{join_with_byte, slice_split}
use denote.Ref.{Bor}
use Rattle.sm_bytes.specs.Ascii.{slash}
use Rattle.sm_uri.specs.declared.pattern.Segment.{Segment}
use Rattle.sm_parts.specs.Targets.{is_slash, segments_of}
use Rattle.sm_parts.specs.declared.cut.Cut.{Cut}
use Rattle.sm_routes.specs.Routes.{segments_match}
use Rattle.sm_routes.specs.declared.matching.Step.{Step}
use Rattle.sm_routes.specs.declared.matching.Step.TheVariants.{Ends, Goes}

-- the segments of a path of which this is left behind a slash
abbrev pub pieces_left : Option (Bor (List ℕ)) → List (List ℕ)
pieces_left None = []
pieces_left (Some path) = slice_split is_slash path.now

abbrev pub IsLeftOf : List ℕ → Option (Option (Bor (List ℕ))) → Type 0
IsLeftOf path None = segments_of path ≡ None
IsLeftOf path (Some left) = segments_of path ≡ Some (pieces_left left)

abbrev pub StepsTo : Segment → List Segment → List ℕ → Step → Type 0
StepsTo segment more rest (Ends matches) = segments_match (segment ∷ more) (slice_split is_slash rest) ≡ matches
StepsTo segment more rest (Goes left) =
    segments_match (segment ∷ more) (slice_split is_slash rest) ≡ segments_match more (pieces_left left)

-- the first so many segments as one text, and the others
pub record IsCutAfter (count : ℕ) (path : List ℕ) (cut : Cut) : Type 0 where
  pub taken : join_with_byte slash (take count (slice_split is_slash path)) ≡ cut.taken.now
  pub left : drop count (slice_split is_slash path) ≡ pieces_left cut.behind
