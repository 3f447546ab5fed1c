-- Whether the values of an operation are served, and the first path to a shape that isn't: by its input, then its output, then its errors
-- in order. What those before one of them reach leads to no shape that isn't served, so a walk that enters each shape once through all of
-- them finds the same path first.
use Rattle.std.specs.Prelude.{◌≡◌, ◌⊎◌, ℕ, List, [], ◌∷◌, ◌++◌, codes, map}
use Rattle.std.specs.List.{Contains, join_with_byte}
use Rattle.sm_bytes.specs.Ascii.{slash}
use Rattle.sm_ids.specs.TextParts.{name_part}
use Rattle.sm_model.specs.Graphs.{GraphMaps}
use Rattle.sm_compile.specs.Served.{IsFirstWay, IsServed, WayStep, names_of_way}
use Rattle.sm_compile.specs.declared.compiled.Served.{Served}
use Rattle.sm_compile.specs.declared.compiled.Served.TheVariants.{Yes, Unserved}

-- a shape from which an operation's walk begins, and the names with which paths from there begin
pub record WalkRoot : Type 0 where
  pub names : List (List ℕ)
  pub id : List ℕ

abbrev pub walk_root : List (List ℕ) → List ℕ → WalkRoot
walk_root names id = record { names = names; id = id }

-- `input`, `output`, `error/NAME`
abbrev pub error_root : List ℕ → WalkRoot
error_root id = walk_root (codes "error" ∷ name_part id ∷ []) id

abbrev pub walk_roots : List ℕ → List ℕ → List (List ℕ) → List WalkRoot
walk_roots input output errors = walk_root (codes "input" ∷ []) input ∷ walk_root (codes "output" ∷ []) output ∷ map error_root errors

-- the path of the first way from there to a shape that isn't served: where the shape itself isn't, the names alone
abbrev pub IsPathFrom : GraphMaps → WalkRoot → List ℕ → Type 0
IsPathFrom g root path =
    (way : List WayStep) × IsFirstWay g root.id way × (path ≡ join_with_byte slash (root.names ++ names_of_way way))

-- that of the first of these that isn't served
abbrev pub IsFirstPath : GraphMaps → List WalkRoot → List ℕ → Type 0
IsFirstPath g [] path = ⊥
IsFirstPath g (root ∷ roots) path = IsPathFrom g root path ⊎ (IsServed g root.id × IsFirstPath g roots path)

-- whether all of these are served
abbrev pub TellsAllServed : GraphMaps → List WalkRoot → Served → Type 0
TellsAllServed g roots Yes = (root : WalkRoot) → Contains roots root → IsServed g root.id
TellsAllServed g roots (Unserved path) = IsFirstPath g roots path
