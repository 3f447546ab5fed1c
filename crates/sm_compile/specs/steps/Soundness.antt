-- What the parts of `sound` tell of shapes by their numbers.
use Rattle.std.specs.Prelude.{◌<◌, ℕ, Bool, List, map}
use Rattle.sm_model.specs.Formed.{HaveForm}
use Rattle.sm_model.specs.Graphs.{GraphMaps}
use Rattle.sm_model.specs.Kinds.{member_form}
use Rattle.sm_model.specs.Reaching.{IsMarked}
use Rattle.sm_model.specs.declared.graph.Graph.{Graph}
use Rattle.sm_model.specs.declared.kind.Kind.{Kind}
use Rattle.sm_shapes.specs.Names.{AllDiffer}
use Rattle.sm_compile.specs.Sound.{IsSoundAt, json_name_of}

-- of the numbers below a bound each that is marked
abbrev pub AreSoundBelow : Graph → List Bool → ℕ → Type 0
AreSoundBelow g marks bound = (k : ℕ) → k < bound → IsMarked marks k → IsSoundAt g k

-- the names are of their form, and differ where JSON names are looked at
abbrev pub AreSoundNames : GraphMaps → List ℕ → Kind → List (List ℕ) → Type 0
AreSoundNames g id kind names = HaveForm (member_form kind) names × AllDiffer (map (json_name_of g id) names)
