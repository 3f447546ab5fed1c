-- The simple shapes of the prelude, and those whose default is set, as a table has them.
use Rattle.std.specs.Prelude.{ℕ, pos, false, List, [], ◌∷◌, map}
use denote.Ref.{Bor}
use Rattle.sm_ids.specs.Identifier.{IsIdentifier}
use Rattle.sm_tree.specs.Node.{bool, int}
use Rattle.sm_model.specs.Graphs.{ShapeGiven}
use Rattle.sm_model.specs.PreludeShapes.{defaulted_shape, simple_shape}
use Rattle.sm_model.specs.declared.kind.Kind.{Kind}
use Rattle.sm_merge.specs.declared.prelude_graph.Preset.{Preset}
use Rattle.sm_merge.specs.declared.prelude_graph.Preset.TheVariants.{Nothing, False, Zero}

abbrev pub PreludeRow : Type 0
PreludeRow = Bor (List ℕ) × Kind × Preset

abbrev pub preset_shape : List ℕ → Kind → Preset → ShapeGiven
preset_shape name kind Nothing = simple_shape name kind
preset_shape name kind False = defaulted_shape name kind (bool false)
preset_shape name kind Zero = defaulted_shape name kind (int (pos 0))

abbrev pub preset_shapes : List PreludeRow → List ShapeGiven
preset_shapes rows = map (λ r. preset_shape r.0.now r.1 r.2) rows

abbrev pub AreNamedRows : List PreludeRow → Type 0
AreNamedRows [] = Unit {0}
AreNamedRows (r ∷ rs) = IsIdentifier r.0.now × AreNamedRows rs
