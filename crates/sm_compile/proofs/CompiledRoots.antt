-- What compiling a shape answers, from what compiling the marked shapes answers.
use Rattle.std.proofs.Common.{◌≡◌, ℕ, Bool, List, [], ◌∷◌, length, Some, sym, subst}
use Rattle.std.specs.Prelude.{Err, Ok, slice_get}
use Rattle.std.specs.List.{Contains}
use Rattle.sm_model.specs.GraphView.{IsShapeNumber, entries_of, maps_of}
use Rattle.sm_model.specs.Reaching.{AreMarks, id_of_number}
use Rattle.sm_model.specs.declared.graph.Graph.{Graph}
use Rattle.sm_shapes.specs.Fitting.{Test}
use Rattle.sm_compile.specs.Answers.{CompilesShape, StoreSeen, TellsServed}
use Rattle.sm_compile.specs.Compiled.{ArePatternsOf}
use Rattle.sm_compile.specs.Reached.{IsReached}
use Rattle.sm_compile.specs.Sound.{IsValueShape, Sound}
use Rattle.sm_compile.specs.declared.compiled.CompileRefusal.{CompileRefusal}
use Rattle.sm_compile.specs.declared.compiled.CompileRefusal.TheVariants.{NoShape, Pattern, NoMemory}
use Rattle.sm_compile.specs.declared.compiled.Served.{Served}
use Rattle.sm_compile.specs.declared.tabled.Tabled.{Tabled}
use Rattle.sm_compile.specs.steps.Looked.{IsReachedFrom}
use Rattle.sm_compile.specs.steps.Making.{IsMarkedTable, TablesMarked}
use Rattle.sm_compile.specs.steps.Numbered.{AreClosed}
use Rattle.sm_compile.specs.steps.Soundness.{AreSoundBelow}
use Rattle.sm_compile.proofs.CarriedSets.{carried_patterns, pattern_refused}
use Rattle.sm_compile.proofs.CompiledShapes.{shape_compiled}
use Rattle.sm_compile.proofs.ReadyMarks.{closed_told, one_root, root_tabled, sound_marks}

module _ (g : Graph) (root : ℕ) (marks : List Bool)
    (are : AreMarks (length (entries_of g)) (λ k. IsReachedFrom g (root ∷ []) (id_of_number g k)) marks)
    (value : IsValueShape (maps_of g) (id_of_number g root)) where
  pub root_sound : Sound (maps_of g) (id_of_number g root) → AreSoundBelow g marks (length marks)
  root_sound sound = sound_marks g (id_of_number g root) marks (one_root g root marks are) value sound

  pub root_closed : AreClosed g marks
  root_closed = closed_told g (root ∷ []) marks are

  pub root_refused : (test : Test) (before now : StoreSeen) (refusal : CompileRefusal) → TablesMarked g marks before now (Err refusal)
      → CompilesShape (maps_of g) (id_of_number g root) test before now (Err refusal)
  root_refused test before now NoShape h = absurd h
  root_refused test before now (Pattern id) h =
      (value, pattern_refused g marks (IsReached (maps_of g) (id_of_number g root)) before now id h.0 (one_root g root marks are) h.1 h.2)
  root_refused test before now NoMemory h = h

  module _ (before now : StoreSeen) (made : Tabled) (is : IsMarkedTable g marks before now made) where
    pub root_there : IsShapeNumber g root → Contains made.shapes.items root
    root_there lt = subst (λ ks. Contains ks root) (sym is.shapes) (root_tabled g root marks are lt value)

    pub root_compiled : (test : Test) (served : Served) (row : ℕ) → TellsServed (maps_of g) (id_of_number g root) served
        → slice_get made.shapes.items row ≡ Some root
        → CompilesShape (maps_of g) (id_of_number g root) test before now (Ok (record { table = made.table; shape = row; served = served }))
    root_compiled test served row tells at =
        let marked = one_root g root marks are in (
          value,
          shape_compiled g marks root row test before now made served marked
              (subst (ArePatternsOf (maps_of g) (IsReached (maps_of g) (id_of_number g root))) (sym is.stored.are)
              (carried_patterns g marks (IsReached (maps_of g) (id_of_number g root)) marked is.c is.carried)) is tells at,
        )
