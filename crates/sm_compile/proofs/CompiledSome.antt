-- What compiling several shapes answers, from what compiling the marked shapes answers.
use Rattle.std.proofs.Common.{ℕ, ◌<◌, Bool, List, [], ◌++◌, map, length, get_or, refl, sym, ap, ◌∙◌, subst}
use Rattle.std.specs.Prelude.{Err, false}
use Rattle.std.specs.List.{Contains}
use Rattle.std.proofs.lemmas.Option.{none-some}
use Rattle.sm_model.specs.GraphView.{AreShapeNumbers, IsShapeNumber, entries_of, maps_of}
use Rattle.sm_model.specs.Reaching.{AreMarks, id_of_number}
use Rattle.sm_model.specs.declared.graph.Graph.{Graph}
use Rattle.sm_shapes.specs.Fitting.{Test}
use Rattle.sm_shapes.specs.TableView.{table_data}
use Rattle.sm_compile.specs.Answers.{StoreSeen}
use Rattle.sm_compile.specs.Compiled.{ArePatternsOf}
use Rattle.sm_compile.specs.Reached.{IsReached}
use Rattle.sm_compile.specs.Roots.{AreSoundRoots, CompilesRoots, IsReachedFromSome, IsTableOfRoots}
use Rattle.sm_compile.specs.Sound.{IsValueShape}
use Rattle.sm_compile.specs.Tabling.{has_values_where, tabled_below}
use Rattle.sm_compile.specs.declared.compiled.CompileRefusal.{CompileRefusal}
use Rattle.sm_compile.specs.declared.compiled.CompileRefusal.TheVariants.{NoShape, Pattern, NoMemory}
use Rattle.sm_compile.specs.declared.tabled.Tabled.{Tabled}
use Rattle.sm_compile.specs.steps.Carrying.{texts_in}
use Rattle.sm_compile.specs.steps.Looked.{IsReachedFrom, kind_under}
use Rattle.sm_compile.specs.steps.Making.{IsMarkedTable, TablesMarked}
use Rattle.sm_compile.specs.steps.Numbered.{AreClosed, numbering}
use Rattle.sm_compile.specs.steps.Soundness.{AreSoundBelow}
use Rattle.sm_compile.proofs.CarriedSets.{carried_patterns, pattern_refused}
use Rattle.sm_compile.proofs.CompiledShapes.{made_by, stored_there, table_compiled}
use Rattle.sm_compile.proofs.MadeTables.{media_told, none_there, shaped_told, unbound_told}
use Rattle.sm_compile.proofs.ReachedNumbers.{each_number}
use Rattle.sm_compile.proofs.ReadyMarks.{closed_told}
use Rattle.sm_compile.proofs.ReadyRows.{row_shapes}
use Rattle.sm_compile.proofs.SoundTests.{both_of}
use Rattle.sm_compile.proofs.TabledShapes.{in_tabled, mapped_from, mapped_to, value_where}

module _ (g : Graph) (roots : List ℕ) (marks : List Bool)
    (are : AreMarks (length (entries_of g)) (λ k. IsReachedFrom g roots (id_of_number g k)) marks) where
  abbrev ids : List (List ℕ)
  ids = map (id_of_number g) roots

  abbrev In : List ℕ → Type 0
  In = IsReachedFromSome (maps_of g) ids

  -- the marks by the ids of the roots
  by_ids : AreMarks (length (entries_of g)) (λ k. In (id_of_number g k)) marks
  by_ids = record {
    whole = are.whole;
    marked = λ k. (
      λ h.
          let r = (are.marked k).0 h in
          (r.0, (id_of_number g r.1.0, mapped_to (id_of_number g) roots r.1.0 r.1.1, r.1.2)),
      λ h.
          let r = mapped_from (id_of_number g) roots h.1.0 h.1.1 in
          (are.marked k).1 (h.0, (r.0, r.1, subst (λ x. IsReached (maps_of g) x (id_of_number g k)) (sym r.2) h.1.2)),
    );
  }

  pub some_sound : AreSoundRoots (maps_of g) ids → AreSoundBelow g marks (length marks)
  some_sound sound k less marked s has =
      let r = ((are.marked k).0 marked).1 in
      let root = sound (id_of_number g r.0) (mapped_to (id_of_number g) roots r.0 r.1) in
      root.1 root.0 (id_of_number g k) s r.2 has

  pub some_closed : AreClosed g marks
  some_closed = closed_told g roots marks are

  -- each root has a row
  root_there : (root : ℕ) → IsShapeNumber g root → IsValueShape (maps_of g) (id_of_number g root) → Contains roots root
      → Contains (tabled_below g marks (length marks)) root
  root_there root lt value among =
      in_tabled g marks (length marks) root (subst (λ n. root < n) (sym are.whole) lt)
      (both_of (get_or marks root false) (has_values_where (kind_under (maps_of g) (id_of_number g root)))
      ((are.marked root).1 (lt, (root, among, ([], refl))))
      ((value_where (maps_of g) (id_of_number g root)).1 value))

  pub some_compiled : AreShapeNumbers g roots → AreSoundRoots (maps_of g) ids → (test : Test) (before now : StoreSeen) (made : Tabled)
      → IsMarkedTable g marks before now made → IsTableOfRoots g roots test before now made
  some_compiled numbers sound test before now made is =
      let t = table_data made.table in
      let ks = made.shapes.items in
      let ready = row_shapes g ks (texts_in is.c) is.ready in
      let rows = made_by g ks t is.table in
      let none = none_there (maps_of g) (map (id_of_number g) ks) ready t rows in
      let added = is.stored.added ∙ ap (λ ts. before.added ++ ts) (sym is.stored.are) in
      record {
        numbering = numbering g ks;
        compiled = table_compiled g marks In before now made by_ids
            (subst (ArePatternsOf (maps_of g) In) (sym is.stored.are) (carried_patterns g marks In by_ids is.c is.carried)) is;
        named = refl;
        there = λ root among. subst (λ ks. Contains ks root) (sym is.shapes)
            (root_there root (each_number g roots numbers root among)
            (sound (id_of_number g root) (mapped_to (id_of_number g) roots root among)).0 among);
        few = is.ready.few;
        rise = is.ready.rise;
        numbered = is.stored.numbered;
        unbound = unbound_told (maps_of g) (map (id_of_number g) ks) ready t rows;
        no_media = media_told (maps_of g) (map (id_of_number g) ks) ready t rows;
        shaped = shaped_told (maps_of g) (map (id_of_number g) ks) ready t rows;
        built = record {
          stored = stored_there before.added now.added t.patterns is.stored.numbered added;
          defaults = λ k v h. absurd (none-some v (sym (none k) ∙ h));
        };
        no_default = none;
        added = added;
        refused = is.stored.refused;
        refusals = is.stored.refusals;
      }

  pub some_refusal : (test : Test) (before now : StoreSeen) (refusal : CompileRefusal) → TablesMarked g marks before now (Err refusal)
      → CompilesRoots g roots test before now (Err refusal)
  some_refusal test before now NoShape h = absurd h
  some_refusal test before now (Pattern id) h = pattern_refused g marks In before now id h.0 by_ids h.1 h.2
  some_refusal test before now NoMemory h = h
