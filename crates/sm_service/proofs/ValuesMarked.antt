-- The shapes with values among what a service leads to, by their numbers.
use Rattle.std.proofs.Common.{◌≡◌, ℕ, ◌<◌, Bool, List, length, sym, ap, ◌∙◌, subst, arith}
use Rattle.std.specs.Prelude.{◌^◌}
use Rattle.std.proofs.lemmas.List.{length-map}
use Rattle.sm_model.specs.GraphRows.{ids_of, row_entry}
use Rattle.sm_model.specs.GraphView.{AreShapeNumbers, entries_of, maps_of}
use Rattle.sm_model.specs.Reaching.{AreMarks, id_of_number}
use Rattle.sm_model.specs.declared.graph.Graph.{Graph}
use Rattle.sm_compile.specs.Tabling.{tabled_below}
use Rattle.sm_compile.proofs.TabledShapes.{tabled_few, tabled_numbers_rise, tabled_rise, tabled_told}
use Rattle.sm_rules.specs.Ready.{IsOfService}
use Rattle.sm_service.specs.steps.ServiceTables.{AreValueShapes}

module _ (g : Graph) (s : ℕ) where
  abbrev Of : List ℕ → Type 0
  Of = IsOfService (maps_of g) (id_of_number g s)

  -- a graph has few entries
  few_entries : length (entries_of g) < 2 ^ 32
  few_entries = let many = length-map g.rows.items (row_entry (ids_of g.rows.items)) in omega (arith, g.few, many)

  -- the marked shapes that have values
  pub shapes_told : (marks : List Bool) → AreMarks (length (entries_of g)) (λ k. Of (id_of_number g k)) marks → (shapes : List ℕ)
      → AreShapeNumbers g shapes → shapes ≡ tabled_below g marks (length marks) → AreValueShapes g (id_of_number g s) shapes
  shapes_told marks are shapes numbers is =
      let below : shapes ≡ tabled_below g marks (length (entries_of g)) = is ∙ ap (tabled_below g marks) are.whole in
      subst (AreValueShapes g (id_of_number g s)) (sym below) (record {
        numbers = subst (AreShapeNumbers g) below numbers;
        all = tabled_told g marks Of are;
        ids_rise = tabled_rise g marks (length (entries_of g)) (omega arith);
        rise = tabled_numbers_rise g marks (length (entries_of g));
        few = let le = tabled_few g marks (length (entries_of g)) in let few = few_entries in omega (arith, few, le);
      })
