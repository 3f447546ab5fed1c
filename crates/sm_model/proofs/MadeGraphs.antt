-- A graph of the rows of shapes: what its type asks, and its map of shapes and members.
use Rattle.std.proofs.Common.{◌≡◌, ◌<◌, ◌^◌, true, List, map, length, IsPermutation, sym, subst, arith}
use Rattle.std.specs.FinMap as fin
use Rattle.std.specs.FinMap.Entries.{is_sorted}
use Rattle.std.specs.List.{list_all}
use Rattle.std.proofs.lemmas.Bool.{and_from}
use Rattle.std.proofs.lemmas.List.{length-map}
use Rattle.std.proofs.lemmas.List.Sorted.{IsPermutation-map, IsPermutation-sym, IsPermutation-trans, length_permutation}
use Rattle.sm_model.specs.Given.{AreGivenShapes}
use Rattle.sm_model.specs.GivenView.{given_view, shape_given_view}
use Rattle.sm_model.specs.Graphs.{GraphMaps, NodeMap, ShapeMap, given_entries, text_cmp}
use Rattle.sm_model.specs.GraphRows.{are_sound, entries_of_rows, ids_of, is_sound_row, row_entry}
use Rattle.sm_model.specs.steps.Blocks.{AreRowsOf}
use Rattle.sm_model.specs.steps.Rising.{Rise}
use Rattle.sm_model.specs.declared.graph.given.GraphShape.{GraphShape}
use Rattle.sm_model.specs.declared.graph.rows.GraphRow.{GraphRow}
use Rattle.sm_model.proofs.Moved.{keeps_names, moved_entries, moved_given}
use Rattle.sm_model.proofs.Rises.{differ_from_rise, sorted_from_rise}
use Rattle.sm_model.proofs.Sorting.{map_moved, map_twice}

module _ (xs ys : List GraphShape) (moved : IsPermutation xs ys) where
  entries_moved : IsPermutation (given_entries (given_view xs)) (given_entries (given_view ys))
  entries_moved = moved_entries _ _ (IsPermutation-map shape_given_view xs ys moved)

  -- sorted shapes are what a graph may be made from, as the shapes were
  pub given_sorted : AreGivenShapes (given_view xs) → AreGivenShapes (given_view ys)
  given_sorted = moved_given _ _ (IsPermutation-map shape_given_view xs ys moved)

  pub few_sorted : length (given_entries (given_view xs)) < 2 ^ 32 → length (given_entries (given_view ys)) < 2 ^ 32
  few_sorted few = omega (arith, few, length_permutation _ _ entries_moved)

  module _ (rows : List GraphRow) (h : AreRowsOf (given_view ys) rows) where
    rising : Rise (map (λ e. e.0) (entries_of_rows rows))
    rising = subst Rise (sym (map_twice (row_entry (ids_of rows)) (λ e. e.0) rows)) h.rise

    in_order : is_sorted text_cmp (entries_of_rows rows) ≡ true
    in_order = sorted_from_rise (entries_of_rows rows) rising

    pub sound_rows : are_sound rows ≡ true
    sound_rows = and_from (is_sorted text_cmp (entries_of_rows rows)) (list_all (is_sound_row (length rows)) rows) in_order h.sound

    pub few_rows : length (given_entries (given_view xs)) < 2 ^ 32 → length rows < 2 ^ 32
    few_rows few = omega (arith, few_sorted few, length_permutation _ _ h.entries, length-map rows (row_entry (ids_of rows)))

    pub made_map : Path ShapeMap (fin.from_sorted (entries_of_rows rows)) (fin.from_entries (given_entries (given_view xs)))
    made_map =
        let all = IsPermutation-trans _ _ _ entries_moved h.entries in
        sym (map_moved (given_entries (given_view xs)) (entries_of_rows rows) all
        ((keeps_names (λ e. e.0) (entries_of_rows rows) (given_entries (given_view xs)) (IsPermutation-sym _ _ all)).differ
        (differ_from_rise _ rising)) in_order)

pub same_graph : (s t : ShapeMap) (m n : NodeMap) → s ≡ t → m ≡ n
    → Path GraphMaps (record { shapes = s; metadata = m }) (record { shapes = t; metadata = n })
same_graph s t m n e f = λ i. record { shapes = e i; metadata = f i }
