-- The rows of a shape and of its members, one after the other.
use Rattle.std.proofs.Common.{◌≡◌, ℕ, ◌+◌, true, List, [], ◌∷◌, ◌++◌, map, length, get_or, IsPermutation, refl, sym, ap, subst, ◌∙◌}
use Rattle.std.proofs.Common.{arith, append_assoc}
use Rattle.std.specs.FinMap as fin
use Rattle.std.specs.FinMap.Entries.{is_sorted}
use Rattle.std.specs.List.{list_all}
use Rattle.std.proofs.lemmas.Bool.{and_from}
use Rattle.std.proofs.lemmas.List.{length_push}
use Rattle.std.proofs.lemmas.List.Sorted.{IsPermutation-cons}
use Rattle.sm_tree.specs.View.{node_of, pairs_view}
use Rattle.sm_tree.specs.declared.tree.Pairs.{Pairs}
use Rattle.sm_model.specs.GivenView.{members_given_of, shape_given_view}
use Rattle.sm_model.specs.Graphs.{text_cmp, NodeMap, Entry, shape_entry, member_id, given_shape}
use Rattle.sm_model.specs.GraphRows.{are_below, ids_of, is_sound_row, row_entry}
use Rattle.sm_model.specs.steps.Blocks.{IsMemberBlock, PutsBlock}
use Rattle.sm_model.specs.steps.Rising.{KeepsMap}
use Rattle.sm_model.specs.declared.graph.given.GraphShape.{GraphShape}
use Rattle.sm_model.specs.declared.graph.rows.GraphRow.{GraphRow}
use Rattle.sm_model.specs.declared.graph.rows.RowEntry.TheVariants.{Shape}
use Rattle.sm_model.proofs.Sorting.{map_twice}

-- the row of a shape
abbrev pub shape_row : GraphShape → Pairs → List ℕ → GraphRow
shape_row s traits numbers = record {
  id = s.id;
  traits = traits;
  entry = Shape (record { kind = s.kind; members = numbers; properties = s.properties });
}

same_entry : (s : GraphShape) (ids names : List (List ℕ)) (traits given : NodeMap) → ids ≡ names → given ≡ traits
    → Path (List ℕ × Entry) (
      s.id,
      shape_entry (record {
        kind = s.kind;
        members = names;
        properties = node_of s.properties;
        traits = given;
      }),
    )
    (s.id, shape_entry (record { kind = s.kind; members = ids; properties = node_of s.properties; traits = traits }))
same_entry s ids names traits given e f =
    ap (λ m. (s.id, shape_entry (record { kind = s.kind; members = m; properties = node_of s.properties; traits = given }))) (sym e)
    ∙ ap (λ t. (s.id, shape_entry (record { kind = s.kind; members = ids; properties = node_of s.properties; traits = t }))) f

module _ (s : GraphShape) (traits : Pairs) (numbers : List ℕ) (old rows : List GraphRow)
    (sorted : is_sorted text_cmp (pairs_view traits) ≡ true) (same : KeepsMap (pairs_view s.traits) (pairs_view traits))
    (h : IsMemberBlock (length old + 1) s.id (members_given_of s.members) numbers rows) where
  first_entry : (before : List (List ℕ)) → length before ≡ length old
      → Path (List ℕ × Entry) (
        s.id,
        shape_entry (record {
          kind = s.kind;
          members = map (λ m. member_id s.id m.name) (members_given_of s.members);
          properties = node_of s.properties;
          traits = fin.from_entries (pairs_view s.traits);
        }),
      ) (row_entry (before ++ s.id ∷ ids_of rows) (shape_row s traits numbers))
  first_entry before long = same_entry s _ _ _ _
      (ap (λ ids. map (λ k. get_or ids k []) numbers) (sym (append_assoc before (s.id ∷ []) (ids_of rows)))
      ∙ h.numbered.mean (before ++ s.id ∷ []) (length_push before s.id ∙ ap (λ n. n + 1) long)
      ∙ map_twice (λ m. m.name) (member_id s.id) (members_given_of s.members)) same

  sound_rows : (n : ℕ) → n ≡ length old + 1 + length rows → list_all (is_sound_row n) (shape_row s traits numbers ∷ rows) ≡ true
  sound_rows n e = and_from (is_sound_row n (shape_row s traits numbers)) (list_all (is_sound_row n) rows)
      (and_from (is_sorted text_cmp (pairs_view traits)) (are_below n numbers) sorted
      (subst (λ k. are_below k numbers ≡ true) (sym e) h.numbered.below)) (h.sound n)

  pub puts_block : (new : List GraphRow) → new ≡ (old ++ shape_row s traits numbers ∷ []) ++ rows → PutsBlock (shape_given_view s) old new
  puts_block new appended = record {
    block = shape_row s traits numbers ∷ rows;
    appended = appended ∙ append_assoc old (shape_row s traits numbers ∷ []) rows;
    is_block = record {
      ids = ids_of rows;
      are_ids = refl;
      rise = h.rise;
      members = h.members;
      entries = λ before long. subst (λ e. IsPermutation (given_shape (shape_given_view s))
          (e ∷ map (row_entry (before ++ s.id ∷ ids_of rows)) rows))
          (first_entry before long) (IsPermutation-cons _ _ _ (h.entries (before ++ s.id ∷ ids_of rows)));
      sound = sound_rows _ (omega arith);
    };
  }
