-- What a number among the ids of a graph, and the one that is kept of a member, say of the graph's map.
use Rattle.std.proofs.Common.{◌≡◌, ◌<◌, ℕ, true, List, [], map, length, get_or, Some, None, Option, sym, ap, ◌∙◌, subst, arith}
use Rattle.std.specs.Prelude.{IsSomeAnd, MatchOption, slice_get}
use Rattle.std.specs.Bool.{passes}
use Rattle.std.specs.Option.{option_map}
use Rattle.std.specs.FinMap as fin
use Rattle.std.specs.FinMap.{get-from_sorted, is_sorted}
use Rattle.std.proofs.lemmas.List.{get_or_default, length-map}
use Rattle.std.proofs.lemmas.Option.{get_or_from_slice_get, slice_get-map, slice_get_within}
use Rattle.sm_tree.specs.View.{pairs_view}
use Rattle.sm_model.specs.Formed.{StandsAmong}
use Rattle.sm_model.specs.Graphs.{text_cmp, NodeMap}
use Rattle.sm_model.specs.GraphRows.{entry_view, id_of_row, row_entry}
use Rattle.sm_model.specs.GraphView.{At, IsMemberAt, IsMemberEntry, Stands, entries_of, ids, maps_of, target_of}
use Rattle.sm_model.specs.steps.TargetNumbers.{IsNumberAmong, IsTargetNumber}
use Rattle.sm_model.specs.steps.Rising.{Rise}
use Rattle.sm_model.specs.declared.graph.Graph.{Graph}
use Rattle.sm_model.specs.declared.graph.rows.GraphRow.{GraphRow}
use Rattle.sm_model.specs.declared.graph.rows.RowEntry.{RowEntry}
use Rattle.sm_model.specs.declared.graph.rows.RowEntry.TheVariants.{Shape, Member}
use Rattle.sm_model.proofs.GraphFacts.{entry_under, id_at}
use Rattle.sm_model.proofs.LinkNumbers.{at_from, stands_at}
use Rattle.sm_model.proofs.MapFacts.{none_among, rise_from}
use Rattle.sm_model.proofs.Searching.{and_left}
use Rattle.sm_model.proofs.Sorting.{map_twice}

-- the number of an id, or that the map has nothing under it
abbrev IsNumberOf : Graph → List ℕ → Option ℕ → Type 0
IsNumberOf g id found = MatchOption found (fin.get (maps_of g).shapes id ≡ None) (λ s. Stands g s id)

module _ (g : Graph) where
  sorted : is_sorted text_cmp (entries_of g) ≡ true
  sorted = and_left (is_sorted text_cmp (entries_of g)) _ g.sound

  keys_are : map (λ e. e.0) (entries_of g) ≡ ids g
  keys_are = map_twice (row_entry (ids g)) (λ e. e.0) g.rows.items

  pub ids_rise : Rise (ids g)
  ids_rise = subst Rise keys_are (rise_from (entries_of g) sorted)

  -- a number among the ids is that of the id
  pub number_stands : (id : List ℕ) (found : Option ℕ) → IsNumberAmong (ids g) id found → IsNumberOf g id found
  number_stands id None apart =
      get-from_sorted text_cmp (entries_of g) id (passes _ sorted)
      ∙ none_among id (entries_of g) (subst (λ ks. StandsAmong id ks → ⊥) (sym keys_are) apart)
  number_stands id (Some s) there =
      let few = slice_get_within (ids g) s id there in
      let x = stands_at g s (omega (arith, few, length-map g.rows.items id_of_row, length-map g.rows.items (row_entry (ids g)))) in
      let same : x.0 ≡ id = sym (id_at g s x.0 x.1 x.2) ∙ get_or_from_slice_get (ids g) s id [] there in
      at_from g s (λ found e. (found ≡ id) × (fin.get (maps_of g).shapes id ≡ Some e)) x.0 x.1 x.2
      (same, ap (fin.get (maps_of g).shapes) (sym same) ∙ entry_under g s x.0 x.1 x.2)

  entry_stands : (traits : NodeMap) (e : RowEntry) (found : Option ℕ) → IsTargetNumber (ids g) e found
      → IsMemberEntry (entry_view (ids g) traits e) → IsNumberOf g (target_of (entry_view (ids g) traits e)) found
  entry_stands traits (Shape s) found is member = absurd member
  entry_stands traits (Member target) found is member = number_stands target found is

  row_stands : (found : Option ℕ) (o : Option GraphRow) → IsSomeAnd o (λ r. IsTargetNumber (ids g) r.entry found)
      → IsSomeAnd (option_map (row_entry (ids g)) o) (λ e. IsMemberEntry e.1)
      → IsSomeAnd (option_map (row_entry (ids g)) o) (λ e. IsNumberOf g (target_of e.1) found)
  row_stands found None is member = is
  row_stands found (Some r) is member = entry_stands (fin.from_sorted (pairs_view r.traits)) r.entry found is member

  -- the number that is kept of a member is that of its target
  pub kept_stands : (m : ℕ) → m < length (entries_of g) → IsMemberAt g m → (found : Option ℕ) → found ≡ get_or g.targets.items m found
      → At g m (λ id e. IsNumberOf g (target_of e) found)
  kept_stands m lt member found kept =
      let few : m < length g.rows.items = omega (arith, lt, length-map g.rows.items (row_entry (ids g))) in
      let same : get_or g.targets.items m None ≡ found =
      get_or_default g.targets.items m None found (omega (arith, few, g.targeted.whole)) ∙ sym kept in
      let here = slice_get-map (row_entry (ids g)) g.rows.items m in
      subst (λ o. IsSomeAnd o (λ e. IsNumberOf g (target_of e.1) found)) (sym here)
      (row_stands found (slice_get g.rows.items m)
      (subst (λ n. IsSomeAnd (slice_get g.rows.items m) (λ r. IsTargetNumber (ids g) r.entry n)) same (g.targeted.each m few))
      (subst (λ o. IsSomeAnd o (λ e. IsMemberEntry e.1)) here member))
