-- What look-ups by number and by id have in common, for code over graphs: other crates cite these.
use Rattle.std.proofs.Common.{◌≡◌, ℕ, true, false, cond, List, [], get_or, Option, Some, None, sym, ap, ◌∙◌, subst}
use Rattle.std.specs.Prelude.{IsSomeAnd, slice_get}
use Rattle.std.specs.Bool.{passes}
use Rattle.std.specs.Cmp.{tied_itself as tied_order}
use Rattle.std.specs.Cmp.Lexicographic.{nat_list_cmp_total}
use Rattle.std.specs.FinMap as fin
use Rattle.std.specs.FinMap.{entries-from_sorted, get-from_sorted, is_sorted}
use Rattle.std.specs.Option.{option_map}
use Rattle.std.proofs.lemmas.Option.{slice_get-map, get_or_from_slice_get, slice_get_within}
use Rattle.sm_model.specs.Graphs.{text_cmp, Entry, shape_entry, member_entry}
use Rattle.sm_model.specs.GraphRows.{row_entry}
use Rattle.sm_model.specs.GraphView.{entries_of, ids, is_member_entry, IsMemberEntry, IsShapeEntry, maps_of}
use Rattle.sm_model.specs.declared.graph.Graph.{Graph}
use Rattle.sm_model.proofs.Searching.{and_left, equal_to}
use Rattle.sm_model.proofs.Sorting.{map_twice}

-- the entries of the map of shapes, in order, are those of the graph by number
pub entries_are : (g : Graph) → fin.entries (maps_of g).shapes ≡ entries_of g
entries_are g = entries-from_sorted text_cmp (entries_of g) (passes _ (and_left (is_sorted text_cmp (entries_of g)) _ g.sound))

-- the id at a number, and what the map has under it
pub id_at : (g : Graph) (n : ℕ) (id : List ℕ) (e : Entry) → slice_get (entries_of g) n ≡ Some (id, e) → get_or (ids g) n [] ≡ id
id_at g n id e there =
    get_or_from_slice_get (ids g) n id []
    (ap (λ ks. slice_get ks n) (sym (map_twice (row_entry (ids g)) (λ x. x.0) g.rows.items))
    ∙ slice_get-map (λ (x : List ℕ × Entry). x.0) (entries_of g) n ∙ ap (option_map (λ (x : List ℕ × Entry). x.0)) there)

pub entry_under : (g : Graph) (n : ℕ) (id : List ℕ) (e : Entry) → slice_get (entries_of g) n ≡ Some (id, e)
    → fin.get (maps_of g).shapes id ≡ Some e
entry_under g n id e there =
    let es = entries_of g in
    let sorted = and_left (is_sorted text_cmp es) _ g.sound in
    let here : get_or es n (id, e) ≡ (id, e) = get_or_from_slice_get es n (id, e) (id, e) there in
    get-from_sorted text_cmp es id (passes _ sorted)
    ∙ equal_to es sorted (id, e) n (slice_get_within es n (id, e) there) id
    (ap (λ (x : List ℕ × Entry). text_cmp x.0 id) here ∙ tied_order nat_list_cmp_total id)
    ∙ ap (λ (x : List ℕ × Entry). Some x.1) here

-- what stands at a number is a shape or a member
abbrev pub Found : Type 0
Found = Option (List ℕ × Entry)

pub member_found : (o : Found) → IsSomeAnd o (λ e. is_member_entry e.1 ≡ true) → IsSomeAnd o (λ e. IsMemberEntry e.1)
member_found None h = h
member_found (Some e) h = by e.1 h
  where
    by : (x : Entry) → is_member_entry x ≡ true → IsMemberEntry x
    by (shape_entry s) k = absurd (subst (λ b. cond b ⊥ (Unit {0})) k tt)
    by (member_entry m) k = tt

pub shape_found : (o : Found) → IsSomeAnd o (λ e. is_member_entry e.1 ≡ false) → IsSomeAnd o (λ e. IsShapeEntry e.1)
shape_found None h = h
shape_found (Some e) h = by e.1 h
  where
    by : (x : Entry) → is_member_entry x ≡ false → IsShapeEntry x
    by (shape_entry s) k = tt
    by (member_entry m) k = absurd (subst (λ b. cond b (Unit {0}) ⊥) k tt)
