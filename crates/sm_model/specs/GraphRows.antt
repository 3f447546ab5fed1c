-- What is kept of a graph: rows in the order of ids, each with its traits in order.
use Rattle.std.specs.Prelude.{◌&&◌, ℕ, Bool, true, false, List, [], map, length, IsTrue, get_or, nat_lt}
use Rattle.std.specs.FinMap as fin
use Rattle.std.specs.List.{list_all}
use Rattle.sm_tree.specs.View.{node_of, pairs_view}
use Rattle.sm_model.specs.Graphs.{text_cmp, NodeMap, Entry, shape_entry, member_entry}
use Rattle.sm_model.specs.declared.graph.rows.GraphRow.{GraphRow}
use Rattle.sm_model.specs.declared.graph.rows.RowEntry.{RowEntry}
use Rattle.sm_model.specs.declared.graph.rows.RowEntry.TheVariants.{Shape, Member}

-- the id of a row
abbrev pub id_of_row : GraphRow → List ℕ
id_of_row r = r.id

abbrev pub ids_of : List GraphRow → List (List ℕ)
ids_of rows = map id_of_row rows

-- what stands under the id of a row; a shape's members are kept as numbers of rows
abbrev pub entry_view : List (List ℕ) → NodeMap → RowEntry → Entry
entry_view ids traits (Shape s) =
    shape_entry (record {
      kind = s.kind;
      members = map (λ k. get_or ids k []) s.members;
      properties = node_of s.properties;
      traits = traits;
    })
entry_view ids traits (Member target) = member_entry (record { target = target; traits = traits })

abbrev pub row_entry : List (List ℕ) → GraphRow → List ℕ × Entry
row_entry ids r = (r.id, entry_view ids (fin.from_sorted (pairs_view r.traits)) r.entry)

abbrev pub entries_of_rows : List GraphRow → List (List ℕ × Entry)
entries_of_rows rows = map (row_entry (ids_of rows)) rows

-- the numbers of a shape's members, in model order; a member has none
abbrev pub members_kept : RowEntry → List ℕ
members_kept (Shape s) = s.members
members_kept (Member target) = []

-- whether a row is a member's
abbrev pub is_member_row : RowEntry → Bool
is_member_row (Shape s) = false
is_member_row (Member target) = true

-- numbers below a bound
abbrev pub are_below : ℕ → List ℕ → Bool
are_below n ks = list_all (λ k. nat_lt k n) ks

abbrev pub members_are_below : ℕ → RowEntry → Bool
members_are_below n (Shape s) = are_below n s.members
members_are_below n (Member target) = true

-- what holds of the rows of each graph: ids rise, traits are in order, and members are rows
abbrev pub is_sound_row : ℕ → GraphRow → Bool
is_sound_row n r = fin.is_sorted text_cmp (pairs_view r.traits) && members_are_below n r.entry

abbrev pub are_sound : List GraphRow → Bool
are_sound rows = fin.is_sorted text_cmp (entries_of_rows rows) && list_all (is_sound_row (length rows)) rows

abbrev pub AreSound : List GraphRow → Type 0
AreSound rows = IsTrue (are_sound rows)
