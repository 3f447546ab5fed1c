-- How the entries of a list in a field are written one by one, and how code sees the entries of a value.
use Rattle.std.specs.Prelude.{◌++◌, ℕ, Bool, true, false, List, [], ◌∷◌, Option, Some, None, codes}
use denote.Ref.{Bor}
use Rattle.sm_shapes.specs.Values.{Val}
use Rattle.sm_shapes.specs.ValueView.{vals_view}
use Rattle.sm_shapes.specs.declared.values.Value.{Value}
use Rattle.sm_parts.specs.HeaderLists.{written_entry}
use Rattle.sm_parts.specs.declared.list_entry.HeaderCut.{HeaderCut}

-- what stands before an entry
abbrev pub gap : Bool → List ℕ
gap true = []
gap false = codes ", "

abbrev pub entries_joined : HeaderCut → Bool → List (List ℕ) → List ℕ
entries_joined cut first [] = []
entries_joined cut first (text ∷ texts) = gap first ++ (written_entry cut text ++ entries_joined cut false texts)

abbrev pub items_seen : Option (Bor (List Value)) → Option (List Val)
items_seen None = None
items_seen (Some items) = Some (vals_view items.now)
