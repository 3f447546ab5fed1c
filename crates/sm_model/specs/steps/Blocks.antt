-- What the steps that make a graph's rows promise. The rows of a shape are a block: its own, and then those of its members in
-- the order of their ids. Blocks in the order of their shapes' ids are the rows of the graph.
use Rattle.std.specs.Prelude.{◌≡◌, ◌+◌, ℕ, true, List, [], ◌∷◌, ◌++◌, map, length, get_or, IsPermutation}
use Rattle.std.specs.List.{list_all}
use Rattle.sm_ids.specs.Identifier.{IsIdentifier}
use Rattle.sm_model.specs.Formed.{StandsAmong}
use Rattle.sm_model.specs.Given.{AreGivenShapes, given_ids, given_names}
use Rattle.sm_model.specs.Graphs.{MemberGiven, ShapeGiven, member_id, given_member, given_members, given_shape, given_entries}
use Rattle.sm_model.specs.GraphRows.{ids_of, row_entry, entries_of_rows, are_below, is_sound_row}
use Rattle.sm_model.specs.steps.Rising.{Rise}
use Rattle.sm_model.specs.declared.graph.rows.GraphRow.{GraphRow}

-- the row of a member. What it stands for doesn't depend on the other rows
pub record IsMemberRow (shape : List ℕ) (m : MemberGiven) (row : GraphRow) : Type 0 where
  pub entry : (ids : List (List ℕ)) → row_entry ids row ≡ given_member shape m
  pub sound : (n : ℕ) → is_sound_row n row ≡ true

-- the rows of members, in model order
pub record AreMemberRows (shape : List ℕ) (ms : List MemberGiven) (rows : List GraphRow) : Type 0 where
  pub entries : (ids : List (List ℕ)) → map (row_entry ids) rows ≡ given_members shape ms
  pub sound : (n : ℕ) → list_all (is_sound_row n) rows ≡ true

-- each is the name of a member whose id is one of these
abbrev pub AreNamesIn : List (List ℕ) → List ℕ → List (List ℕ) → Type 0
AreNamesIn ids shape [] = Unit {0}
AreNamesIn ids shape (name ∷ names) = IsIdentifier name × StandsAmong (member_id shape name) ids × AreNamesIn ids shape names

-- the numbers of the members of these names, where their rows stand from the first number on
pub record AreNumbers (first : ℕ) (rows : List GraphRow) (shape : List ℕ) (names : List (List ℕ)) (numbers : List ℕ) : Type 0 where
  pub mean : (before : List (List ℕ)) → length before ≡ first
      → map (λ k. get_or (before ++ ids_of rows) k []) numbers ≡ map (member_id shape) names
  pub below : are_below (first + length rows) numbers ≡ true

-- each is the id of a member of the shape
abbrev pub AreMemberIds : List ℕ → List (List ℕ) → Type 0
AreMemberIds shape [] = Unit {0}
AreMemberIds shape (id ∷ ids) = ((name : List ℕ) × IsIdentifier name × (id ≡ member_id shape name)) × AreMemberIds shape ids

-- the rows of a shape's members in the order of their ids, which stand from this number on, and their numbers in model order
pub record IsMemberBlock (first : ℕ) (shape : List ℕ) (ms : List MemberGiven) (numbers : List ℕ) (rows : List GraphRow) : Type 0 where
  pub rise : Rise (ids_of rows)
  pub members : AreMemberIds shape (ids_of rows)
  pub entries : (ids : List (List ℕ)) → IsPermutation (given_members shape ms) (map (row_entry ids) rows)
  pub sound : (n : ℕ) → list_all (is_sound_row n) rows ≡ true
  pub numbered : AreNumbers first rows shape (given_names ms) numbers

-- the rows of a shape and of its members, which stand from this number on
pub record IsBlock (first : ℕ) (s : ShapeGiven) (block : List GraphRow) : Type 0 where
  pub ids : List (List ℕ)
  pub are_ids : ids_of block ≡ s.id ∷ ids
  pub rise : Rise ids
  pub members : AreMemberIds s.id ids
  pub entries : (before : List (List ℕ)) → length before ≡ first
      → IsPermutation (given_shape s) (map (row_entry (before ++ ids_of block)) block)
  pub sound : list_all (is_sound_row (first + length block)) block ≡ true

-- the block of the shape is appended
pub record PutsBlock (s : ShapeGiven) (old new : List GraphRow) : Type 0 where
  pub block : List GraphRow
  pub appended : new ≡ old ++ block
  pub is_block : IsBlock (length old) s block

-- the rows are those of the shapes and members, in the order of their ids
pub record AreRowsOf (ss : List ShapeGiven) (rows : List GraphRow) : Type 0 where
  pub entries : IsPermutation (given_entries ss) (entries_of_rows rows)
  pub rise : Rise (ids_of rows)
  pub sound : list_all (is_sound_row (length rows)) rows ≡ true

-- the same of the first shapes, where the rest have no rows yet
pub record AreRowsUpTo (all rest : List ShapeGiven) (rows : List GraphRow) : Type 0 where
  pub entries : IsPermutation (given_entries all) (entries_of_rows rows ++ given_entries rest)
  pub rise : Rise (ids_of rows ++ given_ids rest)
  pub sound : list_all (is_sound_row (length rows)) rows ≡ true
  pub given : AreGivenShapes rest
