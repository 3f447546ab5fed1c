-- The lines of the command `select`. Each ends with a line feed.
use Rattle.std.specs.Prelude.{ℕ, List, [], ◌∷◌, ◌++◌, codes}
use Rattle.std.specs.Fmt.{decimal}
use Rattle.std.specs.List.{flat_map}
use Rattle.sm_bytes.specs.Ascii.{line_feed}
use Rattle.sm_lines.specs.Lines.{line}

-- a text that is no selector: what stands at the place can't go on there, or is a form that isn't read
abbrev pub broken_selector_line : ℕ → List ℕ
broken_selector_line at = line (codes "Selector") (codes "Syntax " ++ decimal at)

abbrev pub other_selector_line : ℕ → List ℕ
other_selector_line at = line (codes "Selector") (codes "OutOfProfile " ++ decimal at)

-- ids of shapes and members, one a line
abbrev pub id_line : List ℕ → List ℕ
id_line id = id ++ line_feed ∷ []

abbrev pub id_lines : List (List ℕ) → List ℕ
id_lines ids = flat_map id_line ids
