-- What a member path of an operation stands for: its start, and the way from there, if it goes on.
use Rattle.std.specs.Prelude.{ℕ, List, [], ◌∷◌, ◌++◌}
use Rattle.sm_bytes.specs.Ascii.{slash}

abbrev pub member_path_text : List ℕ → List ℕ → List ℕ
member_path_text start [] = start
member_path_text start (c ∷ cs) = start ++ slash ∷ c ∷ cs
