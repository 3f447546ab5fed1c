-- What the first piece of a list comes to, by how the list is cut.
use Rattle.std.specs.Prelude.{◌≡◌, ◌<◌, ℕ, List, [], ◌∷◌, length, Option, Some, None}
use denote.Ref.{Bor}
use Rattle.sm_parts.specs.HeaderLists.{pieces_of}
use Rattle.sm_parts.specs.declared.cut.Cut.{Cut}
use Rattle.sm_parts.specs.declared.list_entry.HeaderCut.{HeaderCut}

-- the first piece of a list that is cut so
abbrev pub IsPieceBy : HeaderCut → List ℕ → List ℕ → Option (Bor (List ℕ)) → Type 0
IsPieceBy cut bytes taken None = pieces_of cut bytes ≡ taken ∷ []
IsPieceBy cut bytes taken (Some behind) =
    (pieces_of cut bytes ≡ taken ∷ pieces_of cut behind.now) × (length behind.now < length bytes)

abbrev pub IsPieceOf : HeaderCut → List ℕ → Cut → Type 0
IsPieceOf cut bytes piece = IsPieceBy cut bytes piece.taken.now piece.behind
