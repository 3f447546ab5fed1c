-- The form of the words of `schema`.
use Rattle.std.specs.Prelude.{◌≡◌, ℕ, Bool, true, false, List, [], ◌∷◌, codes}

-- the word for the names under which members stand: their own, or their JSON names
abbrev pub names_word : Bool → List ℕ
names_word false = codes "members"
names_word true = codes "json"

-- the word that may stand last, and asks for what people read in a schema
abbrev pub described_words : Bool → List (List ℕ)
described_words false = []
described_words true = codes "described" ∷ []

-- schema MODELFILE SHAPE NAMES, or schema MODELFILE SHAPE NAMES described
abbrev pub IsSchemaForm : List (List ℕ) → List ℕ → List ℕ → Bool → Bool → Type 0
IsSchemaForm words model shape json_names described =
    words ≡ codes "schema" ∷ model ∷ shape ∷ names_word json_names ∷ described_words described
