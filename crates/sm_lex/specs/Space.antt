-- What may stand between tokens (Smithy 2.0, "Smithy IDL", "Whitespace" and "Comments"): whitespace, and
-- comments from `//` up to a line feed or the end. A comment that begins with `///` is documentation.
use Rattle.std.specs.Prelude.{◌≡◌, ℕ, ◌==◌, Bool, true, false, cond, List, [], ◌∷◌, ◌++◌, drop, length, codes, Option, Some, None}
use Rattle.std.specs.List.{before_first}
use Rattle.sm_bytes.specs.Ascii.{line_feed, space, slash}
use Rattle.sm_lex.specs.Bytes.{is_idl_white, opens_with}

-- one byte of whitespace, or a comment with the text behind its first two slashes
pub data Piece : Type 0 where
  white : ℕ → Piece
  comment : List ℕ → Piece

abbrev pub is_line_feed : ℕ → Bool
is_line_feed c = c == line_feed

-- s is these pieces, and then r. A comment takes in all that stands before the next line feed
abbrev pub SpacePieces : List Piece → List ℕ → List ℕ → Type 0
SpacePieces [] s r = s ≡ r
SpacePieces (white c ∷ ps) s r = (s1 : List ℕ) × (s ≡ c ∷ s1) × (is_idl_white c ≡ true) × SpacePieces ps s1 r
SpacePieces (comment t ∷ ps) s r =
    (s1 : List ℕ) × (s ≡ slash ∷ (slash ∷ s1)) × (t ≡ before_first is_line_feed s1) × SpacePieces ps (drop (length t) s1) r

-- neither whitespace nor a comment begins here
abbrev pub EndsSpace : List ℕ → Type 0
EndsSpace [] = Unit {0}
EndsSpace (c ∷ s) = (is_idl_white c ≡ false) × (opens_with (c ∷ s) (codes "//") ≡ false)

-- s is whitespace and comments, and then r
abbrev pub SkipsSpace : List ℕ → List ℕ → Type 0
SkipsSpace s r = (ps : List Piece) × SpacePieces ps s r

abbrev pub without_space : List ℕ → List ℕ
without_space [] = []
without_space (c ∷ t) = cond (c == space) t (c ∷ t)

-- the texts of the documentation comments: what follows `///`, without one leading space
abbrev pub doc_texts : List Piece → List (List ℕ)
doc_texts [] = []
doc_texts (white c ∷ ps) = doc_texts ps
doc_texts (comment [] ∷ ps) = doc_texts ps
doc_texts (comment (c ∷ t) ∷ ps) = cond (c == slash) (without_space t ∷ doc_texts ps) (doc_texts ps)

-- the texts joined with line feeds, behind those so far, where there are any
abbrev pub docs_joined : Option (List ℕ) → List (List ℕ) → Option (List ℕ)
docs_joined docs [] = docs
docs_joined None (t ∷ ts) = docs_joined (Some t) ts
docs_joined (Some docs) (t ∷ ts) = docs_joined (Some (docs ++ (line_feed ∷ t))) ts

-- what the documentation comments in the whitespace before the first token of s say, if there are any
abbrev pub Documents : List ℕ → Option (List ℕ) → Type 0
Documents s docs = (ps : List Piece) × (r : List ℕ) × SpacePieces ps s r × EndsSpace r × (docs ≡ docs_joined None (doc_texts ps))
