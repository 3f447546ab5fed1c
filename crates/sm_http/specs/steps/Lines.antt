-- What is seen of a line that ends in CR LF, in the bytes so far.
use Rattle.std.specs.Prelude.{◌≡◌, ℕ, ◌+◌, ◌≤◌, ◌⊎◌, List, [], ◌∷◌, ◌++◌, length, take, drop}
use Rattle.httparse.specs.Grammar.{AllPass, is_extension_byte}
use Rattle.sm_http.specs.declared.line.SeenLine.{SeenLine}
use Rattle.sm_http.specs.declared.line.SeenLine.TheVariants.{Whole, Part, Never}

-- a text without CR and LF, its line end, and the rest
pub record ReadsLine (bytes text rest : List ℕ) : Type 0 where
  pub passes : AllPass is_extension_byte text
  pub reads : bytes ≡ text ++ 13 ∷ 10 ∷ rest

abbrev pub NeverHasLine : List ℕ → Type 0
NeverHasLine bytes = (more text rest : List ℕ) → ReadsLine (bytes ++ more) text rest → ⊥

-- the bytes are a text, or a text and the CR behind it
pub record IsLinePart (bytes text : List ℕ) : Type 0 where
  pub passes : AllPass is_extension_byte text
  pub is : (bytes ≡ text) ⊎ (bytes ≡ text ++ 13 ∷ [])

abbrev pub SeesLine : List ℕ → SeenLine → Type 0
SeesLine bytes (Whole len) = (len + 2 ≤ length bytes) × ReadsLine bytes (take len bytes) (drop (len + 2) bytes)
SeesLine bytes (Part len) = (len ≤ length bytes) × IsLinePart bytes (take len bytes)
SeesLine bytes Never = NeverHasLine bytes
