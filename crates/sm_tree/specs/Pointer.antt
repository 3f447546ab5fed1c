-- JSON Pointer (RFC 6901): the text of a path, and how a token is read back. Texts are their bytes in UTF-8.
use Rattle.std.specs.Prelude.{◌≡◌, ℕ, ◌==◌, ◌&&◌, if◌then◌else◌, List, [], ◌∷◌, ◌++◌, decimal}
use Rattle.sm_bytes.specs.Ascii.{slash, digit_zero, digit_one, tilde}
use Rattle.sm_tree.specs.declared.path.Step.{Step}
use Rattle.sm_tree.specs.declared.path.Step.TheVariants.{Member, Index, Key}

-- section 3: reference-token = *( unescaped / escaped ), where escaped = "~" ( "0" / "1" ) stands for '~' and '/'
abbrev pub reference_token : List ℕ → List ℕ
reference_token [] = []
reference_token (c ∷ cs) =
    (if c == tilde then tilde ∷ digit_zero ∷ [] else (if c == slash then tilde ∷ digit_one ∷ [] else c ∷ [])) ++ reference_token cs

-- one "/" reference-token; section 4: array-index is 0, or digits without a leading 0
abbrev pub step_bytes : Step → List ℕ
step_bytes (Member name) = slash ∷ reference_token name
step_bytes (Index number) = slash ∷ decimal number
step_bytes (Key name) = slash ∷ reference_token name

-- section 3: json-pointer = *( "/" reference-token )
abbrev pub pointer : List Step → List ℕ
pointer [] = []
pointer (step ∷ steps) = step_bytes step ++ pointer steps

-- any occurrence of the first byte and the second becomes the third
abbrev pub replaced : ℕ → ℕ → ℕ → List ℕ → List ℕ
replaced a b to [] = []
replaced a b to (c ∷ []) = c ∷ []
replaced a b to (c ∷ d ∷ cs) = if (c == a) && (d == b) then to ∷ replaced a b to cs else c ∷ replaced a b to (d ∷ cs)

-- section 4: first any occurrence of '~1' becomes '/', and then any occurrence of '~0' becomes '~'
abbrev pub unescaped : List ℕ → List ℕ
unescaped t = replaced tilde digit_zero tilde (replaced tilde digit_one slash t)

-- a token read back gives the name that it was written for
abbrev pub TokenReadsBack : Type 0
TokenReadsBack = (name : List ℕ) → unescaped (reference_token name) ≡ name

-- section 3: "/" stands in no token, so a pointer is cut into its tokens at each "/"
abbrev pub TokenHasNoSlash : Type 0
TokenHasNoSlash = (name before behind : List ℕ) → reference_token name ≡ before ++ slash ∷ behind → ⊥
