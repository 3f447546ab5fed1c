-- Identifiers and namespaces of Smithy 2.0 ("The Smithy model", section "Shape ID", the ABNF of shape ids).
-- Letters are those of ASCII.
use Rattle.std.specs.Prelude.{◌==◌, ◌&&◌, ◌||◌, ℕ, Bool, false, if◌then◌else◌, List, [], ◌∷◌, IsTrue}
use Rattle.std.specs.Char.{is_ascii_alphabetic, is_ascii_alphanumeric}
use Rattle.std.specs.List.{list_all, slice_split}
use Rattle.sm_bytes.specs.Ascii.{full_stop, underscore}

-- IdentifierChars = ALPHA / DIGIT / "_"
abbrev pub is_identifier_byte : ℕ → Bool
is_identifier_byte c = is_ascii_alphanumeric c || (c == underscore)

-- behind the first underscore of 1*"_" (ALPHA / DIGIT): more of them, a letter or a digit, and
-- then *IdentifierChars
abbrev pub is_behind_underscore : List ℕ → Bool
is_behind_underscore [] = false
is_behind_underscore (c ∷ cs) =
    if c == underscore then is_behind_underscore cs else is_ascii_alphanumeric c && list_all is_identifier_byte cs

-- Identifier = IdentifierStart *IdentifierChars
-- IdentifierStart = (1*"_" (ALPHA / DIGIT)) / ALPHA
abbrev pub is_identifier : List ℕ → Bool
is_identifier [] = false
is_identifier (c ∷ cs) =
    if c == underscore then is_behind_underscore cs else is_ascii_alphabetic c && list_all is_identifier_byte cs

abbrev pub IsIdentifier : List ℕ → Type 0
IsIdentifier t = IsTrue (is_identifier t)

-- what stands between the full stops of a text
abbrev pub is_full_stop : ℕ → Bool
is_full_stop c = c == full_stop

abbrev pub identifiers : List ℕ → List (List ℕ)
identifiers t = slice_split is_full_stop t

-- Namespace = Identifier *("." Identifier): each part between full stops is an identifier
abbrev pub IsNamespace : List ℕ → Type 0
IsNamespace t = IsTrue (list_all is_identifier (identifiers t))
