-- The tokens of selectors (Smithy 2.0, "Selectors", "Grammar"): the quoted terminals of the grammar, words, quoted texts and numbers.
-- White space may stand between them.
use Rattle.std.specs.Prelude.{◌≡◌, ◌⊎◌, ◌==◌, ◌||◌, ℕ, Bool, true, false, List, [], ◌∷◌, ◌++◌, codes}
use Rattle.std.specs.Char.{is_ascii_alphabetic, is_ascii_digit}
use Rattle.std.specs.List.{AllPass, Contains}
use Rattle.sm_bytes.specs.Ascii.{apostrophe, carriage_return, full_stop, line_feed, number_sign, quote, space, tab, underscore}
use Rattle.sm_ids.specs.Identifier.{IsIdentifier}
use Rattle.sm_ids.specs.IdText.{IsIdText}
use Rattle.sm_tree.specs.Numbers.{IsNumber}

-- space, tab, CR and LF
abbrev pub is_selector_white : ℕ → Bool
is_selector_white c = (c == space) || ((c == tab) || ((c == carriage_return) || (c == line_feed)))

-- s is white space, and then r
abbrev pub SkipsWhite : List ℕ → List ℕ → Type 0
SkipsWhite s r = (white : List ℕ) × (s ≡ white ++ r) × AllPass is_selector_white white

-- no white space stands first
abbrev pub EndsWhite : List ℕ → Type 0
EndsWhite [] = Unit {0}
EndsWhite (c ∷ s) = is_selector_white c ≡ false

-- the runs that no token cuts: letters, digits, `_`, `.` and `#`, of which a letter or `_` comes first
abbrev pub begins_run : ℕ → Bool
begins_run c = is_ascii_alphabetic c || (c == underscore)

abbrev pub is_run_byte : ℕ → Bool
is_run_byte c = begins_run c || (is_ascii_digit c || ((c == full_stop) || (c == number_sign)))

-- the token goes into such a run, and what stands behind it goes on with it
abbrev pub GoesOnWithRun : List ℕ → Type 0
GoesOnWithRun [] = ⊥
GoesOnWithRun (c ∷ s) = is_run_byte c ≡ true

pub record EndsInRun (t : List ℕ) : Type 0 where
  pub before : List ℕ
  pub first : ℕ
  pub run : List ℕ
  pub begins : begins_run first ≡ true
  pub goes_on : AllPass is_run_byte run
  pub whole : t ≡ before ++ first ∷ run

-- the terminals that aren't words
abbrev pub terminals : List (List ℕ)
terminals = codes "*" ∷ codes ">" ∷ codes "<" ∷ codes "~>" ∷ codes "-[" ∷ codes "]->" ∷ codes "[" ∷ codes "]" ∷ codes ":is(" ∷ codes ":not("
    ∷ codes ":test(" ∷ codes ")" ∷ codes "," ∷ codes "|" ∷ codes "id|namespace" ∷ codes "id|name" ∷ codes "id|member" ∷ codes "trait|"
    ∷ codes "=" ∷ codes "!=" ∷ codes "^=" ∷ codes "$=" ∷ codes "*=" ∷ []

pub data Token : Type 0 where
  terminal : List ℕ → Token
  -- an identifier or an id
  word : List ℕ → Token
  -- the text between two quotation marks or two apostrophes
  quoted : List ℕ → Token
  numeral : List ℕ → Token

abbrev pub IsFree : ℕ → List ℕ → Type 0
IsFree mark t = Contains t mark → ⊥

abbrev pub IsQuotedBy : ℕ → List ℕ → List ℕ → Type 0
IsQuotedBy mark inside t = (t ≡ mark ∷ inside ++ mark ∷ []) × IsFree mark inside

-- the bytes are those of the token
abbrev pub TokenIs : Token → List ℕ → Type 0
TokenIs (terminal t) bytes = (bytes ≡ t) × Contains terminals t
TokenIs (word t) bytes = (bytes ≡ t) × (IsIdentifier t ⊎ IsIdText t)
TokenIs (quoted t) bytes = IsQuotedBy quote t bytes ⊎ IsQuotedBy apostrophe t bytes
TokenIs (numeral t) bytes = (bytes ≡ t) × IsNumber t

-- quoted text ends where it ends; no other token ends inside a run
abbrev pub MayEnd : Token → List ℕ → List ℕ → Type 0
MayEnd (quoted t) bytes behind = Unit {0}
MayEnd (terminal t) bytes behind = EndsInRun bytes → GoesOnWithRun behind → ⊥
MayEnd (word t) bytes behind = EndsInRun bytes → GoesOnWithRun behind → ⊥
MayEnd (numeral t) bytes behind = EndsInRun bytes → GoesOnWithRun behind → ⊥

-- `<` directly before `-[`, and `[` directly before `@`, begin forms of the standard that are not read
abbrev pub BeginsOther : List ℕ → Type 0
BeginsOther s = ((more : List ℕ) × (s ≡ codes "<-[" ++ more)) ⊎ ((more : List ℕ) × (s ≡ codes "[@" ++ more))

-- s is a token, and then r
pub record TokenThen (token : Token) (s r : List ℕ) : Type 0 where
  pub bytes : List ℕ
  pub is_token : TokenIs token bytes
  pub spelled : s ≡ bytes ++ r
  pub may_end : MayEnd token bytes r
  pub not_other : BeginsOther s → ⊥

-- s is these tokens, with white space before each, and then r
abbrev pub TokensThen : List Token → List ℕ → List ℕ → Type 0
TokensThen [] s r = s ≡ r
TokensThen (t ∷ ts) s r = (first behind : List ℕ) × SkipsWhite s first × TokenThen t first behind × TokensThen ts behind r
