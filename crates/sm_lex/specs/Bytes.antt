-- The bytes of a model's text (Smithy 2.0, "Smithy IDL", section "Grammar"): what each begins where a token
-- may stand, and which go on with a word. All of them are ASCII.
use Rattle.std.specs.Prelude.{◌≡◌, ℕ, ◌==◌, ◌||◌, Bool, cond, List, [], ◌∷◌, nat_eq}
use Rattle.std.specs.Char.{is_ascii_alphabetic, is_ascii_digit}
use Rattle.std.specs.List.{starts_with}
use Rattle.sm_bytes.specs.Ascii.{tab, line_feed, carriage_return, space, quote, number_sign, dollar, left_parenthesis, right_parenthesis}
use Rattle.sm_bytes.specs.Ascii.{comma, minus, full_stop, slash, colon, equals, at_sign, left_bracket, right_bracket, underscore}
use Rattle.sm_bytes.specs.Ascii.{left_brace, right_brace}
use Rattle.sm_lex.specs.declared.byte.First.{First}
use Rattle.sm_lex.specs.declared.byte.First.TheVariants.{White, Slash, Word, Number, Quote, Mark, Stray}

-- space, tab, CR, LF and comma
abbrev pub is_idl_white : ℕ → Bool
is_idl_white c = (c == space) || ((c == tab) || ((c == carriage_return) || ((c == line_feed) || (c == comma))))

-- a letter or `_`
abbrev pub begins_word : ℕ → Bool
begins_word c = is_ascii_alphabetic c || (c == underscore)

-- a letter, a digit, `_`, `.`, `#` or `$`
abbrev pub is_word_byte : ℕ → Bool
is_word_byte c = begins_word c || (is_ascii_digit c || ((c == full_stop) || ((c == number_sign) || (c == dollar))))

-- one of `{ } [ ] ( )`
abbrev pub is_bracket : ℕ → Bool
is_bracket c =
    (c == left_brace) || ((c == right_brace) || ((c == left_bracket) || ((c == right_bracket)
    || ((c == left_parenthesis) || (c == right_parenthesis)))))

-- a bracket, or one of `: = @ $`
abbrev pub begins_mark : ℕ → Bool
begins_mark c = is_bracket c || ((c == colon) || ((c == equals) || ((c == at_sign) || (c == dollar))))

-- a digit or `-`
abbrev pub begins_number : ℕ → Bool
begins_number c = is_ascii_digit c || (c == minus)

-- what a byte begins where a token may stand
abbrev pub first_of : ℕ → First
first_of c =
    cond (is_idl_white c) White (cond (c == slash) Slash (cond (begins_word c) Word (cond (begins_number c) Number
    (cond (c == quote) Quote (cond (begins_mark c) Mark Stray)))))

-- the first byte of s is of this class
abbrev pub FirstIs : First → List ℕ → Type 0
FirstIs f [] = ⊥
FirstIs f (c ∷ s) = first_of c ≡ f

-- s begins with these bytes
abbrev pub opens_with : List ℕ → List ℕ → Bool
opens_with s word = starts_with nat_eq s word
