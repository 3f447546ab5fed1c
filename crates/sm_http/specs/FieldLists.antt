-- Tokens in the lists that fields are (RFC 9110, sections 5.3 and 5.6.1). Elements stand between commas, with spaces and tabs around
-- them; several fields of a name are one list together. What is no token, as an empty element, is passed over. Tokens are compared
-- without case.
use Rattle.std.specs.Prelude.{ℕ, List, Bool, ◌==◌, ◌&&◌}
use Rattle.std.specs.List.{list_any, slice_split}
use Rattle.std.specs.Str.{str_eq_ignore_ascii_case}
use Rattle.httparse.specs.Grammar.{is_token, trim_ows}
use Rattle.sm_bytes.specs.Ascii.{comma}

abbrev pub is_comma : ℕ → Bool
is_comma b = b == comma

-- OWS token OWS
abbrev pub is_element : List ℕ → List ℕ → Bool
is_element token part = str_eq_ignore_ascii_case (trim_ows part) token && is_token (trim_ows part)

-- the token is an element of this list
abbrev pub lists_token : List ℕ → List ℕ → Bool
lists_token token value = list_any (is_element token) (slice_split is_comma value)

-- or of one of these lists, which are one list together
abbrev pub has_token : List ℕ → List (List ℕ) → Bool
has_token token values = list_any (lists_token token) values
