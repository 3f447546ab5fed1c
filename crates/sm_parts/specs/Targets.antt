-- Targets of requests as routes and members see them (RFC 9112, section 3.2.1; RFC 3986, sections 2.1, 2.3, 3.3 and 3.4; Smithy 2.0,
-- "httpLabel trait", "httpQuery trait"): the segments of a path, and the pairs of a query. They are cut first and decoded then. A percent
-- sign without two hexadecimal digits behind it stands for itself, and so does `+`.
use Rattle.std.specs.Prelude.{ℕ, Bool, true, false, ◌==◌, ◌||◌, if◌then◌else◌, List, [], ◌∷◌, ◌++◌, map, Option, Some, None, unwrap_or}
use Rattle.std.specs.Char.{is_ascii_alphanumeric}
use Rattle.std.specs.List.{after_first, before_first, filter, flat_map, join_with_byte, slice_split}
use Rattle.percent_encoding.specs.Percent.{percent_decode, percent_encode_byte}
use Rattle.sm_bytes.specs.Ascii.{equals, full_stop, minus, slash, tilde, underscore}
use Rattle.sm_uri.specs.UriPattern.{QueryLiteral, ampersand, question_mark}
use Rattle.sm_parts.specs.HeaderLists.{is_filled}

abbrev pub is_question_mark : ℕ → Bool
is_question_mark b = b == question_mark

abbrev pub is_slash : ℕ → Bool
is_slash b = b == slash

abbrev pub is_ampersand : ℕ → Bool
is_ampersand b = b == ampersand

abbrev pub is_equals : ℕ → Bool
is_equals b = b == equals

-- the path, up to the first question mark, and the query behind it
abbrev pub path_of : List ℕ → List ℕ
path_of target = before_first is_question_mark target

abbrev pub query_of : List ℕ → List ℕ
query_of target = after_first is_question_mark target

-- the segments of a path as they are written, each behind its slash: none of `/` alone. What doesn't begin with a slash is no path
abbrev pub split_path : List ℕ → List (List ℕ)
split_path [] = []
split_path (b ∷ path) = slice_split is_slash (b ∷ path)

abbrev pub segments_of : List ℕ → Option (List (List ℕ))
segments_of [] = None
segments_of (b ∷ path) = if b == slash then Some (split_path path) else None

-- A pair of a query: its key, and what stands behind the first `=`, which is nothing where there is none. An empty piece is no pair
abbrev pub QueryPair : Type 0
QueryPair = List ℕ × List ℕ

abbrev pub pair_of : List ℕ → QueryPair
pair_of piece = (percent_decode (before_first is_equals piece), percent_decode (after_first is_equals piece))

abbrev pub pairs_of : List (List ℕ) → List QueryPair
pairs_of pieces = map pair_of (filter is_filled pieces)

abbrev pub query_pairs : List ℕ → List QueryPair
query_pairs query = pairs_of (slice_split is_ampersand query)

-- what is written: every byte escaped but letters, digits, `-`, `.`, `_` and `~`
abbrev pub is_unreserved : ℕ → Bool
is_unreserved b = is_ascii_alphanumeric b || ((b == minus) || ((b == full_stop) || ((b == underscore) || (b == tilde))))

abbrev pub escaped_byte : ℕ → List ℕ
escaped_byte b = if is_unreserved b then b ∷ [] else percent_encode_byte b

abbrev pub escaped : List ℕ → List ℕ
escaped text = flat_map escaped_byte text

-- the same, with slashes as they are: of a greedy label
abbrev pub escaped_path_byte : ℕ → List ℕ
escaped_path_byte b = if is_slash b then b ∷ [] else escaped_byte b

abbrev pub escaped_path : List ℕ → List ℕ
escaped_path text = flat_map escaped_path_byte text

-- a pair of a member has its `=`; a literal has one where its pattern has
abbrev pub written_pair : QueryPair → List ℕ
written_pair pair = escaped pair.0 ++ equals ∷ escaped pair.1

abbrev pub written_value : Option (List ℕ) → List ℕ
written_value None = []
written_value (Some value) = equals ∷ escaped value

abbrev pub written_literal : QueryLiteral → List ℕ
written_literal literal = escaped literal.0 ++ written_value literal.1

-- a query of these pieces behind its question mark; none where there are none
abbrev pub written_query : List (List ℕ) → List ℕ
written_query [] = []
written_query (piece ∷ pieces) = question_mark ∷ join_with_byte ampersand (piece ∷ pieces)
