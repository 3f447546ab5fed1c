-- Patterns of URIs, and the texts that spell them (Smithy 2.0, "http trait", sections "uri", "Labels", "Query string literals"): `/`
-- alone, or segments that each follow a `/`; then, behind `?`, literals of the query.
use Rattle.std.specs.Prelude.{◌≡◌, ◌==◌, ◌&&◌, ◌||◌, ℕ, Bool, true, false, not, List, [], ◌∷◌, ◌++◌, Option, Some, None, IsTrue, Result, Ok}
use Rattle.std.specs.Prelude.{Err}
use Rattle.std.specs.List.{list_all, flat_map}
use Rattle.sm_bytes.specs.Ascii.{number_sign, plus, slash, equals, left_brace, right_brace}
use Rattle.sm_ids.specs.Identifier.{is_identifier}
use Rattle.sm_ids.specs.IdText.{BreaksAt}
use Rattle.sm_shapes.specs.Names.{AllDiffer}
use Rattle.sm_uri.specs.declared.pattern.Segment.{Segment}
use Rattle.sm_uri.specs.declared.pattern.Segment.TheVariants.{Literal, Label, Greedy}
use Rattle.sm_uri.specs.declared.pattern.UriPattern.{UriPattern}
use Rattle.sm_uri.specs.declared.pattern.UriRefusal.{UriRefusal}
use Rattle.sm_uri.specs.declared.pattern.UriRefusal.TheVariants.{Bad, NoMemory}

abbrev pub question_mark : ℕ
question_mark = 63

abbrev pub ampersand : ℕ
ampersand = 38

-- a literal of the query: its key, and its value where one is given
abbrev pub QueryLiteral : Type 0
QueryLiteral = List ℕ × Option (List ℕ)

-- a pattern: the segments of its path, and the literals of its query
pub record UriSaid : Type 0 where
  pub segments : List Segment
  pub literals : List QueryLiteral

-- the bytes of literal text in a path; those of a key and of a value of the query
abbrev pub is_brace : ℕ → Bool
is_brace c = (c == left_brace) || (c == right_brace)

abbrev pub is_literal_byte : ℕ → Bool
is_literal_byte c = not (is_brace c || ((c == question_mark) || ((c == number_sign) || (c == slash))))

abbrev pub is_value_byte : ℕ → Bool
is_value_byte c = not (is_brace c || ((c == ampersand) || (c == number_sign)))

abbrev pub is_key_byte : ℕ → Bool
is_key_byte c = is_value_byte c && not (c == equals)

-- a text of one byte or more, all of a class
abbrev pub is_text_of : (ℕ → Bool) → List ℕ → Bool
is_text_of test [] = false
is_text_of test (c ∷ cs) = list_all test (c ∷ cs)

-- the name of a label is an identifier
abbrev pub is_segment : Segment → Bool
is_segment (Literal text) = is_text_of is_literal_byte text
is_segment (Label name) = is_identifier name
is_segment (Greedy name) = is_identifier name

abbrev pub is_value : Option (List ℕ) → Bool
is_value None = true
is_value (Some value) = list_all is_value_byte value

abbrev pub is_query_literal : QueryLiteral → Bool
is_query_literal l = is_text_of is_key_byte l.0 && is_value l.1

-- the names of the labels in order, greedy or not; and of the greedy ones
abbrev pub label_name : Segment → List (List ℕ)
label_name (Literal text) = []
label_name (Label name) = name ∷ []
label_name (Greedy name) = name ∷ []

abbrev pub greedy_name : Segment → List (List ℕ)
greedy_name (Literal text) = []
greedy_name (Label name) = []
greedy_name (Greedy name) = name ∷ []

abbrev pub label_names : List Segment → List (List ℕ)
label_names segments = flat_map label_name segments

abbrev pub greedy_names : List Segment → List (List ℕ)
greedy_names segments = flat_map greedy_name segments

-- a greedy label is the last label; literals may follow it
abbrev pub IsGreedyLast : List Segment → Type 0
IsGreedyLast [] = Unit {0}
IsGreedyLast (Literal text ∷ segments) = IsGreedyLast segments
IsGreedyLast (Label name ∷ segments) = IsGreedyLast segments
IsGreedyLast (Greedy name ∷ segments) = label_names segments ≡ []

pub record IsUri (u : UriSaid) : Type 0 where
  pub segments : IsTrue (list_all is_segment u.segments)
  pub names : AllDiffer (label_names u.segments)
  pub greedy : IsGreedyLast u.segments
  pub literals : IsTrue (list_all is_query_literal u.literals)

-- the text of a segment behind its `/`
abbrev pub body_text : Segment → List ℕ
body_text (Literal text) = text
body_text (Label name) = left_brace ∷ (name ++ right_brace ∷ [])
body_text (Greedy name) = left_brace ∷ (name ++ plus ∷ right_brace ∷ [])

abbrev pub segment_text : Segment → List ℕ
segment_text segment = slash ∷ body_text segment

abbrev pub path_text : List Segment → List ℕ
path_text [] = slash ∷ []
path_text (segment ∷ segments) = flat_map segment_text (segment ∷ segments)

-- a query literal, and those behind the first, each with its `&`
abbrev pub value_text : Option (List ℕ) → List ℕ
value_text None = []
value_text (Some value) = equals ∷ value

abbrev pub literal_text : QueryLiteral → List ℕ
literal_text l = l.0 ++ value_text l.1

abbrev pub more_text : List QueryLiteral → List ℕ
more_text literals = flat_map (λ l. ampersand ∷ literal_text l) literals

abbrev pub query_text : List QueryLiteral → List ℕ
query_text [] = []
query_text (l ∷ ls) = question_mark ∷ (literal_text l ++ more_text ls)

-- the text of a pattern
abbrev pub printed_uri : UriSaid → List ℕ
printed_uri u = path_text u.segments ++ query_text u.literals

-- the text spells the pattern
pub record UriText (u : UriSaid) (text : List ℕ) : Type 0 where
  pub is_uri : IsUri u
  pub spelled : text ≡ printed_uri u

abbrev pub IsUriText : List ℕ → Type 0
IsUriText text = (u : UriSaid) × UriText u text

-- the pattern that a value of the code stands for
abbrev pub uri_said : UriPattern → UriSaid
uri_said u = record { segments = u.segments.items; literals = u.literals.items }

-- what `UriPattern::parse` answers: the pattern that the text spells, or how many of its leading bytes begin one
abbrev pub ParsesUri : List ℕ → Result UriPattern UriRefusal → Type 0
ParsesUri text (Ok u) = UriText (uri_said u) text
ParsesUri text (Err (Bad at)) = BreaksAt IsUriText text at
ParsesUri text (Err NoMemory) = Unit {0}

-- a law: a text spells one pattern
abbrev pub OneUri : Type 0
OneUri = (u v : UriSaid) (text : List ℕ) → UriText u text → UriText v text → Path UriSaid u v
