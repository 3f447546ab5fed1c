-- Reading a pattern of URIs from the front: what may still come, where nothing goes on, and what each function of the reader answers.
use Rattle.std.specs.Prelude.{◌≡◌, ◌==◌, ◌||◌, ◌<◌, ◌⊎◌, ℕ, Bool, true, false, not, List, [], ◌∷◌, ◌++◌, IsTrue, Result, Ok, Err}
use Rattle.std.specs.BTreeSet as sorted
use Rattle.std.specs.BTreeSet.{BTreeSet}
use Rattle.std.specs.Cmp.Lexicographic.{slice_cmp}
use Rattle.std.specs.List.{list_all, list_any, flat_map}
use Rattle.std.specs.Ordering.{nat_cmp}
use Rattle.std.specs.Str.{bytes_eq}
use denote.Ref.{Bor}
use Rattle.sm_bytes.specs.Ascii.{plus, slash, right_brace}
use Rattle.sm_ids.specs.Identifier.{is_identifier_byte, IsIdentifier}
use Rattle.sm_ids.specs.IdText.{BeginsText}
use Rattle.sm_ids.specs.steps.Ahead.{EndsRun, is_underscore}
use Rattle.sm_uri.specs.UriPattern.{question_mark, QueryLiteral, is_value_byte, is_key_byte, is_query_literal, label_names, greedy_names}
use Rattle.sm_uri.specs.UriPattern.{IsUri, body_text, segment_text, path_text, literal_text, query_text, UriText, IsUriText, uri_said}
use Rattle.sm_uri.specs.declared.bytes.Cut.{Cut}
use Rattle.sm_uri.specs.declared.label.LabelEnd.{LabelEnd}
use Rattle.sm_uri.specs.declared.path.Path as reader
use Rattle.sm_uri.specs.declared.path.PathRead.{PathRead}
use Rattle.sm_uri.specs.declared.pattern.Segment.{Segment}
use Rattle.sm_uri.specs.declared.pattern.Segment.TheVariants.{Label, Greedy}
use Rattle.sm_uri.specs.declared.pattern.UriPattern.{UriPattern}
use Rattle.sm_uri.specs.declared.query.LiteralRead.{LiteralRead}
use Rattle.sm_uri.specs.declared.stop.PatternStop.{PatternStop}
use Rattle.sm_uri.specs.declared.stop.PatternStop.TheVariants.{At, NoMemory}
use Rattle.std.specs.Global.{Vec}

-- no text of a kind goes on behind these bytes as the rest does: with its first byte, or by ending where it is empty
abbrev pub NoneGoesOn : (List ℕ → Type 0) → List ℕ → List ℕ → Type 0
NoneGoesOn L taken [] = L taken → ⊥
NoneGoesOn L taken (c ∷ rest) = (more : List ℕ) → L (taken ++ c ∷ more) → ⊥

-- the bytes before this rest begin a text of a kind, and none goes on with it
pub record StopsBefore (L : List ℕ → Type 0) (bytes rest : List ℕ) : Type 0 where
  pub taken : List ℕ
  pub cut : bytes ≡ taken ++ rest
  pub begun : BeginsText L taken
  pub none : NoneGoesOn L taken rest

-- a segment ends before a `/`, a `?` or the end, and the path of no segments before the last two
abbrev pub is_inner_byte : ℕ → Bool
is_inner_byte c = not ((c == slash) || (c == question_mark))

abbrev pub ends_segment : List ℕ → Bool
ends_segment [] = true
ends_segment (c ∷ cs) = (c == slash) || (c == question_mark)

abbrev pub ends_path : List ℕ → Bool
ends_path [] = true
ends_path (c ∷ cs) = c == question_mark

abbrev pub IsNotRoot : List Segment → List ℕ → Type 0
IsNotRoot before rest = before ≡ [] → ends_path rest ≡ false

-- segments and a query
abbrev pub tail_text : List Segment → List QueryLiteral → List ℕ
tail_text segments literals = flat_map segment_text segments ++ query_text literals

-- behind these segments and a `/`: one more segment and a tail; or, where there are none, a query or nothing
pub record SegmentAhead (before : List Segment) (rest : List ℕ) : Type 0 where
  pub segment : Segment
  pub more : List Segment
  pub literals : List QueryLiteral
  pub spelled : rest ≡ body_text segment ++ tail_text more literals
  pub is_uri : IsUri (record { segments = before ++ segment ∷ more; literals = literals })

pub record RootAhead (before : List Segment) (rest : List ℕ) : Type 0 where
  pub none : before ≡ []
  pub literals : List QueryLiteral
  pub spelled : rest ≡ query_text literals
  pub are : IsTrue (list_all is_query_literal literals)

abbrev pub AfterSlash : List Segment → List ℕ → Type 0
AfterSlash before rest = SegmentAhead before rest ⊎ RootAhead before rest

-- the literals of a query, behind its `?`
pub record IsQuery (literals : List QueryLiteral) (rest : List ℕ) : Type 0 where
  pub spelled : question_mark ∷ rest ≡ query_text literals
  pub are : IsTrue (list_all is_query_literal literals)

abbrev pub QueryAhead : List ℕ → Type 0
QueryAhead rest = (literals : List QueryLiteral) × IsQuery literals rest

-- a text may be cut at the end of a run of the class: there is ASCII before it, or behind it
abbrev pub CutsText : (ℕ → Bool) → Type 0
CutsText test = ((c : ℕ) → test c ≡ true → c < 128) ⊎ ((c : ℕ) → test c ≡ false → c < 128)

pub record IsRunCut (test : ℕ → Bool) (text : List ℕ) (cut : Cut) : Type 0 where
  pub parts : text ≡ cut.taken.now ++ cut.behind.now
  pub passes : list_all test cut.taken.now ≡ true
  pub ends : EndsRun test cut.behind.now

-- the name of a label
abbrev pub BeginsWithName : List ℕ → Type 0
BeginsWithName text = (name rest : List ℕ) × IsIdentifier name × (text ≡ name ++ rest)

pub record IsNameCut (text taken behind : List ℕ) : Type 0 where
  pub parts : text ≡ taken ++ behind
  pub name : IsIdentifier taken
  pub ends : EndsRun is_identifier_byte behind

pub record HasNoName (text rest : List ℕ) : Type 0 where
  pub low_lines : List ℕ
  pub cut : text ≡ low_lines ++ rest
  pub are : list_all is_underscore low_lines ≡ true
  pub none : NoneGoesOn BeginsWithName low_lines rest

abbrev pub TakesName : List ℕ → Result Cut (Bor (List ℕ)) → Type 0
TakesName text (Ok cut) = IsNameCut text cut.taken.now cut.behind.now
TakesName text (Err rest) = HasNoName text rest.now

-- the end of a label
abbrev pub closing_text : Bool → List ℕ
closing_text false = right_brace ∷ []
closing_text true = plus ∷ right_brace ∷ []

abbrev pub BeginsWithClosing : List ℕ → Type 0
BeginsWithClosing text = (greedy : Bool) × (rest : List ℕ) × (text ≡ closing_text greedy ++ rest) × (ends_segment rest ≡ true)

pub record HasNoClosing (text rest : List ℕ) : Type 0 where
  pub taken : List ℕ
  pub cut : text ≡ taken ++ rest
  pub greedy : Bool
  pub more : List ℕ
  pub begun : taken ++ more ≡ closing_text greedy
  pub none : NoneGoesOn BeginsWithClosing taken rest

abbrev pub TakesLabelEnd : List ℕ → Result LabelEnd (Bor (List ℕ)) → Type 0
TakesLabelEnd text (Ok end) = (text ≡ closing_text end.greedy ++ end.behind.now) × (ends_segment end.behind.now ≡ true)
TakesLabelEnd text (Err rest) = HasNoClosing text rest.now

-- a label, greedy or not
abbrev pub labelled : Bool → List ℕ → Segment
labelled false name = Label name
labelled true name = Greedy name

-- what a reader of segments knows of those before
abbrev pub holds_text : BTreeSet (Bor (List ℕ)) → List ℕ → Bool
holds_text set text = sorted.contains_by (λ k. slice_cmp nat_cmp text k.now) set

abbrev pub is_some_name : List (List ℕ) → Bool
is_some_name [] = false
is_some_name (name ∷ names) = true

pub record IsPathRead (p : reader.Path) : Type 0 where
  pub is_uri : IsUri (record { segments = p.segments.items; literals = [] })
  pub names : (id : List ℕ) → holds_text p.names id ≡ list_any (λ k. bytes_eq k id) (label_names p.segments.items)
  pub greedy : p.greedy ≡ is_some_name (greedy_names p.segments.items)

-- a segment that was read
pub record IsSegmentRead (old new : reader.Path) (rest behind : List ℕ) : Type 0 where
  pub segment : Segment
  pub read : IsPathRead new
  pub is : new.segments.items ≡ old.segments.items ++ segment ∷ []
  pub spelled : rest ≡ body_text segment ++ behind
  pub ends : ends_segment behind ≡ true

abbrev pub ReadsSegment : reader.Path → reader.Path → List ℕ → Result (Bor (List ℕ)) PatternStop → Type 0
ReadsSegment old new rest (Ok behind) = IsSegmentRead old new rest behind.now
ReadsSegment old new rest (Err (At left)) = StopsBefore (AfterSlash old.segments.items) rest left.now
ReadsSegment old new rest (Err NoMemory) = Unit {0}

-- a path that was read
pub record IsPathBefore (text : List ℕ) (segments : List Segment) (behind : List ℕ) : Type 0 where
  pub is_uri : IsUri (record { segments = segments; literals = [] })
  pub spelled : text ≡ path_text segments ++ behind
  pub ends : ends_path behind ≡ true
  pub leads : (x : List ℕ) → IsUriText (path_text segments ++ question_mark ∷ x) → QueryAhead x

abbrev pub ReadsPath : List ℕ → Result PathRead PatternStop → Type 0
ReadsPath text (Ok path) = IsPathBefore text path.segments.items path.behind.now
ReadsPath text (Err (At left)) = StopsBefore IsUriText text left.now
ReadsPath text (Err NoMemory) = Unit {0}

-- a literal of the query that was read
pub record IsLiteralRead (text : List ℕ) (literal : QueryLiteral) (behind : List ℕ) : Type 0 where
  pub spelled : text ≡ literal_text literal ++ behind
  pub is : IsTrue (is_query_literal literal)
  pub ends : EndsRun is_value_byte behind

abbrev pub TakesLiteral : List ℕ → Result LiteralRead PatternStop → Type 0
TakesLiteral text (Ok read) = IsLiteralRead text read.literal read.behind.now
TakesLiteral text (Err (At left)) = (left.now ≡ text) × EndsRun is_key_byte text
TakesLiteral text (Err NoMemory) = Unit {0}

abbrev pub ReadsQuery : List ℕ → Result (Vec QueryLiteral) PatternStop → Type 0
ReadsQuery text (Ok literals) = IsQuery literals.items text
ReadsQuery text (Err (At left)) = StopsBefore QueryAhead text left.now
ReadsQuery text (Err NoMemory) = Unit {0}

-- the whole pattern
abbrev pub ReadsUri : List ℕ → Result UriPattern PatternStop → Type 0
ReadsUri text (Ok u) = UriText (uri_said u) text
ReadsUri text (Err (At left)) = StopsBefore IsUriText text left.now
ReadsUri text (Err NoMemory) = Unit {0}
