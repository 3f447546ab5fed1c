-- Targets that are written for operations (Smithy 2.0, "httpLabel trait", "http trait"), and what is read of one by a pattern that matches it.
use Rattle.std.specs.Prelude.{◌++◌, ℕ, List, [], ◌∷◌, Option, Some, None, cond, map}
use Rattle.std.specs.List.{flat_map}
use Rattle.std.specs.Str.{bytes_eq}
use Rattle.sm_bytes.specs.Ascii.{slash}
use Rattle.sm_uri.specs.UriPattern.{UriSaid}
use Rattle.sm_uri.specs.declared.pattern.Segment.{Segment}
use Rattle.sm_uri.specs.declared.pattern.Segment.TheVariants.{Literal, Label, Greedy}
use Rattle.sm_parts.specs.Targets.{QueryPair, escaped, escaped_path, path_of, query_of, query_pairs, segments_of, written_literal, written_pair}
use Rattle.sm_parts.specs.Targets.{written_query}
use Rattle.sm_routes.specs.Routes.{labels_of, without_literals}

-- the text of a label, by its name
abbrev pub LabelText : Type 0
LabelText = List ℕ × List ℕ

abbrev pub label_text : List ℕ → List LabelText → List ℕ
label_text name [] = []
label_text name (l ∷ ls) = cond (bytes_eq l.0 name) l.1 (label_text name ls)

-- a segment behind its slash
abbrev pub written_segment : List LabelText → Segment → List ℕ
written_segment labels (Literal text) = slash ∷ escaped text
written_segment labels (Label name) = slash ∷ escaped (label_text name labels)
written_segment labels (Greedy name) = slash ∷ escaped_path (label_text name labels)

abbrev pub written_path : List Segment → List LabelText → List ℕ
written_path [] labels = slash ∷ []
written_path (segment ∷ segments) labels = flat_map (written_segment labels) (segment ∷ segments)

-- the target of a request: the pattern with texts for its labels, its literals, and then the pairs
abbrev pub written_target : UriSaid → List LabelText → List QueryPair → List ℕ
written_target u labels pairs = written_path u.segments labels ++ written_query (map written_literal u.literals ++ map written_pair pairs)

-- the labels of a target, and the pairs that the literals of the pattern leave
abbrev pub labels_by : List Segment → Option (List (List ℕ)) → List LabelText
labels_by segments None = []
labels_by segments (Some pieces) = labels_of segments pieces

abbrev pub target_labels : UriSaid → List ℕ → List LabelText
target_labels u target = labels_by u.segments (segments_of (path_of target))

abbrev pub pairs_left : UriSaid → List ℕ → List QueryPair
pairs_left u target = without_literals u.literals (query_pairs (query_of target))
