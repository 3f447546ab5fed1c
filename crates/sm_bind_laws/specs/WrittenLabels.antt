-- What is asked of texts, so that the target that is written with them is read as they are: labels that aren't empty, and bytes everywhere.
use Rattle.std.specs.Prelude.{◌≡◌, ◌<◌, ℕ, true, List, All, IfSome, map}
use Rattle.std.specs.List.{AllByRecursion}
use Rattle.sm_uri.specs.UriPattern.{QueryLiteral, UriSaid, label_names}
use Rattle.sm_parts.specs.HeaderLists.{is_filled}
use Rattle.sm_parts.specs.Laws.{AreBytesOf}
use Rattle.sm_parts.specs.Targets.{QueryPair}
use Rattle.sm_routes.specs.WrittenTargets.{LabelText, label_text}

abbrev pub AreAllBytes : List ℕ → Type 0
AreAllBytes u = All (λ b. b < 256) u

-- the labels of these names, each with its text
abbrev pub texts_for : List (List ℕ) → List LabelText → List LabelText
texts_for names labels = map (λ name. (name, label_text name labels)) names

-- the text of each label isn't empty
abbrev pub IsLabelled : List LabelText → List ℕ → Type 0
IsLabelled labels name = (is_filled (label_text name labels) ≡ true) × AreAllBytes (label_text name labels)

abbrev pub AreAllLabelled : List LabelText → List (List ℕ) → Type 0
AreAllLabelled labels names = AllByRecursion (IsLabelled labels) names

-- a literal of the query
abbrev pub IsLiteralOfBytes : QueryLiteral → Type 0
IsLiteralOfBytes l = AreAllBytes l.0 × IfSome l.1 AreAllBytes

abbrev pub HasLiteralBytes : UriSaid → Type 0
HasLiteralBytes u = AllByRecursion IsLiteralOfBytes u.literals

-- a pattern, labels and pairs with which a target can be written
pub record CanBeWritten (u : UriSaid) (labels : List LabelText) (pairs : List QueryPair) : Type 0 where
  pub literals : HasLiteralBytes u
  pub labelled : AreAllLabelled labels (label_names u.segments)
  pub bytes : AllByRecursion AreBytesOf pairs
