-- Laws of parts of messages: lists of texts and queries come back as they were written.
use Rattle.std.specs.Prelude.{◌≡◌, ◌<◌, ℕ, List, All, map}
use Rattle.std.specs.List.{AllByRecursion, join_with_byte}
use Rattle.httparse.specs.Grammar.{trim_ows}
use Rattle.sm_uri.specs.UriPattern.{ampersand}
use Rattle.sm_parts.specs.HeaderLists.{entries_of, written_list}
use Rattle.sm_parts.specs.Targets.{QueryPair, query_pairs, written_pair}
use Rattle.sm_parts.specs.declared.list_entry.HeaderCut.TheVariants.{Quoted}
use Rattle.sm_parts.specs.declared.list_entry.ListEntry.TheVariants.{Text as some_text}

-- no space and no tab stands around it
abbrev pub IsTrimmed : List ℕ → Type 0
IsTrimmed text = trim_ows text ≡ text

-- the list that is written for texts without blanks around them has these as its entries, empty ones too
abbrev pub WrittenTextsRead : Type 0
WrittenTextsRead = (texts : List (List ℕ)) → AllByRecursion IsTrimmed texts → entries_of Quoted (written_list Quoted texts) ≡ map some_text texts

-- the query that is written for pairs has these as its pairs, whatever bytes stand in them
abbrev pub AreBytesOf : QueryPair → Type 0
AreBytesOf pair = All (λ b. b < 256) pair.0 × All (λ b. b < 256) pair.1

abbrev pub WrittenPairsRead : Type 0
WrittenPairsRead =
    (pairs : List QueryPair) → AllByRecursion AreBytesOf pairs
    → query_pairs (join_with_byte ampersand (map written_pair pairs)) ≡ pairs
