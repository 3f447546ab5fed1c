-- Patterns in the language of the crate `regex`, by that crate's own grammar and its own search in a text. Options are the crate's
-- defaults. A pattern is searched for: it finds a text of which some part matches.
use Rattle.std.specs.Prelude.{◌≡◌, ◌≢◌, ◌<◌, ◌≤◌, ℕ, Bool, false, List, Option, Some, None, IsSomeAnd, is_some, chars, slice_index_or}
use Rattle.std.specs.Prelude.{IsCharBoundary}
use Rattle.regex.specs.Patterns.{Re, Matches, find_str, default_config}
use Rattle.regex.specs.Strings.{IsDefaultFailure}
use Rattle.regex.specs.declared.error.Error.{Error}
use Rattle.regex.specs.declared.error.Error.TheVariants.{OutOfMemory}
use Rattle.regex_syntax.specs.Brackets.{Nested}
use Rattle.regex_syntax.specs.Grammar.{Names, read}

-- what the grammar reads in a pattern's text, if anything
abbrev pub Reading : Type 0
Reading = Option (Nested Re × Names)

abbrev pub reading : List ℕ → Reading
reading pattern = read default_config (chars pattern)

-- the text is a pattern, and its groups, repetitions and classes nest no deeper than the crate takes
abbrev pub IsRegex : List ℕ → Type 0
IsRegex pattern = IsSomeAnd (reading pattern) (λ (re, names). re.depth ≤ default_config.nest_limit)

-- whether what was read is found in the text
abbrev pub found_in : Reading → List ℕ → Bool
found_in None text = false
found_in (Some (re, names)) text = is_some (find_str re.value text 0)

-- whether the pattern finds the text: the one test of these stores
abbrev pub regex_finds : List ℕ → List ℕ → Bool
regex_finds pattern text = found_in (reading pattern) text

-- what was compiled finds in each text of bytes what the pattern's own text finds
abbrev pub FindsAsWritten : Re → List ℕ → Type 0
FindsAsWritten re pattern = (text : List ℕ) → ((k : ℕ) → slice_index_or text k 0 < 256)
    → is_some (find_str re text 0) ≡ regex_finds pattern text

-- what was read matches a part of the text that begins with a character
abbrev pub MatchesPart : Reading → List ℕ → Type 0
MatchesPart None text = ⊥
MatchesPart (Some (re, names)) text = (from to : ℕ) × IsCharBoundary text from × Matches text re.value from to

-- the crate refused to compile the text, for another cause than memory: it is no pattern, or its program would be too big
abbrev pub IsRefusedByCrate : List ℕ → Type 0
IsRefusedByCrate pattern = (error : Error) × (error ≢ OutOfMemory) × IsDefaultFailure pattern error
