-- What a store of regular expressions keeps.
use Rattle.std.specs.Prelude.{ℕ, List, Option}
use Rattle.sm_shapes.specs.declared.regex_patterns.RegexPatterns.{RegexPatterns}

-- the texts of its patterns, by their numbers
abbrev pub regex_texts : RegexPatterns → List (List ℕ)
regex_texts store = store.patterns.items

-- the text refused last
abbrev pub regex_refused : RegexPatterns → Option (List ℕ)
regex_refused store = store.refused

-- how many calls of `add` refused a text
abbrev pub regex_refusals : RegexPatterns → ℕ
regex_refusals store = store.refusals
