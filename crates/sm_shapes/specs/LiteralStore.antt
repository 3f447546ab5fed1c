-- What a store of literal patterns keeps.
use Rattle.std.specs.Prelude.{ℕ, List, Option}
use Rattle.sm_shapes.specs.Literals.{AddCalls}
use Rattle.sm_shapes.specs.declared.literal_patterns.LiteralPatterns.{LiteralPatterns}

-- the texts of its patterns, by their numbers
abbrev pub texts : LiteralPatterns → List (List ℕ)
texts store = store.patterns.items

-- the text refused last
abbrev pub refused_last : LiteralPatterns → Option (List ℕ)
refused_last store = store.refused

-- how many calls of `add` refused a text
abbrev pub refusal_count : LiteralPatterns → ℕ
refusal_count store = store.refusals

-- the calls of `add` that refuse, and how many were made
abbrev pub add_calls : LiteralPatterns → AddCalls
add_calls store = record { failing = store.failing.items; made = store.calls }
