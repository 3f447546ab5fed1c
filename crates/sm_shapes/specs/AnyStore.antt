-- What a store of patterns keeps that find every text.
use Rattle.std.specs.Prelude.{ℕ, List, Option, None}
use Rattle.sm_shapes.specs.declared.any_patterns.AnyPatterns.{AnyPatterns}

-- the texts of its patterns, by their numbers
abbrev pub any_texts : AnyPatterns → List (List ℕ)
any_texts store = store.patterns.items

-- it refuses none
abbrev pub none_refused : AnyPatterns → Option (List ℕ)
none_refused store = None

abbrev pub no_refusals : AnyPatterns → ℕ
no_refusals store = 0
