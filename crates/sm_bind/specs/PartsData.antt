-- The parts of a message as data.
use Rattle.std.specs.Prelude.{ℕ, List}
use Rattle.sm_http.specs.declared.message.Field.{Field}
use Rattle.sm_parts.specs.Targets.{QueryPair}

-- All of a message but its body. Labels by their names, and query pairs, are decoded; the pairs are those that no literal of the pattern
-- took
pub record PartsData : Type 0 where
  pub labels : List (List ℕ × List ℕ)
  pub query : List QueryPair
  pub fields : List Field
  pub status : ℕ
