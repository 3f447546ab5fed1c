-- Steps from one place in a body to the next.
use Rattle.std.specs.Prelude.{List, ℕ, ◌++◌}
use Rattle.sm_http.specs.declared.message.BodyLeft.{BodyLeft}
use Rattle.sm_http.specs.Bodies.{HasBody, HasNoBody, IsPastLimit}

-- the bytes that are used, the data that they give, and the place behind them: what is left of the body is the same
pub record Steps (left : BodyLeft) (used piece : List ℕ) (next : BodyLeft) : Type 0 where
  pub on : (rest content behind : List ℕ) → HasBody next rest content behind → HasBody left (used ++ rest) (piece ++ content) behind
  pub back : (rest content behind : List ℕ) → HasBody left (used ++ rest) content behind → HasNoBody next rest → ⊥
  pub past_on : (rest : List ℕ) → IsPastLimit next rest → IsPastLimit left (used ++ rest)
  pub past_back : (rest : List ℕ) → IsPastLimit left (used ++ rest) → IsPastLimit next rest
