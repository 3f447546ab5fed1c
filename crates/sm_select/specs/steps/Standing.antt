-- What of a text leads from place to place, past which every other cut into tokens goes too, or stops before.
use Rattle.std.specs.Prelude.{◌≡◌, ◌⊎◌, ◌<◌, ℕ, false, List, ◌∷◌, length}
use Rattle.sm_select.specs.Tokens.{Token, EndsWhite, SkipsWhite, TokenThen, TokensThen, is_selector_white}
use Rattle.sm_select.specs.steps.Places.{Place, Leads, Runs}

-- no token that stands here leads on from the place
abbrev pub StopsAt : Place → List ℕ → Type 0
StopsAt p s = (t : Token) (r : List ℕ) (q : Place) → TokenThen t s r → Leads p t q → ⊥

-- something stands here that isn't white space, and leads on from nowhere
pub record IsDead (p : Place) (s : List ℕ) : Type 0 where
  pub first : ℕ
  pub more : List ℕ
  pub is : s ≡ first ∷ more
  pub not_white : is_selector_white first ≡ false
  pub stops : StopsAt p s

-- s is these tokens, with white space before each and behind them, and then r
abbrev pub Reaches : List Token → List ℕ → List ℕ → Type 0
Reaches ts s r = (behind : List ℕ) × TokensThen ts s behind × SkipsWhite behind r

-- the text s leads from a place to another, and then r stands. Any other cut that leads on goes by there, or stops before
pub record Passes (p : Place) (s : List ℕ) (q : Place) (r : List ℕ) : Type 0 where
  pub tokens : List Token
  pub cut : Reaches tokens s r
  pub run : Runs p tokens q
  pub others : (ts : List Token) (n : Place) (rest : List ℕ) → Reaches ts s rest → EndsWhite rest → Runs p ts n
      → (length r < length rest) ⊎ ((us : List Token) × Reaches us r rest × Runs q us n)
