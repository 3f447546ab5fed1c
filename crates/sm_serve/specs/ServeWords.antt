-- The form of the words of `serve`.
use Rattle.std.specs.Prelude.{◌≡◌, ◌<◌, ◌≤◌, ℕ, List, [], ◌∷◌, Contains, codes}
use Rattle.std.specs.Str.Parse.{IsNumeral, digits_value}
use Rattle.sm_asked_gateway.specs.GatewayWords.{AsksGateway, GatewayAsked}

-- the most links that one run may serve
abbrev pub most_links : ℕ
most_links = 1000000

-- what the words ask for
pub record ServeAsked : Type 0 where
  pub gateway : GatewayAsked
  -- the address to listen on, and that of the back
  pub listen : List ℕ
  pub connect : List ℕ
  -- how many links are served
  pub count : ℕ

-- a word is a number of links: digits alone, zeros in front or not, from 1 to the most
pub record IsLinkCount (word : List ℕ) (count : ℕ) : Type 0 where
  pub digits : IsNumeral 10 word
  pub number : digits_value 10 word ≡ count
  pub some : 0 < count
  pub within : count ≤ most_links

-- serve MODEL+ SERVICE FRONT BACK HOST LISTEN CONNECT COUNT
pub record IsServeForm (words : List (List ℕ)) (w : ServeAsked) : Type 0 where
  pub number : List ℕ
  pub counts : IsLinkCount number w.count
  pub asks : AsksGateway words (codes "serve") w.gateway (w.listen ∷ w.connect ∷ number ∷ [])

-- the model files that such words name may be read
abbrev pub LetsServe : (List ℕ → Type 0) → List (List ℕ) → Type 0
LetsServe lets words = (w : ServeAsked) (name : List ℕ) → IsServeForm words w → Contains w.gateway.models name → lets name

-- and the addresses that they name may be listened on and connected to
abbrev pub LetsLinks : (List ℕ → List ℕ → Type 0) → List (List ℕ) → Type 0
LetsLinks lets words = (w : ServeAsked) → IsServeForm words w → lets w.listen w.connect
