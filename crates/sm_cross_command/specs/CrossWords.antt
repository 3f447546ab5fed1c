-- The form of the words of `cross`.
use Rattle.std.specs.Prelude.{ℕ, List, [], ◌∷◌, codes}
use Rattle.sm_http.specs.declared.message.Protocol.{Protocol}
use Rattle.sm_asked_gateway.specs.asked_service.ServiceWords.{AreBehindModels, protocol_word}
use Rattle.sm_asked_gateway.specs.gateway.GatewayData.{IsHost}

-- what the words ask for
pub record CrossAsked : Type 0 where
  pub models : List (List ℕ)
  pub service : List ℕ
  pub front : Protocol
  pub back : Protocol
  pub host : List ℕ
  pub back_file : List ℕ
  pub out_file : List ℕ

-- the words behind the model files
abbrev pub words_behind : CrossAsked → List (List ℕ)
words_behind w = w.service ∷ protocol_word w.front ∷ protocol_word w.back ∷ w.host ∷ w.back_file ∷ w.out_file ∷ []

-- cross MODEL+ SERVICE FRONT BACK HOST BACKFILE OUTFILE
pub record IsCrossForm (words : List (List ℕ)) (w : CrossAsked) : Type 0 where
  pub host : IsHost w.host
  pub are : AreBehindModels words (codes "cross") w.models (words_behind w)
