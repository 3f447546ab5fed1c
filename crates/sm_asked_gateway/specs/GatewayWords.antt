-- Words that tell of a gateway, behind the model files of a command: MODEL+ SERVICE FRONT BACK HOST.
use Rattle.std.specs.Prelude.{ℕ, List, [], ◌∷◌, ◌++◌}
use Rattle.sm_http.specs.declared.message.Protocol.{Protocol}
use Rattle.sm_asked_service.specs.ServiceWords.{AreBehindModels, protocol_word}
use Rattle.sm_gateway.specs.GatewayData.{IsHost}

-- what they ask for
pub record GatewayAsked : Type 0 where
  pub models : List (List ℕ)
  pub service : List ℕ
  pub front : Protocol
  pub back : Protocol
  pub host : List ℕ

-- the words behind the model files
abbrev pub gateway_texts : GatewayAsked → List (List ℕ)
gateway_texts w = w.service ∷ protocol_word w.front ∷ protocol_word w.back ∷ w.host ∷ []

-- the words are a command's name, those that tell of a gateway, and these
pub record AsksGateway (words : List (List ℕ)) (name : List ℕ) (w : GatewayAsked) (behind : List (List ℕ)) : Type 0 where
  pub host : IsHost w.host
  pub are : AreBehindModels words name w.models (gateway_texts w ++ behind)
