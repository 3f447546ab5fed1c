-- Words of commands over a service: behind the command's name stand one model file or more, and behind these words in fixed places; and the
-- words that name protocols.
use Rattle.std.specs.Prelude.{◌≡◌, ◌<◌, ℕ, List, ◌∷◌, ◌++◌, codes, length}
use Rattle.sm_http.specs.declared.message.Protocol.{Protocol}
use Rattle.sm_http.specs.declared.message.Protocol.TheVariants.{AwsJson10, AwsJson11, RestJson1, RpcV2Cbor}

abbrev pub protocol_word : Protocol → List ℕ
protocol_word AwsJson10 = codes "awsJson1_0"
protocol_word AwsJson11 = codes "awsJson1_1"
protocol_word RestJson1 = codes "restJson1"
protocol_word RpcV2Cbor = codes "rpcv2Cbor"

-- the words are a command's name, one model file or more, and then these
pub record AreBehindModels (words : List (List ℕ)) (name : List ℕ) (models behind : List (List ℕ)) : Type 0 where
  pub some : 0 < length models
  pub are : words ≡ name ∷ (models ++ behind)
