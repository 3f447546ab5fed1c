-- What holds of gateways that are asked for: model files and a store come to one, or to one answer before it, and to no more.
use Rattle.std.specs.Prelude.{◌≡◌, ℕ, List}
use Rattle.sm_io.specs.Files.{Folder}
use Rattle.sm_asked_service.specs.asked.Answer.{Answer}
use Rattle.sm_asked_service.specs.asked.AskedLaws.{AreThere, TellsAll}
use Rattle.sm_asked_service.specs.asked.Stages.{Told}
use Rattle.sm_gateway.specs.GatewayData.{GatewayData}
use Rattle.sm_asked_gateway.specs.GatewayAnswers.{GatewayAnswers}
use Rattle.sm_asked_gateway.specs.GatewayStages.{GatewayMade, gateway_of}
use Rattle.sm_asked_gateway.specs.GatewayWords.{GatewayAsked}

pub record ComesToOneGateway (t : Told) (w : GatewayAsked) : Type 0 where
  -- two answers are one
  pub answers : (a b : Answer) → GatewayAnswers t w a → GatewayAnswers t w b → a ≡ b
  -- none stands before a gateway
  pub apart : (a : Answer) → GatewayAnswers t w a → GatewayMade t w → ⊥
  -- and two gateways are one
  pub gateways : (h i : GatewayMade t w) → Path GatewayData (gateway_of t w h) (gateway_of t w i)

-- where the files are told, by all their bytes
abbrev pub OneGateway : Type 0
OneGateway = (w : GatewayAsked) (t : Told) (folder : Folder) (input : List ℕ) → TellsAll t folder input → ComesToOneGateway t w

-- where the model files are there, it can't be that each answer and each gateway is denied
abbrev pub SomeGateway : Type 0
SomeGateway = (w : GatewayAsked) (t : Told) (folder : Folder) (input : List ℕ) → TellsAll t folder input → AreThere folder w.models
    → ((a : Answer) → GatewayAnswers t w a → ⊥) → (GatewayMade t w → ⊥) → ⊥
