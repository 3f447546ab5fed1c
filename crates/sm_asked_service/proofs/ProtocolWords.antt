-- A word names one protocol.
use Rattle.std.proofs.Common.{◌≡◌, false, true≢false, ℕ, List, refl, sym, ◌∙◌, bytes_eq}
use Rattle.std.proofs.lemmas.Slice.Eq.{bytes_eq-Decides}
use Rattle.sm_http.specs.declared.message.Protocol.{Protocol}
use Rattle.sm_http.specs.declared.message.Protocol.TheVariants.{AwsJson10, AwsJson11, RestJson1, RpcV2Cbor}
use Rattle.sm_asked_service.specs.ServiceWords.{protocol_word}

-- words that are told apart differ
apart : (a b : List ℕ) → bytes_eq a b ≡ false → a ≡ b → ⊥
apart a b other same = true≢false (sym ((bytes_eq-Decides a b).1 same) ∙ other)

pub protocol_same : (p q : Protocol) → protocol_word p ≡ protocol_word q → p ≡ q
protocol_same AwsJson10 AwsJson10 e = refl
protocol_same AwsJson11 AwsJson11 e = refl
protocol_same RestJson1 RestJson1 e = refl
protocol_same RpcV2Cbor RpcV2Cbor e = refl
protocol_same p q e = absurd (apart (protocol_word p) (protocol_word q) refl e)
