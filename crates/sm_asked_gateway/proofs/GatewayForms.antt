-- Words that tell of a gateway: one reading of them, and words that aren't.
use Rattle.std.proofs.Common.{◌≡◌, ◌≤◌, ◌+◌, ℕ, List, [], ◌∷◌, ◌++◌, drop, length, sym, ap, subst, ◌∙◌, arith}
use Rattle.std.specs.Prelude.{get_or}
use Rattle.sm_http.specs.declared.message.Protocol.{Protocol}
use Rattle.sm_asked_service.specs.ServiceWords.{AreBehindModels, protocol_word}
use Rattle.sm_asked_service.proofs.BehindModels.{behind_same}
use Rattle.sm_asked_service.proofs.ProtocolWords.{protocol_same}
use Rattle.sm_gateway.specs.GatewayData.{IsHost}
use Rattle.sm_asked_gateway.specs.GatewayWords.{AsksGateway, GatewayAsked, gateway_texts}

-- four words, by their places, and those behind them
pub four_words : (xs : List (List ℕ)) (a b c d z0 z1 z2 z3 : List ℕ) → 4 ≤ length xs → a ≡ get_or xs 0 z0 → b ≡ get_or xs 1 z1
    → c ≡ get_or xs 2 z2 → d ≡ get_or xs 3 z3 → xs ≡ a ∷ b ∷ c ∷ d ∷ drop 4 xs
four_words [] a b c d z0 z1 z2 z3 four g0 g1 g2 g3 = absurd (omega (arith, four))
four_words (p ∷ []) a b c d z0 z1 z2 z3 four g0 g1 g2 g3 = absurd (omega (arith, four))
four_words (p ∷ q ∷ []) a b c d z0 z1 z2 z3 four g0 g1 g2 g3 = absurd (omega (arith, four))
four_words (p ∷ q ∷ r ∷ []) a b c d z0 z1 z2 z3 four g0 g1 g2 g3 = absurd (omega (arith, four))
four_words (p ∷ q ∷ r ∷ s ∷ xs) a b c d z0 z1 z2 z3 four g0 g1 g2 g3 =
    ap (λ x. x ∷ q ∷ r ∷ s ∷ xs) (sym g0) ∙ ap (λ x. a ∷ x ∷ r ∷ s ∷ xs) (sym g1) ∙ ap (λ x. a ∷ b ∷ x ∷ s ∷ xs) (sym g2)
    ∙ ap (λ x. a ∷ b ∷ c ∷ x ∷ xs) (sym g3)

-- words that have one reading
abbrev asked_so : List (List ℕ) → List ℕ → Protocol → Protocol → List ℕ → GatewayAsked
asked_so models service front back host =
    record { models = models; service = service; front = front; back = back; host = host }

same_texts : (w v : GatewayAsked) (b d : List (List ℕ)) → w.models ≡ v.models → gateway_texts w ++ b ≡ gateway_texts v ++ d
    → (w ≡ v) × (b ≡ d)
same_texts w v b d models e =
    let service : w.service ≡ v.service = cc in
    let front : w.front ≡ v.front = protocol_same w.front v.front (cc) in
    let back : w.back ≡ v.back = protocol_same w.back v.back (cc) in
    let host : w.host ≡ v.host = cc in
    let rest : b ≡ d = cc in (
      ap (λ x. asked_so x w.service w.front w.back w.host) models ∙ ap (λ x. asked_so v.models x w.front w.back w.host) service
          ∙ ap (λ x. asked_so v.models v.service x w.back w.host) front ∙ ap (λ x. asked_so v.models v.service v.front x w.host) back
          ∙ ap (λ x. asked_so v.models v.service v.front v.back x) host,
      rest,
    )

pub gateway_words_same : (words : List (List ℕ)) (name : List ℕ) (w v : GatewayAsked) (b d : List (List ℕ)) → length b ≡ length d
    → AsksGateway words name w b → AsksGateway words name v d → (w ≡ v) × (b ≡ d)
gateway_words_same words name w v b d len h i =
    let both = behind_same words name w.models (gateway_texts w ++ b) h.are v.models (gateway_texts v ++ d) i.are (omega (arith, len)) in
    same_texts w v b d both.0 both.1

-- so many words behind the model files
module _ (words : List (List ℕ)) (name : List ℕ) (models behind : List (List ℕ)) (more : ℕ) (h : AreBehindModels words name models behind)
    (len : length behind ≡ 4 + more) where
  -- words of the form are these
  words_there : (w : GatewayAsked) (rest : List (List ℕ)) → length rest ≡ more → AsksGateway words name w rest
      → behind ≡ gateway_texts w ++ rest
  words_there w rest count form =
      (behind_same words name models behind h w.models (gateway_texts w ++ rest) form.are (omega (arith, len, count))).1

  -- and these aren't: a protocol that none has, or no host
  pub no_front : (word other : List ℕ) → word ≡ get_or behind 1 other → ((p : Protocol) → word ≡ protocol_word p → ⊥)
      → (w : GatewayAsked) (rest : List (List ℕ)) → length rest ≡ more → AsksGateway words name w rest → ⊥
  no_front word other at none w rest count form =
      none w.front (at ∙ ap (λ xs. get_or xs 1 other) (words_there w rest count form))

  pub no_back : (word other : List ℕ) → word ≡ get_or behind 2 other → ((p : Protocol) → word ≡ protocol_word p → ⊥)
      → (w : GatewayAsked) (rest : List (List ℕ)) → length rest ≡ more → AsksGateway words name w rest → ⊥
  no_back word other at none w rest count form =
      none w.back (at ∙ ap (λ xs. get_or xs 2 other) (words_there w rest count form))

  pub no_host : (word other : List ℕ) → word ≡ get_or behind 3 other → (IsHost word → ⊥)
      → (w : GatewayAsked) (rest : List (List ℕ)) → length rest ≡ more → AsksGateway words name w rest → ⊥
  no_host word other at none w rest count form =
      let same : word ≡ w.host = at ∙ ap (λ xs. get_or xs 3 other) (words_there w rest count form) in
      none (subst IsHost (sym same) form.host)

  -- and words that are
  pub gateway_formed : (w : GatewayAsked) (rest : List (List ℕ)) (z0 z1 z2 z3 : List ℕ) → rest ≡ drop 4 behind → models ≡ w.models
      → IsHost w.host → w.service ≡ get_or behind 0 z0 → protocol_word w.front ≡ get_or behind 1 z1
      → protocol_word w.back ≡ get_or behind 2 z2 → w.host ≡ get_or behind 3 z3 → AsksGateway words name w rest
  gateway_formed w rest z0 z1 z2 z3 is same host g0 g1 g2 g3 =
      let all : behind ≡ gateway_texts w ++ drop 4 behind =
      four_words behind w.service (protocol_word w.front) (protocol_word w.back) w.host z0 z1 z2 z3 (omega (arith, len)) g0 g1 g2 g3 in
      record {
        host = host;
        are = subst (λ ms. AreBehindModels words name ms (gateway_texts w ++ rest)) same
            (subst (λ xs. AreBehindModels words name models xs) (all ∙ ap (λ xs. gateway_texts w ++ xs) (sym is)) h);
      }
