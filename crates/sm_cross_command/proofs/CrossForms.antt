-- The words of `cross`: one reading of them, and words that aren't.
use Rattle.std.proofs.Common.{◌≡◌, ℕ, List, [], ◌∷◌, length, refl, sym, ap, subst, ◌∙◌, codes}
use Rattle.std.specs.Prelude.{get_or}
use Rattle.sm_http.specs.declared.message.Protocol.{Protocol}
use Rattle.sm_asked_gateway.specs.asked_service.ServiceWords.{AreBehindModels, protocol_word}
use Rattle.sm_asked_gateway.proofs.asked_service.BehindModels.{behind_same}
use Rattle.sm_asked_gateway.proofs.asked_service.ProtocolWords.{protocol_same}
use Rattle.sm_asked_gateway.specs.gateway.GatewayData.{IsHost}
use Rattle.sm_cross_command.specs.CrossWords.{CrossAsked, IsCrossForm, words_behind}

-- what stands behind the model files of these words
pub words_there : (words models behind : List (List ℕ)) (w : CrossAsked) → AreBehindModels words (codes "cross") models behind
    → length behind ≡ 6 → IsCrossForm words w → (models ≡ w.models) × (behind ≡ words_behind w)
words_there words models behind w h six form =
    behind_same words (codes "cross") models behind h w.models (words_behind w) form.are six

-- six words, by their places
pub six_words : (xs : List (List ℕ)) (a b c d e f z0 z1 z2 z3 z4 z5 : List ℕ) → length xs ≡ 6 → a ≡ get_or xs 0 z0 → b ≡ get_or xs 1 z1
    → c ≡ get_or xs 2 z2 → d ≡ get_or xs 3 z3 → e ≡ get_or xs 4 z4 → f ≡ get_or xs 5 z5 → xs ≡ a ∷ b ∷ c ∷ d ∷ e ∷ f ∷ []
six_words [] a b c d e f z0 z1 z2 z3 z4 z5 six g0 g1 g2 g3 g4 g5 = absurd (cc)
six_words (p ∷ []) a b c d e f z0 z1 z2 z3 z4 z5 six g0 g1 g2 g3 g4 g5 = absurd (cc)
six_words (p ∷ q ∷ []) a b c d e f z0 z1 z2 z3 z4 z5 six g0 g1 g2 g3 g4 g5 = absurd (cc)
six_words (p ∷ q ∷ r ∷ []) a b c d e f z0 z1 z2 z3 z4 z5 six g0 g1 g2 g3 g4 g5 = absurd (cc)
six_words (p ∷ q ∷ r ∷ s ∷ []) a b c d e f z0 z1 z2 z3 z4 z5 six g0 g1 g2 g3 g4 g5 = absurd (cc)
six_words (p ∷ q ∷ r ∷ s ∷ t ∷ []) a b c d e f z0 z1 z2 z3 z4 z5 six g0 g1 g2 g3 g4 g5 = absurd (cc)
six_words (p ∷ q ∷ r ∷ s ∷ t ∷ u ∷ []) a b c d e f z0 z1 z2 z3 z4 z5 six g0 g1 g2 g3 g4 g5 =
    ap (λ x. x ∷ q ∷ r ∷ s ∷ t ∷ u ∷ []) (sym g0) ∙ ap (λ x. a ∷ x ∷ r ∷ s ∷ t ∷ u ∷ []) (sym g1)
    ∙ ap (λ x. a ∷ b ∷ x ∷ s ∷ t ∷ u ∷ []) (sym g2) ∙ ap (λ x. a ∷ b ∷ c ∷ x ∷ t ∷ u ∷ []) (sym g3)
    ∙ ap (λ x. a ∷ b ∷ c ∷ d ∷ x ∷ u ∷ []) (sym g4) ∙ ap (λ x. a ∷ b ∷ c ∷ d ∷ e ∷ x ∷ []) (sym g5)
six_words (p ∷ q ∷ r ∷ s ∷ t ∷ u ∷ v ∷ xs) a b c d e f z0 z1 z2 z3 z4 z5 six g0 g1 g2 g3 g4 g5 = absurd (cc)

-- words that are six and aren't these: a protocol that none has, or no host
module _ (words models behind : List (List ℕ)) (h : AreBehindModels words (codes "cross") models behind) (six : length behind ≡ 6) where
  pub no_front : (word other : List ℕ) → word ≡ get_or behind 1 other → ((p : Protocol) → word ≡ protocol_word p → ⊥)
      → (w : CrossAsked) → IsCrossForm words w → ⊥
  no_front word other at none w form =
      none w.front (at ∙ ap (λ xs. get_or xs 1 other) (words_there words models behind w h six form).1)

  pub no_back : (word other : List ℕ) → word ≡ get_or behind 2 other → ((p : Protocol) → word ≡ protocol_word p → ⊥)
      → (w : CrossAsked) → IsCrossForm words w → ⊥
  no_back word other at none w form =
      none w.back (at ∙ ap (λ xs. get_or xs 2 other) (words_there words models behind w h six form).1)

  pub no_host : (word other : List ℕ) → word ≡ get_or behind 3 other → (IsHost word → ⊥) → (w : CrossAsked) → IsCrossForm words w → ⊥
  no_host word other at none w form =
      let same : word ≡ w.host = at ∙ ap (λ xs. get_or xs 3 other) (words_there words models behind w h six form).1 in
      none (subst IsHost (sym same) form.host)

  -- and words that are
  pub cross_formed : (w : CrossAsked) (z0 z1 z2 z3 z4 z5 : List ℕ) → models ≡ w.models → IsHost w.host → w.service ≡ get_or behind 0 z0
      → protocol_word w.front ≡ get_or behind 1 z1 → protocol_word w.back ≡ get_or behind 2 z2 → w.host ≡ get_or behind 3 z3
      → w.back_file ≡ get_or behind 4 z4 → w.out_file ≡ get_or behind 5 z5 → IsCrossForm words w
  cross_formed w z0 z1 z2 z3 z4 z5 same host g0 g1 g2 g3 g4 g5 = record {
    host = host;
    are = subst (λ ms. AreBehindModels words (codes "cross") ms (words_behind w)) same
        (subst (λ xs. AreBehindModels words (codes "cross") models xs)
        (six_words behind w.service (protocol_word w.front) (protocol_word w.back) w.host w.back_file w.out_file z0 z1 z2 z3 z4 z5 six
        g0 g1 g2 g3 g4 g5) h);
  }

-- words have one reading
abbrev asked_so : List (List ℕ) → List ℕ → Protocol → Protocol → List ℕ → List ℕ → List ℕ → CrossAsked
asked_so models service front back host back_file out_file = record {
  models = models;
  service = service;
  front = front;
  back = back;
  host = host;
  back_file = back_file;
  out_file = out_file;
}

same_asked : (w v : CrossAsked) → w.models ≡ v.models → words_behind w ≡ words_behind v → w ≡ v
same_asked w v models e =
    let service : w.service ≡ v.service = cc in
    let front : w.front ≡ v.front = protocol_same w.front v.front (cc) in
    let back : w.back ≡ v.back = protocol_same w.back v.back (cc) in
    let host : w.host ≡ v.host = cc in
    let back_file : w.back_file ≡ v.back_file = cc in
    let out_file : w.out_file ≡ v.out_file = cc in
    ap (λ x. asked_so x w.service w.front w.back w.host w.back_file w.out_file) models
    ∙ ap (λ x. asked_so v.models x w.front w.back w.host w.back_file w.out_file) service
    ∙ ap (λ x. asked_so v.models v.service x w.back w.host w.back_file w.out_file) front
    ∙ ap (λ x. asked_so v.models v.service v.front x w.host w.back_file w.out_file) back
    ∙ ap (λ x. asked_so v.models v.service v.front v.back x w.back_file w.out_file) host
    ∙ ap (λ x. asked_so v.models v.service v.front v.back v.host x w.out_file) back_file
    ∙ ap (λ x. asked_so v.models v.service v.front v.back v.host v.back_file x) out_file

pub cross_words_same : (words : List (List ℕ)) (w v : CrossAsked) → IsCrossForm words w → IsCrossForm words v → w ≡ v
cross_words_same words w v h i =
    let both = words_there words w.models (words_behind w) v h.are refl i in same_asked w v both.0 both.1
