-- The words of `serve`: one reading of them, and words that aren't.
use Rattle.std.proofs.Common.{◌≡◌, ℕ, List, [], ◌∷◌, length, refl, sym, ap, subst, ◌∙◌, codes}
use Rattle.std.specs.Prelude.{get_or}
use Rattle.sm_asked_gateway.specs.GatewayWords.{AsksGateway, GatewayAsked}
use Rattle.sm_asked_gateway.proofs.GatewayForms.{gateway_words_same}
use Rattle.sm_serve.specs.Laws.{OneServeForm}
use Rattle.sm_serve.specs.ServeWords.{IsLinkCount, IsServeForm, ServeAsked}
use Rattle.sm_serve.proofs.LinkCounts.{link_count_same}

-- three words, by their places
pub three_words : (xs : List (List ℕ)) (a b c z0 z1 z2 : List ℕ) → length xs ≡ 3 → a ≡ get_or xs 0 z0 → b ≡ get_or xs 1 z1
    → c ≡ get_or xs 2 z2 → xs ≡ a ∷ b ∷ c ∷ []
three_words [] a b c z0 z1 z2 three g0 g1 g2 = absurd (cc)
three_words (p ∷ []) a b c z0 z1 z2 three g0 g1 g2 = absurd (cc)
three_words (p ∷ q ∷ []) a b c z0 z1 z2 three g0 g1 g2 = absurd (cc)
three_words (p ∷ q ∷ r ∷ []) a b c z0 z1 z2 three g0 g1 g2 =
    ap (λ x. x ∷ q ∷ r ∷ []) (sym g0) ∙ ap (λ x. a ∷ x ∷ r ∷ []) (sym g1) ∙ ap (λ x. a ∷ b ∷ x ∷ []) (sym g2)
three_words (p ∷ q ∷ r ∷ s ∷ xs) a b c z0 z1 z2 three g0 g1 g2 = absurd (cc)

-- words that tell of no gateway have no form
pub no_gateway : (words : List (List ℕ))
    → ((g : GatewayAsked) (behind : List (List ℕ)) → length behind ≡ 3 → AsksGateway words (codes "serve") g behind → ⊥)
    → (w : ServeAsked) → IsServeForm words w → ⊥
no_gateway words none w form = none w.gateway (w.listen ∷ w.connect ∷ form.number ∷ []) refl form.asks

module _ (words : List (List ℕ)) (g : GatewayAsked) (behind : List (List ℕ)) (three : length behind ≡ 3)
    (asks : AsksGateway words (codes "serve") g behind) where
  -- nor have those whose last word is no number of links
  pub no_count : (word other : List ℕ) → word ≡ get_or behind 2 other → ((n : ℕ) → IsLinkCount word n → ⊥)
      → (w : ServeAsked) → IsServeForm words w → ⊥
  no_count word other at none w form =
      let both = gateway_words_same words (codes "serve") g w.gateway behind (w.listen ∷ w.connect ∷ form.number ∷ []) three asks form.asks in
      let same : word ≡ form.number = at ∙ ap (λ xs. get_or xs 2 other) both.1 in
      none w.count (subst (λ x. IsLinkCount x w.count) (sym same) form.counts)

  pub serve_formed : (w : ServeAsked) (number z0 z1 z2 : List ℕ) → g ≡ w.gateway → IsLinkCount number w.count
      → w.listen ≡ get_or behind 0 z0 → w.connect ≡ get_or behind 1 z1 → number ≡ get_or behind 2 z2 → IsServeForm words w
  serve_formed w number z0 z1 z2 same counts g0 g1 g2 = record {
    number = number;
    counts = counts;
    asks = subst (λ x. AsksGateway words (codes "serve") x (w.listen ∷ w.connect ∷ number ∷ [])) same
        (subst (AsksGateway words (codes "serve") g)
        (three_words behind w.listen w.connect number z0 z1 z2 three g0 g1 g2) asks);
  }

-- words have one reading
abbrev asked_so : GatewayAsked → List ℕ → List ℕ → ℕ → ServeAsked
asked_so gateway listen connect count = record { gateway = gateway; listen = listen; connect = connect; count = count }

pub one_serve_form : OneServeForm
one_serve_form words w v h i =
    let both = gateway_words_same words (codes "serve") w.gateway v.gateway (w.listen ∷ w.connect ∷ h.number ∷ [])
    (v.listen ∷ v.connect ∷ i.number ∷ []) refl h.asks i.asks in
    let rest = both.1 in
    let listen : w.listen ≡ v.listen = cc in
    let connect : w.connect ≡ v.connect = cc in
    let number : h.number ≡ i.number = cc in
    let count : w.count ≡ v.count =
    link_count_same i.number w.count v.count (subst (λ x. IsLinkCount x w.count) number h.counts) i.counts in
    ap (λ x. asked_so x w.listen w.connect w.count) both.0 ∙ ap (λ x. asked_so v.gateway x w.connect w.count) listen
    ∙ ap (λ x. asked_so v.gateway v.listen x w.count) connect ∙ ap (λ x. asked_so v.gateway v.listen v.connect x) count
