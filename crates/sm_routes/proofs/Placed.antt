-- Two paths by their first segments.
use Rattle.std.proofs.Common.{◌≡◌, List, [], ◌∷◌, cond, length, refl, ap, ◌∙◌, arith}
use Rattle.std.specs.Ordering.{ordering_then}
use Rattle.std.specs.declared.cmp.Ordering.{Ordering}
use Rattle.std.specs.declared.cmp.Ordering.TheVariants.{Less, Equal, Greater}
use Rattle.sm_uri.specs.declared.pattern.Segment.{Segment}
use Rattle.sm_uri.specs.declared.pattern.Segment.TheVariants.{Literal, Label, Greedy}
use Rattle.sm_routes.specs.KeptOrder.{is_greedy, place_cmp, place_of, places_cmp}

heads : (s t : Segment) (ss ts : List Segment)
    → places_cmp (s ∷ ss) (t ∷ ts) ≡ ordering_then (place_cmp (place_of s) (place_of t)) (cond (is_greedy s) Equal (places_cmp ss ts))
heads (Literal a) (Literal b) ss ts = refl
heads (Literal a) (Label b) ss ts = refl
heads (Literal a) (Greedy b) ss ts = refl
heads (Label a) (Literal b) ss ts = refl
heads (Label a) (Label b) ss ts = refl
heads (Label a) (Greedy b) ss ts = refl
heads (Greedy a) (Literal b) ss ts = refl
heads (Greedy a) (Label b) ss ts = refl
heads (Greedy a) (Greedy b) ss ts = refl

-- two paths by their first segments
pub places_first : (ones others more rest : List Segment) (s t : Segment) (o : Ordering) → ones ≡ s ∷ more → others ≡ t ∷ rest
    → place_cmp (place_of s) (place_of t) ≡ o → places_cmp ones others ≡ ordering_then o (cond (is_greedy s) Equal (places_cmp more rest))
places_first ones others more rest s t o e f h =
    ap (λ l. places_cmp l others) e ∙ ap (places_cmp (s ∷ more)) f ∙ heads s t more rest
    ∙ ap (λ r. ordering_then r (cond (is_greedy s) Equal (places_cmp more rest))) h

-- the end stands behind all
pub end_last : (ones others more : List Segment) (s : Segment) → ones ≡ s ∷ more → length others ≡ 0 → places_cmp ones others ≡ Less
end_last ones [] more s e h = ap (λ l. places_cmp l []) e ∙ by s
  where
    by : (s : Segment) → places_cmp (s ∷ more) [] ≡ Less
    by (Literal a) = refl
    by (Label a) = refl
    by (Greedy a) = refl
end_last ones (t ∷ others) more s e h = absurd (omega (arith, h))

pub end_first : (others more : List Segment) (t : Segment) → others ≡ t ∷ more → places_cmp [] others ≡ Greater
end_first others more t e = ap (places_cmp []) e ∙ by t
  where
    by : (t : Segment) → places_cmp [] (t ∷ more) ≡ Greater
    by (Literal a) = refl
    by (Label a) = refl
    by (Greedy a) = refl
