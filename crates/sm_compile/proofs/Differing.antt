-- Texts and numbers of which none stands twice.
use Rattle.std.proofs.Common.{◌≡◌, inl, inr, ℕ, ℤ, Bool, true, false, not, List, [], ◌∷◌, map, refl, sym, ap, ◌∙◌}
use Rattle.std.specs.Prelude.{◌↔◌}
use denote.Ref.{Bor}
use Rattle.sm_model.specs.Formed.{DifferInNames, StandsAmong}
use Rattle.sm_model.proofs.Sorting.{map_twice}
use Rattle.sm_shapes.specs.Broken.{has_twice}
use Rattle.sm_shapes.specs.Fitting.{AllUnlike, NoneIsLike}
use Rattle.sm_shapes.specs.Names.{AllDiffer, NoneIs}
use Rattle.sm_shapes.specs.Values.{text_val, int_val}
use Rattle.sm_shapes.proofs.SameVals.{unlike_where, where_unlike}
use Rattle.sm_compile.specs.Sound.{AllNumbersDiffer, NoneIsNumber}
use Rattle.sm_compile.specs.steps.Naming.{all_differ, all_numbers_differ, texts_of_all}

pub turned_twice : (a b : Bool) → not a ≡ b → a ≡ not b
turned_twice true b h = ap not h
turned_twice false b h = ap not h

pub texts_told : (ts : List (Bor (List ℕ))) (rises : Bool) → not rises ≡ has_twice (map (λ t. text_val t.now) ts)
    → rises ≡ all_differ (texts_of_all ts)
texts_told ts rises h =
    turned_twice rises _ h ∙ ap (λ vs. not (has_twice vs)) (sym (map_twice (λ (t : Bor (List ℕ)). t.now) text_val ts))

not_true : (b : Bool) → not b ≡ true → b ≡ false
not_true true h = sym h
not_true false h = refl

same_text : (t u : List ℕ) → text_val t ≡ text_val u → t ≡ u
same_text t u h = cc

same_int : (y z : ℤ) → int_val y ≡ int_val z → y ≡ z
same_int y z h = cc

none_is : (t : List ℕ) (ts : List (List ℕ)) → NoneIsLike (text_val t) (map text_val ts) ↔ NoneIs t ts
none_is t [] = (λ h. tt, λ h. tt)
none_is t (u ∷ ts) = let rest = none_is t ts in (λ h. (λ e. h.0 (ap text_val e), rest.0 h.1), λ h. (λ e. h.0 (same_text u t e), rest.1 h.1))

all_unlike : (ts : List (List ℕ)) → AllUnlike (map text_val ts) ↔ AllDiffer ts
all_unlike [] = (λ h. tt, λ h. tt)
all_unlike (t ∷ ts) =
    let here = none_is t ts in
    let rest = all_unlike ts in
    (λ h. (here.0 h.0, rest.0 h.1), λ h. (here.1 h.0, rest.1 h.1))

-- no text stands twice
pub differ_told : (ts : List (List ℕ)) → (all_differ ts ≡ true) ↔ AllDiffer ts
differ_told ts = (
  λ h. (all_unlike ts).0 (unlike_where (map text_val ts) (not_true (has_twice (map text_val ts)) h)),
  λ h. ap not (where_unlike (map text_val ts) ((all_unlike ts).1 h)),
)

none_among : (t : List ℕ) (ts : List (List ℕ)) → NoneIs t ts ↔ (StandsAmong t ts → ⊥)
none_among t [] = (λ h s. s, λ h. tt)
none_among t (u ∷ ts) =
    let rest = none_among t ts in (
      λ h s. elim s [ inl e ↦ h.0 (sym e) | inr later ↦ rest.0 h.1 later ],
      λ h. (λ e. h (inl (sym e)), rest.1 (λ s. h (inr s))),
    )

pub differ_in_names : (ts : List (List ℕ)) → AllDiffer ts ↔ DifferInNames ts
differ_in_names [] = (λ h. tt, λ h. tt)
differ_in_names (t ∷ ts) =
    let here = none_among t ts in
    let rest = differ_in_names ts in
    (λ h. (here.0 h.0, rest.0 h.1), λ h. (here.1 h.0, rest.1 h.1))

none_number : (z : ℤ) (zs : List ℤ) → NoneIsLike (int_val z) (map int_val zs) ↔ NoneIsNumber z zs
none_number z [] = (λ h. tt, λ h. tt)
none_number z (y ∷ zs) =
    let rest = none_number z zs in (λ h. (λ e. h.0 (ap int_val e), rest.0 h.1), λ h. (λ e. h.0 (same_int y z e), rest.1 h.1))

all_numbers : (zs : List ℤ) → AllUnlike (map int_val zs) ↔ AllNumbersDiffer zs
all_numbers [] = (λ h. tt, λ h. tt)
all_numbers (z ∷ zs) =
    let here = none_number z zs in
    let rest = all_numbers zs in
    (λ h. (here.0 h.0, rest.0 h.1), λ h. (here.1 h.0, rest.1 h.1))

-- and no number
pub numbers_told : (zs : List ℤ) → (all_numbers_differ zs ≡ true) ↔ AllNumbersDiffer zs
numbers_told zs = (
  λ h. (all_numbers zs).0 (unlike_where (map int_val zs) (not_true (has_twice (map int_val zs)) h)),
  λ h. ap not (where_unlike (map int_val zs) ((all_numbers zs).1 h)),
)
