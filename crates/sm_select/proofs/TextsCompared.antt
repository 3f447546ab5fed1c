-- How texts stand to each other, from what std's tests and a search say of them.
use Rattle.std.proofs.Common.{◌≡◌, inl, ℕ, ◌+◌, ◌-◌, Bool, true, List, ◌∷◌, ◌++◌, length, take, drop, Some, None, Option, refl, sym}
use Rattle.std.proofs.Common.{ap, ◌∙◌, arith, append_assoc, length-append, take-append-drop, eqb-true, eq-eqb}
use Rattle.std.specs.Prelude.{◌↔◌, is_some, nat_eq}
use Rattle.std.specs.Bool.{Decides}
use Rattle.std.specs.List.{ends_with, starts_with}
use Rattle.std.proofs.Math.Seq.{drop-append_seam, take-append_seam}
use Rattle.std.proofs.lemmas.Slice.Eq.{ends_is, starts_is}
use Rattle.memchr.specs.Find.{FindsNeedle, OccursAt}
use Rattle.memchr.proofs.lemmas.MatchLemmas.{OccursAt-from_part, OccursAt-split}
use Rattle.sm_model.proofs.Worklist.{apart}
use Rattle.sm_select.specs.Picks.{BeginsWith, EndsWith, HasWithin, StandsTo, StandsToOne}
use Rattle.sm_select.specs.declared.selector.SelectorOp.{SelectorOp}

numbers_decide : (a b : ℕ) → Decides (nat_eq a b) (a ≡ b)
numbers_decide a b = (eqb-true a b, eq-eqb a b)

pub begins_told : (text value : List ℕ) (r : Bool) → r ≡ starts_with nat_eq text value → (r ≡ true) ↔ BeginsWith text value
begins_told text value r is =
    let told = starts_is numbers_decide text value r is in
    (λ h. (drop (length value) text, told.0 h), λ h. told.1 h.0 h.1)

pub ends_told : (text value : List ℕ) (r : Bool) → r ≡ ends_with nat_eq text value → (r ≡ true) ↔ EndsWith text value
ends_told text value r is =
    let told = ends_is numbers_decide text value r is in
    (λ h. (take (length text - length value) text, told.0 h), λ h. told.1 h.0 h.1)

occurs_within : (text value : List ℕ) (k : ℕ) → OccursAt text value k → HasWithin text value
occurs_within text value k at = (
  take k text,
  drop (k + length value) text,
  sym (take-append-drop k text) ∙ ap (λ xs. take k text ++ xs) (OccursAt-split text value k at)
      ∙ sym (append_assoc (take k text) value (drop (k + length value) text)),
)

within_occurs : (text value : List ℕ) (h : HasWithin text value) → OccursAt text value (length h.0)
within_occurs text value h =
    let before = h.0 in
    let more = h.1 in
    let is : text ≡ before ++ (value ++ more) = h.2 ∙ append_assoc before value more in
    let long : length text ≡ length before + length (value ++ more) = ap length is ∙ length-append before (value ++ more) in
    let rest : drop (length before) text ≡ value ++ more = ap (drop (length before)) is ∙ drop-append_seam before (value ++ more) in
    OccursAt-from_part text value (length before) (omega (arith, long, length-append value more))
    (ap (take (length value)) rest ∙ take-append_seam value more)

pub within_told : (text value : List ℕ) (o : Option ℕ) → FindsNeedle text value 0 o → (is_some o ≡ true) ↔ HasWithin text value
within_told text value None nowhere = (
  λ h. absurd (apart h),
  λ h.
      let at = within_occurs text value h in
      absurd (nowhere (length h.0) (omega arith) (omega (arith, at.fits)) at),
)
within_told text value (Some k) found = (λ h. occurs_within text value k found.1, λ h. refl)

-- one value after the other
pub stands_first : (op : SelectorOp) (text value : List ℕ) (values : List (List ℕ)) → StandsTo op text value
    → StandsToOne op text (value ∷ values)
stands_first op text value values h = inl h
