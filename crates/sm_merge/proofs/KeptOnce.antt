-- Traits of members that are copied: where each member stands once, those of a name are those of the member of that name.
use Rattle.std.proofs.Common.{◌≡◌, ℕ, Bool, true, false, List, [], ◌∷◌, ◌++◌, filter, map, refl, sym, ap, subst, ◌∙◌, append-nil}
use Rattle.std.proofs.Common.{bytes_eq}
use Rattle.std.specs.Prelude.{if◌then◌else◌}
use Rattle.std.specs.Option.{unwrap_or}
use Rattle.std.specs.Ordering.{is_eq}
use Rattle.std.proofs.lemmas.Slice.Eq.{bytes_eq-Decides}
use Rattle.std.proofs.lemmas.Bool.{true≢false}
use Rattle.sm_model.specs.steps.Rising.{IsBelow, Rise}
use Rattle.sm_merge.specs.steps.EffectiveTables.{by_members, traits_of_member}
use Rattle.sm_merge.specs.steps.Filling.{folded_rows, is_kept, kept_of}
use Rattle.sm_merge.specs.declared.effective.MemberTraits.{MemberTraits}
use Rattle.sm_merge.proofs.FoundRows.{here, passed}
use Rattle.sm_groups.proofs.GroupsMade.{tests}

none_behind : (name : List ℕ) (ms : List MemberTraits) → IsBelow name (map (λ m. m.0) (by_members ms)) → kept_of ms name ≡ []
none_behind name [] h = refl
none_behind name (m ∷ ms) h = by (bytes_eq m.member name) refl (none_behind name ms h.1)
  where
    by : (b : Bool) → bytes_eq m.member name ≡ b → kept_of ms name ≡ []
        → (if b then filter is_kept (folded_rows m.traits.items) else []) ++ kept_of ms name ≡ []
    by true is rest = absurd (true≢false (sym (tests name m.member ∙ is) ∙ ap is_eq h.0))
    by false is rest = rest

pub kept_once : (name : List ℕ) (ms : List MemberTraits) → Rise (map (λ m. m.0) (by_members ms))
    → kept_of ms name ≡ filter is_kept (folded_rows (traits_of_member name ms))
kept_once name [] rise = refl
kept_once name (m ∷ ms) rise = by (bytes_eq m.member name) refl (kept_once name ms rise.1)
  where
    by : (b : Bool) → bytes_eq m.member name ≡ b → kept_of ms name ≡ filter is_kept (folded_rows (traits_of_member name ms))
        → (if b then filter is_kept (folded_rows m.traits.items) else []) ++ kept_of ms name
        ≡ filter is_kept (folded_rows (traits_of_member name (m ∷ ms)))
    by true is before =
        ap (λ rest. filter is_kept (folded_rows m.traits.items) ++ rest)
        (none_behind name ms (subst (λ k. IsBelow k (map (λ m. m.0) (by_members ms))) ((bytes_eq-Decides m.member name).0 is) rise.0))
        ∙ append-nil (filter is_kept (folded_rows m.traits.items))
        ∙ sym (ap (λ o. filter is_kept (folded_rows (unwrap_or o []))) (here name (m.member, m.traits.items) (by_members ms) is))
    by false is before =
        before
        ∙ sym (ap (λ o. filter is_kept (folded_rows (unwrap_or o []))) (passed name (m.member, m.traits.items) (by_members ms) is))
