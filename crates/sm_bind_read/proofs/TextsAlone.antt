-- One text for a member, several, and those of one list.
use Rattle.std.proofs.Common.{◌≡◌, ◌≤◌, ◌<◌, ℕ, List, [], ◌∷◌, map, get_or, length, refl, sym, ap, arith}
use Rattle.std.specs.Prelude.{Err}
use Rattle.sm_parts.specs.declared.list_entry.ListEntry.TheVariants.{Text as some_text}
use Rattle.sm_shapes.specs.declared.fault.FaultKind.TheVariants.{Repeated}
use Rattle.sm_codec.specs.Codec.{Codec}
use Rattle.sm_codec.specs.Readings.{Absence, Child, member_reading, one_here}
use Rattle.sm_part_values.specs.PartTexts.{TextForm, entry_child, text_child}

pub one_text : (us : List (List ℕ)) (u : List ℕ) → 1 ≤ length us → length us < 2 → u ≡ get_or us 0 u → us ≡ u ∷ []
one_text [] u some few is = absurd (omega (arith, some))
one_text (v ∷ []) u some few is = ap (λ w. w ∷ []) (sym is)
one_text (v ∷ w ∷ us) u some few is = absurd (omega (arith, few))

pub repeated : (f : List ℕ → Child) (absent : Absence) (k : ℕ) (us : List (List ℕ)) → 2 ≤ length us
    → member_reading absent k (map f us) ≡ Err (one_here Repeated)
repeated f absent k [] many = absurd (omega (arith, many))
repeated f absent k (u ∷ []) many = absurd (omega (arith, many))
repeated f absent k (u ∷ v ∷ us) many = refl

pub repeated_more : (f : List ℕ → Child) (absent : Absence) (k : ℕ) (u : List ℕ) (us : List (List ℕ)) → (us ≡ [] → ⊥)
    → member_reading absent k (map f (u ∷ us)) ≡ Err (one_here Repeated)
repeated_more f absent k u [] some = absurd (some refl)
repeated_more f absent k u (v ∷ us) some = refl

pub as_entries : (f : TextForm) (c : Codec) (us : List (List ℕ)) → map (entry_child f c) (map some_text us) ≡ map (text_child f c) us
as_entries f c [] = refl
as_entries f c (u ∷ us) = ap (λ cs. text_child f c u ∷ cs) (as_entries f c us)
