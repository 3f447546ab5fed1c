-- The texts of a label or a query, found among groups.
use Rattle.std.proofs.Common.{◌≡◌, ℕ, Bool, true, false, cond, List, [], ◌∷◌, refl, sym, ap, ◌∙◌}
use Rattle.std.specs.Prelude.{Option, IsUtf8}
use Rattle.std.specs.FinMap.Entries.{find}
use Rattle.std.specs.Option.{unwrap_or}
use Rattle.std.specs.Str.{bytes_eq, is_utf8}
use Rattle.std.proofs.lemmas.Slice.Eq.{bytes_eq-Decides}
use Rattle.std.proofs.lemmas.Str.{is_utf8-from_IsUtf8}
use Rattle.sm_codec.specs.Named.{named}
use Rattle.sm_groups.specs.Groups.{AreGroupsOf, groups_view}
use Rattle.sm_groups.specs.declared.groups.Group.{Group}
use Rattle.sm_model.specs.Graphs.{text_cmp}
use Rattle.sm_parts.specs.Targets.{QueryPair}
use Rattle.sm_part_values.proofs.KeysGrouped.{under_named}
use Rattle.sm_bind_read.specs.steps.Sources.{text_rows}

-- what a map of groups has under a key is what stands there
pub found_texts : (key : List ℕ) (rows : List (List ℕ × List ℕ)) (gs : List (Group (List ℕ))) → AreGroupsOf rows (groups_view gs)
    → (o : Option (List (List ℕ))) → find text_cmp key (groups_view gs) ≡ o → unwrap_or o [] ≡ named key rows
found_texts key rows gs are o found = ap (λ r. unwrap_or r []) (sym found) ∙ are.each key ∙ under_named key rows

-- a name that is a text finds the pairs that it finds among all
pub text_named : (w : List ℕ) → IsUtf8 w → (pairs : List QueryPair) → named w (text_rows pairs) ≡ named w pairs
text_named w text [] = refl
text_named w text (pair ∷ pairs) = by (is_utf8 pair.0) refl (bytes_eq pair.0 w) refl (text_named w text pairs)
  where
    by : (z : Bool) → is_utf8 pair.0 ≡ z → (y : Bool) → bytes_eq pair.0 w ≡ y → named w (text_rows pairs) ≡ named w pairs
        → named w (cond z (pair ∷ text_rows pairs) (text_rows pairs)) ≡ cond y (pair.1 ∷ named w pairs) (named w pairs)
    by true e true same rest = ap (λ b. cond b (pair.1 ∷ named w (text_rows pairs)) (named w (text_rows pairs))) same ∙ ap (λ us. pair.1 ∷ us) rest
    by true e false same rest = ap (λ b. cond b (pair.1 ∷ named w (text_rows pairs)) (named w (text_rows pairs))) same ∙ rest
    by false e true same rest =
        let is : pair.0 ≡ w = (bytes_eq-Decides pair.0 w).0 same in
        absurd (both (sym (ap is_utf8 is ∙ is_utf8-from_IsUtf8 w text) ∙ e))
      where
        both : true ≡ false → ⊥
        both h = cc
    by false e false same rest = rest
