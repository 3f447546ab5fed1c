-- Texts that a set holds, and one more.
use Rattle.std.proofs.Common.{◌≡◌, ℕ, Bool, true, false, cond, List, refl, ap, ◌∙◌}
use Rattle.std.specs.Prelude.{◌||◌}
use Rattle.std.specs.BTreeSet as sorted
use Rattle.std.specs.BTreeSet.{BTreeSet}
use Rattle.std.specs.Cmp.Lexicographic.{slice_cmp}
use Rattle.std.specs.Ordering.{nat_cmp}
use Rattle.std.specs.Str.{bytes_eq}
use Rattle.std.proofs.lemmas.Map.Text.{is_eq-slice_cmp}
use denote.Ref.{Bor}
use Rattle.sm_uri.specs.steps.UriReading.{holds_text}

either : (a b : Bool) → cond a true b ≡ (b || a)
either true true = refl
either true false = refl
either false true = refl
either false false = refl

pub held_more : (old new : BTreeSet (Bor (List ℕ))) (key : List ℕ)
    → sorted.UpdatesBy (λ x y. slice_cmp nat_cmp x.now y.now) (λ k. slice_cmp nat_cmp key k.now) old new true
    → (id : List ℕ) → holds_text new id ≡ (holds_text old id || bytes_eq key id)
held_more old new key u id =
    u.0 (record { ref_ptr = (0, 0); now = id }) ∙ ap (λ b. cond b true (holds_text old id)) (is_eq-slice_cmp key id)
    ∙ either (bytes_eq key id) (holds_text old id)
