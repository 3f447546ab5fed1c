-- What a set holds behind one more text.
use Rattle.std.proofs.Common.{◌≡◌, ℕ, Bool, true, false, cond, List, refl, ap, ◌∙◌, string_bytes}
use Rattle.std.specs.Prelude.{◌||◌}
use Rattle.std.specs.BTreeSet as sorted
use Rattle.std.specs.BTreeSet.{BTreeSet, contains_text}
use Rattle.std.specs.Cmp.Lexicographic.{slice_cmp}
use Rattle.std.specs.Ordering.{nat_cmp}
use Rattle.std.specs.Str.{bytes_eq}
use Rattle.std.specs.String.{string_cmp}
use Rattle.std.specs.declared.string.String.{String}
use Rattle.std.proofs.lemmas.Map.Text.{btree_set_updates_text}

either : (a b : Bool) → cond a true b ≡ (b || a)
either true true = refl
either true false = refl
either false true = refl
either false false = refl

pub one_text_more : {Y : Type 0} (old new : BTreeSet (String Y)) (key text : List ℕ)
    → sorted.UpdatesBy string_cmp (λ k. slice_cmp nat_cmp key (string_bytes k)) old new true → key ≡ text
    → (u : List ℕ) → contains_text new u ≡ (contains_text old u || bytes_eq text u)
one_text_more old new key text updates is u =
    btree_set_updates_text key old new true updates u ∙ either (bytes_eq key u) (contains_text old u)
    ∙ ap (λ k. contains_text old u || bytes_eq k u) is
