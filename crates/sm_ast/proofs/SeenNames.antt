-- A set of the names that stood before, as one name comes.
use Rattle.std.proofs.Common.{◌≡◌, ℕ, Bool, true, false, cond, List, [], ◌∷◌, ◌++◌, sym, ap, ◌∙◌, refl}
use Rattle.std.specs.Prelude.{◌||◌, not}
use Rattle.std.specs.BTreeSet as sorted
use Rattle.std.specs.BTreeSet.{BTreeSet}
use Rattle.std.specs.Cmp.Lexicographic.{slice_cmp}
use Rattle.std.specs.Ordering.{nat_cmp}
use Rattle.std.specs.Str.{bytes_eq}
use Rattle.std.proofs.lemmas.List.Folds.{list_any-append}
use Rattle.std.proofs.lemmas.Map.Text.{is_eq-slice_cmp}
use denote.Ref.{Bor}
use Rattle.sm_ast.specs.Faults.{stands_in}
use Rattle.sm_ast.specs.steps.Checks.{Remembers}

cond_or : (a b : Bool) → cond a true b ≡ (b || (a || false))
cond_or false false = refl
cond_or false true = refl
cond_or true false = refl
cond_or true true = refl

pub not_not : (b : Bool) → not (not b) ≡ b
not_not true = refl
not_not false = refl

-- whether a set has the text
abbrev pub has : BTreeSet (Bor (List ℕ)) → List ℕ → Bool
has s cs = sorted.contains_by (λ k. slice_cmp nat_cmp cs k.now) s

-- with one name more
pub remembers_more : (old new : BTreeSet (Bor (List ℕ))) (key : List ℕ) (ks : List (List ℕ))
    → sorted.UpdatesBy (λ x y. slice_cmp nat_cmp x.now y.now) (λ k. slice_cmp nat_cmp key k.now) old new true
    → Remembers old ks → Remembers new (ks ++ key ∷ [])
remembers_more old new key ks u h cs =
    u.0 (record { ref_ptr = (0, 0); now = cs })
    ∙ ap (λ b. cond b true (has old cs)) (is_eq-slice_cmp key cs)
    ∙ ap (λ b. cond (bytes_eq key cs) true b) (h cs)
    ∙ cond_or (bytes_eq key cs) (stands_in cs ks)
    ∙ sym (list_any-append (λ k. bytes_eq k cs) ks (key ∷ []))
