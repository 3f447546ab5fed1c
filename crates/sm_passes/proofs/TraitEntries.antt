-- The entries of a map of traits, and what is found in it.
use Rattle.std.proofs.Common.{◌≡◌, ℕ, Bool, true, false, cond, List, [], ◌∷◌, Some, refl, sym, ap, ◌∙◌, subst}
use Rattle.std.specs.Prelude.{T}
use Rattle.std.specs.Cmp.{tied_itself}
use Rattle.std.specs.Cmp.Lexicographic.{nat_list_cmp_total}
use Rattle.std.specs.FinMap as fin
use Rattle.std.specs.FinMap.{entries_sorted, get-entries, slice_cmp-IsAntisymmetric, nat_cmp-IsAntisymmetric}
use Rattle.std.specs.FinMap.Entries.{find}
use Rattle.std.specs.List.{Contains}
use Rattle.std.specs.Ordering.{is_eq}
use Rattle.std.specs.declared.cmp.Ordering.{Ordering}
use Rattle.std.specs.declared.cmp.Ordering.TheVariants.{Less, Equal, Greater}
use Rattle.std.proofs.lemmas.Option.{none-some, same_Some}
use Rattle.sm_tree.specs.Node.{Node}
use Rattle.sm_model.specs.Graphs.{text_cmp, NodeMap}
use Rattle.sm_model.proofs.OneRising.{contains_behind, contains_head}
use Rattle.sm_model.proofs.Searching.{equal_to}
use Rattle.sm_model.proofs.Worklist.{apart}

from_t : (b : Bool) → T b → b ≡ true
from_t true h = refl
from_t false h = absurd h

tied : (r : Ordering) → is_eq r ≡ true → r ≡ Equal
tied Less h = absurd (apart h)
tied Equal h = refl
tied Greater h = absurd (apart h)

-- an entry is found
pub entry_found : (m : NodeMap) (p : List ℕ × Node) → Contains (fin.entries m) p → fin.get m p.0 ≡ Some p.1
entry_found m p (i, inside, at) =
    get-entries m p.0
    ∙ equal_to (fin.entries m) (from_t _ (entries_sorted m)) p i inside p.0
    (ap (λ (x : List ℕ × Node). text_cmp x.0 p.0) at ∙ tied_itself nat_list_cmp_total p.0)
    ∙ ap (λ (x : List ℕ × Node). Some x.1) at

-- what is found under a key stands there
pub found_in : {X : Type 0} (q : List ℕ) (n : X) (es : List (List ℕ × X)) → find text_cmp q es ≡ Some n → Contains es (q, n)
found_in q n [] h = absurd (none-some n h)
found_in {X} q n (x ∷ es) h = by (is_eq (text_cmp q x.0)) refl (found_in q n es) h
  where
    by : (b : Bool) → is_eq (text_cmp q x.0) ≡ b → (find text_cmp q es ≡ Some n → Contains es (q, n))
        → cond b (Some x.1) (find text_cmp q es) ≡ Some n → Contains (x ∷ es) (q, n)
    by true is later h =
        let same : q ≡ x.0 = slice_cmp-IsAntisymmetric nat_cmp-IsAntisymmetric q x.0 (tied (text_cmp q x.0) is) in
        let value : x.1 ≡ n = same_Some x.1 n h in
        let all : x ≡ (q, n) = λ i. (sym same i, value i) in
        subst (Contains {X = List ℕ × X} (x ∷ es)) all (contains_head {K = List ℕ × X} x es)
    by false is later h = contains_behind x (q, n) es (later h)

-- and what is found is an entry
pub found_entry : (m : NodeMap) (q : List ℕ) (n : Node) → fin.get m q ≡ Some n → Contains (fin.entries m) (q, n)
found_entry m q n h = found_in q n (fin.entries m) (sym (get-entries m q) ∙ h)
