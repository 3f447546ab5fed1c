-- Where a binary search for an id ends among rows whose ids rise.
use Rattle.std.proofs.Common.{inl, inr, ◌≡◌, ℕ, ◌<◌, Bool, true, false, cond, is_some, List, [], ◌∷◌, length, get_or, map, Some, None}
use Rattle.std.proofs.Common.{Option, sym, ap, subst, ◌∙◌, arith}
use Rattle.std.specs.List.{HoldsAt}
use Rattle.std.specs.List.Sorted.{IsNonDecreasingBy, IsPartitionPoint}
use Rattle.std.specs.Ordering.{ordering_index, is_eq}
use Rattle.std.specs.Cmp.{tied_itself as tied_order}
use Rattle.std.specs.Cmp.Lexicographic.{nat_list_cmp_total}
use Rattle.std.specs.FinMap.{slice_cmp-IsAntisymmetric, nat_cmp-IsAntisymmetric}
use Rattle.std.specs.FinMap.Entries.{find}
use Rattle.std.specs.declared.cmp.Ordering.TheVariants.{Less, Equal, Greater}
use Rattle.std.proofs.lemmas.List.{get_or-map}
use Rattle.sm_model.specs.Formed.{StandsAmong}
use Rattle.sm_model.specs.Graphs.{text_cmp}
use Rattle.sm_model.specs.GraphRows.{id_of_row, ids_of}
use Rattle.sm_model.specs.steps.Rising.{Rise}
use Rattle.sm_model.specs.declared.graph.rows.GraphRow.{GraphRow}
use Rattle.sm_model.proofs.Rises.{sorted_from_rise}
use Rattle.sm_model.proofs.Searching.{found_nowhere, rises}
use Rattle.sm_model.proofs.Sorting.{map_twice}

-- where it finds an id, the id stands
pub found_place : (rows : List GraphRow) (q : List ℕ) (i : ℕ) → i < length rows → HoldsAt (λ r. text_cmp r.id q ≡ Equal) rows i
    → get_or (ids_of rows) i [] ≡ q
found_place [] q i lt tied = absurd (omega (arith, lt))
found_place (r ∷ rs) q i lt tied =
    get_or-map id_of_row (r ∷ rs) i r [] lt ∙ slice_cmp-IsAntisymmetric nat_cmp-IsAntisymmetric _ q (tied r)

abbrev alone : GraphRow → List ℕ × Unit {0}
alone r = (r.id, tt)

found_one : (b : Bool) (o : Option (Unit {0})) → cond b (Some tt) o ≡ None → (b ≡ true → ⊥) × (o ≡ None)
found_one true o h = absurd (subst (λ x. cond (is_some x) (Unit {0}) ⊥) h tt)
found_one false o h = ((λ e. subst (λ c. cond c ⊥ (Unit {0})) e tt), h)

tied_itself : (k : List ℕ) → is_eq (text_cmp k k) ≡ true
tied_itself k = ap is_eq (tied_order nat_list_cmp_total k)

not_nowhere : (rows : List GraphRow) (q : List ℕ) → StandsAmong q (ids_of rows) → find text_cmp q (map alone rows) ≡ None → ⊥
not_nowhere [] q s h = s
not_nowhere (r ∷ rs) q (inl e) h =
    (found_one (is_eq (text_cmp q r.id)) (find text_cmp q (map alone rs)) h).0
    (subst (λ k. is_eq (text_cmp q k) ≡ true) e (tied_itself q))
not_nowhere (r ∷ rs) q (inr s) h =
    not_nowhere rs q s (found_one (is_eq (text_cmp q r.id)) (find text_cmp q (map alone rs)) h).1

-- an id that stands there is found
pub no_place : (rows : List GraphRow) (q : List ℕ) (i : ℕ) → Rise (ids_of rows) → StandsAmong q (ids_of rows)
    → (IsNonDecreasingBy (λ r. ordering_index (text_cmp r.id q)) rows
    → IsPartitionPoint (λ r. text_cmp r.id q ≡ Less) (λ r. text_cmp r.id q ≡ Greater) rows i) → ⊥
no_place rows q i rise there parted =
    let sorted = sorted_from_rise (map alone rows) (subst Rise (sym (map_twice alone (λ e. e.0) rows)) rise) in
    not_nowhere rows q there (found_nowhere alone rows q i (parted (rises alone rows sorted q)))
