-- Numbers that stand first under their keys, row by row.
use Rattle.std.proofs.Common.{◌≡◌, ℕ, cond, List, [], ◌∷◌, ◌++◌, Option, Some, None, refl, sym, ap, ◌∙◌, bytes_eq}
use Rattle.std.specs.Cmp.Lexicographic.{nat_list_cmp_total}
use Rattle.std.specs.FinMap.Entries.{find}
use Rattle.std.specs.Ordering.{is_eq, ordering_reverse}
use Rattle.std.specs.declared.cmp.Ordering.{Ordering}
use Rattle.std.specs.declared.cmp.Ordering.TheVariants.{Less, Equal, Greater}
use Rattle.std.proofs.lemmas.Map.Text.{is_eq-slice_cmp}
use Rattle.sm_model.specs.EventView.{EventTold}
use Rattle.sm_model.specs.Graphs.{text_cmp}
use Rattle.sm_model.specs.declared.event.ModelEvent.{ModelEvent}
use Rattle.sm_model.specs.declared.graph.Graph.{Graph}
use Rattle.sm_rules.specs.RuleEvents.{Puts}
use Rattle.sm_passes.specs.Firsts.{ToldAmong, ToldFirst}
use Rattle.sm_passes.proofs.EventsPut.{puts_none}
use Rattle.sm_passes.proofs.ListPut.{none_of, put_behind}

tie_turned : (r : Ordering) → is_eq (ordering_reverse r) ≡ is_eq r
tie_turned Less = refl
tie_turned Equal = refl
tie_turned Greater = refl

pub tests : (a b : List ℕ) → is_eq (text_cmp a b) ≡ bytes_eq b a
tests a b = ap is_eq (nat_list_cmp_total.antisymm a b) ∙ tie_turned (text_cmp b a) ∙ is_eq-slice_cmp b a

-- a row before others is found first
pub first_more : (old new : List ℕ → Option ℕ) (row : List ℕ × ℕ) (rows : List (List ℕ × ℕ))
    → ((q : List ℕ) → new q ≡ cond (bytes_eq row.0 q) (Some row.1) (old q)) → ((q : List ℕ) → old q ≡ find text_cmp q rows) → (q : List ℕ)
    → new q ≡ find text_cmp q (row ∷ rows)
first_more old new row rows changed h q = changed q ∙ (λ i. cond (sym (tests q row.0) i) (Some row.1) (h q i))

module _ (g : Graph) (first : List ℕ → Option ℕ) where
  abbrev OfRow : List ℕ × ℕ → EventTold → Type 0
  OfRow r e = ToldFirst g (first r.0) r.1 e

  pub none_told : (es : List ModelEvent) → Puts (ToldAmong g first []) es es
  none_told es = none_of OfRow es

  -- what is told of a row behind others
  pub told_more : (rows : List (List ℕ × ℕ)) (r : List ℕ × ℕ) (before mid now : List ModelEvent) → Puts (ToldAmong g first rows) before mid
      → Puts (ToldFirst g (first r.0) r.1) mid now → Puts (ToldAmong g first (rows ++ r ∷ [])) before now
  told_more rows r before mid now h k = put_behind OfRow rows r before mid now h k

-- where nothing stands first nothing is told
pub not_first : (g : Graph) (k : ℕ) (es : List ModelEvent) → Puts (ToldFirst g None k) es es
not_first g k es = puts_none (ToldFirst g None k) es (λ e h. h)
