-- Ids rise with their numbers, and the other way round.
use Rattle.std.proofs.Common.{◌≡◌, ◌⊎◌, ◌<◌, inl, inr, ℕ, List, length, sym, ap, ◌∙◌, subst, arith}
use Rattle.std.specs.Cmp.{tied_itself}
use Rattle.std.specs.Cmp.Lexicographic.{nat_list_cmp_total}
use Rattle.std.specs.FinMap.Entries.{is_sorted}
use Rattle.std.specs.Ordering.{ordering_reverse}
use Rattle.std.specs.declared.cmp.Ordering.{Ordering}
use Rattle.std.specs.declared.cmp.Ordering.TheVariants.{Less, Equal, Greater}
use Rattle.std.proofs.lemmas.Bool.{cases_order}
use Rattle.std.proofs.lemmas.Option.{get_or_from_slice_get}
use Rattle.sm_model.specs.Graphs.{text_cmp, Entry}
use Rattle.sm_model.specs.GraphView.{entries_of}
use Rattle.sm_model.specs.Reaching.{id_of_number}
use Rattle.sm_model.specs.declared.graph.Graph.{Graph}
use Rattle.sm_model.proofs.GraphFacts.{id_at}
use Rattle.sm_model.proofs.LinkNumbers.{stands_at}
use Rattle.sm_model.proofs.Searching.{and_left, key_at, keys_rise}

pub either_way : (i j : ℕ) → (i < j) ⊎ ((i ≡ j) ⊎ (j < i))
either_way i j = elim (cases_order i j) [
  | inl same ↦ inr (inl same)
  | inr other ↦ elim other [ inl less ↦ inl less | inr more ↦ inr (inr more) ]
]

pub not_greater : (r : Ordering) → r ≡ Less → r ≡ Greater → ⊥
not_greater Less h k = cc
not_greater Equal h k = cc
not_greater Greater h k = cc

module _ (g : Graph) where
  abbrev count : ℕ
  count = length (entries_of g)

  pub rising : (i j : ℕ) → i < j → j < count → text_cmp (id_of_number g i) (id_of_number g j) ≡ Less
  rising i j less within =
      let es = entries_of g in
      let a = stands_at g i (omega (arith, less, within)) in
      let b = stands_at g j within in
      let d : List ℕ × Entry = (b.0, b.1) in
      let first : key_at es i d ≡ id_of_number g i = ap (λ (x : List ℕ × Entry). x.0) (get_or_from_slice_get es i (a.0, a.1) d a.2)
      ∙ sym (id_at g i a.0 a.1 a.2) in
      let second : key_at es j d ≡ id_of_number g j = ap (λ (x : List ℕ × Entry). x.0) (get_or_from_slice_get es j (b.0, b.1) d b.2)
      ∙ sym (id_at g j b.0 b.1 b.2) in
      ap (λ t. text_cmp t (id_of_number g j)) (sym first) ∙ ap (text_cmp (key_at es i d)) (sym second)
      ∙ keys_rise es (and_left (is_sorted text_cmp es) _ g.sound) d i j less within

  pub falling : (j k : ℕ) → j < count → k < count → text_cmp (id_of_number g j) (id_of_number g k) ≡ Less → j < k
  falling j k a b less = by (either_way j k)
    where
      by : (j < k) ⊎ ((j ≡ k) ⊎ (k < j)) → j < k
      by (inl lt) = lt
      by (inr (inl same)) =
          let e : Equal ≡ Less = sym (tied_itself nat_list_cmp_total (id_of_number g k))
          ∙ subst (λ i. text_cmp (id_of_number g i) (id_of_number g k) ≡ Less) same less in
          absurd cc
      by (inr (inr more)) =
          absurd (not_greater (text_cmp (id_of_number g j) (id_of_number g k)) less
          (nat_list_cmp_total.antisymm (id_of_number g j) (id_of_number g k) ∙ ap ordering_reverse (rising k j more a)))
