-- Shapes whose ids are equal but for case, told from the numbers that stand first.
use Rattle.std.proofs.Common.{◌≡◌, ◌⊎◌, ◌<◌, inl, inr, ℕ, true, List, length, Option, Some, None, refl, sym, ap, ◌∙◌, subst, arith}
use Rattle.std.specs.Prelude.{◌↔◌, ◌==◌, not}
use Rattle.std.specs.Cmp.{tied_itself}
use Rattle.std.specs.Cmp.Lexicographic.{nat_list_cmp_total}
use Rattle.std.specs.FinMap.Entries.{find}
use Rattle.std.specs.List.{Contains}
use Rattle.std.specs.declared.cmp.Ordering.TheVariants.{Less, Equal, Greater}
use Rattle.std.proofs.lemmas.Bool.{eq-eqb, ne_eqb}
use Rattle.std.specs.Ordering.{ordering_reverse}
use Rattle.sm_model.specs.EventView.{EventTold}
use Rattle.sm_model.specs.Graphs.{text_cmp, shape_entry}
use Rattle.sm_model.specs.GraphView.{entries_of, maps_of}
use Rattle.sm_model.specs.Reaching.{id_of_number}
use Rattle.sm_model.specs.declared.event.ModelEvent.{ModelEvent}
use Rattle.sm_model.specs.declared.graph.Graph.{Graph}
use Rattle.sm_model.proofs.NumberedIds.{number_of}
use Rattle.sm_model.proofs.Worklist.{apart}
use Rattle.sm_rules.specs.RuleEvents.{IsEventOf, Puts, rule_event}
use Rattle.sm_rules.specs.declared.rule.Rule.TheVariants.{IdCase}
use Rattle.sm_rules.specs.Names.{HasCaseTwin, IsCaseTwin}
use Rattle.sm_passes.specs.Firsts.{ToldAmong, ToldFirst}
use Rattle.sm_passes.specs.Folded.{folded, folded_below}
use Rattle.sm_passes.specs.Owned.{is_own_shape}
use Rattle.sm_passes.proofs.EventsPut.{puts_same}
use Rattle.sm_passes.proofs.IdsRise.{either_way, not_greater, rising}
use Rattle.sm_passes.proofs.OwnShapes.{own_told, told_own}
use Rattle.sm_passes.proofs.Twins.{TellsFirst, first_told, is_row, row_is}

equal_not_greater : (a : List ℕ) → text_cmp a a ≡ Greater → ⊥
equal_not_greater a h = let e : Equal ≡ Greater = sym (tied_itself nat_list_cmp_total a) ∙ h in cc

less_not_equal : {X : Type 0} (a : List ℕ) → text_cmp a a ≡ Less → X
less_not_equal a h = let e : Equal ≡ Less = sym (tied_itself nat_list_cmp_total a) ∙ h in absurd cc

turned_less : (a b : List ℕ) → text_cmp a b ≡ Less → text_cmp b a ≡ Greater
turned_less a b h = nat_list_cmp_total.antisymm b a ∙ ap ordering_reverse h

differ : (j k : ℕ) → not (j == k) ≡ true → j ≡ k → ⊥
differ j k h e = apart (sym (ap not (eq-eqb j k e)) ∙ h)

apart_numbers : (j k : ℕ) → (j ≡ k → ⊥) → not (j == k) ≡ true
apart_numbers j k h = ap not (ne_eqb j k h)

module _ (g : Graph) where
  module _ (k : ℕ) (within : k < length (entries_of g)) (mine : is_own_shape (maps_of g) (id_of_number g k) ≡ true) where
    -- the one that stands first is the least that is equal but for case
    twin_told : (j : ℕ) → TellsFirst g (length (entries_of g)) (folded (id_of_number g k)) (Some j) → (j ≡ k → ⊥)
        → HasCaseTwin (maps_of g) (id_of_number g k) (id_of_number g j)
    twin_told j first other =
        let before : j < k = earlier (either_way j k) in
        let s = own_told (maps_of g) (id_of_number g k) mine in
        let t = own_told (maps_of g) (id_of_number g j) first.1 in
        record {
          s = s.0;
          own = s.1;
          least = record {
            holds = record { s = t.0; own = t.1; smaller = rising g j k before within; same = first.2 };
            least = least;
          };
        }
      where
        earlier : ((j < k) ⊎ ((j ≡ k) ⊎ (k < j))) → j < k
        earlier (inl less) = less
        earlier (inr (inl same)) = absurd (other same)
        earlier (inr (inr more)) = absurd (first.3 k more mine refl)

        least : (t : List ℕ) → IsCaseTwin (maps_of g) (id_of_number g k) t → text_cmp (id_of_number g j) t ≡ Greater → ⊥
        least t twin greater =
            let n = number_of g t (shape_entry twin.s, twin.own.0) in
            at n.0 n.1 n.2 (either_way n.0 j)
          where
            at : (i : ℕ) → i < length (entries_of g) → id_of_number g i ≡ t → ((i < j) ⊎ ((i ≡ j) ⊎ (j < i))) → ⊥
            at i small is (inl less) =
                first.3 i less (subst (λ x. is_own_shape (maps_of g) x ≡ true) (sym is) (told_own (maps_of g) t twin.s twin.own))
                (ap folded is ∙ twin.same)
            at i small is (inr (inl same)) =
                equal_not_greater t (subst (λ x. text_cmp x t ≡ Greater) (ap (id_of_number g) (sym same) ∙ is) greater)
            at i small is (inr (inr more)) =
                not_greater (text_cmp (id_of_number g j) t)
                (subst (λ x. text_cmp (id_of_number g j) x ≡ Less) is (rising g j i more small)) greater

    -- and the other way round
    found_twin : (detail : List ℕ) → HasCaseTwin (maps_of g) (id_of_number g k) detail → (o : Option ℕ)
        → TellsFirst g (length (entries_of g)) (folded (id_of_number g k)) o
        → (j : ℕ) × (o ≡ Some j) × (j ≡ k → ⊥) × (id_of_number g j ≡ detail)
    found_twin detail h None none = absurd (none k within mine refl)
    found_twin detail h (Some j) first =
        let twin = h.least.holds in
        let n = number_of g detail (shape_entry twin.s, twin.own.0) in
        at n.0 n.1 n.2 (either_way n.0 j) (either_way n.0 k)
      where
        own_at : (i : ℕ) → id_of_number g i ≡ detail → is_own_shape (maps_of g) (id_of_number g i) ≡ true
        own_at i is = subst (λ x. is_own_shape (maps_of g) x ≡ true) (sym is)
            (told_own (maps_of g) detail h.least.holds.s h.least.holds.own)

        -- the twin stands before
        not_behind : (i : ℕ) → i < length (entries_of g) → id_of_number g i ≡ detail → ((i < k) ⊎ ((i ≡ k) ⊎ (k < i))) → i < k
        not_behind i small is (inl less) = less
        not_behind i small is (inr (inl same)) =
            less_not_equal (id_of_number g k)
            (subst (λ x. text_cmp x (id_of_number g k) ≡ Less) (sym is ∙ ap (id_of_number g) same) h.least.holds.smaller)
        not_behind i small is (inr (inr more)) =
            absurd (not_greater (text_cmp detail (id_of_number g k)) h.least.holds.smaller
            (turned_less (id_of_number g k) detail (subst (λ x. text_cmp (id_of_number g k) x ≡ Less) is (rising g k i more small))))

        at : (i : ℕ) → i < length (entries_of g) → id_of_number g i ≡ detail → ((i < j) ⊎ ((i ≡ j) ⊎ (j < i)))
            → ((i < k) ⊎ ((i ≡ k) ⊎ (k < i))) → (n : ℕ) × (Some j ≡ Some n) × (n ≡ k → ⊥) × (id_of_number g n ≡ detail)
        at i small is (inl less) o = absurd (first.3 i less (own_at i is) (ap folded is ∙ h.least.holds.same))
        at i small is (inr (inl same)) o =
            let before = not_behind i small is o in
            (j, refl, (λ e. omega (arith, before, same, e)), ap (id_of_number g) (sym same) ∙ is)
        at i small is (inr (inr more)) o =
            let before = not_behind i small is o in
            let t = own_told (maps_of g) (id_of_number g j) first.1 in
            absurd (h.least.least (id_of_number g j)
            (record { s = t.0; own = t.1; smaller = rising g j k (omega (arith, before, more)) within; same = first.2 })
            (turned_less (id_of_number g j) detail (subst (λ x. text_cmp (id_of_number g j) x ≡ Less) is (rising g j i more small))))

  -- what is told of the rows is what the rule says
  pub twins_told : (e : EventTold)
      → ToldAmong g (λ key. find text_cmp key (folded_below g (length (entries_of g)))) (folded_below g (length (entries_of g))) e
      ↔ IsEventOf IdCase (HasCaseTwin (maps_of g)) e
  twins_told e = (forth, back)
    where
      rows : List (List ℕ × ℕ)
      rows = folded_below g (length (entries_of g))

      told : (k : ℕ) → k < length (entries_of g) → is_own_shape (maps_of g) (id_of_number g k) ≡ true → (o : Option ℕ)
          → TellsFirst g (length (entries_of g)) (folded (id_of_number g k)) o → ToldFirst g o k e
          → IsEventOf IdCase (HasCaseTwin (maps_of g)) e
      told k within mine None first none = absurd none
      told k within mine (Some j) first h =
          (id_of_number g k, id_of_number g j, twin_told k within mine j first (differ j k h.0), h.1)

      forth : ToldAmong g (λ key. find text_cmp key rows) rows e → IsEventOf IdCase (HasCaseTwin (maps_of g)) e
      forth h =
          let r = row_is g (length (entries_of g)) h.0 h.1 in
          told r.0 r.1 r.2 (find text_cmp (folded (id_of_number g r.0)) rows)
          (first_told g (length (entries_of g)) (folded (id_of_number g r.0)))
          (subst (λ (x : List ℕ × ℕ). ToldFirst g (find text_cmp x.0 rows) x.1 e) r.3 h.2)

      back : IsEventOf IdCase (HasCaseTwin (maps_of g)) e → ToldAmong g (λ key. find text_cmp key rows) rows e
      back (id, detail, h, is) =
          let n = number_of g id (shape_entry h.s, h.own.0) in
          at n.0 n.1 n.2 (subst (λ x. HasCaseTwin (maps_of g) x detail) (sym n.2) h) is
        where
          at : (k : ℕ) → k < length (entries_of g) → id_of_number g k ≡ id → HasCaseTwin (maps_of g) (id_of_number g k) detail
              → e ≡ rule_event IdCase id detail → ToldAmong g (λ key. find text_cmp key rows) rows e
          at k within same h is =
              let mine = told_own (maps_of g) (id_of_number g k) h.s h.own in
              let f = found_twin k within mine detail h (find text_cmp (folded (id_of_number g k)) rows)
              (first_told g (length (entries_of g)) (folded (id_of_number g k))) in (
                (folded (id_of_number g k), k),
                is_row g (length (entries_of g)) k within mine,
                subst (λ o. ToldFirst g o k e) (sym f.1) (
                  apart_numbers f.0 k f.2,
                  is ∙ ap (λ x. rule_event IdCase x detail) (sym same) ∙ ap (rule_event IdCase (id_of_number g k)) (sym f.3),
                ),
              )

-- so the events that are put are those of the rule
pub twins_put : (g : Graph) (first : List ℕ → Option ℕ) (rows : List (List ℕ × ℕ)) (before now : List ModelEvent)
    → rows ≡ folded_below g (length (entries_of g)) → ((key : List ℕ) → first key ≡ find text_cmp key rows)
    → Puts (ToldAmong g first rows) before now → Puts (IsEventOf IdCase (HasCaseTwin (maps_of g))) before now
twins_put g first rows before now is same h =
    puts_same
    (ToldAmong g (λ key. find text_cmp key (folded_below g (length (entries_of g)))) (folded_below g (length (entries_of g))))
    (IsEventOf IdCase (HasCaseTwin (maps_of g))) before now (twins_told g)
    (subst (λ rs. Puts (ToldAmong g (λ key. find text_cmp key rs) rs) before now) is
    (subst (λ f. Puts (ToldAmong g f rows) before now) (λ i key. same key i) h))

-- rows are of numbers of the graph, and so are those that stand first
pub rows_within : (g : Graph) (rows : List (List ℕ × ℕ)) → rows ≡ folded_below g (length (entries_of g)) → (r : List ℕ × ℕ)
    → Contains rows r
    → r.1 < length (entries_of g)
rows_within g rows is r h =
    let k = row_is g (length (entries_of g)) r (subst (λ rs. Contains {X = List ℕ × ℕ} rs r) is h) in
    subst (λ (x : List ℕ × ℕ). x.1 < length (entries_of g)) (sym k.3) k.1

pub firsts_within : (g : Graph) (first : List ℕ → Option ℕ) (rows : List (List ℕ × ℕ)) → rows ≡ folded_below g (length (entries_of g))
    → ((key : List ℕ) → first key ≡ find text_cmp key rows) → (key : List ℕ) (j : ℕ) → first key ≡ Some j → j < length (entries_of g)
firsts_within g first rows is same key j h =
    let found : find text_cmp key (folded_below g (length (entries_of g))) ≡ Some j =
    ap (find text_cmp key) (sym is) ∙ sym (same key) ∙ h in
    let told : TellsFirst g (length (entries_of g)) key (Some j) =
    subst (TellsFirst g (length (entries_of g)) key) found (first_told g (length (entries_of g)) key) in
    told.0
