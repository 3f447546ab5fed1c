-- What a change makes of a graph is within the limits, where each entry comes of one that is no smaller.
use Rattle.std.proofs.Common.{◌≡◌, ◌≤◌, ◌<◌, ℕ, Bool, true, false, not, List, refl, sym, ap, subst, ◌∙◌, arith}
use Rattle.std.specs.FinMap as fin
use Rattle.std.specs.List.{sum_by}
use Rattle.sm_model.specs.Graphs.{Entry, GraphMaps, traits_in}
use Rattle.sm_model.specs.PreludeShapes.{is_prelude_id}
use Rattle.sm_model.proofs.MapFacts.{keys_differ}
use Rattle.sm_merge.specs.Limits.{IsWithinLimits, is_own, members_in, own_entries, shapes_in, traits_size}
use Rattle.sm_merge.specs.Limits.{most_members, most_members_in_all, most_in_traits, most_shapes}
use Rattle.sm_merge.specs.declared.limit.LimitKind.TheVariants.{Shapes, Members as members_of_one, AllMembers, Traits}
use Rattle.sm_merge.proofs.EntriesFound.{Has, get_has, has_get}
use Rattle.sm_merge.proofs.PreludeGiven.{clash}
use Rattle.sm_transform.specs.Changed.{IsMadeOf}
use Rattle.sm_changed_again.proofs.Faithful.{IsFaithful, IsNoLarger}
use Rattle.sm_changed_again.proofs.FewerSums.{any_has, has_any, has_passed, no_more, passed_differ, passed_has}

module _ (g h : GraphMaps) (Stays : List ℕ → Type 0) (moved : List ℕ → List ℕ) (after : Entry → Entry)
    (made : IsMadeOf Stays moved after g h) (f : IsFaithful g Stays moved after) where
  -- what stands in the changed graph comes of what stood there, and that of the prelude of the prelude's
  record IsFrom (k : List ℕ) (e : Entry) : Type 0 where
    old : List ℕ
    was : Entry
    among : Has old was (own_entries g)
    comes : k ≡ moved old
    small : IsNoLarger e was

  not_false : (b : Bool) → not b ≡ true → b ≡ false
  not_false true h = sym h
  not_false false h = refl

  own_from : (k : List ℕ) (e : Entry) → Has k e (own_entries h) → IsFrom k e
  own_from k e has =
      let in_all = has_passed is_own k e (fin.entries h.shapes) has in
      let c = (made.shapes k e).0 (has_get h.shapes k e in_all.0) in
      let own : is_prelude_id k ≡ false = not_false (is_prelude_id k) in_all.1 in
      let was_own : not (is_prelude_id c.0) ≡ true = by (is_prelude_id c.0) c.0 refl c.4 own in record {
        old = c.0;
        was = c.1;
        among = passed_has is_own c.0 c.1 (fin.entries g.shapes) (get_has g.shapes c.0 c.1 c.2) was_own;
        comes = c.4;
        small = subst (λ x. IsNoLarger x c.1) (sym c.5) (f.sizes c.0 c.1 c.2);
      }
    where
      by : (b : Bool) → (old : List ℕ) → is_prelude_id old ≡ b → k ≡ moved old → is_prelude_id k ≡ false → not (is_prelude_id old) ≡ true
      by true old is same own =
          clash (is_prelude_id k) (ap is_prelude_id (same ∙ f.kept_ids old is) ∙ is) own
      by false old is same own = ap not is

  one_from : (k l j : List ℕ) → k ≡ moved j → l ≡ moved j → k ≡ l
  one_from k l j a b = a ∙ sym b

  module _ (weight : Entry → ℕ) (less : (e f : Entry) → IsNoLarger e f → weight e ≤ weight f) where
    fewer : (most : ℕ) → (most < sum_by (λ e. weight e.1) (own_entries g) → ⊥) → most < sum_by (λ e. weight e.1) (own_entries h) → ⊥
    fewer most within past =
        let same = no_more weight (λ k j. k ≡ moved j) one_from (own_entries h) (own_entries g)
        (passed_differ is_own (fin.entries h.shapes) (keys_differ h.shapes)) (λ k e has.
        let c = own_from k e has in
        record { key = c.old; value = c.was; among = c.among; comes = c.comes; large = less e c.was c.small }) in
        within (omega (arith, same, past))

  pub kept_within : IsWithinLimits g → IsWithinLimits h
  kept_within within Shapes past = fewer shapes_in (λ e f s. s.shapes) most_shapes (within Shapes) past
  kept_within within members_of_one past =
      let a = any_has (λ e. most_members < members_in e.1) (own_entries h) past in
      let c = own_from a.0 a.1 a.2 in
      let small = c.small.members in
      let large = a.3 in
      within members_of_one (has_any (λ e. most_members < members_in e.1) c.old c.was (own_entries g) c.among (omega (arith, small, large)))
  kept_within within AllMembers past = fewer members_in (λ e f s. s.members) most_members_in_all (within AllMembers) past
  kept_within within Traits past = fewer (λ e. traits_size (traits_in e)) (λ e f s. s.traits) most_in_traits (within Traits) past
