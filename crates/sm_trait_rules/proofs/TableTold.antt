-- What is told by the table is what the two rules say.
use Rattle.std.proofs.Common.{◌≡◌, ℕ, Bool, true, false, List, length, sym, ap, ◌∙◌}
use Rattle.std.specs.Prelude.{◌↔◌, ◌&&◌, not}
use Rattle.sm_model.specs.GraphView.{entries_of, maps_of}
use Rattle.sm_model.specs.Graphs.{GraphMaps}
use Rattle.sm_model.specs.Reaching.{id_of_number}
use Rattle.sm_model.specs.declared.event.ModelEvent.{ModelEvent}
use Rattle.sm_model.specs.declared.graph.Graph.{Graph}
use Rattle.sm_model.proofs.Searching.{and_left, and_right}
use Rattle.sm_rules.specs.TraitRows.{has_row, is_as_one, judging, may_stand}
use Rattle.sm_rules.specs.Traits.{HasOtherValue, StandsElsewhere}
use Rattle.sm_rules.specs.RuleEvents.{IsEventOf, Puts}
use Rattle.sm_rules.specs.declared.rule.Rule.TheVariants.{TraitPlace, TraitValue}
use Rattle.sm_trait_rules.specs.steps.Judging.{ToldJudged}
use Rattle.sm_passes.specs.Putting.{Below}
use Rattle.sm_passes.specs.RowTests.{is_wrong_place, is_wrong_value}
use Rattle.sm_passes.proofs.EventsPut.{puts_same}
use Rattle.sm_trait_rules.proofs.JudgedTraits.{FailsJudged, judged_numbers}
use Rattle.sm_passes.proofs.OwnShapes.{not_so}
use Rattle.sm_passes.proofs.RowTested.{place_judged, value_judged}

both_true : (a b : Bool) → a ≡ true → b ≡ false → (a && not b) ≡ true
both_true a b h k = ap (λ x. x && not b) h ∙ ap not k

values : (g : GraphMaps) (id trait : List ℕ) → FailsJudged TraitValue is_wrong_value g id trait ↔ HasOtherValue g id trait
values g id trait = (
  λ h.
      let n = h.0 in
      let spot = h.2.0 in
      let bad = sym (value_judged trait spot n) ∙ h.2.2 in
      record {
        n = n;
        carries = h.1;
        spot = spot;
        stands = h.2.1;
        row = and_left (has_row trait) _ bad;
        other = not_so (is_as_one (judging trait spot) n) (and_right (has_row trait) _ bad);
      },
  λ h. (
    h.n,
    h.carries,
    (h.spot, h.stands, value_judged trait h.spot h.n ∙ both_true (has_row trait) (is_as_one (judging trait h.spot) h.n) h.row h.other),
  ),
)

places : (g : GraphMaps) (id trait : List ℕ) → FailsJudged TraitPlace is_wrong_place g id trait ↔ StandsElsewhere g id trait
places g id trait = (
  λ h.
      let n = h.0 in
      let spot = h.2.0 in
      let bad = sym (place_judged trait spot n) ∙ h.2.2 in
      record {
        n = n;
        carries = h.1;
        spot = spot;
        stands = h.2.1;
        row = and_left (has_row trait) _ bad;
        elsewhere = not_so (may_stand trait spot) (and_right (has_row trait) _ bad);
      },
  λ h. (
    h.n,
    h.carries,
    (h.spot, h.stands, place_judged trait h.spot h.n ∙ both_true (has_row trait) (may_stand trait h.spot) h.row h.elsewhere),
  ),
)

module _ (g : Graph) (a b : List ModelEvent) where
  pub values_put : Puts (Below (λ k. ToldJudged TraitValue is_wrong_value (maps_of g) (id_of_number g k)) (length (entries_of g))) a b
      → Puts (IsEventOf TraitValue (HasOtherValue (maps_of g))) a b
  values_put h =
      puts_same _ (IsEventOf TraitValue (HasOtherValue (maps_of g))) a b
      (λ e.
      let same = judged_numbers TraitValue is_wrong_value g e in (
        λ t. let f = same.0 t in (f.0, f.1, (values (maps_of g) f.0 f.1).0 f.2, f.3),
        λ f. same.1 (f.0, f.1, (values (maps_of g) f.0 f.1).1 f.2, f.3),
      )) h

  pub places_put : Puts (Below (λ k. ToldJudged TraitPlace is_wrong_place (maps_of g) (id_of_number g k)) (length (entries_of g))) a b
      → Puts (IsEventOf TraitPlace (StandsElsewhere (maps_of g))) a b
  places_put h =
      puts_same _ (IsEventOf TraitPlace (StandsElsewhere (maps_of g))) a b
      (λ e.
      let same = judged_numbers TraitPlace is_wrong_place g e in (
        λ t. let f = same.0 t in (f.0, f.1, (places (maps_of g) f.0 f.1).0 f.2, f.3),
        λ f. same.1 (f.0, f.1, (places (maps_of g) f.0 f.1).1 f.2, f.3),
      )) h
