-- Traits that have neither a row nor a shape, from the tests of each trait.
use Rattle.std.proofs.Common.{◌≡◌, ℕ, Bool, true, false, List, Option, Some, None, refl, sym, ap, ◌∙◌, subst}
use Rattle.std.specs.Prelude.{◌&&◌, is_some, not}
use Rattle.std.specs.FinMap as fin
use Rattle.std.specs.List.{Contains}
use Rattle.std.proofs.lemmas.Option.{none-some}
use Rattle.sm_tree.specs.Node.{Node}
use Rattle.sm_tree.specs.View.{members_view, node_of}
use Rattle.sm_tree.specs.declared.tree.Tree.{Tree}
use Rattle.sm_model.specs.EventView.{EventTold}
use Rattle.sm_model.specs.Graphs.{Entry, GraphMaps, traits_in}
use Rattle.sm_model.specs.GraphView.{At, maps_of}
use Rattle.sm_model.specs.PreludeShapes.{is_prelude_id}
use Rattle.sm_model.specs.Reaching.{id_of_number}
use Rattle.sm_model.specs.Relations.{HasEntry, IsInGraph}
use Rattle.sm_model.specs.declared.event.ModelEvent.{ModelEvent}
use Rattle.sm_model.specs.declared.graph.Graph.{Graph}
use Rattle.sm_model.proofs.NumberedIds.{entry_here}
use Rattle.sm_model.proofs.Searching.{and_left, and_right}
use Rattle.sm_model.proofs.Worklist.{apart}
use Rattle.sm_compile.specs.Sound.{trait_in, trait_of}
use Rattle.sm_compile.specs.TraitIds.{trait_id}
use Rattle.sm_rules.specs.TraitRows.{has_row}
use Rattle.sm_rules.specs.Words.{has_trait}
use Rattle.sm_compile.proofs.TabledShapes.{mapped_from, mapped_to}
use Rattle.sm_rules.specs.RuleEvents.{IsEventAt, Puts, rule_event}
use Rattle.sm_rules.specs.declared.rule.Rule.TheVariants.{TraitUnknown}
use Rattle.sm_rules.specs.Traits.{CarriesTraitItself, HasUnknownTrait}
use Rattle.sm_trait_rules.specs.steps.Knowing.{ToldUnknown, is_defined, is_unknown}
use Rattle.sm_passes.specs.Putting.{ToldOf}
use Rattle.sm_passes.proofs.OwnShapes.{not_so}
use Rattle.sm_passes.proofs.TraitEntries.{entry_found, found_entry}
use Rattle.sm_passes.proofs.EventsPut.{puts_same}

-- what the model defines
carried : (o : Option Entry) → is_some (trait_in trait_id o) ≡ true → (e : Entry) × (o ≡ Some e) × (has_trait trait_id (traits_in e) ≡ true)
carried None h = absurd (apart h)
carried (Some e) h = (e, refl, h)

defined_told : (g : GraphMaps) (trait : List ℕ) → is_defined g trait ≡ true → CarriesTraitItself g trait
defined_told g trait h =
    let x = carried (fin.get g.shapes trait) (and_left (is_some (trait_of g trait trait_id)) (not (is_prelude_id trait)) h) in
    (x.0, (x.1, not_so (is_prelude_id trait) (and_right (is_some (trait_of g trait trait_id)) (not (is_prelude_id trait)) h)), x.2)

told_defined : (g : GraphMaps) (trait : List ℕ) → CarriesTraitItself g trait → is_defined g trait ≡ true
told_defined g trait (e, own, h) =
    ap (λ o. is_some (trait_in trait_id o) && not (is_prelude_id trait)) own.0 ∙ (λ i. h i && not (own.1 i))

not_defined : (g : GraphMaps) (trait : List ℕ) → (CarriesTraitItself g trait → ⊥) → is_defined g trait ≡ false
not_defined g trait none = by (is_defined g trait) refl
  where
    by : (b : Bool) → is_defined g trait ≡ b → b ≡ false
    by true is = absurd (none (defined_told g trait is))
    by false is = refl

module _ (g : GraphMaps) (id : List ℕ) (e : Entry) (there : HasEntry g id e) (own : is_prelude_id id ≡ false) (ts : List (List ℕ × Tree))
    (all : fin.entries (traits_in e) ≡ members_view ts) where
  abbrev viewed : List ℕ × Tree → List ℕ × Node
  viewed t = (t.0, node_of t.1)

  forth : (t : EventTold) → ToldOf (ToldUnknown g id) ts t → IsEventAt TraitUnknown (HasUnknownTrait g) id t
  forth t (p, c, w) =
      let stands : Contains (fin.entries (traits_in e)) (viewed p) =
      subst (λ es. Contains {X = List ℕ × Node} es (viewed p)) (sym all) (mapped_to viewed ts p c) in (
        p.0,
        record {
          n = node_of p.1;
          carries = (own, ap (trait_in p.0) there ∙ entry_found (traits_in e) (viewed p) stands);
          no_row = not_so (has_row p.0) (and_left (not (has_row p.0)) (not (is_defined g p.0)) w.0);
          no_shape = λ h.
              apart (sym (not_so (is_defined g p.0) (and_right (not (has_row p.0)) (not (is_defined g p.0)) w.0)) ∙ told_defined g p.0 h);
        },
        w.1,
      )

  back : (t : EventTold) → IsEventAt TraitUnknown (HasUnknownTrait g) id t → ToldOf (ToldUnknown g id) ts t
  back t (trait, h, is) =
      let found : fin.get (traits_in e) trait ≡ Some h.n = sym (ap (trait_in trait) there) ∙ h.carries.1 in
      let stands = subst (λ es. Contains {X = List ℕ × Node} es (trait, h.n)) all (found_entry (traits_in e) trait h.n found) in
      let p = mapped_from viewed ts (trait, h.n) stands in
      let name : p.0.0 ≡ trait = ap (λ (x : List ℕ × Node). x.0) p.2 in
      let none : is_defined g trait ≡ false = not_defined g trait h.no_shape in
      let test : is_unknown g trait ≡ true = λ i. not (h.no_row i) && not (none i) in
      (p.0, p.1, (ap (is_unknown g) name ∙ test, is ∙ ap (rule_event TraitUnknown id) (sym name)))

-- what is told of each trait is what the rule says
pub unknown_put : (g : Graph) (k : ℕ) (ts : List (List ℕ × Tree)) → At g k (λ id e. fin.entries (traits_in e) ≡ members_view ts)
    → is_prelude_id (id_of_number g k) ≡ false → (before now : List ModelEvent)
    → Puts (ToldOf (ToldUnknown (maps_of g) (id_of_number g k)) ts) before now
    → Puts (IsEventAt TraitUnknown (HasUnknownTrait (maps_of g)) (id_of_number g k)) before now
unknown_put g k ts at own before now h =
    let m = maps_of g in
    let id = id_of_number g k in
    let x = entry_here g k (λ id e. fin.entries (traits_in e) ≡ members_view ts) at in
    puts_same (ToldOf (ToldUnknown m id) ts) (IsEventAt TraitUnknown (HasUnknownTrait m) id) before now
    (λ t. (forth m id x.0 x.1 own ts x.2 t, back m id x.0 x.1 own ts x.2 t)) h

trait_there : (trait : List ℕ) (o : Option Entry) (n : Node) → trait_in trait o ≡ Some n → (e : Entry) × (o ≡ Some e)
trait_there trait None n h = absurd (none-some n h)
trait_there trait (Some e) n h = (e, refl)

pub unknown_there : (g : GraphMaps) (id trait : List ℕ) → HasUnknownTrait g id trait → IsInGraph g id
unknown_there g id trait h = trait_there trait (fin.get g.shapes id) h.n h.carries.1
