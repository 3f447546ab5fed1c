-- Which mixins contribute, told from tables and a walk.
use Rattle.std.proofs.Common.{◌≡◌, ℕ, Bool, true, false, cond, List, [], get_or, Option, Some, None, refl, sym, ap, subst}
use Rattle.std.proofs.Common.{◌∙◌}
use Rattle.std.specs.Prelude.{IsTrue, MatchOption}
use Rattle.std.specs.Option.{unwrap_or}
use Rattle.std.specs.FinMap.Entries.{find}
use Rattle.std.proofs.lemmas.Option.{same_Some}
use Rattle.sm_tree.specs.View.{node_of}
use Rattle.sm_model.specs.Graphs.{text_cmp}
use Rattle.sm_model.specs.declared.kind.Kind.{Kind}
use Rattle.sm_merge.specs.Mixins.{Contributes, mixin_trait}
use Rattle.sm_merge.specs.Places.{trait_values}
use Rattle.sm_merge.specs.Stated.{ShapeStated, Stated}
use Rattle.sm_merge.specs.Values.{IsValueOf}
use Rattle.sm_merge.specs.steps.Contributing.{AreWalkedTables, ContributesBy, MayContribute}
use Rattle.sm_merge.specs.steps.Folding.{IsFolded}
use Rattle.sm_merge.specs.steps.Links.{At}
use Rattle.sm_merge.specs.steps.Placed.{Bare, bare_of, bare_view}
use Rattle.sm_merge.specs.steps.ShapeTables.{ids_of, shapes_view}
use Rattle.sm_merge.specs.steps.Tables.{folded_at, folded_named, named_view, places_view, traits_found}
use Rattle.sm_merge.specs.steps.Walking.{is_ring}
use Rattle.sm_merge.specs.declared.mixins.Contributing.{Contributing}
use Rattle.sm_merge.specs.declared.parts.BareShape.{BareShape}
use Rattle.sm_merge.specs.declared.table.NamedValue.{NamedValue}
use Rattle.sm_merge.specs.declared.table.PlaceRow.{PlaceRow}
use Rattle.sm_merge.specs.declared.value.Folded.{Folded}
use Rattle.sm_merge.specs.declared.walk.Status.TheVariants.{New}
use Rattle.sm_merge.specs.declared.walk.Walk.{Walk}
use Rattle.sm_merge.proofs.Ats.{at_map, at_mapped, at_one}
use Rattle.sm_merge.proofs.ShapeNumbers.{HasShape, shape_at, shape_ids}

-- what is found among what is given at a place
named_same : (name : List ℕ) (given : Option (List NamedValue))
    → folded_named name given ≡ find text_cmp name (named_view (unwrap_or given []))
named_same name None = refl
named_same name (Some vs) = refl

pub found_given : (traits : List PlaceRow) (place name : List ℕ) (o : Option Folded)
    → find text_cmp name (named_view (traits_found place traits)) ≡ o → folded_at place name traits ≡ o
found_given traits place name o h = named_same name (find text_cmp place (places_view traits)) ∙ h

module _ (ss : List Stated) (rows : List BareShape) (traits : List PlaceRow) (walk : Walk)
    (t : AreWalkedTables ss rows traits walk) (s : ShapeStated) (mixin : List ℕ) where
  pub no_such_mixin : ((w : ℕ) → At (ids_of rows) w mixin → ⊥) → Contributes ss s mixin → ⊥
  no_such_mixin none c = let n = (shape_ids ss rows t.shapes).all mixin c.found c.there in none n.number n.there

  -- the type of a row is that of the shape
  row_kind : (w : ℕ) (row : BareShape) (h : HasShape ss rows w mixin) → At rows w row → row.kind ≡ h.s.shape.kind
  row_kind w row h there =
      let seen : (row.id, bare_view row) ≡ (mixin, bare_of h.s) =
      at_one (shapes_view rows) w (row.id, bare_view row) (mixin, bare_of h.s)
      (at_map (λ r. (r.id, bare_view r)) rows w row there) h.bare in
      ap (λ (e : List ℕ × Bare). e.1.kind) seen

  pub may_not : (w : ℕ) (kind : Kind) → s.shape.kind ≡ kind → At (ids_of rows) w mixin → (MayContribute rows walk kind w → ⊥)
      → Contributes ss s mixin → ⊥
  may_not w kind same at_w refused c =
      let h = shape_at ss rows t.shapes w mixin at_w in
      let r = at_mapped (λ (r : BareShape). (r.id, bare_view r)) rows w (mixin, bare_of h.s) h.bare in
      let found : h.s ≡ c.found = same_Some h.s c.found (sym h.there ∙ c.there) in
      refused (record {
        row = r.0;
        there = r.1;
        same = row_kind w r.0 h r.1 ∙ ap (λ x. x.shape.kind) found ∙ c.kind ∙ same;
        apart = off (is_ring (get_or walk.status.items w New)) (λ is. c.acyclic ((t.walked.on_cycle w mixin at_w).0 is));
      })
    where
      off : (b : Bool) → (IsTrue b → ⊥) → b ≡ false
      off true none = absurd (none refl)
      off false none = refl

  pub unmarked : trait_values ss mixin mixin_trait ≡ [] → Contributes ss s mixin → ⊥
  unmarked none c = subst (λ vs. IsValueOf vs c.mixin_value) none c.marked

  pub contributes : (c : Contributing) (kind : Kind) (f : Folded) → node_of f.value ≡ node_of c.value.now → s.shape.kind ≡ kind
      → At (ids_of rows) c.number mixin → MayContribute rows walk kind c.number → IsFolded (trait_values ss mixin mixin_trait) f
      → ContributesBy ss rows s mixin c
  contributes c kind f value same at_w may folded =
      let h = shape_at ss rows t.shapes c.number mixin at_w in
      record {
        there = at_w;
        contributes = record {
          found = h.s;
          there = h.there;
          kind = sym (row_kind c.number may.row h may.there) ∙ may.same ∙ sym same;
          mixin_value = node_of f.value;
          marked = folded.value;
          acyclic = λ cycle. on (is_ring (get_or walk.status.items c.number New)) may.apart
              ((t.walked.on_cycle c.number mixin at_w).1 cycle);
        };
        value = value;
      }
    where
      on : (b : Bool) → b ≡ false → IsTrue b → ⊥
      on b is true_b = subst (λ x. cond x (Unit {0}) ⊥) (sym true_b ∙ is) tt

  pub given_none : (vs : List NamedValue) → vs ≡ traits_found mixin traits → find text_cmp mixin_trait (named_view vs) ≡ None
      → trait_values ss mixin mixin_trait ≡ []
  given_none vs are none =
      subst (λ o. MatchOption o (trait_values ss mixin mixin_trait ≡ []) (IsFolded (trait_values ss mixin mixin_trait)))
      (found_given traits mixin mixin_trait None (subst (λ ws. find text_cmp mixin_trait (named_view ws) ≡ None) are none))
      (t.traits_of.each mixin mixin_trait)

  pub given_some : (vs : List NamedValue) (f : Folded) → vs ≡ traits_found mixin traits → find text_cmp mixin_trait (named_view vs) ≡ Some f
      → IsFolded (trait_values ss mixin mixin_trait) f
  given_some vs f are some =
      subst (λ o. MatchOption o (trait_values ss mixin mixin_trait ≡ []) (IsFolded (trait_values ss mixin mixin_trait)))
      (found_given traits mixin mixin_trait (Some f) (subst (λ ws. find text_cmp mixin_trait (named_view ws) ≡ Some f) are some))
      (t.traits_of.each mixin mixin_trait)
