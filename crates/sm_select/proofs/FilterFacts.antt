-- What filters ask of what stands at a number.
use Rattle.std.proofs.Common.{◌≡◌, ℕ, Bool, true, false, List, Some, None, Option, Result, Ok, Err, IfOk, refl, sym, ap, ◌∙◌, subst}
use Rattle.std.specs.Prelude.{◌↔◌, is_some}
use Rattle.std.specs.Option.{option_map}
use Rattle.std.specs.FinMap as fin
use Rattle.std.proofs.lemmas.Option.{none-some, same_Some}
use Rattle.sm_ids.specs.IdText.{Id, IdText}
use Rattle.sm_ids.proofs.Spellings.{one_id}
use Rattle.sm_tree.specs.Node.{Node, text}
use Rattle.sm_model.specs.Graphs.{Entry, shape_entry, member_entry, GraphMaps, traits_in}
use Rattle.sm_model.specs.GraphView.{At, HasKind, is_member_entry, IsShapeEntry, maps_of}
use Rattle.sm_model.specs.declared.graph.Graph.{Graph}
use Rattle.sm_model.specs.declared.kind.Kind.{Kind}
use Rattle.sm_model.proofs.LinkNumbers.{at_opened, at_from}
use Rattle.sm_model.proofs.NumberedIds.{entry_here, of_entry}
use Rattle.sm_model.specs.Reaching.{id_of_number}
use Rattle.sm_model.proofs.Worklist.{apart}
use Rattle.sm_select.specs.Picks.{Compares, HasValue, IsNamed, IsTaken, StandsToOne, folded, value_within}
use Rattle.sm_select.specs.Selectors.{Attribute, id_of, namespace_of, name_of, member_of, trait_of}
use Rattle.sm_select.specs.declared.selector.SelectorOp.{SelectorOp}
use Rattle.sm_select.specs.declared.values.Found.{Found}
use Rattle.sm_select.specs.steps.Filtering.{HoldsOfOnly, IsNamedAt, Shows, found_node}

-- the id that is told of a number
pub id_told : (g : Graph) (k : ℕ) (r : List ℕ) → At g k (λ id e. r ≡ id) → r ≡ id_of_number g k
id_told g k r at = (entry_here g k (λ id e. r ≡ id) at).2

-- members, and shapes of a type
module _ (g : Graph) (k : ℕ) where
  pub members_named : (r : Bool) → At g k (λ id e. is_member_entry e ≡ r) → (r ≡ true) ↔ IsNamedAt None (maps_of g) (id_of_number g k)
  members_named r at =
      let x = entry_here g k (λ id e. is_member_entry e ≡ r) at in (
        λ h. (x.0, x.1, member_is x.0 (x.2 ∙ h)),
        λ h. sym (of_entry g k (λ id e. is_member_entry e ≡ r) at h.0 h.1) ∙ is_member h.0 h.2,
      )
    where
      member_is : (e : Entry) → is_member_entry e ≡ true → IsNamed None e
      member_is (shape_entry s) h = absurd (apart h)
      member_is (member_entry m) h = tt

      is_member : (e : Entry) → IsNamed None e → is_member_entry e ≡ true
      is_member (shape_entry s) h = absurd h
      is_member (member_entry m) h = refl

  pub member_of_no_kind : At g k (λ id e. is_member_entry e ≡ true) → (named : Kind)
      → IsNamedAt (Some named) (maps_of g) (id_of_number g k) → ⊥
  member_of_no_kind at named h = no_member h.0 (of_entry g k (λ id e. is_member_entry e ≡ true) at h.0 h.1) h.2
    where
      no_member : (e : Entry) → is_member_entry e ≡ true → IsNamed (Some named) e → ⊥
      no_member (shape_entry s) h n = apart h
      no_member (member_entry m) h n = n

  pub shape_named : (r : Bool) (named kind : Kind) → At g k (λ id e. HasKind kind e) → (r ≡ true) ↔ IsTaken named kind
      → (r ≡ true) ↔ IsNamedAt (Some named) (maps_of g) (id_of_number g k)
  shape_named r named kind at is =
      let x = entry_here g k (λ id e. HasKind kind e) at in (
        λ h. (x.0, x.1, taken x.0 x.2 (is.0 h)),
        λ h. is.1 (takes h.0 (of_entry g k (λ id e. HasKind kind e) at h.0 h.1) h.2),
      )
    where
      taken : (e : Entry) → HasKind kind e → IsTaken named kind → IsNamed (Some named) e
      taken (shape_entry s) h t = subst (IsTaken named) (sym h) t
      taken (member_entry m) h t = absurd h

      takes : (e : Entry) → HasKind kind e → IsNamed (Some named) e → IsTaken named kind
      takes (shape_entry s) h n = subst (IsTaken named) h n
      takes (member_entry m) h n = absurd h

  pub is_shape : At g k (λ id e. is_member_entry e ≡ false) → At g k (λ id e. IsShapeEntry e)
  is_shape at =
      let o = at_opened g k (λ id e. is_member_entry e ≡ false) at in
      at_from g k (λ id e. IsShapeEntry e) o.id o.entry o.there (by o.entry o.is)
    where
      by : (e : Entry) → is_member_entry e ≡ false → IsShapeEntry e
      by (shape_entry s) h = tt
      by (member_entry m) h = absurd (apart (sym h))

-- the value of a path
module _ (m : GraphMaps) (id : List ℕ) where
  pub value_id : HoldsOfOnly (HasValue m id id_of) (Some (text id))
  value_id n = (λ h. ap Some (sym h), λ h. sym (same_Some (text id) n h))

  module _ (parts : Id) (is : IdText parts id) where
    pub value_namespace : HoldsOfOnly (HasValue m id namespace_of) (Some (text parts.namespace))
    value_namespace n = (
      λ h. ap (λ (x : Id). Some (text x.namespace)) (one_id parts h.0 id is h.1) ∙ ap Some (sym h.2),
      λ h. (parts, is, sym (same_Some (text parts.namespace) n h)),
    )

    pub value_name : HoldsOfOnly (HasValue m id name_of) (Some (text parts.name))
    value_name n = (
      λ h. ap (λ (x : Id). Some (text x.name)) (one_id parts h.0 id is h.1) ∙ ap Some (sym h.2),
      λ h. (parts, is, sym (same_Some (text parts.name) n h)),
    )

    pub value_member : (o : Option (List ℕ)) → parts.member ≡ o → HoldsOfOnly (HasValue m id member_of) (option_map text o)
    value_member None none n = (
      λ h. absurd (none-some h.2.0 (sym none ∙ ap (λ (x : Id). x.member) (one_id parts h.0 id is h.1) ∙ h.2.1)),
      λ h. absurd (none-some n h),
    )
    value_member (Some name) there n = (
      λ h. ap (option_map text) (sym there ∙ ap (λ (x : Id). x.member) (one_id parts h.0 id is h.1) ∙ h.2.1) ∙ ap Some (sym h.2.2),
      λ h. (parts, is, (name, there, sym (same_Some (text name) n h))),
    )

module _ (g : Graph) (k : ℕ) (trait : List ℕ) (keys : List (List ℕ)) where
  pub value_no_trait : At g k (λ id e. fin.get (traits_in e) trait ≡ None)
      → HoldsOfOnly (HasValue (maps_of g) (id_of_number g k) (trait_of trait keys)) None
  value_no_trait at n = (
    λ h. absurd (none-some h.2.0 (sym (of_entry g k (λ id e. fin.get (traits_in e) trait ≡ None) at h.0 h.1) ∙ h.2.1)),
    λ h. absurd (none-some n h),
  )

  pub value_trait : (value : Node) (o : Option Node) → At g k (λ id e. fin.get (traits_in e) trait ≡ Some value)
      → value_within keys value ≡ o
      → HoldsOfOnly (HasValue (maps_of g) (id_of_number g k) (trait_of trait keys)) o
  value_trait value o at within n =
      let Here : List ℕ → Entry → Type 0 = λ id e. fin.get (traits_in e) trait ≡ Some value in
      let x = entry_here g k Here at in (
        λ h.
            let same : value ≡ h.2.0 = same_Some value h.2.0 (sym (of_entry g k Here at h.0 h.1) ∙ h.2.1) in
            sym within ∙ ap (value_within keys) same ∙ h.2.2,
        λ h. (x.0, x.1, (value, x.2, within ∙ h)),
      )

-- whether there is a value, and whether what it shows is asked for
pub some_value : (Holds : Node → Type 0) (o : Option Found) → HoldsOfOnly Holds (option_map found_node o)
    → (is_some o ≡ true) ↔ ((n : Node) × Holds n)
some_value Holds None only = (λ h. absurd (apart h), λ h. absurd (none-some h.0 ((only h.0).0 h.1)))
some_value Holds (Some f) only = (λ h. (found_node f, (only (found_node f)).1 refl), λ h. refl)

module _ (m : GraphMaps) (id : List ℕ) (path : Attribute) (op : SelectorOp) (fold : Bool) (values : List (List ℕ)) where
  pub compares_found : (n : Node) → HoldsOfOnly (HasValue m id path) (Some n)
      → Shows op fold values n ↔ Compares m id path op fold values
  compares_found n only = (
    λ h. record { value = n; has_value = (only n).1 refl; shown = h.0; shows = h.1; one = h.2 },
    λ c. subst (Shows op fold values) (sym (same_Some n c.value ((only c.value).0 c.has_value))) (c.shown, c.shows, c.one),
  )

  pub compares_nothing : HoldsOfOnly (HasValue m id path) None → Compares m id path op fold values → ⊥
  compares_nothing only c = none-some c.value ((only c.value).0 c.has_value)

-- results that say whether something holds
pub said_as : {E : Type 0} (r : Result Bool E) (P Q : Type 0) → P ↔ Q → IfOk r (λ b. (b ≡ true) ↔ P) → IfOk r (λ b. (b ≡ true) ↔ Q)
said_as (Ok b) P Q same h = (λ t. same.0 (h.0 t), λ q. h.1 (same.1 q))
said_as (Err e) P Q same h = tt

-- a text shows itself
pub shows_text : (op : SelectorOp) (fold : Bool) (values : List (List ℕ)) (t : List ℕ)
    → StandsToOne op (folded fold t) values ↔ Shows op fold values (text t)
shows_text op fold values t = (
  λ h. (t, refl, h),
  λ h. subst (λ s. StandsToOne op (folded fold s) values) (sym (same_Some t h.0 h.1)) h.2,
)

-- the same id and the same path have the same values
pub path_told : (m : GraphMaps) (i j : List ℕ) (p q : Attribute) (o : Option Node) → i ≡ j → p ≡ q → HoldsOfOnly (HasValue m i p) o
    → HoldsOfOnly (HasValue m j q) o
path_told m i j p q o same path h =
    subst (λ x. HoldsOfOnly (HasValue m j x) o) path (subst (λ x. HoldsOfOnly (HasValue m x p) o) same h)
