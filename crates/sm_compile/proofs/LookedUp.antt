-- What look-ups tell of a number, told of its id.
use Rattle.std.proofs.Common.{◌≡◌, ℕ, true, false, List, [], Option, Some, None, refl, sym, ap, ◌∙◌, subst}
use Rattle.std.specs.Prelude.{MatchOption}
use Rattle.std.specs.FinMap as fin
use Rattle.std.specs.Option.{option_map}
use Rattle.std.proofs.lemmas.Option.{none-some, same_Some}
use denote.Ref.{Bor}
use Rattle.sm_tree.specs.View.{node_of}
use Rattle.sm_tree.specs.declared.Tree.{Tree}
use Rattle.sm_model.specs.Graphs.{Entry, shape_entry, member_entry, GraphMaps, traits_in}
use Rattle.sm_model.specs.GraphView.{At, HasKind, HasMembers, IsMemberAt, IsMemberEntry, IsShapeAt, IsShapeEntry, IsShapeNumber, Stands}
use Rattle.sm_model.specs.GraphView.{Targets, is_member_entry, maps_of, target_of}
use Rattle.sm_model.specs.Reaching.{id_of_number}
use Rattle.sm_model.specs.declared.graph.Graph.{Graph}
use Rattle.sm_model.specs.declared.kind.Kind.{Kind}
use Rattle.sm_model.proofs.GraphFacts.{id_at}
use Rattle.sm_model.proofs.LinkNumbers.{at_from, at_opened, within}
use Rattle.sm_model.proofs.NumberedIds.{entry_here}
use Rattle.sm_model.proofs.Worklist.{apart}
use Rattle.sm_compile.specs.Compiled.{members_in, members_under}
use Rattle.sm_compile.specs.Kinds.{members_of_kind}
use Rattle.sm_compile.specs.Sound.{trait_in, trait_of}
use Rattle.sm_compile.specs.steps.Looked.{kind_in, kind_under, listed_in, listed_under, target_in, target_under, kind_where}

module _ (g : Graph) (k : ℕ) where
  -- what holds of each entry that may stand there holds of what the map has under the id
  pub seen : (P : Option Entry → Type 0) (Is : List ℕ → Entry → Type 0) → ((e : Entry) → Is (id_of_number g k) e → P (Some e)) → At g k Is
      → P (fin.get (maps_of g).shapes (id_of_number g k))
  seen P Is from at = let x = entry_here g k Is at in subst P (sym x.1) (from x.0 x.2)

  pub its_id : (r : List ℕ) → At g k (λ id e. r ≡ id) → r ≡ id_of_number g k
  its_id r at = (entry_here g k (λ id e. r ≡ id) at).2

  pub is_shape : At g k (λ id e. is_member_entry e ≡ false) → IsShapeAt g k
  is_shape at =
      let o = at_opened g k (λ id e. is_member_entry e ≡ false) at in
      at_from g k (λ id e. IsShapeEntry e) o.id o.entry o.there (by o.entry o.is)
    where
      by : (e : Entry) → is_member_entry e ≡ false → IsShapeEntry e
      by (shape_entry s) h = tt
      by (member_entry m) h = absurd (apart (sym h))

  pub is_member : At g k (λ id e. is_member_entry e ≡ true) → IsMemberAt g k
  is_member at =
      let o = at_opened g k (λ id e. is_member_entry e ≡ true) at in
      at_from g k (λ id e. IsMemberEntry e) o.id o.entry o.there (by o.entry o.is)
    where
      by : (e : Entry) → is_member_entry e ≡ true → IsMemberEntry e
      by (shape_entry s) h = absurd (apart h)
      by (member_entry m) h = tt

  pub no_kind : At g k (λ id e. is_member_entry e ≡ true) → kind_under (maps_of g) (id_of_number g k) ≡ None
  no_kind at = seen (λ o. kind_in o ≡ None) (λ id e. is_member_entry e ≡ true) by at
    where
      by : (e : Entry) → is_member_entry e ≡ true → kind_in (Some e) ≡ None
      by (shape_entry s) h = absurd (apart h)
      by (member_entry m) h = refl

  pub its_kind : (kind : Kind) → At g k (λ id e. HasKind kind e) → kind_under (maps_of g) (id_of_number g k) ≡ Some kind
  its_kind kind at = seen (λ o. kind_in o ≡ Some kind) (λ id e. HasKind kind e) by at
    where
      by : (e : Entry) → HasKind kind e → kind_in (Some e) ≡ Some kind
      by (shape_entry s) h = ap Some h
      by (member_entry m) h = absurd h

  pub its_members : (ns : List (List ℕ)) → At g k (λ id e. HasMembers ns e) → ns ≡ listed_under (maps_of g) (id_of_number g k)
  its_members ns at = seen (λ o. ns ≡ listed_in o) (λ id e. HasMembers ns e) by at
    where
      by : (e : Entry) → HasMembers ns e → ns ≡ listed_in (Some e)
      by (shape_entry s) h = sym h
      by (member_entry m) h = h

  pub no_target : At g k (λ id e. is_member_entry e ≡ false) → target_under (maps_of g) (id_of_number g k) ≡ None
  no_target at = seen (λ o. target_in o ≡ None) (λ id e. is_member_entry e ≡ false) by at
    where
      by : (e : Entry) → is_member_entry e ≡ false → target_in (Some e) ≡ None
      by (shape_entry s) h = refl
      by (member_entry m) h = absurd (apart (sym h))

  pub its_target : (id : List ℕ) → At g k (λ i e. Targets id e) → target_under (maps_of g) (id_of_number g k) ≡ Some id
  its_target id at = seen (λ o. target_in o ≡ Some id) (λ i e. Targets id e) by at
    where
      by : (e : Entry) → Targets id e → target_in (Some e) ≡ Some id
      by (shape_entry s) h = absurd h
      by (member_entry m) h = ap Some h

  pub target_missing : At g k (λ id e. is_member_entry e ≡ true) → At g k (λ i e. fin.get (maps_of g).shapes (target_of e) ≡ None)
      → (id : List ℕ) → target_under (maps_of g) (id_of_number g k) ≡ Some id → fin.get (maps_of g).shapes id ≡ None
  target_missing member at =
      seen (λ o. (id : List ℕ) → target_in o ≡ Some id → fin.get (maps_of g).shapes id ≡ None)
      (λ i e. fin.get (maps_of g).shapes (target_of e) ≡ None) by at
    where
      by : (e : Entry) → fin.get (maps_of g).shapes (target_of e) ≡ None → (id : List ℕ) → target_in (Some e) ≡ Some id
          → fin.get (maps_of g).shapes id ≡ None
      by (shape_entry s) h id is = absurd (none-some id is)
      by (member_entry m) h id is = subst (λ i. fin.get (maps_of g).shapes i ≡ None) (same_Some m.target id is) h

  -- the number at which an id stands is that of the id
  pub stands_is : (s : ℕ) (id : List ℕ) → Stands g s id → IsShapeNumber g s × (id_of_number g s ≡ id)
  stands_is s id at =
      let o = at_opened g s (λ found e. (found ≡ id) × (fin.get (maps_of g).shapes id ≡ Some e)) at in
      (within g s o.id o.entry o.there, id_at g s o.id o.entry o.there ∙ o.is.0)

  pub target_there : At g k (λ id e. is_member_entry e ≡ true) → (s : ℕ) → At g k (λ i e. Stands g s (target_of e))
      → IsShapeNumber g s × (target_under (maps_of g) (id_of_number g k) ≡ Some (id_of_number g s))
  target_there member s at =
      let x = entry_here g k (λ i e. Stands g s (target_of e)) at in
      let y = entry_here g k (λ id e. is_member_entry e ≡ true) member in
      let same : y.0 ≡ x.0 = same_Some y.0 x.0 (sym y.1 ∙ x.1) in
      let r = stands_is s (target_of x.0) x.2 in
      (r.0, ap target_in x.1 ∙ by x.0 (subst (λ e. is_member_entry e ≡ true) same y.2) ∙ ap Some (sym r.1))
    where
      by : (e : Entry) → is_member_entry e ≡ true → target_in (Some e) ≡ Some (target_of e)
      by (shape_entry s) h = absurd (apart h)
      by (member_entry m) h = refl

  pub target_told : At g k (λ id e. is_member_entry e ≡ true) → (r : Option ℕ)
      → At g k (λ i e. MatchOption r (fin.get (maps_of g).shapes (target_of e) ≡ None) (λ s. Stands g s (target_of e)))
      → MatchOption r
      ((id : List ℕ) → target_under (maps_of g) (id_of_number g k) ≡ Some id → fin.get (maps_of g).shapes id ≡ None)
      (λ to. IsShapeNumber g to × (target_under (maps_of g) (id_of_number g k) ≡ Some (id_of_number g to)))
  target_told member None at = target_missing member at
  target_told member (Some s) at = target_there member s at

  pub trait_told : (name : List ℕ) (r : Option (Bor Tree)) → At g k (λ i e. MatchOption r (fin.get (traits_in e) name ≡ None)
      (λ t. fin.get (traits_in e) name ≡ Some (node_of t.now)))
      → option_map (λ (t : Bor Tree). node_of t.now) r ≡ trait_of (maps_of g) (id_of_number g k) name
  trait_told name None at =
      seen (λ o. None ≡ trait_in name o) (λ i e. fin.get (traits_in e) name ≡ None) (λ e h. sym h) at
  trait_told name (Some t) at =
      seen (λ o. Some (node_of t.now) ≡ trait_in name o) (λ i e. fin.get (traits_in e) name ≡ Some (node_of t.now)) (λ e h. sym h) at

-- the type of a target
pub kind_missing : (m : GraphMaps) (o : Option (List ℕ)) → ((id : List ℕ) → o ≡ Some id → fin.get m.shapes id ≡ None)
    → None ≡ kind_where m o
kind_missing m None h = refl
kind_missing m (Some id) h = sym (ap kind_in (h id refl))

-- the members at which values stand, by the type
pub members_of_type : (m : GraphMaps) (id : List ℕ) (kind : Kind) → kind_under m id ≡ Some kind
    → members_under m id ≡ members_of_kind kind (listed_under m id)
members_of_type m id kind h = by (fin.get m.shapes id) h
  where
    by : (o : Option Entry) → kind_in o ≡ Some kind → members_in o ≡ members_of_kind kind (listed_in o)
    by None is = absurd (none-some kind is)
    by (Some (shape_entry s)) is = ap (λ n. members_of_kind n s.members) (same_Some s.kind kind is)
    by (Some (member_entry n)) is = absurd (none-some kind is)

pub members_of_none : (m : GraphMaps) (id : List ℕ) → kind_under m id ≡ None → members_under m id ≡ []
members_of_none m id h = by (fin.get m.shapes id) h
  where
    by : (o : Option Entry) → kind_in o ≡ None → members_in o ≡ []
    by None is = refl
    by (Some (shape_entry s)) is = absurd (none-some s.kind (sym is))
    by (Some (member_entry n)) is = refl
