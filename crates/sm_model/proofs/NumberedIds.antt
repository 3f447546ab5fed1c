-- Ids of a graph by their numbers: an id that the graph has stands at a number, and what holds of the entry there holds of the id's.
use Rattle.std.proofs.Common.{◌≡◌, ℕ, suc, Bool, true, false, List, [], ◌∷◌, Some, refl, sym, ap, ◌∙◌, subst}
use Rattle.std.specs.Prelude.{cond, slice_get}
use Rattle.std.specs.Bool.{passes}
use Rattle.std.specs.FinMap.{get-from_sorted, slice_cmp-IsAntisymmetric, nat_cmp-IsAntisymmetric}
use Rattle.std.specs.FinMap.Entries.{find, is_sorted}
use Rattle.std.specs.Ordering.{is_eq}
use Rattle.std.specs.declared.cmp.Ordering.{Ordering}
use Rattle.std.specs.declared.cmp.Ordering.TheVariants.{Less, Equal, Greater}
use Rattle.std.proofs.lemmas.Option.{none-some, same_Some}
use Rattle.sm_model.specs.Graphs.{text_cmp, Entry, GraphMaps}
use Rattle.sm_model.specs.GraphView.{At, IsShapeNumber, entries_of, maps_of}
use Rattle.sm_model.specs.Reaching.{id_of_number}
use Rattle.sm_model.specs.Relations.{HasEntry, IsInGraph, IsRelated}
use Rattle.sm_model.specs.declared.graph.Graph.{Graph}
use Rattle.sm_model.specs.declared.relation.Relation.{Relation}
use Rattle.sm_model.specs.declared.relation.Relation.TheVariants.{Member, Container, Target, Input, Output, Error, Operation, Resource}
use Rattle.sm_model.specs.declared.relation.Relation.TheVariants.{Identifier, Property}
use Rattle.sm_model.proofs.GraphFacts.{entry_under, id_at}
use Rattle.sm_model.proofs.LinkNumbers.{at_opened, within}
use Rattle.sm_model.proofs.Searching.{and_left}

-- what is held of an entry is held of the one under the id
pub entry_here : (g : Graph) (k : ℕ) (Is : List ℕ → Entry → Type 0) → At g k Is
    → (e : Entry) × HasEntry (maps_of g) (id_of_number g k) e × Is (id_of_number g k) e
entry_here g k Is h =
    let o = at_opened g k Is h in
    let same : o.id ≡ id_of_number g k = sym (id_at g k o.id o.entry o.there) in (
      o.entry,
      subst (λ i. HasEntry (maps_of g) i o.entry) same (entry_under g k o.id o.entry o.there),
      subst (λ i. Is i o.entry) same o.is,
    )

pub one_entry : (m : GraphMaps) (id : List ℕ) (e f : Entry) → HasEntry m id e → HasEntry m id f → e ≡ f
one_entry m id e f h k = same_Some e f (sym h ∙ k)

-- an id has the entry that stands at its number
pub of_entry : (g : Graph) (k : ℕ) (Is : List ℕ → Entry → Type 0) → At g k Is → (e : Entry) → HasEntry (maps_of g) (id_of_number g k) e
    → Is (id_of_number g k) e
of_entry g k Is h e has =
    let x = entry_here g k Is h in
    subst (Is (id_of_number g k)) (one_entry (maps_of g) (id_of_number g k) x.0 e x.1 has) x.2

-- an id that the graph has stands at a number
tied : (r : Ordering) → is_eq r ≡ true → r ≡ Equal
tied Less h = absurd (subst (λ c. cond c ⊥ (Unit {0})) h tt)
tied Equal h = refl
tied Greater h = absurd (subst (λ c. cond c ⊥ (Unit {0})) h tt)

found_at : (es : List (List ℕ × Entry)) (q : List ℕ) (e : Entry) → find text_cmp q es ≡ Some e → (k : ℕ) × (slice_get es k ≡ Some (q, e))
found_at [] q e h = absurd (none-some e h)
found_at (x ∷ es) q e h = by (is_eq (text_cmp q x.0)) refl (found_at es q e) h
  where
    by : (b : Bool) → is_eq (text_cmp q x.0) ≡ b → (find text_cmp q es ≡ Some e → (k : ℕ) × (slice_get es k ≡ Some (q, e)))
        → cond b (Some x.1) (find text_cmp q es) ≡ Some e → (k : ℕ) × (slice_get (x ∷ es) k ≡ Some (q, e))
    by true is later h =
        let same : q ≡ x.0 = slice_cmp-IsAntisymmetric nat_cmp-IsAntisymmetric q x.0 (tied (text_cmp q x.0) is) in
        (0, ap (λ (i : List ℕ). Some (i, x.1)) (sym same) ∙ ap (λ (y : Entry). Some (q, y)) (same_Some x.1 e h))
    by false is later h = let r = later h in (suc r.0, r.1)

pub number_of : (g : Graph) (q : List ℕ) → IsInGraph (maps_of g) q → (k : ℕ) × IsShapeNumber g k × (id_of_number g k ≡ q)
number_of g q has =
    let es = entries_of g in
    let sorted = and_left (is_sorted text_cmp es) _ g.sound in
    let r = found_at es q has.0 (sym (get-from_sorted text_cmp es q (passes _ sorted)) ∙ has.1) in
    (r.0, within g r.0 q has.0 r.1, id_at g r.0 q has.0 r.1)

-- what is related is in the graph, at both ends
pub related_in : (r : Relation) (m : GraphMaps) (a b : List ℕ) → IsRelated r m a b → IsInGraph m a × IsInGraph m b
related_in Container m a b h = (h.3, (h.0, h.1))
related_in Member m a b h = ((h.0, h.1), h.3)
related_in Target m a b h = ((h.0, h.1), h.3)
related_in Input m a b h = ((h.0, h.1), h.3)
related_in Output m a b h = ((h.0, h.1), h.3)
related_in Error m a b h = ((h.0, h.1), h.3)
related_in Operation m a b h = ((h.0, h.1), h.3)
related_in Resource m a b h = ((h.0, h.1), h.3)
related_in Identifier m a b h = ((h.0, h.1), h.3)
related_in Property m a b h = ((h.0, h.1), h.3)
