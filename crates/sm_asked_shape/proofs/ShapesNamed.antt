-- A shape by its id and by its number in a graph; that whether it has values is decided.
use Rattle.std.proofs.Common.{◌≡◌, ◌<◌, ℕ, Bool, true, false, List, Option, Some, None, sym, subst, refl, ◌∙◌}
use Rattle.std.specs.Prelude.{length, slice_get, IsSomeAnd}
use Rattle.std.proofs.lemmas.Option.{slice_get_within}
use Rattle.std.specs.FinMap as fin
use Rattle.sm_model.specs.GraphView.{At, IsShapeNumber, Stands, entries_of, maps_of}
use Rattle.sm_model.specs.Graphs.{Entry, GraphMaps, ShapeEntry, shape_entry, member_entry}
use Rattle.sm_model.specs.Reaching.{id_of_number}
use Rattle.sm_model.specs.declared.graph.Graph.{Graph}
use Rattle.sm_model.proofs.NumberedIds.{entry_here}
use Rattle.sm_compile.specs.Kinds.{has_values}
use Rattle.sm_compile.specs.Sound.{IsValueShape, Sound}

-- where nothing of an id's form stands, no shape with values does
pub none_there : (g : GraphMaps) (id : List ℕ) → fin.get g.shapes id ≡ None → IsValueShape g id → ⊥
none_there g id none (s, there, has) = let e : None ≡ Some (shape_entry s) = sym none ∙ there in cc

-- what stands at the number of an id
pub number_stands : (g : Graph) (s : ℕ) (id : List ℕ) → Stands g s id → IsShapeNumber g s
number_stands g s id h = within (slice_get (entries_of g) s) refl h
  where
    within : (o : Option (List ℕ × Entry)) → slice_get (entries_of g) s ≡ o
        → IsSomeAnd o (λ e. (e.0 ≡ id) × (fin.get (maps_of g).shapes id ≡ Some e.1)) → s < length (entries_of g)
    within None is h = absurd h
    within (Some e) is h = slice_get_within (entries_of g) s e is

pub number_names : (g : Graph) (s : ℕ) (id : List ℕ) → Stands g s id → id_of_number g s ≡ id
number_names g s id h = (entry_here g s (λ found e. (found ≡ id) × (fin.get (maps_of g).shapes id ≡ Some e)) h).2.0

pub id_named : (g : Graph) (s : ℕ) (id : List ℕ) → At g s (λ found e. id ≡ found) → id ≡ id_of_number g s
id_named g s id h = (entry_here g s (λ found e. id ≡ found) h).2

-- a shape that isn't sound has values
pub value_there : (g : GraphMaps) (id : List ℕ) → (Sound g id → ⊥) → IsValueShape g id
value_there g id unsound = by_entry (fin.get g.shapes id) refl
  where
    empty : (IsValueShape g id → ⊥) → ⊥
    empty none = unsound (λ there. absurd (none there))

    by_kind : (b : Bool) (s : ShapeEntry) → fin.get g.shapes id ≡ Some (shape_entry s) → has_values s.kind ≡ b → IsValueShape g id
    by_kind true s is has = (s, is, has)
    by_kind false s is has = absurd (empty (λ w.
        let same : Some (shape_entry s) ≡ Some (shape_entry w.0) = sym is ∙ w.1 in
        let kinds : has_values w.0.kind ≡ false = entry_kind s w.0 same has in
        let both : true ≡ false = sym w.2 ∙ kinds in cc))
      where
        entry_kind : (s r : ShapeEntry) → Some (shape_entry s) ≡ Some (shape_entry r) → has_values s.kind ≡ false
            → has_values r.kind ≡ false
        entry_kind s r e is = let one : s ≡ r = cc in subst (λ (x : ShapeEntry). has_values x.kind ≡ false) one is

    by_entry : (o : Option Entry) → fin.get g.shapes id ≡ o → IsValueShape g id
    by_entry None is = absurd (empty (λ w. none_there g id is w))
    by_entry (Some (shape_entry s)) is = by_kind (has_values s.kind) s is refl
    by_entry (Some (member_entry m)) is =
        absurd (empty (λ w. let same : Some (member_entry m) ≡ Some (shape_entry w.0) = sym is ∙ w.1 in cc))
