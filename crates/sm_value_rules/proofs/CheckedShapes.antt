-- The shapes for which nodes are checked are those that have values, are fine, and from which no steps lead on to a faulty one.
use Rattle.std.proofs.Common.{◌≡◌, ◌⊎◌, inl, inr, ℕ, ◌<◌, Bool, true, false, List, [], ◌∷◌, ◌++◌, length, get_or, refl, sym, ◌∙◌, subst}
use Rattle.sm_model.specs.Graphs.{ShapeEntry, shape_entry}
use Rattle.sm_model.specs.GraphView.{IsShapeNumber, entries_of, maps_of}
use Rattle.sm_model.specs.Links.{IsLinked}
use Rattle.sm_model.specs.Reaching.{IsMarked, id_of_number}
use Rattle.sm_model.specs.Relations.{HasEntry, IsInGraph, IsRelated}
use Rattle.sm_model.specs.declared.graph.Graph.{Graph}
use Rattle.sm_model.specs.declared.link.Link.{Link}
use Rattle.sm_model.specs.declared.relation.Relation.{Relation}
use Rattle.sm_model.specs.declared.relation.Relation.TheVariants.{Member, Target}
use Rattle.sm_model.proofs.NumberedIds.{number_of, related_in}
use Rattle.sm_model.proofs.Worklist.{marked_within}
use Rattle.sm_select.specs.Neighbors.{AreNeighbors, AreReached, HasStep, IsReached as LeadsFrom, StepsBy}
use Rattle.sm_compile.proofs.ReachedNumbers.{same_number}
use Rattle.sm_compile.specs.Reached.{IsReached, LeadsBy, LeadsTo}
use Rattle.sm_compile.specs.Served.{IsLeftOut}
use Rattle.sm_compile.specs.Sound.{IsSoundShape, IsValueShape}
use Rattle.sm_rules.specs.NodeChecks.{IsChecked}
use Rattle.sm_value_rules.specs.steps.Checking.{AreFaultMarks, AreValueLinks, IsFaultyAt, IsFineAt, IsOfValues, TellsFault}
use Rattle.sm_value_rules.proofs.TableRows.{way_on}

-- a way backwards, one step longer
steps_on : (rows : List (List ℕ)) (a : ℕ) (between : List ℕ) (c b : ℕ) → StepsBy rows a between c → HasStep rows c b
    → StepsBy rows a (between ++ c ∷ []) b
steps_on rows a [] c b h step = (h, step)
steps_on rows a (next ∷ between) c b h step = (h.0, steps_on rows next between c b h.1 step)

module _ (g : Graph) (faulty : List Bool) (are : AreFaultMarks g faulty) (links : List Link) (value : AreValueLinks g links)
    (rows : List (List ℕ)) (near : AreNeighbors (length (entries_of g)) links true rows) where
  by_values : (from to : List ℕ) (relation : Relation) → IsRelated relation (maps_of g) from to → IsOfValues relation
      → LeadsTo (maps_of g) from to
  by_values from to relation h (inl e) = inl (subst (λ r. IsRelated r (maps_of g) from to) e h)
  by_values from to relation h (inr e) = inr (subst (λ r. IsRelated r (maps_of g) from to) e h)

  step_seen : (a b : ℕ) → HasStep rows a b
      → IsShapeNumber g a × IsShapeNumber g b × LeadsTo (maps_of g) (id_of_number g b) (id_of_number g a)
  step_seen a b h =
      let l = (near.steps a b).0 h in
      let is = (value l.0).0 l.1 in
      let leads = by_values (id_of_number g l.0.from) (id_of_number g l.0.to) l.0.relation is.0.related is.1 in (
        subst (IsShapeNumber g) l.2.1 is.0.to,
        subst (IsShapeNumber g) l.2.2 is.0.from,
        subst (λ x. LeadsTo (maps_of g) (id_of_number g b) (id_of_number g x)) l.2.1
            (subst (λ x. LeadsTo (maps_of g) (id_of_number g x) (id_of_number g l.0.to)) l.2.2 leads),
      )

  step_made : (a b : ℕ) → IsShapeNumber g a → IsShapeNumber g b → LeadsTo (maps_of g) (id_of_number g b) (id_of_number g a) → HasStep rows
      a b
  step_made a b lt gt (inl h) =
      let l : Link = record { relation = Member; from = b; to = a } in
      let linked : IsLinked g l = record { from = gt; to = lt; related = h } in
      (near.steps a b).1 (l, (value l).1 (linked, inl refl), (λ e. absurd cc, refl, refl))
  step_made a b lt gt (inr h) =
      let l : Link = record { relation = Target; from = b; to = a } in
      let linked : IsLinked g l = record { from = gt; to = lt; related = h } in
      (near.steps a b).1 (l, (value l).1 (linked, inr refl), (λ e. absurd cc, refl, refl))

  -- steps back are a way on
  way_seen : (a : ℕ) (between : List ℕ) (b : ℕ) → StepsBy rows a between b → IsReached (maps_of g) (id_of_number g b) (id_of_number g a)
  way_seen a [] b h = (id_of_number g a ∷ [], ((step_seen a b h).2, refl))
  way_seen a (next ∷ between) b h =
      let rest = way_seen next between b h.1 in (
        rest.0 ++ id_of_number g a ∷ [],
        way_on (maps_of g) (id_of_number g b) rest.0 (id_of_number g next) (id_of_number g a) rest.1 ((step_seen a next h.0).2, refl),
      )

  led_in : (a b : List ℕ) → LeadsTo (maps_of g) a b → IsInGraph (maps_of g) b
  led_in a b (inl h) = (related_in Member (maps_of g) a b h).1
  led_in a b (inr h) = (related_in Target (maps_of g) a b h).1

  -- from where a way leads to what is faulty
  abbrev Faulty : List ℕ → Type 0
  Faulty id = (k : ℕ) × IsShapeNumber g k × (id_of_number g k ≡ id) × IsMarked faulty k

  way_made : (by : List (List ℕ)) (b : ℕ) (id : List ℕ) → IsShapeNumber g b → LeadsBy (maps_of g) (id_of_number g b) by id
      → ((k : ℕ) → IsShapeNumber g k → id_of_number g k ≡ id → IsMarked faulty k) → IsMarked faulty b ⊎ LeadsFrom rows faulty b
  way_made [] b id gt h marked = inl (marked b gt h)
  way_made (next ∷ by) b id gt h marked =
      let c = number_of g next (led_in (id_of_number g b) next h.0) in
      let first = subst (LeadsTo (maps_of g) (id_of_number g b)) (sym c.2) h.0 in
      let step = step_made c.0 b c.1 gt first in
      elim (way_made by c.0 id c.1 (subst (λ x. LeadsBy (maps_of g) x by id) (sym c.2) h.1) marked) [
        | inl here ↦ inr (c.0, here, ([], step))
        | inr later ↦ inr (later.0, later.1, (later.2.0 ++ c.0 ∷ [], steps_on rows later.0 later.2.0 c.0 b later.2.1 step))
      ]

  is_fine : (k : ℕ) → IsShapeNumber g k → (IsMarked faulty k → ⊥) → IsFineAt g k
  is_fine k lt none = by (get_or faulty k false) refl (are.each k (subst (λ n. k < n) (sym are.whole) lt))
    where
      by : (b : Bool) → get_or faulty k false ≡ b → TellsFault g k b → IsFineAt g k
      by true e h = absurd (none e)
      by false e h = h

  is_faulty : (k : ℕ) → IsShapeNumber g k → IsMarked faulty k → IsFaultyAt g k
  is_faulty k lt marked = subst (TellsFault g k) marked (are.each k (subst (λ n. k < n) (sym are.whole) lt))

  module _ (before : List Bool) (reached : AreReached rows faulty before) (k : ℕ) (lt : IsShapeNumber g k) where
    abbrev id : List ℕ
    id = id_of_number g k

    -- all that it reaches is fine
    reaches_fine : (IsMarked faulty k → ⊥) → (IsMarked before k → ⊥) → (other : List ℕ) (s : ShapeEntry) → IsReached (maps_of g) id other
        → HasEntry (maps_of g) other (shape_entry s) → (j : ℕ) × (id_of_number g j ≡ other) × IsFineAt g j
    reaches_fine none no_way other s way there =
        let j = number_of g other (shape_entry s, there) in (
          j.0,
          j.2,
          is_fine j.0 j.1 (λ marked.
              elim (way_made way.0 k other lt way.1
              (λ i gt is. subst (IsMarked faulty) (same_number g j.0 i j.1 gt (j.2 ∙ sym is)) marked)) [
                | inl here ↦ none here
                | inr later ↦ no_way ((reached k).1 later)
              ]),
        )

    pub checked_where : IsValueShape (maps_of g) id → (IsMarked faulty k → ⊥) → (IsMarked before k → ⊥) → IsChecked (maps_of g) id
    checked_where has none no_way = record {
      has_values = has;
      sound = λ value_too other s way there.
          let j = reaches_fine none no_way other s way there in
          subst (λ x. IsSoundShape (maps_of g) x s) j.1 (j.2.0 s (subst (λ x. HasEntry (maps_of g) x (shape_entry s)) (sym j.1) there));
      carried = λ way.
          let j = reaches_fine none no_way way.0 way.2.0 way.1 way.2.1 in
          j.2.1 (subst (IsLeftOut (maps_of g)) (sym j.1) way.2);
    }

    -- and none that it reaches is faulty
    faulty_reached : IsChecked (maps_of g) id → (j : ℕ) → IsShapeNumber g j → IsReached (maps_of g) id (id_of_number g j)
        → IsFaultyAt g j → ⊥
    faulty_reached is j gt way (inl unsound) = unsound (λ s there. is.sound is.has_values (id_of_number g j) s way there)
    faulty_reached is j gt way (inr out) = is.carried (id_of_number g j, way, out)

    pub none_marked : IsChecked (maps_of g) id → IsMarked faulty k → ⊥
    none_marked is marked = faulty_reached is k lt ([], refl) (is_faulty k lt marked)

    pub no_way_marked : IsChecked (maps_of g) id → IsMarked before k → ⊥
    no_way_marked is marked =
        let way = (reached k).0 marked in
        let inside = within way.0 way.1 in
        faulty_reached is way.0 inside (way_seen way.0 way.2.0 k way.2.1) (is_faulty way.0 inside way.1)
      where
        within : (a : ℕ) → IsMarked faulty a → IsShapeNumber g a
        within a h = subst (λ n. a < n) are.whole (marked_within faulty a h)
