-- Walks between shapes are those between their numbers.
use Rattle.std.proofs.Common.{◌≡◌, ℕ, ◌<◌, Bool, true, false, List, [], ◌∷◌, ◌++◌, length, refl, sym, ◌∙◌, subst}
use Rattle.sm_model.specs.Graphs.{GraphMaps}
use Rattle.sm_model.specs.GraphView.{IsShapeNumber, entries_of, maps_of}
use Rattle.sm_model.specs.Links.{AreLinks, IsLinked}
use Rattle.sm_model.specs.Relations.{IsInGraph, IsNeighbor, IsRelated, Reaches, WalksBy}
use Rattle.sm_model.specs.declared.graph.Graph.{Graph}
use Rattle.sm_model.specs.declared.link.Link.{Link}
use Rattle.sm_model.specs.Reaching.{id_of_number}
use Rattle.sm_model.proofs.NumberedIds.{number_of, related_in}
use Rattle.sm_model.proofs.Worklist.{marked_within}
use Rattle.sm_select.specs.Images.{AreImage, turned}
use Rattle.sm_select.specs.Neighbors.{AreBelow, AreNeighbors, AreReached, IsStepOf, StayBelow, StepsBy}
use Rattle.sm_select.specs.steps.Imaging.{AreSteps}
use Rattle.sm_select.proofs.Worklist.{one_more_step}

pub neighbor_in : (m : GraphMaps) (a b : List ℕ) → IsNeighbor m a b → IsInGraph m a × IsInGraph m b
neighbor_in m a b h = related_in h.0 m a b h.2

-- the links of a graph stay within it
pub links_below : (g : Graph) (count : ℕ) (links : List Link) → AreLinks g links → count ≡ length (entries_of g) → AreBelow count links
links_below g count links are long l among =
    let at = (are l).0 among in (subst (λ n. l.from < n) (sym long) at.from, subst (λ n. l.to < n) (sym long) at.to)

-- the steps that links are
linked_step : (g : Graph) (back : Bool) (l : Link) (a b : ℕ) → IsLinked g l → IsStepOf back l a b
    → IsShapeNumber g a × IsShapeNumber g b × turned back (IsNeighbor (maps_of g)) (id_of_number g a) (id_of_number g b)
linked_step g false l a b at s = (
  subst (IsShapeNumber g) s.1 at.from,
  subst (IsShapeNumber g) s.2 at.to,
  (
    l.relation,
    s.0,
    subst (λ k. IsRelated l.relation (maps_of g) (id_of_number g k) (id_of_number g b)) s.1
        (subst (λ k. IsRelated l.relation (maps_of g) (id_of_number g l.from) (id_of_number g k)) s.2 at.related),
  ),
)
linked_step g true l a b at s = (
  subst (IsShapeNumber g) s.1 at.to,
  subst (IsShapeNumber g) s.2 at.from,
  (
    l.relation,
    s.0,
    subst (λ k. IsRelated l.relation (maps_of g) (id_of_number g k) (id_of_number g a)) s.2
        (subst (λ k. IsRelated l.relation (maps_of g) (id_of_number g l.from) (id_of_number g k)) s.1 at.related),
  ),
)

step_linked : (g : Graph) (back : Bool) (a b : ℕ) → IsShapeNumber g a → IsShapeNumber g b
    → turned back (IsNeighbor (maps_of g)) (id_of_number g a) (id_of_number g b) → (l : Link) × IsLinked g l × IsStepOf back l a b
step_linked g false a b lt gt h =
    (record { relation = h.0; from = a; to = b }, record { from = lt; to = gt; related = h.2 }, (h.1, refl, refl))
step_linked g true a b lt gt h =
    (record { relation = h.0; from = b; to = a }, record { from = gt; to = lt; related = h.2 }, (h.1, refl, refl))

pub graph_steps : (g : Graph) (count : ℕ) (links : List Link) (back : Bool) (rows : List (List ℕ)) → AreLinks g links
    → count ≡ length (entries_of g) → AreNeighbors count links back rows → AreSteps g back rows
graph_steps g count links back rows are long near = record {
  whole = near.whole ∙ long;
  steps = λ a b. (
    λ h. let s = (near.steps a b).0 h in linked_step g back s.0 a b ((are s.0).0 s.1) s.2,
    λ h. let l = step_linked g back a b h.0 h.1 h.2 in (near.steps a b).1 (l.0, (are l.0).1 l.1, l.2),
  );
}

-- walks that are longer by a step, at either end
reach_first : (m : GraphMaps) (a n b : List ℕ) → IsNeighbor m a n → Reaches m n b → Reaches m a b
reach_first m a n b step walk = (n ∷ walk.0, (step, walk.1))

reach_last : (m : GraphMaps) (between : List (List ℕ)) (a n b : List ℕ) → WalksBy m a between n → IsNeighbor m n b → Reaches m a b
reach_last m [] a n b walk step = (n ∷ [], (walk, step))
reach_last m (x ∷ more) a n b walk step = reach_first m a x b walk.0 (reach_last m more x n b walk.1 step)

turned_one : (m : GraphMaps) (back : Bool) (a b : List ℕ) → turned back (IsNeighbor m) a b → turned back (Reaches m) a b
turned_one m false a b h = ([], h)
turned_one m true a b h = ([], h)

turned_more : (m : GraphMaps) (back : Bool) (a n b : List ℕ) → turned back (IsNeighbor m) a n → turned back (Reaches m) n b
    → turned back (Reaches m) a b
turned_more m false a n b step walk = reach_first m a n b step walk
turned_more m true a n b step walk = reach_last m walk.0 b n a walk.1 step

module _ (g : Graph) (back : Bool) (rows : List (List ℕ)) (are : AreSteps g back rows) where
  pub stay_below : StayBelow (length rows) rows
  stay_below a b h = subst (λ n. b < n) (sym are.whole) ((are.steps a b).0 h).1

  steps_walk : (between : List ℕ) (a b : ℕ) → StepsBy rows a between b
      → IsShapeNumber g b × turned back (Reaches (maps_of g)) (id_of_number g a) (id_of_number g b)
  steps_walk [] a b h =
      let s = (are.steps a b).0 h in (s.1, turned_one (maps_of g) back (id_of_number g a) (id_of_number g b) s.2)
  steps_walk (n ∷ more) a b h =
      let s = (are.steps a n).0 h.0 in
      let rest = steps_walk more n b h.1 in
      (rest.0, turned_more (maps_of g) back (id_of_number g a) (id_of_number g n) (id_of_number g b) s.2 rest.1)

walk_on : (g : Graph) (rows : List (List ℕ)) → AreSteps g false rows → (between : List (List ℕ)) (a b : ℕ) → IsShapeNumber g a
    → IsShapeNumber g b
    → WalksBy (maps_of g) (id_of_number g a) between (id_of_number g b) → (numbers : List ℕ) × StepsBy rows a numbers b
walk_on g rows are [] a b lt gt h = ([], (are.steps a b).1 (lt, gt, h))
walk_on g rows are (n ∷ more) a b lt gt h =
    let k = number_of g n (neighbor_in (maps_of g) (id_of_number g a) n h.0).1 in
    let rest = walk_on g rows are more k.0 b k.1 gt (subst (λ i. WalksBy (maps_of g) i more (id_of_number g b)) (sym k.2) h.1) in
    (k.0 ∷ rest.0, ((are.steps a k.0).1 (lt, k.1, subst (IsNeighbor (maps_of g) (id_of_number g a)) (sym k.2) h.0), rest.1))

walk_back : (g : Graph) (rows : List (List ℕ)) → AreSteps g true rows → (between : List (List ℕ)) (a b : ℕ) → IsShapeNumber g a
    → IsShapeNumber g b
    → WalksBy (maps_of g) (id_of_number g b) between (id_of_number g a) → (numbers : List ℕ) × StepsBy rows a numbers b
walk_back g rows are [] a b lt gt h = ([], (are.steps a b).1 (lt, gt, h))
walk_back g rows are (n ∷ more) a b lt gt h =
    let k = number_of g n (neighbor_in (maps_of g) (id_of_number g b) n h.0).1 in
    let rest = walk_back g rows are more a k.0 lt k.1 (subst (λ i. WalksBy (maps_of g) i more (id_of_number g a)) (sym k.2) h.1) in
    let step = (are.steps k.0 b).1 (k.1, gt, subst (IsNeighbor (maps_of g) (id_of_number g b)) (sym k.2) h.0) in
    (rest.0 ++ k.0 ∷ [], one_more_step rows a rest.0 k.0 b rest.1 step)

walk_steps : (g : Graph) (back : Bool) (rows : List (List ℕ)) → AreSteps g back rows → (a b : ℕ) → IsShapeNumber g a → IsShapeNumber g b
    → turned back (Reaches (maps_of g)) (id_of_number g a) (id_of_number g b) → (numbers : List ℕ) × StepsBy rows a numbers b
walk_steps g false rows are a b lt gt h = walk_on g rows are h.0 a b lt gt h.1
walk_steps g true rows are a b lt gt h = walk_back g rows are h.0 a b lt gt h.1

pub walked : (g : Graph) (back : Bool) (rows : List (List ℕ)) → AreSteps g back rows
    → (starts marks : List Bool) → length starts ≡ length (entries_of g) → length marks ≡ length rows → AreReached rows starts marks
    → AreImage g starts (turned back (Reaches (maps_of g))) marks
walked g back rows are starts marks long whole reached = record {
  whole = whole ∙ are.whole;
  marked = λ b. (
    λ h.
        let r = (reached b).0 h in
        let w = steps_walk g back rows are r.2.0 r.0 b r.2.1 in (w.0, (r.0, r.1, w.1)),
    λ h.
        let a = h.1.0 in
        let lt : IsShapeNumber g a = subst (λ n. a < n) long (marked_within starts a h.1.1) in
        (reached b).1 (a, h.1.1, walk_steps g back rows are a b lt h.0 h.1.2),
  );
}
