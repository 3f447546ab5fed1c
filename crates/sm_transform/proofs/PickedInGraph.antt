-- What a selector picks is in the graph.
use Rattle.std.proofs.Common.{◌≡◌, inl, inr, ℕ, List, [], ◌∷◌, sym, subst}
use Rattle.sm_model.specs.Graphs.{GraphMaps}
use Rattle.sm_model.specs.Relations.{IsInGraph, WalksBy}
use Rattle.sm_model.proofs.NumberedIds.{related_in}
use Rattle.sm_select.specs.Picks.{Goes, IsPicked, PickedByOne, Picks}
use Rattle.sm_select.specs.Selectors.{Step, any_shape, of_kind, has, compares, forward, back, walk, along, picked_by, picks_none}
use Rattle.sm_select.specs.Selectors.{picks_some}
use Rattle.sm_select.specs.Selectors.{Steps, no_steps, then, Alternatives, no_selectors, or_by}

walk_in : (m : GraphMaps) (between : List (List ℕ)) (a b : List ℕ) → WalksBy m a between b → IsInGraph m b
walk_in m [] a b h = (related_in h.0 m a b h.2).1
walk_in m (n ∷ more) a b h = walk_in m more n b h.1

kept_in : (m : GraphMaps) (a b : List ℕ) → IsInGraph m a → b ≡ a → IsInGraph m b
kept_in m a b h e = subst (IsInGraph m) (sym e) h

mutual
  goes_in : (m : GraphMaps) (s : Step) (a b : List ℕ) → IsInGraph m a → Goes m s a b → IsInGraph m b
  goes_in m any_shape a b there h = kept_in m a b there h
  goes_in m (of_kind named) a b there h = kept_in m a b there h.0
  goes_in m (has attribute) a b there h = kept_in m a b there h.0
  goes_in m (compares attribute op values fold) a b there h = kept_in m a b there h.0
  goes_in m forward a b there h = (related_in h.0 m a b h.2).1
  goes_in m back a b there h = (related_in h.0 m b a h.2).0
  goes_in m walk a b there h = walk_in m h.0 a b h.1
  goes_in m (along relations) a b there h = (related_in h.0 m a b h.2).1
  goes_in m (picked_by ss) a b there h = one_in m ss a b there h
  goes_in m (picks_none steps) a b there h = kept_in m a b there h.0
  goes_in m (picks_some ss) a b there h = kept_in m a b there h.0

  picks_in : (m : GraphMaps) (ss : Steps) (a b : List ℕ) → IsInGraph m a → Picks m ss a b → IsInGraph m b
  picks_in m no_steps a b there h = kept_in m a b there h
  picks_in m (then s ss) a b there h = picks_in m ss h.0 b (goes_in m s a h.0 there h.1) h.2

  one_in : (m : GraphMaps) (ss : Alternatives) (a b : List ℕ) → IsInGraph m a → PickedByOne m ss a b → IsInGraph m b
  one_in m no_selectors a b there h = absurd h
  one_in m (or_by s ss) a b there (inl h) = picks_in m s a b there h
  one_in m (or_by s ss) a b there (inr h) = one_in m ss a b there h

pub picked_in : (m : GraphMaps) (steps : Steps) (id : List ℕ) → IsPicked m steps id → IsInGraph m id
picked_in m steps id h = picks_in m steps h.0 id h.1.0 h.2
