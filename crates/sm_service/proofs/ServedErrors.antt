-- Whether an operation is served, from its own walks and from what the errors of its service come to, of which those that it names itself
-- are left out.
use Rattle.std.proofs.Common.{◌≡◌, inl, inr, ℕ, suc, ◌+◌, Bool, true, false, cond, List, [], ◌∷◌, ◌++◌, Some, map, refl, sym, ap, ◌∙◌}
use Rattle.std.proofs.Common.{subst, arith}
use Rattle.std.specs.Prelude.{◌==◌, codes, slice_get}
use Rattle.std.specs.List.{Contains}
use Rattle.std.proofs.lemmas.Bool.{eqb-true}
use Rattle.std.proofs.lemmas.List.{map-append}
use Rattle.sm_model.specs.Graphs.{GraphMaps, ShapeEntry}
use Rattle.sm_model.specs.GraphView.{maps_of}
use Rattle.sm_model.specs.Reaching.{id_of_number}
use Rattle.sm_model.specs.declared.graph.Graph.{Graph}
use Rattle.sm_model.proofs.OneRising.{contains_behind, contains_either, contains_head}
use Rattle.sm_compile.specs.Compiled.{EachSays}
use Rattle.sm_compile.specs.Served.{IsServed}
use Rattle.sm_compile.specs.declared.compiled.Served.{Served}
use Rattle.sm_compile.specs.declared.compiled.Served.TheVariants.{Yes, Unserved}
use Rattle.sm_compile.specs.steps.Numbered.{numbering}
use Rattle.sm_compile.proofs.TabledShapes.{mapped_to}
use Rattle.sm_service.specs.Compiled.{SaysError}
use Rattle.sm_service.specs.ErrorsView.{but_at, joined_errors}
use Rattle.sm_service.specs.References.{once}
use Rattle.sm_service.specs.ServedOperation.{IsFirstPath, TellsAllServed, WalkRoot, error_root, walk_root, walk_roots}
use Rattle.sm_service.specs.declared.error.ErrorShape.{ErrorShape}
use Rattle.sm_service.specs.steps.OperationRows.{AreAgain, SharesErrors, TellsErrors, errors_named, first_unserved, ids_of_errors}
use Rattle.sm_service.proofs.OperationsTold.{own_again, row_at_place}

module _ (g : GraphMaps) where
  -- one that stays, and one that is left out
  on_rest : (r : WalkRoot) (rs qs : List WalkRoot) (s : Served) → (TellsAllServed g rs s → TellsAllServed g qs s)
      → TellsAllServed g (r ∷ rs) s → TellsAllServed g (r ∷ qs) s
  on_rest r rs qs Yes from h = λ root among. elim (contains_either r root qs among) [
    | inl same ↦ subst (λ (x : WalkRoot). IsServed g x.id) same (h r (contains_head r rs))
    | inr later ↦ from (λ x there. h x (contains_behind r x rs there)) root later
  ]
  on_rest r rs qs (Unserved path) from (inl here) = inl here
  on_rest r rs qs (Unserved path) from (inr later) = inr (later.0, from later.1)

  left_out : (r : WalkRoot) (rs : List WalkRoot) (s : Served) → IsServed g r.id → TellsAllServed g (r ∷ rs) s → TellsAllServed g rs s
  left_out r rs Yes is h = λ root there. h root (contains_behind r root rs there)
  left_out r rs (Unserved path) is (inl here) = absurd (is here.0 here.1.simple.0)
  left_out r rs (Unserved path) is (inr later) = later.1

  -- some that are served, and behind them others; and some that aren't
  behind_served : (rs qs : List WalkRoot) (s : Served) → TellsAllServed g rs Yes → TellsAllServed g qs s → TellsAllServed g (rs ++ qs) s
  behind_served [] qs s h k = k
  behind_served (r ∷ rs) qs Yes h k = λ root among. elim (contains_either r root (rs ++ qs) among) [
    | inl same ↦ subst (λ (x : WalkRoot). IsServed g x.id) same (h r (contains_head r rs))
    | inr later ↦ behind_served rs qs Yes (λ x there. h x (contains_behind r x rs there)) k root later
  ]
  behind_served (r ∷ rs) qs (Unserved path) h k =
      inr (h r (contains_head r rs), behind_served rs qs (Unserved path) (λ x there. h x (contains_behind r x rs there)) k)

  first_stays : (rs qs : List WalkRoot) (path : List ℕ) → IsFirstPath g rs path → IsFirstPath g (rs ++ qs) path
  first_stays [] qs path h = absurd h
  first_stays (r ∷ rs) qs path (inl here) = inl here
  first_stays (r ∷ rs) qs path (inr later) = inr (later.0, first_stays rs qs path later.1)

  abbrev roots_of_errors : List ErrorShape → List WalkRoot
  roots_of_errors es = map error_root (ids_of_errors es)

  -- errors but at some places, where each is served
  abbrev AreServedAt : List ℕ → ℕ → List ErrorShape → Type 0
  AreServedAt ps k es = (i : ℕ) (e : ErrorShape) → Contains ps (k + i) → slice_get es i ≡ Some e → IsServed g e.id

  served_next : (ps qs : List ℕ) (k : ℕ) (e : ErrorShape) (es : List ErrorShape) → ((i : ℕ) → Contains qs i → Contains ps i)
      → AreServedAt ps k (e ∷ es) → AreServedAt qs (suc k) es
  served_next ps qs k e es within gone i d there is =
      let next : suc k + i ≡ k + suc i = omega arith in gone (suc i) d (subst (Contains ps) next (within (suc k + i) there)) is

  kept_told : (ps : List ℕ) (k : ℕ) (es : List ErrorShape) (s : Served) → AreServedAt ps k es → TellsAllServed g (roots_of_errors es) s
      → TellsAllServed g (roots_of_errors (but_at ps k es)) s
  kept_told [] k [] s gone h = h
  kept_told (p ∷ ps) k [] s gone h = h
  kept_told [] k (e ∷ es) s gone h = h
  kept_told (p ∷ ps) k (e ∷ es) s gone h =
      by (p == k) refl
      (λ rest. kept_told ps (suc k) es s (served_next (p ∷ ps) ps k e es (λ i there. contains_behind p i ps there) gone) rest)
      (λ rest. kept_told (p ∷ ps) (suc k) es s (served_next (p ∷ ps) (p ∷ ps) k e es (λ i there. there) gone) rest)
    where
      here : p ≡ k → IsServed g e.id
      here same =
          let first : k ≡ k + 0 = omega arith in
          gone 0 e (subst (Contains (p ∷ ps)) (same ∙ first) (contains_head p ps)) refl

      by : (b : Bool) → (p == k) ≡ b
          → (TellsAllServed g (roots_of_errors es) s → TellsAllServed g (roots_of_errors (but_at ps (suc k) es)) s)
          → (TellsAllServed g (roots_of_errors es) s → TellsAllServed g (roots_of_errors (but_at (p ∷ ps) (suc k) es)) s)
          → TellsAllServed g (roots_of_errors (cond b (but_at ps (suc k) es) (e ∷ but_at (p ∷ ps) (suc k) es))) s
      by true same dropped kept = dropped (left_out (error_root e.id) (roots_of_errors es) s (here (eqb-true p k same)) h)
      by false other dropped kept =
          on_rest (error_root e.id) (roots_of_errors es) (roots_of_errors (but_at (p ∷ ps) (suc k) es)) s kept h

module _ (g : Graph) (shapes : List ℕ) (s service : ShapeEntry) (own shared : List ErrorShape) (again : List ℕ)
    (rows : EachSays (SaysError (maps_of g) (numbering g shapes)) (once (errors_named s)) own) (are : AreAgain own shared again)
    (shares : SharesErrors g shapes service shared s) (input output : ℕ) where
  abbrev own_roots : List WalkRoot
  own_roots = walk_roots (id_of_number g input) (id_of_number g output) (ids_of_errors own)

  -- where the own walks find nothing, the errors that are named again are served
  again_served : TellsAllServed (maps_of g) own_roots Yes → AreServedAt (maps_of g) again 0 shared
  again_served mine i e there is =
      let r = row_at_place (SaysError (maps_of g) (numbering g shapes)) (once (errors_named service)) shared i e shares.rows is in
      let named = own_again (maps_of g) (numbering g shapes) (errors_named s) (errors_named service) own shared again rows shares.rows are
      shares.tell i r.0 r.1 there in
      let roots = roots_of_errors (maps_of g) own in
      let output_root = walk_root (codes "output" ∷ []) (id_of_number g output) in
      subst (IsServed (maps_of g)) (sym r.2.id_is)
      (mine (error_root r.0) (contains_behind (walk_root (codes "input" ∷ []) (id_of_number g input)) (error_root r.0) (output_root ∷ roots)
      (contains_behind output_root (error_root r.0) roots (mapped_to error_root (ids_of_errors own) r.0 named.1))))

  kept_served : (mine theirs : Served) → TellsAllServed (maps_of g) own_roots mine → TellsErrors g shared theirs
      → TellsAllServed (maps_of g) (own_roots ++ roots_of_errors (maps_of g) (but_at again 0 shared)) (first_unserved mine theirs)
  kept_served Yes theirs own_told told =
      behind_served (maps_of g) own_roots (roots_of_errors (maps_of g) (but_at again 0 shared)) theirs own_told
      (kept_told (maps_of g) again 0 shared theirs (again_served own_told) told)
  kept_served (Unserved path) theirs own_told told =
      first_stays (maps_of g) own_roots (roots_of_errors (maps_of g) (but_at again 0 shared)) path own_told

  roots_joined : walk_roots (id_of_number g input) (id_of_number g output) (ids_of_errors (joined_errors own again shared))
      ≡ own_roots ++ roots_of_errors (maps_of g) (but_at again 0 shared)
  roots_joined =
      let ends = but_at again 0 shared in
      ap (λ (rs : List WalkRoot). walk_root (codes "input" ∷ []) (id_of_number g input)
      ∷ walk_root (codes "output" ∷ []) (id_of_number g output) ∷ rs)
      (ap (λ ids. map error_root ids) (map-append (λ (e : ErrorShape). e.id) own ends)
      ∙ map-append error_root (ids_of_errors own) (ids_of_errors ends))

  pub all_served : (all : List ErrorShape) → all ≡ joined_errors own again shared → (mine theirs told : Served)
      → TellsAllServed (maps_of g) own_roots mine → TellsErrors g shared theirs → Path Served told (first_unserved mine theirs)
      → TellsAllServed (maps_of g) (walk_roots (id_of_number g input) (id_of_number g output) (ids_of_errors all)) told
  all_served all joined mine theirs told own_told shared_told is =
      subst (λ es. TellsAllServed (maps_of g) (walk_roots (id_of_number g input) (id_of_number g output) (ids_of_errors es)) told) (sym joined)
      (subst (λ (rs : List WalkRoot). TellsAllServed (maps_of g) rs told) (sym roots_joined)
      (subst (λ (x : Served). TellsAllServed (maps_of g) (own_roots ++ roots_of_errors (maps_of g) (but_at again 0 shared)) x) (sym is)
      (kept_served mine theirs own_told shared_told)))
