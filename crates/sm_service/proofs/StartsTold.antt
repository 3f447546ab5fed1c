-- Where an operation's walks begin: its input, its output, and its errors by their rows.
use Rattle.std.proofs.Common.{◌≡◌, inl, inr, ℕ, zero, suc, ◌+◌, ◌<◌, List, [], ◌∷◌, ◌++◌, None, Some, length, map, take, refl, sym, ap, ◌∙◌}
use Rattle.std.proofs.Common.{subst, arith, append_assoc}
use Rattle.std.specs.Prelude.{codes, slice_get}
use Rattle.std.specs.List.{Contains}
use Rattle.std.proofs.lemmas.Option.{none-some, same_Some}
use Rattle.sm_model.specs.GraphView.{IsShapeNumber, maps_of}
use Rattle.sm_model.specs.Reaching.{id_of_number}
use Rattle.sm_model.specs.declared.graph.Graph.{Graph}
use Rattle.sm_model.proofs.OneRising.{contains_behind, contains_either, contains_head, contains_none}
use Rattle.sm_compile.specs.declared.compiled.Served.{Served}
use Rattle.sm_compile.specs.steps.Numbered.{numbering}
use Rattle.sm_service.specs.Compiled.{SaysError}
use Rattle.sm_service.specs.ServedOperation.{TellsAllServed, WalkRoot, error_root, walk_root, walk_roots}
use Rattle.sm_service.specs.ServiceData.{name_of_error}
use Rattle.sm_service.specs.declared.error.ErrorShape.{ErrorShape}
use Rattle.sm_service.specs.declared.serving.WalkStart.{WalkStart}
use Rattle.sm_service.specs.declared.serving.WalkStart.TheVariants as start
use Rattle.sm_service.specs.steps.OperationRows.{AreErrorStarts, AreRowNumbers, AreStarts, IsErrorStart, PutsStarts, StandsAt, TellsErrors}
use Rattle.sm_service.specs.steps.OperationRows.{ids_of_errors}
use Rattle.sm_service.specs.steps.WalkStarts.{root_of, roots_of, start_names, start_shape}
use Rattle.sm_service.proofs.OperationsTold.{got_in}

-- one start more
starts_more : (shapes : List ℕ) (es : List ErrorShape) (ws : List WalkStart) (e : ErrorShape) (w : WalkStart)
    → AreErrorStarts shapes es ws → IsErrorStart shapes e w → AreErrorStarts shapes (es ++ e ∷ []) (ws ++ w ∷ [])
starts_more shapes [] [] e w h one = (one, tt)
starts_more shapes [] (x ∷ ws) e w h one = absurd h
starts_more shapes (d ∷ es) [] e w h one = absurd h
starts_more shapes (d ∷ es) (x ∷ ws) e w h one = (h.0, starts_more shapes es ws e w h.1 one)

module _ (g : Graph) (shapes : List ℕ) where
  pub error_roots : (es : List ErrorShape) (ws : List WalkStart) → AreErrorStarts shapes es ws
      → ((e : ErrorShape) → Contains es e → StandsAt g shapes e) → map (root_of g) ws ≡ map error_root (ids_of_errors es)
  error_roots [] [] h stands = refl
  error_roots [] (w ∷ ws) h stands = absurd h
  error_roots (e ∷ es) [] h stands = absurd h
  error_roots (e ∷ es) (w ∷ ws) h stands =
      let at = stands e (contains_head e es) in
      let same : at.0 ≡ start_shape w = same_Some at.0 (start_shape w) (sym at.1 ∙ h.0.1) in
      let id : id_of_number g (start_shape w) ≡ e.id = ap (id_of_number g) (sym same) ∙ at.3 in
      ap (λ (ns : List (List ℕ)). walk_root ns (id_of_number g (start_shape w)) ∷ map (root_of g) ws) h.0.0
      ∙ ap (λ (i : List ℕ). walk_root (codes "error" ∷ name_of_error e ∷ []) i ∷ map (root_of g) ws) id
      ∙ ap (λ (rs : List WalkRoot). error_root e.id ∷ rs) (error_roots es ws h.1 (λ d there. stands d (contains_behind e d es there)))

  pub error_numbers : (es : List ErrorShape) (ws : List WalkStart) → AreErrorStarts shapes es ws
      → ((e : ErrorShape) → Contains es e → StandsAt g shapes e) → (w : WalkStart) → Contains ws w → IsShapeNumber g (start_shape w)
  error_numbers [] [] h stands w there = absurd (contains_none w there)
  error_numbers [] (x ∷ ws) h stands w there = absurd h
  error_numbers (e ∷ es) [] h stands w there = absurd h
  error_numbers (e ∷ es) (x ∷ ws) h stands w there = elim (contains_either x w ws there) [
    | inl same ↦
        let at = stands e (contains_head e es) in
        let one : at.0 ≡ start_shape w = same_Some at.0 (start_shape w) (sym at.1 ∙ h.0.1 ∙ ap (λ (y : WalkStart). Some (start_shape y)) same) in
        subst (IsShapeNumber g) one at.2
    | inr later ↦ error_numbers es ws h.1 (λ d among. stands d (contains_behind e d es among)) w later
  ]

  module _ (es : List ErrorShape) (input output : ℕ) (ws : List WalkStart) (are : AreStarts shapes es input output ws)
      (stands : (e : ErrorShape) → Contains es e → StandsAt g shapes e) where
    roots_told : roots_of g ws ≡ walk_roots (id_of_number g input) (id_of_number g output) (ids_of_errors es)
    roots_told =
        ap (roots_of g) are.is
        ∙ ap (λ (rs : List WalkRoot). root_of g (start.Input input) ∷ root_of g (start.Output output) ∷ rs)
        (error_roots es are.behind are.errors_are stands)

    pub served_told : (s : Served) → TellsAllServed (maps_of g) (roots_of g ws) s
        → TellsAllServed (maps_of g) (walk_roots (id_of_number g input) (id_of_number g output) (ids_of_errors es)) s
    served_told s h = subst (λ (rs : List WalkRoot). TellsAllServed (maps_of g) rs s) roots_told h

    pub start_numbers : IsShapeNumber g input → IsShapeNumber g output → (w : WalkStart) → Contains ws w → IsShapeNumber g (start_shape w)
    start_numbers lt gt w there =
        elim (contains_either (start.Input input) w (start.Output output ∷ are.behind) (subst (λ (xs : List WalkStart). Contains xs w) are.is there)) [
          | inl same ↦ subst (λ (y : WalkStart). IsShapeNumber g (start_shape y)) same lt
          | inr later ↦ elim (contains_either (start.Output output) w are.behind later) [
            | inl same ↦ subst (λ (y : WalkStart). IsShapeNumber g (start_shape y)) same gt
            | inr behind ↦ error_numbers es are.behind are.errors_are stands w behind
          ]
        ]

-- the starts of errors alone
module _ (g : Graph) (shapes : List ℕ) (es : List ErrorShape) (none ws : List WalkStart) (empty : Path (List WalkStart) none [])
    (put : PutsStarts shapes es none ws) (stands : (e : ErrorShape) → Contains es e → StandsAt g shapes e) where
  starts_alone : Path (List WalkStart) ws put.0
  starts_alone = put.1 ∙ ap (λ (xs : List WalkStart). xs ++ put.0) empty

  pub errors_stand : (w : WalkStart) → Contains ws w → IsShapeNumber g (start_shape w)
  errors_stand w there =
      error_numbers g shapes es put.0 put.2 stands w (subst (λ (xs : List WalkStart). Contains xs w) starts_alone there)

  pub errors_told : (seen : List WalkStart) → Path (List WalkStart) seen ws → (s : Served) → TellsAllServed (maps_of g) (roots_of g seen) s
      → TellsErrors g es s
  errors_told seen same s told =
      subst (λ (rs : List WalkRoot). TellsAllServed (maps_of g) rs s)
      (ap (λ (xs : List WalkStart). roots_of g xs) (same ∙ starts_alone) ∙ error_roots g shapes es put.0 put.2 stands) told

-- one error more
taken_more : (es : List ErrorShape) (k : ℕ) (e : ErrorShape) → slice_get es k ≡ Some e → take (k + 1) es ≡ take k es ++ e ∷ []
taken_more [] k e h = absurd (none-some e h)
taken_more (x ∷ es) zero e h = ap (λ y. y ∷ []) (same_Some x e h)
taken_more (x ∷ es) (suc k) e h =
    let next : suc k + 1 ≡ suc (k + 1) = omega arith in
    ap (λ n. take n (x ∷ es)) next ∙ ap (λ ys. x ∷ ys) (taken_more es k e h)

-- the row of an error in the table
mapped_back : {X Y : Type 0} (f : X → Y) (xs : List X) (k : ℕ) (y : Y) → slice_get (map f xs) k ≡ Some y
    → (x : X) × (slice_get xs k ≡ Some x) × (f x ≡ y)
mapped_back f [] k y e = absurd (none-some y e)
mapped_back f (x ∷ xs) zero y e = (x, refl, same_Some (f x) y e)
mapped_back f (x ∷ xs) (suc k) y e = mapped_back f xs k y e

pub stands_by : (g : Graph) (shapes : List ℕ) → AreRowNumbers g shapes → (id : List ℕ) (e : ErrorShape)
    → SaysError (maps_of g) (numbering g shapes) id e → StandsAt g shapes e
stands_by g shapes rows id e says =
    let r = mapped_back (id_of_number g) shapes e.shape id says.number in
    (r.0, r.1, rows.numbers r.0 (got_in shapes e.shape r.0 r.1), r.2 ∙ sym says.id_is)

-- the start of one error more
pub start_put : (shapes : List ℕ) (es : List ErrorShape) (k : ℕ) (before now : List WalkStart) (e : ErrorShape) (w : WalkStart)
    → slice_get es k ≡ Some e → start_names w ≡ codes "error" ∷ name_of_error e ∷ [] → slice_get shapes e.shape ≡ Some (start_shape w)
    → Path (List WalkStart) now (before ++ w ∷ []) → (first : List WalkStart) → PutsStarts shapes (take k es) first before
    → PutsStarts shapes (take (k + 1) es) first now
start_put shapes es k before now e w there names row put first (behind, is, are) = (
  behind ++ w ∷ [],
  put ∙ ap (λ (ws : List WalkStart). ws ++ w ∷ []) is ∙ append_assoc first behind (w ∷ []),
  subst (λ (xs : List ErrorShape). AreErrorStarts shapes xs (behind ++ w ∷ [])) (sym (taken_more es k e there))
      (starts_more shapes (take k es) behind e w are (names, row)),
)

-- the starts of an operation's own walks
pub starts_are : (shapes : List ℕ) (es : List ErrorShape) (input output : ℕ) (none one two now : List WalkStart)
    → Path (List WalkStart) none [] → Path (List WalkStart) one (none ++ start.Input input ∷ [])
    → Path (List WalkStart) two (one ++ start.Output output ∷ []) → PutsStarts shapes es two now → AreStarts shapes es input output now
starts_are shapes es input output none one two now empty first second (behind, is, are) = record {
  behind = behind;
  is = is
      ∙ ap (λ (ws : List WalkStart). ws ++ behind) (second ∙ ap (λ (ws : List WalkStart). ws ++ start.Output output ∷ [])
      (first ∙ ap (λ (ws : List WalkStart). ws ++ start.Input input ∷ []) empty));
  errors_are = are;
}

pub never_behind : (es : List ErrorShape) (k : ℕ) → k < length es → slice_get es k ≡ None → ⊥
never_behind [] k lt none = omega (arith, lt)
never_behind (x ∷ es) zero lt none = none-some x (sym none)
never_behind (x ∷ es) (suc k) lt none = never_behind es k (omega (arith, lt)) none
