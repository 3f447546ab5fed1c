-- Whether shapes are served, one after the other, and the paths of ways from where an operation's walk begins.
use Rattle.std.proofs.Common.{◌≡◌, inl, inr, ℕ, zero, suc, ◌+◌, ◌<◌, ◌≤◌, List, [], ◌∷◌, ◌++◌, length, drop, get_or, refl, sym, ap, ◌∙◌, subst}
use Rattle.std.proofs.Common.{arith}
use Rattle.std.proofs.Math.Seq.{drop-nil}
use Rattle.std.proofs.lemmas.List.{drop_more}
use Rattle.std.specs.Prelude.{IfOk, Result, Ok, Err}
use Rattle.std.specs.List.{join_with_byte}
use Rattle.sm_bytes.specs.Ascii.{slash}
use Rattle.sm_model.specs.Graphs.{GraphMaps, member_entry, member_id}
use Rattle.sm_model.specs.GraphView.{maps_of}
use Rattle.sm_model.specs.Reaching.{id_of_number}
use Rattle.sm_model.specs.Relations.{HasEntry}
use Rattle.sm_model.specs.declared.graph.Graph.{Graph}
use Rattle.sm_model.proofs.LinkedEntries.{cons_cases}
use Rattle.sm_compile.specs.Answers.{TellsServed}
use Rattle.sm_compile.specs.Served.{IsServed, IsWay, WayStep, names_of_way}
use Rattle.sm_compile.specs.declared.compiled.Served.{Served}
use Rattle.sm_compile.specs.declared.compiled.Served.TheVariants.{Yes, Unserved}
use Rattle.sm_service.specs.PathView.{member_path_text}
use Rattle.sm_service.specs.ServedOperation.{TellsAllServed, WalkRoot}
use Rattle.sm_service.specs.declared.serving.WalkStart.{WalkStart}
use Rattle.sm_service.specs.declared.serving.WalkStart.TheVariants as start
use Rattle.sm_service.specs.steps.WalkStarts.{HasFilledNames, root_of, roots_of, start_names, start_shape}

-- what follows from a value
pub if_ok : {T E : Type 0} (r : Result T E) {P Q : T → Type 0} → ((x : T) → P x → Q x) → IfOk r P → IfOk r Q
if_ok (Ok x) from h = from x h
if_ok (Err e) from h = tt

-- the first name of a way has a byte
abbrev BeginsFilled : List (List ℕ) → Type 0
BeginsFilled [] = Unit {0}
BeginsFilled ([] ∷ ns) = ⊥
BeginsFilled ((c ∷ cs) ∷ ns) = Unit {0}

-- the path of a start and of a way is that of their names
path_joined : (w : WalkStart) (ns : List (List ℕ)) → BeginsFilled ns
    → member_path_text (join_with_byte slash (start_names w)) (join_with_byte slash ns) ≡ join_with_byte slash (start_names w ++ ns)
path_joined (start.Input k) [] h = refl
path_joined (start.Input k) ([] ∷ ns) h = absurd h
path_joined (start.Input k) ((c ∷ cs) ∷ []) h = refl
path_joined (start.Input k) ((c ∷ cs) ∷ n ∷ ns) h = refl
path_joined (start.Output k) [] h = refl
path_joined (start.Output k) ([] ∷ ns) h = absurd h
path_joined (start.Output k) ((c ∷ cs) ∷ []) h = refl
path_joined (start.Output k) ((c ∷ cs) ∷ n ∷ ns) h = refl
path_joined (start.Error name k) [] h = refl
path_joined (start.Error name k) ([] ∷ ns) h = absurd h
path_joined (start.Error name k) ((c ∷ cs) ∷ []) h = refl
path_joined (start.Error name k) ((c ∷ cs) ∷ n ∷ ns) h = refl

begins_filled : (g : GraphMaps) (id : List ℕ) (way : List WayStep) → HasFilledNames g → IsWay g id way → BeginsFilled (names_of_way way)
begins_filled g id [] names is = tt
begins_filled g id (step ∷ way) names is = by step.name refl
  where
    by : (name : List ℕ) → step.name ≡ name → BeginsFilled (name ∷ names_of_way way)
    by [] same = absurd (names id is.0.m (subst (λ n. HasEntry g (member_id id n) (member_entry is.0.m)) same is.0.member_there))
    by (c ∷ cs) same = tt

module _ (g : Graph) (names : HasFilledNames (maps_of g)) where
  -- one more that is served, and the first that isn't
  pub served_on : (w : WalkStart) (ws : List WalkStart) (s : Served) → TellsServed (maps_of g) (id_of_number g (start_shape w)) Yes
      → TellsAllServed (maps_of g) (roots_of g ws) s → TellsAllServed (maps_of g) (roots_of g (w ∷ ws)) s
  served_on w ws Yes here rest = λ root among. elim (cons_cases (root_of g w) (roots_of g ws) root among) [
    | inl same ↦ subst (λ (r : WalkRoot). IsServed (maps_of g) r.id) same here
    | inr later ↦ rest root later
  ]
  served_on w ws (Unserved path) here rest = inr (here, rest)

  pub served_until : (w : WalkStart) (ws : List WalkStart) (way : List ℕ)
      → TellsServed (maps_of g) (id_of_number g (start_shape w)) (Unserved way)
      → TellsAllServed (maps_of g) (roots_of g (w ∷ ws)) (Unserved (member_path_text (join_with_byte slash (start_names w)) way))
  served_until w ws way h =
      inl (
        h.0,
        h.1,
        ap (member_path_text (join_with_byte slash (start_names w))) h.2
            ∙ path_joined w (names_of_way h.0) (begins_filled (maps_of g) (id_of_number g (start_shape w)) h.0 names h.1.simple.0),
      )

-- what is told of starts one after the other
pub told_at : (starts : List WalkStart) (i : ℕ) → i < length starts → (g : Graph) (s : Served)
    → TellsAllServed (maps_of g) (roots_of g (get_or starts i (start.Input 0) ∷ drop (i + 1) starts)) s
    → TellsAllServed (maps_of g) (roots_of g (drop i starts)) s
told_at starts i lt g s h =
    subst (λ ws. TellsAllServed (maps_of g) (roots_of g ws) s) (sym (drop_more starts i (start.Input 0) lt)) h

dropped : {X : Type 0} (xs : List X) (i : ℕ) → length xs ≤ i → drop i xs ≡ []
dropped [] i le = drop-nil i
dropped (x ∷ xs) zero le = absurd (omega (arith, le))
dropped (x ∷ xs) (suc i) le = dropped xs i (omega (arith, le))

pub told_end : (starts : List WalkStart) (i : ℕ) → length starts ≤ i → (g : Graph)
    → TellsAllServed (maps_of g) (roots_of g (drop i starts)) Yes
told_end starts i le g =
    subst (λ ws. TellsAllServed (maps_of g) (roots_of g ws) Yes) (sym (dropped starts i le))
    (λ root among. absurd (omega (arith, among.1)))
