-- From each place some tokens complete a selector. So tokens are begun exactly where they lead to some place.
use Rattle.std.proofs.Common.{◌≡◌, inl, inr, ℕ, true, false, List, [], ◌∷◌, ◌++◌, refl, sym, ap, subst, codes}
use Rattle.sm_model.specs.PreludeShapes.{api_id}
use Rattle.sm_model.specs.declared.relation.Relation.TheVariants.{Member}
use Rattle.sm_select.specs.Selectors.{Step, any_shape, id_of, trait_of, has, compares, along, Steps, steps_of}
use Rattle.sm_select.specs.Selectors.{Attribute}
use Rattle.sm_select.specs.declared.tokens.Sign.TheVariants.{Star, CloseNames, ClosePath, Close}
use Rattle.sm_select.specs.Tokens.{Token, terminal, word, quoted}
use Rattle.sm_model.specs.Relations.{relation_name}
use Rattle.sm_select.specs.Grammar.{type_word}
use Rattle.sm_select.specs.SelectorText.{Begun, StepMayCome}
use Rattle.sm_select.specs.steps.Places.{Piece, sign, kind, id_word, fold_word, relation, trait, key, value, ReadAs, Frame, frame, held}
use Rattle.sm_select.specs.steps.Places.{Place, stepping, path_wanted, trait_wanted, key_wanted}
use Rattle.sm_select.specs.steps.Places.{behind_path, value_wanted, behind_value, behind_fold, name_wanted, behind_name, Moves, star}
use Rattle.sm_select.specs.steps.Places.{closes, at_id, of_trait, of_key, had, of_value, compared, compared_folded, of_name, closes_names}
use Rattle.sm_select.specs.steps.Places.{Leads, Runs, IsWhole, IsStepping}
use Rattle.sm_select.proofs.RestsBefore.{run_spells}
use Rattle.sm_select.proofs.SpelledRuns.{spelled_runs}
use Rattle.sm_select.proofs.OneName.{one_sign}
use Rattle.sm_select.proofs.OneMove.{runs_cut, runs_joined, runs_behind, text_in, no_word}

abbrev Completed : Place → Type 0
Completed p = (ts : List Token) × (q : Place) × (steps : Steps) × Runs p ts q × IsWhole q steps

first : (p n : Place) (x : Piece) (t : Token) → ReadAs x t → Moves p x n → Completed n → Completed p
first p n x t read moves (ts, q, steps, run, whole) =
    (t ∷ ts, q, steps, (n, record { piece = x; read = read; moves = moves }, run), whole)

behind_step : (ss : List Step) (x : Step) (fs : List Frame) → ((s : Step) (more : List Step) → Completed (stepping (s ∷ more) fs))
    → Completed (stepping (ss ++ x ∷ []) fs)
behind_step [] x fs all = all x []
behind_step (s ∷ ss) x fs all = all s (ss ++ x ∷ [])

closed : (fs : List Frame) (s : Step) (ss : List Step) → Completed (stepping (s ∷ ss) fs)
closed [] s ss = ([], stepping (s ∷ ss) [], steps_of (s ∷ ss), refl, refl)
closed (frame form outer done ∷ fs) s ss =
    first (stepping (s ∷ ss) (frame form outer done ∷ fs)) (stepping (outer ++ held form (done ++ (s ∷ ss) ∷ []) ∷ []) fs) (sign Close)
    (terminal (codes ")")) refl closes
    (behind_step outer (held form (done ++ (s ∷ ss) ∷ [])) fs (closed fs))

stepped : (ss : List Step) (x : Step) (fs : List Frame) → Completed (stepping (ss ++ x ∷ []) fs)
stepped ss x fs = behind_step ss x fs (closed fs)

path_closed : (ss : List Step) (fs : List Frame) (path : Attribute) → Completed (behind_path ss fs path)
path_closed ss fs path =
    first (behind_path ss fs path) (stepping (ss ++ has path ∷ []) fs) (sign ClosePath) (terminal (codes "]")) refl had (stepped ss (has
    path) fs)

pub completed : (p : Place) → Completed p
completed (stepping [] fs) =
    first (stepping [] fs) (stepping (any_shape ∷ []) fs) (sign Star) (terminal (codes "*")) refl star (closed fs any_shape [])
completed (stepping (s ∷ ss) fs) = closed fs s ss
completed (path_wanted ss fs) =
    first (path_wanted ss fs) (behind_path ss fs id_of) id_word (word (codes "id")) refl at_id (path_closed ss fs id_of)
completed (trait_wanted ss fs) =
    first (trait_wanted ss fs) (behind_path ss fs (trait_of (api_id (codes "a")) [])) (trait (api_id (codes "a"))) (word (codes "a"))
    (codes "a", refl, inr (refl, refl)) of_trait (path_closed ss fs (trait_of (api_id (codes "a")) []))
completed (key_wanted ss fs u ks) =
    first (key_wanted ss fs u ks) (behind_path ss fs (trait_of u (ks ++ [] ∷ []))) (key []) (quoted []) (inr refl) of_key
    (path_closed ss fs (trait_of u (ks ++ [] ∷ [])))
completed (behind_path ss fs path) = path_closed ss fs path
completed (value_wanted ss fs path op vs) =
    first (value_wanted ss fs path op vs) (behind_value ss fs path op (vs ++ [] ∷ [])) (value []) (quoted []) (inl refl) of_value
    (first (behind_value ss fs path op (vs ++ [] ∷ [])) (stepping (ss ++ compares path op (vs ++ [] ∷ []) false ∷ []) fs) (sign ClosePath)
    (terminal (codes "]")) refl compared
    (stepped ss (compares path op (vs ++ [] ∷ []) false) fs))
completed (behind_value ss fs path op vs) =
    first (behind_value ss fs path op vs) (stepping (ss ++ compares path op vs false ∷ []) fs) (sign ClosePath) (terminal (codes "]")) refl
    compared (stepped ss (compares path op vs false) fs)
completed (behind_fold ss fs path op vs) =
    first (behind_fold ss fs path op vs) (stepping (ss ++ compares path op vs true ∷ []) fs) (sign ClosePath) (terminal (codes "]")) refl
    compared_folded (stepped ss (compares path op vs true) fs)
completed (name_wanted ss fs ns) =
    first (name_wanted ss fs ns) (behind_name ss fs (ns ++ Member ∷ [])) (relation Member) (word (codes "member")) refl of_name
    (first (behind_name ss fs (ns ++ Member ∷ [])) (stepping (ss ++ along (ns ++ Member ∷ []) ∷ []) fs) (sign CloseNames)
    (terminal (codes "]->")) refl closes_names (stepped ss (along (ns ++ Member ∷ [])) fs))
completed (behind_name ss fs ns) =
    first (behind_name ss fs ns) (stepping (ss ++ along ns ∷ []) fs) (sign CloseNames) (terminal (codes "]->")) refl closes_names
    (stepped ss (along ns) fs)

-- tokens that lead to a place are begun, and what is begun leads to one
pub run_begun : (p : Place) (ts : List Token) → Runs (stepping [] []) ts p → Begun ts
run_begun p ts run = by_end (completed p)
  where
    by_end : Completed p → Begun ts
    by_end (us, q, steps, goes, whole) = (us, steps, run_spells q (ts ++ us) steps (runs_joined (stepping [] []) p q ts us run goes) whole)

pub begun_run : (ts : List Token) → Begun ts → (p : Place) × Runs (stepping [] []) ts p
begun_run ts (more, steps, spelled) = by_run (spelled_runs steps (ts ++ more) spelled)
  where
    by_run : (q : Place) × Runs (stepping [] []) (ts ++ more) q × IsWhole q steps → (p : Place) × Runs (stepping [] []) ts p
    by_run (q, run, whole) = let cut = runs_cut (stepping [] []) q ts more run in (cut.0, cut.1)

-- a step may come exactly where one is wanted
pub step_comes : (p : Place) (ts : List Token) → Runs (stepping [] []) ts p → IsStepping p → StepMayCome ts
step_comes (stepping ss fs) ts run e =
    run_begun (stepping (ss ++ any_shape ∷ []) fs) (ts ++ terminal (codes "*") ∷ [])
    (runs_joined (stepping [] []) (stepping ss fs) (stepping (ss ++ any_shape ∷ []) fs) ts (terminal (codes "*") ∷ []) run
    (stepping (ss ++ any_shape ∷ []) fs, record { piece = sign Star; read = refl; moves = star }, refl))
step_comes (path_wanted ss fs) ts run e = absurd e
step_comes (trait_wanted ss fs) ts run e = absurd e
step_comes (key_wanted ss fs u ks) ts run e = absurd e
step_comes (behind_path ss fs path) ts run e = absurd e
step_comes (value_wanted ss fs path op vs) ts run e = absurd e
step_comes (behind_value ss fs path op vs) ts run e = absurd e
step_comes (behind_fold ss fs path op vs) ts run e = absurd e
step_comes (name_wanted ss fs ns) ts run e = absurd e
step_comes (behind_name ss fs ns) ts run e = absurd e

no_terminal : (a w : List ℕ) → terminal a ≡ word w → ⊥
no_terminal a w e = no_word a w (terminal a) refl e

star_piece : (x : Piece) → ReadAs x (terminal (codes "*")) → x ≡ sign Star
star_piece (sign s) e = ap sign (one_sign s Star (ap text_in (sym e)))
star_piece (kind k) e = absurd (no_terminal (codes "*") (type_word k) e)
star_piece id_word e = absurd (no_terminal (codes "*") (codes "id") e)
star_piece fold_word e = absurd (no_terminal (codes "*") (codes "i") e)
star_piece (relation r) e = absurd (no_terminal (codes "*") (relation_name r) e)
star_piece (trait u) (w, e, means) = absurd (no_terminal (codes "*") w e)
star_piece (key k) (inl (is, e)) = absurd (no_terminal (codes "*") k e)
star_piece (key k) (inr e) = absurd cc
star_piece (value v) (inl e) = absurd cc
star_piece (value v) (inr (inl e)) = absurd cc
star_piece (value v) (inr (inr (is, e))) = absurd (no_terminal (codes "*") v e)

star_steps : {p q : Place} → Moves p (sign Star) q → IsStepping p
star_steps star = tt

pub comes_step : (p : Place) (ts : List Token) → Runs (stepping [] []) ts p → StepMayCome ts → IsStepping p
comes_step p ts run may = by_run (begun_run (ts ++ terminal (codes "*") ∷ []) may)
  where
    by_move : (n : Place) → Leads p (terminal (codes "*")) n → IsStepping p
    by_move n lead = star_steps (subst (λ x. Moves p x n) (star_piece lead.piece lead.read) lead.moves)

    by_run : (q : Place) × Runs (stepping [] []) (ts ++ terminal (codes "*") ∷ []) q → IsStepping p
    by_run (q, all) =
        let behind = runs_behind (stepping [] []) p q ts (terminal (codes "*") ∷ []) run all in by_move behind.0 behind.1
