-- The tokens that spell a selector lead from its first place to a place where it is whole.
use Rattle.std.proofs.Common.{◌≡◌, inl, inr, ℕ, Bool, true, false, List, [], ◌∷◌, ◌++◌, refl, sym, ap, ◌∙◌, subst, append_assoc}
use Rattle.std.proofs.Common.{append-nil, codes}
use Rattle.sm_model.specs.Relations.{relation_name}
use Rattle.sm_model.specs.declared.relation.Relation.{Relation}
use Rattle.sm_select.specs.declared.selector.SelectorOp.{SelectorOp}
use Rattle.sm_select.specs.Selectors.{Attribute, id_of, namespace_of, name_of, member_of, trait_of}
use Rattle.sm_select.specs.Selectors.{Step, any_shape, of_kind, has, compares, forward, back, walk, along, picked_by, picks_none}
use Rattle.sm_select.specs.Selectors.{picks_some}
use Rattle.sm_select.specs.Selectors.{Steps, no_steps, then, Alternatives, no_selectors, or_by, steps_of}
use Rattle.sm_select.specs.declared.tokens.SelectorForm.{SelectorForm}
use Rattle.sm_select.specs.declared.tokens.SelectorForm.TheVariants.{Is, Not, Test}
use Rattle.sm_select.specs.declared.tokens.Sign.TheVariants.{Star, Greater, Smaller, Tilde, OpenNames, CloseNames, OpenPath, ClosePath}
use Rattle.sm_select.specs.declared.tokens.Sign.TheVariants.{OpenIs, OpenNot, OpenTest, Close, Comma, Bar, IdNamespace, IdName, IdMember}
use Rattle.sm_select.specs.declared.tokens.Sign.TheVariants.{TraitBar, Op}
use Rattle.sm_select.specs.Tokens.{Token, terminal, word, quoted, numeral}
use Rattle.sm_select.specs.Grammar.{SpellsKey, SpellsKeys, SpellsPath, SpellsValue, SpellsMoreValues, SpellsValues, SpellsFold}
use Rattle.sm_select.specs.Grammar.{SpellsMoreNames}
use Rattle.sm_select.specs.Grammar.{SpellsNames, SpellsStep, SpellsSteps, SpellsMoreSteps, SpellsList, SpellsMoreList, op_sign, type_word}
use Rattle.sm_select.specs.steps.Places.{Piece, sign, kind, id_word, fold_word, relation, trait, key, value, ReadAs, Frame, frame, held}
use Rattle.sm_select.specs.steps.Places.{IsListed}
use Rattle.sm_select.specs.steps.Places.{Place, stepping, path_wanted, trait_wanted, key_wanted}
use Rattle.sm_select.specs.steps.Places.{behind_path, value_wanted, behind_value, behind_fold, name_wanted, behind_name, Moves, star}
use Rattle.sm_select.specs.steps.Places.{a_kind}
use Rattle.sm_select.specs.steps.Places.{greater, smaller, tilde, opens_path, opens_names, opens_is, opens_not, opens_test, closes, another}
use Rattle.sm_select.specs.steps.Places.{at_id, at_namespace, at_name, at_member, at_trait, of_trait, bar, of_key, had, stands_to, of_value}
use Rattle.sm_select.specs.steps.Places.{another_value, folds, compared, compared_folded, of_name, another_name, closes_names, Runs}
use Rattle.sm_select.specs.steps.Places.{IsWhole}
use Rattle.sm_select.specs.steps.Resting.{step_list, selector_list}
use Rattle.sm_select.proofs.RestsBefore.{steps_back, selectors_back}

-- a token leads on, and the others go through
came : (p n q : Place) (x : Piece) (t : Token) (ts r : List Token) → ts ≡ t ∷ r → ReadAs x t → Moves p x n → Runs n r q → Runs p ts q
came p n q x t ts r e read moves run =
    subst (λ y. Runs p y q) (sym e) (n, record { piece = x; read = read; moves = moves }, run)

key_run : (k : List ℕ) (done : List (List ℕ)) (u : List ℕ) (ss : List Step) (fs : List Frame) (ts r : List Token) (q : Place)
    → SpellsKey k ts r
    → Runs (behind_path ss fs (trait_of u (done ++ k ∷ []))) r q
    → Runs (key_wanted ss fs u done) ts q
key_run k done u ss fs ts r q keyed run = elim keyed [
  | inl (is, e) ↦ came (key_wanted ss fs u done) (behind_path ss fs (trait_of u (done ++ k ∷ []))) q (key k) (word k) ts r e (inl (
    is,
    refl,
  ))
      of_key run
  | inr e ↦ came (key_wanted ss fs u done) (behind_path ss fs (trait_of u (done ++ k ∷ []))) q (key k) (quoted k) ts r e (inr refl)
      of_key run
]

keys_run : (ks done : List (List ℕ)) (u : List ℕ) (ss : List Step) (fs : List Frame) (ts r : List Token) (q : Place) → SpellsKeys ks ts r
    → Runs (behind_path ss fs (trait_of u (done ++ ks))) r q
    → Runs (behind_path ss fs (trait_of u done)) ts q
keys_run [] done u ss fs ts r q e run =
    subst (λ x. Runs (behind_path ss fs (trait_of u x)) ts q) (append-nil done)
    (subst (λ y. Runs (behind_path ss fs (trait_of u (done ++ []))) y q) (sym e) run)
keys_run (k ∷ ks) done u ss fs ts r q (here, behind, e, keyed, keys) run =
    came (behind_path ss fs (trait_of u done)) (key_wanted ss fs u done) q (sign Bar) (terminal (codes "|")) ts here e refl bar
    (key_run k done u ss fs here behind q keyed
    (keys_run ks (done ++ k ∷ []) u ss fs behind r q keys
    (subst (λ x. Runs (behind_path ss fs (trait_of u x)) r q) (sym (append_assoc done (k ∷ []) ks)) run)))

path_run : (path : Attribute) (ss : List Step) (fs : List Frame) (ts r : List Token) (q : Place) → SpellsPath path ts r
    → Runs (behind_path ss fs path) r q
    → Runs (path_wanted ss fs) ts q
path_run id_of ss fs ts r q e run = came (path_wanted ss fs) (behind_path ss fs id_of) q id_word (word (codes "id")) ts r e refl at_id run
path_run namespace_of ss fs ts r q e run =
    came (path_wanted ss fs) (behind_path ss fs namespace_of) q (sign IdNamespace) (terminal (codes "id|namespace")) ts r e refl
    at_namespace run
path_run name_of ss fs ts r q e run =
    came (path_wanted ss fs) (behind_path ss fs name_of) q (sign IdName) (terminal (codes "id|name")) ts r e refl at_name run
path_run member_of ss fs ts r q e run =
    came (path_wanted ss fs) (behind_path ss fs member_of) q (sign IdMember) (terminal (codes "id|member")) ts r e refl at_member run
path_run (trait_of u ks) ss fs ts r q (w, behind, e, means, keys) run =
    came (path_wanted ss fs) (trait_wanted ss fs) q (sign TraitBar) (terminal (codes "trait|")) ts (word w ∷ behind) e refl at_trait
    (came (trait_wanted ss fs) (behind_path ss fs (trait_of u [])) q (trait u) (word w) (word w ∷ behind) behind refl (w, refl, means)
    of_trait
    (keys_run ks [] u ss fs behind r q keys run))

value_run : (v : List ℕ) (done : List (List ℕ)) (path : Attribute) (op : SelectorOp) (ss : List Step) (fs : List Frame) (ts r : List Token)
    (q : Place) → SpellsValue v ts r
    → Runs (behind_value ss fs path op (done ++ v ∷ [])) r q
    → Runs (value_wanted ss fs path op done) ts q
value_run v done path op ss fs ts r q valued run = elim valued [
  | inl e ↦ came (value_wanted ss fs path op done) (behind_value ss fs path op (done ++ v ∷ [])) q (value v) (quoted v) ts r e (inl refl)
      of_value run
  | inr (inl e) ↦ came (value_wanted ss fs path op done) (behind_value ss fs path op (done ++ v ∷ [])) q (value v) (numeral v) ts r e (inr
      (inl refl)) of_value run
  | inr (inr (is, e)) ↦ came (value_wanted ss fs path op done) (behind_value ss fs path op (done ++ v ∷ [])) q (value v) (word v) ts r e
      (inr
      (inr (is, refl))) of_value run
]

more_values_run : (vs done : List (List ℕ)) (path : Attribute) (op : SelectorOp) (ss : List Step) (fs : List Frame) (ts r : List Token)
    (q : Place) → SpellsMoreValues vs ts r
    → Runs (behind_value ss fs path op (done ++ vs)) r q
    → Runs (behind_value ss fs path op done) ts q
more_values_run [] done path op ss fs ts r q e run =
    subst (λ x. Runs (behind_value ss fs path op x) ts q) (append-nil done)
    (subst (λ y. Runs (behind_value ss fs path op (done ++ [])) y q) (sym e) run)
more_values_run (v ∷ vs) done path op ss fs ts r q (here, behind, e, valued, values) run =
    came (behind_value ss fs path op done) (value_wanted ss fs path op done) q (sign Comma) (terminal (codes ",")) ts here e refl
    another_value
    (value_run v done path op ss fs here behind q valued
    (more_values_run vs (done ++ v ∷ []) path op ss fs behind r q values
    (subst (λ x. Runs (behind_value ss fs path op x) r q) (sym (append_assoc done (v ∷ []) vs)) run)))

values_run : (vs : List (List ℕ)) (path : Attribute) (op : SelectorOp) (ss : List Step) (fs : List Frame) (ts r : List Token) (q : Place)
    → SpellsValues vs ts r
    → Runs (behind_value ss fs path op vs) r q
    → Runs (value_wanted ss fs path op []) ts q
values_run [] path op ss fs ts r q none run = absurd none
values_run (v ∷ vs) path op ss fs ts r q (behind, valued, values) run =
    value_run v [] path op ss fs ts behind q valued (more_values_run vs (v ∷ []) path op ss fs behind r q values run)

fold_run : (fold : Bool) (path : Attribute) (op : SelectorOp) (vs : List (List ℕ)) (ss : List Step) (fs : List Frame) (ts r : List Token)
    (q : Place) → SpellsFold fold ts (terminal (codes "]") ∷ r)
    → Runs (stepping (ss ++ compares path op vs fold ∷ []) fs) r q
    → Runs (behind_value ss fs path op vs) ts q
fold_run true path op vs ss fs ts r q e run =
    came (behind_value ss fs path op vs) (behind_fold ss fs path op vs) q fold_word (word (codes "i")) ts (terminal (codes "]") ∷ r) e
    refl folds
    (came (behind_fold ss fs path op vs) (stepping (ss ++ compares path op vs true ∷ []) fs) q (sign ClosePath) (terminal (codes "]"))
    (terminal (codes "]") ∷ r) r refl refl compared_folded run)
fold_run false path op vs ss fs ts r q e run =
    came (behind_value ss fs path op vs) (stepping (ss ++ compares path op vs false ∷ []) fs) q (sign ClosePath) (terminal (codes "]"))
    ts r e
    refl compared run

name_run : (n : Relation) (done : List Relation) (ss : List Step) (fs : List Frame) (ts r : List Token) (q : Place)
    → ts ≡ word (relation_name n) ∷ r
    → Runs (behind_name ss fs (done ++ n ∷ [])) r q
    → Runs (name_wanted ss fs done) ts q
name_run n done ss fs ts r q e run =
    came (name_wanted ss fs done) (behind_name ss fs (done ++ n ∷ [])) q (relation n) (word (relation_name n)) ts r e refl of_name run

more_names_run : (ns done : List Relation) (ss : List Step) (fs : List Frame) (ts r : List Token) (q : Place) → SpellsMoreNames ns ts r
    → Runs (stepping (ss ++ along (done ++ ns) ∷ []) fs) r q
    → Runs (behind_name ss fs done) ts q
more_names_run [] done ss fs ts r q e run =
    came (behind_name ss fs done) (stepping (ss ++ along done ∷ []) fs) q (sign CloseNames) (terminal (codes "]->")) ts r e refl
    closes_names
    (subst (λ x. Runs (stepping (ss ++ along x ∷ []) fs) r q) (append-nil done) run)
more_names_run (n ∷ ns) done ss fs ts r q (behind, e, names) run =
    came (behind_name ss fs done) (name_wanted ss fs done) q (sign Comma) (terminal (codes ",")) ts (word (relation_name n) ∷ behind) e refl
    another_name
    (name_run n done ss fs (word (relation_name n) ∷ behind) behind q refl
    (more_names_run ns (done ++ n ∷ []) ss fs behind r q names
    (subst (λ x. Runs (stepping (ss ++ along x ∷ []) fs) r q) (sym (append_assoc done (n ∷ []) ns)) run)))

names_run : (ns : List Relation) (ss : List Step) (fs : List Frame) (ts r : List Token) (q : Place) → SpellsNames ns ts r
    → Runs (stepping (ss ++ along ns ∷ []) fs) r q
    → Runs (name_wanted ss fs []) ts q
names_run [] ss fs ts r q none run = absurd none
names_run (n ∷ ns) ss fs ts r q (behind, e, names) run =
    name_run n [] ss fs ts behind q e (more_names_run ns (n ∷ []) ss fs behind r q names run)

-- what is spelled has a step
some_step : (steps : Steps) (ts r : List Token) → SpellsSteps steps ts r → (s : Step) × (ss : List Step) × (step_list steps ≡ s ∷ ss)
some_step no_steps ts r none = absurd none
some_step (then s ss) ts r spelled = (s, step_list ss, refl)

-- the form that holds one selector is closed
closed_not : (steps : Steps) (some : (s : Step) × (ss : List Step) × (step_list steps ≡ s ∷ ss)) (outer : List Step) (fs : List Frame)
    (r : List Token)
    (q : Place) → Runs (stepping (outer ++ picks_none steps ∷ []) fs) r q
    → Runs (stepping (step_list steps) (frame Not outer [] ∷ fs)) (terminal (codes ")") ∷ r) q
closed_not steps (s, ss, e) outer fs r q run =
    subst (λ x. Runs (stepping x (frame Not outer [] ∷ fs)) (terminal (codes ")") ∷ r) q) (sym e)
    (came (stepping (s ∷ ss) (frame Not outer [] ∷ fs)) (stepping (outer ++ picks_none (steps_of (s ∷ ss)) ∷ []) fs) q (sign Close)
    (terminal (codes ")")) (terminal (codes ")") ∷ r) r refl refl closes
    (subst (λ x. Runs (stepping (outer ++ picks_none x ∷ []) fs) r q) (sym (steps_back steps) ∙ ap steps_of e) run))

mutual
  step_run : (step : Step) (ss : List Step) (fs : List Frame) (ts r : List Token) (q : Place) → SpellsStep step ts r
      → Runs (stepping (ss ++ step ∷ []) fs) r q
      → Runs (stepping ss fs) ts q
  step_run any_shape ss fs ts r q e run =
      came (stepping ss fs) (stepping (ss ++ any_shape ∷ []) fs) q (sign Star) (terminal (codes "*")) ts r e refl star run
  step_run (of_kind k) ss fs ts r q e run =
      came (stepping ss fs) (stepping (ss ++ of_kind k ∷ []) fs) q (kind k) (word (type_word k)) ts r e refl a_kind run
  step_run (has path) ss fs ts r q (here, e, spelled) run =
      came (stepping ss fs) (path_wanted ss fs) q (sign OpenPath) (terminal (codes "[")) ts here e refl opens_path
      (path_run path ss fs here (terminal (codes "]") ∷ r) q spelled
      (came (behind_path ss fs path) (stepping (ss ++ has path ∷ []) fs) q (sign ClosePath) (terminal (codes "]"))
      (terminal (codes "]") ∷ r) r refl refl had run))
  step_run (compares path op vs fold) ss fs ts r q c run =
      came (stepping ss fs) (path_wanted ss fs) q (sign OpenPath) (terminal (codes "[")) ts c.opened c.opens refl opens_path
      (path_run path ss fs c.opened (terminal (op_sign op) ∷ c.compared) q c.of_path
      (came (behind_path ss fs path) (value_wanted ss fs path op []) q (sign (Op op)) (terminal (op_sign op))
      (terminal (op_sign op) ∷ c.compared) c.compared refl refl stands_to
      (values_run vs path op ss fs c.compared c.valued q c.with_values (fold_run fold path op vs ss fs c.valued r q c.folded run))))
  step_run forward ss fs ts r q e run =
      came (stepping ss fs) (stepping (ss ++ forward ∷ []) fs) q (sign Greater) (terminal (codes ">")) ts r e refl greater run
  step_run back ss fs ts r q e run =
      came (stepping ss fs) (stepping (ss ++ back ∷ []) fs) q (sign Smaller) (terminal (codes "<")) ts r e refl smaller run
  step_run walk ss fs ts r q e run =
      came (stepping ss fs) (stepping (ss ++ walk ∷ []) fs) q (sign Tilde) (terminal (codes "~>")) ts r e refl tilde run
  step_run (along names) ss fs ts r q (here, e, named) run =
      came (stepping ss fs) (name_wanted ss fs []) q (sign OpenNames) (terminal (codes "-[")) ts here e refl opens_names
      (names_run names ss fs here r q named run)
  step_run (picked_by a) ss fs ts r q (here, e, listed) run =
      came (stepping ss fs) (stepping [] (frame Is ss [] ∷ fs)) q (sign OpenIs) (terminal (codes ":is(")) ts here e refl opens_is
      (list_run a Is ss [] fs here r q tt listed
      (subst (λ x. Runs (stepping (ss ++ picked_by x ∷ []) fs) r q) (sym (selectors_back a)) run))
  step_run (picks_none steps) ss fs ts r q (here, e, spelled) run =
      came (stepping ss fs) (stepping [] (frame Not ss [] ∷ fs)) q (sign OpenNot) (terminal (codes ":not(")) ts here e refl opens_not
      (steps_run steps [] (frame Not ss [] ∷ fs) here (terminal (codes ")") ∷ r) q spelled
      (closed_not steps (some_step steps here (terminal (codes ")") ∷ r) spelled) ss fs r q run))
  step_run (picks_some a) ss fs ts r q (here, e, listed) run =
      came (stepping ss fs) (stepping [] (frame Test ss [] ∷ fs)) q (sign OpenTest) (terminal (codes ":test(")) ts here e refl opens_test
      (list_run a Test ss [] fs here r q tt listed
      (subst (λ x. Runs (stepping (ss ++ picks_some x ∷ []) fs) r q) (sym (selectors_back a)) run))

  steps_run : (steps : Steps) (ss : List Step) (fs : List Frame) (ts r : List Token) (q : Place) → SpellsSteps steps ts r
      → Runs (stepping (ss ++ step_list steps) fs) r q
      → Runs (stepping ss fs) ts q
  steps_run no_steps ss fs ts r q none run = absurd none
  steps_run (then step on) ss fs ts r q (behind, spelled, more) run =
      step_run step ss fs ts behind q spelled
      (more_run on (ss ++ step ∷ []) fs behind r q more
      (subst (λ x. Runs (stepping x fs) r q) (sym (append_assoc ss (step ∷ []) (step_list on))) run))

  more_run : (steps : Steps) (ss : List Step) (fs : List Frame) (ts r : List Token) (q : Place) → SpellsMoreSteps steps ts r
      → Runs (stepping (ss ++ step_list steps) fs) r q
      → Runs (stepping ss fs) ts q
  more_run no_steps ss fs ts r q e run =
      subst (λ x. Runs (stepping x fs) ts q) (append-nil ss) (subst (λ y. Runs (stepping (ss ++ []) fs) y q) (sym e) run)
  more_run (then step on) ss fs ts r q (behind, spelled, more) run =
      step_run step ss fs ts behind q spelled
      (more_run on (ss ++ step ∷ []) fs behind r q more
      (subst (λ x. Runs (stepping x fs) r q) (sym (append_assoc ss (step ∷ []) (step_list on))) run))

  list_run : (a : Alternatives) (form : SelectorForm) (outer : List Step) (done : List (List Step)) (fs : List Frame) (ts r : List Token) (q :
      Place)
      → IsListed form
      → SpellsList a ts r
      → Runs (stepping (outer ++ held form (done ++ selector_list a) ∷ []) fs) r q
      → Runs (stepping [] (frame form outer done ∷ fs)) ts q
  list_run no_selectors form outer done fs ts r q several none run = absurd none
  list_run (or_by steps a) form outer done fs ts r q several (behind, spelled, more) run =
      let some : (s : Step) × (ss : List Step) × (step_list steps ≡ s ∷ ss) = some_step steps ts behind spelled in
      steps_run steps [] (frame form outer done ∷ fs) ts behind q spelled
      (subst (λ x. Runs (stepping x (frame form outer done ∷ fs)) behind q) (sym some.2)
      (more_list_run a some.0 some.1 form outer done fs behind r q several more
      (subst (λ x. Runs (stepping (outer ++ held form (done ++ x ∷ selector_list a) ∷ []) fs) r q) some.2 run)))

  more_list_run : (a : Alternatives) (s : Step) (ss : List Step) (form : SelectorForm) (outer : List Step) (done : List (List Step)) (fs : List
      Frame)
      (ts r : List Token)
      (q : Place) → IsListed form
      → SpellsMoreList a ts r
      → Runs (stepping (outer ++ held form (done ++ (s ∷ ss) ∷ selector_list a) ∷ []) fs) r q
      → Runs (stepping (s ∷ ss) (frame form outer done ∷ fs)) ts q
  more_list_run no_selectors s ss form outer done fs ts r q several e run =
      came (stepping (s ∷ ss) (frame form outer done ∷ fs)) (stepping (outer ++ held form (done ++ (s ∷ ss) ∷ []) ∷ []) fs) q (sign Close)
      (terminal (codes ")")) ts r e refl closes run
  more_list_run (or_by steps a) s ss form outer done fs ts r q several (here, behind, e, spelled, more) run =
      let some : (s' : Step) × (ss' : List Step) × (step_list steps ≡ s' ∷ ss') = some_step steps here behind spelled in
      let all : List (List Step) = done ++ (s ∷ ss) ∷ [] in
      came (stepping (s ∷ ss) (frame form outer done ∷ fs)) (stepping [] (frame form outer all ∷ fs)) q (sign Comma) (terminal (codes
      ",")) ts here e
      refl (another several)
      (steps_run steps [] (frame form outer all ∷ fs) here behind q spelled
      (subst (λ x. Runs (stepping x (frame form outer all ∷ fs)) behind q) (sym some.2)
      (more_list_run a some.0 some.1 form outer all fs behind r q several more
      (subst (λ x. Runs (stepping (outer ++ held form x ∷ []) fs) r q) (sym (append_assoc done ((s ∷ ss) ∷ []) (((some.0) ∷ (some.1)) ∷
      selector_list a)))
      (subst (λ x. Runs (stepping (outer ++ held form (done ++ (s ∷ ss) ∷ x ∷ selector_list a) ∷ []) fs) r q) some.2 run)))))

spelled_whole : (steps : Steps) (some : (s : Step) × (ss : List Step) × (step_list steps ≡ s ∷ ss)) → IsWhole (stepping (step_list steps)
    []) steps
spelled_whole steps (s, ss, e) =
    subst (λ x. IsWhole (stepping x []) steps) (sym e) (sym (steps_back steps) ∙ ap steps_of e)

pub spelled_runs : (steps : Steps) (ts : List Token) → SpellsSteps steps ts []
    → (q : Place) × Runs (stepping [] []) ts q × IsWhole q steps
spelled_runs steps ts spelled = (
  stepping (step_list steps) [],
  steps_run steps [] [] ts [] (stepping (step_list steps) []) spelled refl,
  spelled_whole steps (some_step steps ts [] spelled),
)
