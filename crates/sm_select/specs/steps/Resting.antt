-- Which tokens complete a selector from each place, and which selector.
use Rattle.std.specs.Prelude.{◌≡◌, ◌⊎◌, ℕ, Bool, true, List, [], ◌∷◌, ◌++◌, codes}
use Rattle.sm_model.specs.Relations.{relation_name}
use Rattle.sm_model.specs.declared.relation.Relation.{Relation}
use Rattle.sm_select.specs.declared.selector.SelectorOp.{SelectorOp}
use Rattle.sm_select.specs.Selectors.{Attribute, id_of, namespace_of, name_of, member_of, trait_of, Step, has, compares, along}
use Rattle.sm_select.specs.Selectors.{Steps, no_steps, then, Alternatives, no_selectors, or_by, steps_of}
use Rattle.sm_select.specs.Tokens.{Token, terminal, word}
use Rattle.sm_select.specs.Grammar.{MeansTrait, SpellsKey, SpellsKeys, SpellsPath, SpellsValue, SpellsMoreValues, SpellsValues, SpellsFold}
use Rattle.sm_select.specs.Grammar.{SpellsMoreNames, SpellsSteps, SpellsMoreSteps, SpellsMoreList, op_sign}
use Rattle.sm_select.specs.steps.Places.{Frame, frame, held, IsListed, Place, stepping, path_wanted, trait_wanted, key_wanted, behind_path}
use Rattle.sm_select.specs.steps.Places.{value_wanted, behind_value, behind_fold, name_wanted, behind_name}

-- steps and selectors as lists
abbrev pub step_list : Steps → List Step
step_list no_steps = []
step_list (then s ss) = s ∷ step_list ss

abbrev pub selector_list : Alternatives → List (List Step)
selector_list no_selectors = []
selector_list (or_by ss more) = step_list ss ∷ selector_list more

-- behind the last step of a selector all forms are closed that are open
abbrev pub Closing : List Frame → List Step → List Token → Steps → Type 0
Closing [] last ts steps = (ts ≡ []) × (steps ≡ steps_of last)
Closing (frame form outer done ∷ fs) last ts steps =
    (more : Alternatives) × (on : Steps) × (r b : List Token) × SpellsMoreList more ts r × ((more ≡ no_selectors) ⊎ IsListed form)
    × SpellsMoreSteps on r b
    × Closing fs (outer ++ held form (done ++ last ∷ selector_list more) ∷ step_list on) b steps

-- behind these steps the selector goes on or ends
abbrev pub Onward : List Step → List Frame → List Token → Steps → Type 0
Onward before fs ts steps = (on : Steps) × (r : List Token) × SpellsMoreSteps on ts r × Closing fs (before ++ step_list on) r steps

-- behind a path it ends, or is compared
abbrev pub Compared : List Step → List Frame → Attribute → List Token → Steps → Type 0
Compared ss fs path ts steps =
    ((r : List Token) × (ts ≡ terminal (codes "]") ∷ r) × Onward (ss ++ has path ∷ []) fs r steps)
    ⊎ ((op : SelectorOp) × (vs : List (List ℕ)) × (fold : Bool) × (here b r : List Token) × (ts ≡ terminal (op_sign op) ∷ here)
    × SpellsValues vs here b
    × SpellsFold fold b (terminal (codes "]") ∷ r)
    × Onward (ss ++ compares path op vs fold ∷ []) fs r steps)

abbrev pub Rest : Place → List Token → Steps → Type 0
Rest (stepping [] fs) ts steps = (on : Steps) × (r : List Token) × SpellsSteps on ts r × Closing fs (step_list on) r steps
Rest (stepping (s ∷ ss) fs) ts steps = Onward (s ∷ ss) fs ts steps
Rest (path_wanted ss fs) ts steps = (path : Attribute) × (b : List Token) × SpellsPath path ts b × Compared ss fs path b steps
Rest (trait_wanted ss fs) ts steps =
    (w u : List ℕ) × (ks : List (List ℕ)) × (here b : List Token) × (ts ≡ word w ∷ here) × MeansTrait w u × SpellsKeys ks here b
    × Compared ss fs (trait_of u ks) b steps
Rest (key_wanted ss fs u ks) ts steps =
    (k : List ℕ) × (more : List (List ℕ)) × (here b : List Token) × SpellsKey k ts here × SpellsKeys more here b
    × Compared ss fs (trait_of u (ks ++ k ∷ more)) b steps
Rest (behind_path ss fs id_of) ts steps = Compared ss fs id_of ts steps
Rest (behind_path ss fs namespace_of) ts steps = Compared ss fs namespace_of ts steps
Rest (behind_path ss fs name_of) ts steps = Compared ss fs name_of ts steps
Rest (behind_path ss fs member_of) ts steps = Compared ss fs member_of ts steps
Rest (behind_path ss fs (trait_of u ks)) ts steps =
    (more : List (List ℕ)) × (b : List Token) × SpellsKeys more ts b × Compared ss fs (trait_of u (ks ++ more)) b steps
Rest (value_wanted ss fs path op vs) ts steps =
    (v : List ℕ) × (more : List (List ℕ)) × (fold : Bool) × (here b r : List Token) × SpellsValue v ts here × SpellsMoreValues more here b
    × SpellsFold fold b (terminal (codes "]") ∷ r)
    × Onward (ss ++ compares path op (vs ++ v ∷ more) fold ∷ []) fs r steps
Rest (behind_value ss fs path op vs) ts steps =
    (more : List (List ℕ)) × (fold : Bool) × (b r : List Token) × SpellsMoreValues more ts b
    × SpellsFold fold b (terminal (codes "]") ∷ r)
    × Onward (ss ++ compares path op (vs ++ more) fold ∷ []) fs r steps
Rest (behind_fold ss fs path op vs) ts steps =
    (r : List Token) × (ts ≡ terminal (codes "]") ∷ r) × Onward (ss ++ compares path op vs true ∷ []) fs r steps
Rest (name_wanted ss fs ns) ts steps =
    (n : Relation) × (more : List Relation) × (here r : List Token) × (ts ≡ word (relation_name n) ∷ here) × SpellsMoreNames more here r
    × Onward (ss ++ along (ns ++ n ∷ more) ∷ []) fs r steps
Rest (behind_name ss fs ns) ts steps =
    (more : List Relation) × (r : List Token) × SpellsMoreNames more ts r × Onward (ss ++ along (ns ++ more) ∷ []) fs r steps
