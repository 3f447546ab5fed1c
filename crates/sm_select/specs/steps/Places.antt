-- Where a reader of selectors stands between two tokens, and to which place a token leads from there. A place holds what was read: the
-- steps of the selector that is open, the forms that hold it, and the parts of a step that is open.
use Rattle.std.specs.Prelude.{◌≡◌, ◌⊎◌, ℕ, true, false, List, [], ◌∷◌, ◌++◌, map, Option, codes}
use Rattle.sm_ids.specs.Identifier.{IsIdentifier}
use Rattle.sm_ids.specs.IdText.{IsIdText}
use Rattle.sm_model.specs.Relations.{relation_name}
use Rattle.sm_model.specs.declared.kind.Kind.{Kind}
use Rattle.sm_model.specs.declared.relation.Relation.{Relation}
use Rattle.sm_select.specs.declared.selector.SelectorOp.{SelectorOp}
use Rattle.sm_select.specs.declared.tokens.SelectorForm.{SelectorForm}
use Rattle.sm_select.specs.declared.tokens.SelectorForm.TheVariants.{Is, Not, Test}
use Rattle.sm_select.specs.declared.tokens.Sign.{Sign}
use Rattle.sm_select.specs.declared.tokens.Sign.TheVariants.{Star, Greater, Smaller, Tilde, OpenNames, CloseNames, OpenPath, ClosePath}
use Rattle.sm_select.specs.declared.tokens.Sign.TheVariants.{OpenIs, OpenNot, OpenTest, Close, Comma, Bar, IdNamespace, IdName, IdMember}
use Rattle.sm_select.specs.declared.tokens.Sign.TheVariants.{TraitBar, Op}
use Rattle.sm_select.specs.Selectors.{Attribute, id_of, namespace_of, name_of, member_of, trait_of}
use Rattle.sm_select.specs.Selectors.{Step, any_shape, of_kind, has, compares, forward, back, walk, along, picked_by, picks_none}
use Rattle.sm_select.specs.Selectors.{picks_some}
use Rattle.sm_select.specs.Selectors.{Steps, no_steps, steps_of, alternatives_of}
use Rattle.sm_select.specs.Tokens.{Token, terminal, word, quoted, numeral}
use Rattle.sm_select.specs.Grammar.{MeansTrait, type_word}
use Rattle.sm_select.specs.steps.Signs.{sign_text}

-- what a token is read as
pub data Piece : Type 0 where
  sign : Sign → Piece
  kind : Option Kind → Piece
  id_word : Piece
  fold_word : Piece
  relation : Relation → Piece
  trait : List ℕ → Piece
  key : List ℕ → Piece
  value : List ℕ → Piece

-- the token may be read so
abbrev pub ReadAs : Piece → Token → Type 0
ReadAs (sign s) t = t ≡ terminal (sign_text s)
ReadAs (kind k) t = t ≡ word (type_word k)
ReadAs id_word t = t ≡ word (codes "id")
ReadAs fold_word t = t ≡ word (codes "i")
ReadAs (relation r) t = t ≡ word (relation_name r)
ReadAs (trait u) t = (w : List ℕ) × (t ≡ word w) × MeansTrait w u
ReadAs (key k) t = (IsIdentifier k × (t ≡ word k)) ⊎ (t ≡ quoted k)
ReadAs (value v) t = (t ≡ quoted v) ⊎ ((t ≡ numeral v) ⊎ (IsIdText v × (t ≡ word v)))

-- a form that is open: the steps before it, and the selectors in it that are whole
pub data Frame : Type 0 where
  frame : SelectorForm → List Step → List (List Step) → Frame

-- the step that a form is with these selectors
abbrev pub held : SelectorForm → List (List Step) → Step
held Is selectors = picked_by (alternatives_of (map steps_of selectors))
held Not [] = picks_none no_steps
held Not (only ∷ more) = picks_none (steps_of only)
held Test selectors = picks_some (alternatives_of (map steps_of selectors))

-- the form may hold several selectors
abbrev pub IsListed : SelectorForm → Type 0
IsListed Is = Unit {0}
IsListed Not = ⊥
IsListed Test = Unit {0}

pub data Place : Type 0 where
  stepping : List Step → List Frame → Place
  path_wanted : List Step → List Frame → Place
  trait_wanted : List Step → List Frame → Place
  key_wanted : List Step → List Frame → List ℕ → List (List ℕ) → Place
  behind_path : List Step → List Frame → Attribute → Place
  value_wanted : List Step → List Frame → Attribute → SelectorOp → List (List ℕ) → Place
  behind_value : List Step → List Frame → Attribute → SelectorOp → List (List ℕ) → Place
  behind_fold : List Step → List Frame → Attribute → SelectorOp → List (List ℕ) → Place
  name_wanted : List Step → List Frame → List Relation → Place
  behind_name : List Step → List Frame → List Relation → Place

-- the token leads from place to place
pub data Moves : Place → Piece → Place → Type 0 where
  star : {ss : List Step} {fs : List Frame} → Moves (stepping ss fs) (sign Star) (stepping (ss ++ any_shape ∷ []) fs)
  a_kind : {ss : List Step} {fs : List Frame} {k : Option Kind} → Moves (stepping ss fs) (kind k) (stepping (ss ++ of_kind k ∷ []) fs)
  greater : {ss : List Step} {fs : List Frame} → Moves (stepping ss fs) (sign Greater) (stepping (ss ++ forward ∷ []) fs)
  smaller : {ss : List Step} {fs : List Frame} → Moves (stepping ss fs) (sign Smaller) (stepping (ss ++ back ∷ []) fs)
  tilde : {ss : List Step} {fs : List Frame} → Moves (stepping ss fs) (sign Tilde) (stepping (ss ++ walk ∷ []) fs)
  opens_path : {ss : List Step} {fs : List Frame} → Moves (stepping ss fs) (sign OpenPath) (path_wanted ss fs)
  opens_names : {ss : List Step} {fs : List Frame} → Moves (stepping ss fs) (sign OpenNames) (name_wanted ss fs [])
  opens_is : {ss : List Step} {fs : List Frame} → Moves (stepping ss fs) (sign OpenIs) (stepping [] (frame Is ss [] ∷ fs))
  opens_not : {ss : List Step} {fs : List Frame} → Moves (stepping ss fs) (sign OpenNot) (stepping [] (frame Not ss [] ∷ fs))
  opens_test : {ss : List Step} {fs : List Frame} → Moves (stepping ss fs) (sign OpenTest) (stepping [] (frame Test ss [] ∷ fs))
  closes : {s : Step} {ss : List Step} {form : SelectorForm} {outer : List Step} {done : List (List Step)} {fs : List Frame}
      → Moves (stepping (s ∷ ss) (frame form outer done ∷ fs)) (sign Close)
      (stepping (outer ++ held form (done ++ (s ∷ ss) ∷ []) ∷ []) fs)
  another : {s : Step} {ss : List Step} {form : SelectorForm} {outer : List Step} {done : List (List Step)} {fs : List Frame} → IsListed form
      → Moves (stepping (s ∷ ss) (frame form outer done ∷ fs)) (sign Comma) (stepping [] (frame form outer (done ++ (s ∷ ss) ∷ []) ∷ fs))
  at_id : {ss : List Step} {fs : List Frame} → Moves (path_wanted ss fs) id_word (behind_path ss fs id_of)
  at_namespace : {ss : List Step} {fs : List Frame} → Moves (path_wanted ss fs) (sign IdNamespace) (behind_path ss fs namespace_of)
  at_name : {ss : List Step} {fs : List Frame} → Moves (path_wanted ss fs) (sign IdName) (behind_path ss fs name_of)
  at_member : {ss : List Step} {fs : List Frame} → Moves (path_wanted ss fs) (sign IdMember) (behind_path ss fs member_of)
  at_trait : {ss : List Step} {fs : List Frame} → Moves (path_wanted ss fs) (sign TraitBar) (trait_wanted ss fs)
  of_trait : {ss : List Step} {fs : List Frame} {u : List ℕ} → Moves (trait_wanted ss fs) (trait u) (behind_path ss fs (trait_of u []))
  bar : {ss : List Step} {fs : List Frame} {u : List ℕ} {ks : List (List ℕ)}
      → Moves (behind_path ss fs (trait_of u ks)) (sign Bar) (key_wanted ss fs u ks)
  of_key : {ss : List Step} {fs : List Frame} {u : List ℕ} {ks : List (List ℕ)} {k : List ℕ}
      → Moves (key_wanted ss fs u ks) (key k) (behind_path ss fs (trait_of u (ks ++ k ∷ [])))
  had : {ss : List Step} {fs : List Frame} {path : Attribute} → Moves (behind_path ss fs path) (sign ClosePath) (stepping (ss ++ has path
      ∷ []) fs)
  stands_to : {ss : List Step} {fs : List Frame} {path : Attribute} {op : SelectorOp}
      → Moves (behind_path ss fs path) (sign (Op op)) (value_wanted ss fs path op [])
  of_value : {ss : List Step} {fs : List Frame} {path : Attribute} {op : SelectorOp} {vs : List (List ℕ)} {v : List ℕ}
      → Moves (value_wanted ss fs path op vs) (value v) (behind_value ss fs path op (vs ++ v ∷ []))
  another_value : {ss : List Step} {fs : List Frame} {path : Attribute} {op : SelectorOp} {vs : List (List ℕ)}
      → Moves (behind_value ss fs path op vs) (sign Comma) (value_wanted ss fs path op vs)
  folds : {ss : List Step} {fs : List Frame} {path : Attribute} {op : SelectorOp} {vs : List (List ℕ)}
      → Moves (behind_value ss fs path op vs) fold_word (behind_fold ss fs path op vs)
  compared : {ss : List Step} {fs : List Frame} {path : Attribute} {op : SelectorOp} {vs : List (List ℕ)}
      → Moves (behind_value ss fs path op vs) (sign ClosePath) (stepping (ss ++ compares path op vs false ∷ []) fs)
  compared_folded : {ss : List Step} {fs : List Frame} {path : Attribute} {op : SelectorOp} {vs : List (List ℕ)}
      → Moves (behind_fold ss fs path op vs) (sign ClosePath) (stepping (ss ++ compares path op vs true ∷ []) fs)
  of_name : {ss : List Step} {fs : List Frame} {ns : List Relation} {r : Relation}
      → Moves (name_wanted ss fs ns) (relation r) (behind_name ss fs (ns ++ r ∷ []))
  another_name : {ss : List Step} {fs : List Frame} {ns : List Relation} → Moves (behind_name ss fs ns) (sign Comma) (name_wanted ss fs ns)
  closes_names : {ss : List Step} {fs : List Frame} {ns : List Relation}
      → Moves (behind_name ss fs ns) (sign CloseNames) (stepping (ss ++ along ns ∷ []) fs)

pub record Leads (p : Place) (t : Token) (q : Place) : Type 0 where
  pub piece : Piece
  pub read : ReadAs piece t
  pub moves : Moves p piece q

abbrev pub Runs : Place → List Token → Place → Type 0
Runs p [] q = p ≡ q
Runs p (t ∷ ts) q = (next : Place) × Leads p t next × Runs next ts q

-- a selector begins here
abbrev pub start : Place
start = stepping [] []

-- and is whole here
abbrev pub IsWhole : Place → Steps → Type 0
IsWhole (stepping (s ∷ ss) []) steps = steps ≡ steps_of (s ∷ ss)
IsWhole p steps = ⊥

-- a step may come
abbrev pub IsStepping : Place → Type 0
IsStepping (stepping ss fs) = Unit {0}
IsStepping p = ⊥
