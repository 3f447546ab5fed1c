-- A token leads from a place to one place at most.
use Rattle.std.proofs.Common.{◌≡◌, inl, inr, ℕ, Option, List, [], ◌∷◌, ◌++◌, refl, sym, ap, ◌∙◌, subst, codes}
use Rattle.sm_model.specs.declared.kind.Kind.{Kind}
use Rattle.sm_model.specs.declared.relation.Relation.{Relation}
use Rattle.sm_select.specs.declared.tokens.Sign.{Sign}
use Rattle.sm_select.specs.Tokens.{Token, terminal, word, quoted, numeral}
use Rattle.sm_select.specs.Grammar.{MeansTrait, type_word}
use Rattle.sm_select.specs.steps.Signs.{sign_text}
use Rattle.sm_select.specs.steps.Places.{Piece, sign, kind, id_word, fold_word, relation, trait, key, value, ReadAs}
use Rattle.sm_select.specs.steps.Places.{Place, stepping, path_wanted, trait_wanted, key_wanted}
use Rattle.sm_select.specs.steps.Places.{behind_path, value_wanted, behind_value, behind_fold, name_wanted, behind_name, Moves, star}
use Rattle.sm_select.specs.steps.Places.{a_kind}
use Rattle.sm_select.specs.steps.Places.{greater, smaller, tilde, opens_path, opens_names, opens_is, opens_not, opens_test, closes, another}
use Rattle.sm_select.specs.steps.Places.{at_id, at_namespace, at_name, at_member, at_trait, of_trait, bar, of_key, had, stands_to, of_value}
use Rattle.sm_select.specs.steps.Places.{another_value, folds, compared, compared_folded, of_name, another_name, closes_names, Leads, Runs}
use Rattle.sm_select.proofs.WordBytes.{id_or_identifier}
use Rattle.sm_select.proofs.OneName.{one_type, one_relation, one_sign}

-- what is wanted at a place
pub data Want : Type 0 where
  a_step : Want
  a_path : Want
  a_trait : Want
  a_key : Want
  a_sign : Want
  a_value : Want
  a_sign_or_fold : Want
  a_name : Want
  a_name_end : Want

abbrev pub wanted : Place → Want
wanted (stepping ss fs) = a_step
wanted (path_wanted ss fs) = a_path
wanted (trait_wanted ss fs) = a_trait
wanted (key_wanted ss fs u ks) = a_key
wanted (behind_path ss fs path) = a_sign
wanted (value_wanted ss fs path op vs) = a_value
wanted (behind_value ss fs path op vs) = a_sign_or_fold
wanted (behind_fold ss fs path op vs) = a_sign
wanted (name_wanted ss fs ns) = a_name
wanted (behind_name ss fs ns) = a_name_end

pub data Fits : Want → Piece → Type 0 where
  step_sign : {s : Sign} → Fits a_step (sign s)
  step_kind : {k : Option Kind} → Fits a_step (kind k)
  path_sign : {s : Sign} → Fits a_path (sign s)
  path_id : Fits a_path id_word
  a_trait_id : {u : List ℕ} → Fits a_trait (trait u)
  key_text : {k : List ℕ} → Fits a_key (key k)
  only_sign : {s : Sign} → Fits a_sign (sign s)
  value_text : {v : List ℕ} → Fits a_value (value v)
  fold_sign : {s : Sign} → Fits a_sign_or_fold (sign s)
  the_fold : Fits a_sign_or_fold fold_word
  a_relation : {r : Relation} → Fits a_name (relation r)
  end_sign : {s : Sign} → Fits a_name_end (sign s)

pub fits : {p q : Place} {x : Piece} → Moves p x q → Fits (wanted p) x
fits star = step_sign
fits a_kind = step_kind
fits greater = step_sign
fits smaller = step_sign
fits tilde = step_sign
fits opens_path = step_sign
fits opens_names = step_sign
fits opens_is = step_sign
fits opens_not = step_sign
fits opens_test = step_sign
fits closes = step_sign
fits (another several) = step_sign
fits at_id = path_id
fits at_namespace = path_sign
fits at_name = path_sign
fits at_member = path_sign
fits at_trait = path_sign
fits of_trait = a_trait_id
fits bar = only_sign
fits of_key = key_text
fits had = only_sign
fits stands_to = only_sign
fits of_value = value_text
fits another_value = fold_sign
fits folds = the_fold
fits compared = fold_sign
fits compared_folded = only_sign
fits of_name = a_relation
fits another_name = end_sign
fits closes_names = end_sign

-- the text of a token
abbrev pub text_in : Token → List ℕ
text_in (terminal t) = t
text_in (word t) = t
text_in (quoted t) = t
text_in (numeral t) = t

abbrev IsWord : Token → Type 0
IsWord (terminal t) = ⊥
IsWord (word t) = Unit {0}
IsWord (quoted t) = ⊥
IsWord (numeral t) = ⊥

pub no_word : (a b : List ℕ) (t : Token) → t ≡ terminal a → t ≡ word b → ⊥
no_word a b t e f = subst IsWord (sym f ∙ e) tt

signs_same : (a b : Sign) (t : Token) → t ≡ terminal (sign_text a) → t ≡ terminal (sign_text b) → sign a ≡ sign b
signs_same a b t e f = ap sign (one_sign a b (ap text_in (sym e ∙ f)))

-- a word means one trait: an id has a `#`, and an identifier has none
one_trait : (w u v : List ℕ) → MeansTrait w u → MeansTrait w v → u ≡ v
one_trait w u v (inl (is, e)) (inl (is', f)) = e ∙ sym f
one_trait w u v (inl (is, e)) (inr (no_id, f)) = absurd (id_or_identifier w is no_id)
one_trait w u v (inr (no_id, e)) (inl (is, f)) = absurd (id_or_identifier w is no_id)
one_trait w u v (inr (no_id, e)) (inr (other, f)) = e ∙ sym f

key_in : (k : List ℕ) (t : Token) → ReadAs (key k) t → text_in t ≡ k
key_in k t (inl (is, e)) = ap text_in e
key_in k t (inr e) = ap text_in e

value_in : (v : List ℕ) (t : Token) → ReadAs (value v) t → text_in t ≡ v
value_in v t (inl e) = ap text_in e
value_in v t (inr (inl e)) = ap text_in e
value_in v t (inr (inr (is, e))) = ap text_in e

pub one_piece : {w : Want} {x y : Piece} → Fits w x → Fits w y → (t : Token) → ReadAs x t → ReadAs y t → x ≡ y
one_piece (step_sign {s = a}) (step_sign {s = b}) t e f = signs_same a b t e f
one_piece (step_sign {s = a}) (step_kind {k = k}) t e f = absurd (no_word (sign_text a) (type_word k) t e f)
one_piece (step_kind {k = k}) (step_sign {s = b}) t e f = absurd (no_word (sign_text b) (type_word k) t f e)
one_piece (step_kind {k = j}) (step_kind {k = k}) t e f = ap kind (one_type j k (ap text_in (sym e ∙ f)))
one_piece (path_sign {s = a}) (path_sign {s = b}) t e f = signs_same a b t e f
one_piece (path_sign {s = a}) path_id t e f = absurd (no_word (sign_text a) (codes "id") t e f)
one_piece path_id (path_sign {s = b}) t e f = absurd (no_word (sign_text b) (codes "id") t f e)
one_piece path_id path_id t e f = refl
one_piece (a_trait_id {u = u}) (a_trait_id {u = v}) t (w, e, means) (w', f, means') =
    ap trait (one_trait w u v means (subst (λ x. MeansTrait x v) (ap text_in (sym f ∙ e)) means'))
one_piece (key_text {k = j}) (key_text {k = k}) t e f = ap key (sym (key_in j t e) ∙ key_in k t f)
one_piece (only_sign {s = a}) (only_sign {s = b}) t e f = signs_same a b t e f
one_piece (end_sign {s = a}) (end_sign {s = b}) t e f = signs_same a b t e f
one_piece (value_text {v = u}) (value_text {v = v}) t e f = ap value (sym (value_in u t e) ∙ value_in v t f)
one_piece (fold_sign {s = a}) (fold_sign {s = b}) t e f = signs_same a b t e f
one_piece (fold_sign {s = a}) the_fold t e f = absurd (no_word (sign_text a) (codes "i") t e f)
one_piece the_fold (fold_sign {s = b}) t e f = absurd (no_word (sign_text b) (codes "i") t f e)
one_piece the_fold the_fold t e f = refl
one_piece (a_relation {r = j}) (a_relation {r = k}) t e f = ap relation (one_relation j k (ap text_in (sym e ∙ f)))

-- the same piece leads to the same place
same_move : {p q r : Place} {x : Piece} → Moves p x q → Moves p x r → q ≡ r
same_move star star = refl
same_move a_kind a_kind = refl
same_move greater greater = refl
same_move smaller smaller = refl
same_move tilde tilde = refl
same_move opens_path opens_path = refl
same_move opens_names opens_names = refl
same_move opens_is opens_is = refl
same_move opens_not opens_not = refl
same_move opens_test opens_test = refl
same_move closes closes = refl
same_move (another a) (another b) = refl
same_move at_id at_id = refl
same_move at_namespace at_namespace = refl
same_move at_name at_name = refl
same_move at_member at_member = refl
same_move at_trait at_trait = refl
same_move of_trait of_trait = refl
same_move bar bar = refl
same_move of_key of_key = refl
same_move had had = refl
same_move stands_to stands_to = refl
same_move of_value of_value = refl
same_move another_value another_value = refl
same_move folds folds = refl
same_move compared compared = refl
same_move compared_folded compared_folded = refl
same_move of_name of_name = refl
same_move another_name another_name = refl
same_move closes_names closes_names = refl

pub one_move : (p q r : Place) (t : Token) → Leads p t q → Leads p t r → q ≡ r
one_move p q r t a b =
    same_move a.moves (subst (λ x. Moves p x r) (one_piece (fits b.moves) (fits a.moves) t b.read a.read) b.moves)

-- runs are one, and a run of more begins with that of less
pub one_run : (p q r : Place) (ts : List Token) → Runs p ts q → Runs p ts r → q ≡ r
one_run p q r [] a b = sym a ∙ b
one_run p q r (t ∷ ts) (n, lead, run) (m, other, goes) =
    one_run n q r ts run (subst (λ x. Runs x ts r) (one_move p m n t other lead) goes)

pub runs_cut : (p q : Place) (ts us : List Token) → Runs p (ts ++ us) q → (n : Place) × Runs p ts n × Runs n us q
runs_cut p q [] us run = (p, refl, run)
runs_cut p q (t ∷ ts) us (n, lead, run) = let rest = runs_cut n q ts us run in (rest.0, (n, lead, rest.1), rest.2)

pub runs_joined : (p n q : Place) (ts us : List Token) → Runs p ts n → Runs n us q → Runs p (ts ++ us) q
runs_joined p n q [] us e run = subst (λ x. Runs x us q) (sym e) run
runs_joined p n q (t ∷ ts) us (m, lead, run) goes = (m, lead, runs_joined m n q ts us run goes)

pub runs_behind : (p n q : Place) (ts us : List Token) → Runs p ts n → Runs p (ts ++ us) q → Runs n us q
runs_behind p n q ts us run all =
    let cut = runs_cut p q ts us all in subst (λ x. Runs x us q) (one_run p cut.0 n ts cut.1 run) cut.2
