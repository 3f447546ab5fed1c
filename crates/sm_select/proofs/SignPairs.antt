-- Signs and words at one place of a text: which sign leads on, what two tokens may be to each other, and behind which nothing leads on.
use Rattle.std.proofs.Common.{◌≡◌, ◌⊎◌, inl, inr, ℕ, ◌<◌, Bool, true, false, cond, ◌&&◌, ◌==◌, List, [], ◌∷◌, ◌++◌, length, drop, Option}
use Rattle.std.proofs.Common.{Some, None, refl, sym, ap, ◌∙◌, subst, codes, arith}
use Rattle.std.specs.Prelude.{not}
use Rattle.std.proofs.lemmas.Bool.Decides.{nat_tests}
use Rattle.sm_ids.specs.IdText.{member_text}
use Rattle.sm_ids.proofs.Cutting.{both, clash, heads}
use Rattle.sm_model.specs.Relations.{relation_name}
use Rattle.sm_select.specs.declared.selector.SelectorOp.{SelectorOp}
use Rattle.sm_select.specs.declared.selector.SelectorOp.TheVariants.{Equal, Unequal, Starts, Ends, Contains as holding}
use Rattle.sm_select.specs.declared.tokens.Sign.{Sign}
use Rattle.sm_select.specs.declared.tokens.Sign.TheVariants.{Star, Greater, Smaller, Tilde, OpenNames, CloseNames, OpenPath, ClosePath}
use Rattle.sm_select.specs.declared.tokens.Sign.TheVariants.{OpenIs, OpenNot, OpenTest, Close, Comma, Bar, IdNamespace, IdName, IdMember}
use Rattle.sm_select.specs.declared.tokens.Sign.TheVariants.{TraitBar, Op}
use Rattle.sm_select.specs.Selectors.{Step, Attribute, id_of}
use Rattle.sm_select.specs.Tokens.{Token, terminal, word, quoted, numeral, TokenThen, is_selector_white, begins_run, is_run_byte}
use Rattle.sm_select.specs.Grammar.{type_word}
use Rattle.sm_select.specs.steps.Signs.{sign_text, opens, goes_on_with_run, sign_ends, first_sign, step_signs, path_signs}
use Rattle.sm_select.specs.steps.Signs.{behind_path_signs}
use Rattle.sm_select.specs.steps.Signs.{behind_value_signs, behind_name_signs}
use Rattle.sm_select.specs.steps.Places.{Piece, sign, kind, id_word, fold_word, relation, trait, key, value, ReadAs, Frame}
use Rattle.sm_select.specs.steps.Places.{Place}
use Rattle.sm_select.specs.steps.Places.{behind_path, behind_value, Moves, star}
use Rattle.sm_select.specs.steps.Places.{greater, smaller, tilde, opens_path, opens_names, opens_is, opens_not, opens_test, closes, another}
use Rattle.sm_select.specs.steps.Places.{at_id, at_namespace, at_name, at_member, at_trait, bar, had, stands_to, of_value}
use Rattle.sm_select.specs.steps.Places.{another_value, folds, compared, compared_folded, another_name, closes_names}
use Rattle.sm_select.specs.steps.Standing.{StopsAt, IsDead}
use Rattle.sm_select.proofs.WordBytes.{WordThen, word_then, word_head, DollarBehind, TwoWords, same_word, first_cut, second_cut, two_words}
use Rattle.sm_select.proofs.NumberBytes.{is_number_byte, begins_number, number_head}
use Rattle.sm_select.proofs.SignTexts.{opens_joined, drop_joined, sign_spelled, sign_stands, false_of}
use Rattle.sm_select.proofs.OneMove.{Want, a_step, a_path, a_trait, a_key, a_sign, a_value, a_sign_or_fold, a_name, a_name_end, wanted}

abbrev pub signs_at : Want → List Sign
signs_at a_step = step_signs
signs_at a_path = path_signs
signs_at a_trait = []
signs_at a_key = []
signs_at a_sign = behind_path_signs
signs_at a_value = []
signs_at a_sign_or_fold = behind_value_signs
signs_at a_name = []
signs_at a_name_end = behind_name_signs

-- a sign that leads on is the first that stands
found_star : (e : Bool) (x : Option Sign) (a : Sign) → e ≡ true → cond e (Some a) x ≡ Some a
found_star true x a h = refl
found_star false x a h = absurd (let e : false ≡ true = h in cc)

no_space : (r : List ℕ) → not (goes_on_with_run r) ≡ true → opens (codes "space") r ≡ false
no_space [] h = refl
no_space (c ∷ r) h = false_of (opens (codes "space") (c ∷ r)) (λ e. by_first (both (115 == c) (opens (codes "pace") r) e).0)
  where
    by_first : (115 == c) ≡ true → ⊥
    by_first e = let g : is_run_byte c ≡ true = grind (arith, nat_tests) in
        clash (not (goes_on_with_run (c ∷ r))) h (ap not g)

pub moved_sign : {p q : Place} {a : Sign} → Moves p (sign a) q → (r : List ℕ) → sign_ends a r ≡ true
    → first_sign (signs_at (wanted p)) (sign_text a ++ r) ≡ Some a
moved_sign star r h = refl
moved_sign greater r h = refl
moved_sign smaller r h = found_star (not (opens (codes "-[") r)) (first_sign (Tilde ∷ OpenPath ∷ OpenNames ∷ OpenIs ∷ OpenNot ∷ OpenTest
    ∷ Close ∷ Comma ∷ []) (60 ∷ r)) Smaller h
moved_sign tilde r h = refl
moved_sign opens_path r h = found_star (not (opens (codes "@") r)) (first_sign (OpenNames ∷ OpenIs ∷ OpenNot ∷ OpenTest ∷ Close ∷ Comma ∷
    []) (91 ∷ r)) OpenPath h
moved_sign opens_names r h = refl
moved_sign opens_is r h = refl
moved_sign opens_not r h = refl
moved_sign opens_test r h = refl
moved_sign closes r h = refl
moved_sign (another several) r h = refl
moved_sign at_namespace r h = found_star (not (goes_on_with_run r)) (first_sign (IdMember ∷ TraitBar ∷ IdName ∷ []) (codes "id|namespace"
    ++ r)) IdNamespace h
moved_sign at_name r h =
    ap (λ b. cond (b && sign_ends IdNamespace (drop 12 (codes "id|name" ++ r))) (Some IdNamespace)
    (first_sign (IdMember ∷ TraitBar ∷ IdName ∷ []) (codes "id|name" ++ r))) (no_space r h)
    ∙ found_star (not (goes_on_with_run r)) None IdName h
moved_sign at_member r h = found_star (not (goes_on_with_run r)) (first_sign (TraitBar ∷ IdName ∷ []) (codes "id|member" ++ r)) IdMember h
moved_sign at_trait r h = refl
moved_sign bar r h = refl
moved_sign had r h = refl
moved_sign (stands_to {op = Equal}) r h = refl
moved_sign (stands_to {op = Unequal}) r h = refl
moved_sign (stands_to {op = Starts}) r h = refl
moved_sign (stands_to {op = Ends}) r h = refl
moved_sign (stands_to {op = holding}) r h = refl
moved_sign another_value r h = refl
moved_sign compared r h = refl
moved_sign compared_folded r h = refl
moved_sign another_name r h = refl
moved_sign closes_names r h = refl

pub sign_found : (p q : Place) (a : Sign) (s r : List ℕ) → Moves p (sign a) q → TokenThen (terminal (sign_text a)) s r
    → first_sign (signs_at (wanted p)) s ≡ Some a
sign_found p q a s r m t =
    ap (first_sign (signs_at (wanted p))) (sign_spelled a s r t) ∙ moved_sign m r (sign_stands a s r t)

-- a token read as a sign, as it stands
pub sign_then : (a : Sign) (t : Token) (s r : List ℕ) → ReadAs (sign a) t → TokenThen t s r → TokenThen (terminal (sign_text a)) s r
sign_then a t s r e h = subst (λ x. TokenThen x s r) e h

abbrev pub word_piece_text : Piece → Option (List ℕ)
word_piece_text (kind k) = Some (type_word k)
word_piece_text id_word = Some (codes "id")
word_piece_text fold_word = Some (codes "i")
word_piece_text (relation r) = Some (relation_name r)
word_piece_text (sign a) = None
word_piece_text (trait u) = None
word_piece_text (key k) = None
word_piece_text (value v) = None

pub then_word : (t : Token) (w s r : List ℕ) → t ≡ word w → TokenThen t s r → WordThen w s r
then_word t w s r e h = word_then w s r (subst (λ x. TokenThen x s r) e h)

-- nothing that leads on begins with `$` and a letter
no_dollar_sign : (a : Sign) (d : ℕ) (s : List ℕ) → begins_run d ≡ true → opens (sign_text a) (36 ∷ d ∷ s) ≡ true → ⊥
no_dollar_sign Star d s h e = absurd (let f : false ≡ true = e in cc)
no_dollar_sign Greater d s h e = absurd (let f : false ≡ true = e in cc)
no_dollar_sign Smaller d s h e = absurd (let f : false ≡ true = e in cc)
no_dollar_sign Tilde d s h e = absurd (let f : false ≡ true = e in cc)
no_dollar_sign OpenNames d s h e = absurd (let f : false ≡ true = e in cc)
no_dollar_sign CloseNames d s h e = absurd (let f : false ≡ true = e in cc)
no_dollar_sign OpenPath d s h e = absurd (let f : false ≡ true = e in cc)
no_dollar_sign ClosePath d s h e = absurd (let f : false ≡ true = e in cc)
no_dollar_sign OpenIs d s h e = absurd (let f : false ≡ true = e in cc)
no_dollar_sign OpenNot d s h e = absurd (let f : false ≡ true = e in cc)
no_dollar_sign OpenTest d s h e = absurd (let f : false ≡ true = e in cc)
no_dollar_sign Close d s h e = absurd (let f : false ≡ true = e in cc)
no_dollar_sign Comma d s h e = absurd (let f : false ≡ true = e in cc)
no_dollar_sign Bar d s h e = absurd (let f : false ≡ true = e in cc)
no_dollar_sign IdNamespace d s h e = absurd (let f : false ≡ true = e in cc)
no_dollar_sign IdName d s h e = absurd (let f : false ≡ true = e in cc)
no_dollar_sign IdMember d s h e = absurd (let f : false ≡ true = e in cc)
no_dollar_sign TraitBar d s h e = absurd (let f : false ≡ true = e in cc)
no_dollar_sign (Op Equal) d s h e = absurd (let f : false ≡ true = e in cc)
no_dollar_sign (Op Unequal) d s h e = absurd (let f : false ≡ true = e in cc)
no_dollar_sign (Op Starts) d s h e = absurd (let f : false ≡ true = e in cc)
no_dollar_sign (Op Ends) d s h e = let k : (61 == d) ≡ true = (both (61 == d) true e).0 in let g : begins_run d ≡ false = grind (
  arith,
  nat_tests,
) in clash (begins_run d) h g
no_dollar_sign (Op holding) d s h e = absurd (let f : false ≡ true = e in cc)

pub quoted_head : (v s r : List ℕ) (c : ℕ) (more : List ℕ) → TokenThen (quoted v) s r → s ≡ c ∷ more → (c ≡ 34) ⊎ (c ≡ 39)
quoted_head v s r c more t e = elim t.is_token [
  | inl (b, free) ↦ inl (heads c 34 more ((v ++ 34 ∷ []) ++ r) (sym e ∙ t.spelled ∙ ap (λ x. x ++ r) b))
  | inr (b, free) ↦ inr (heads c 39 more ((v ++ 39 ∷ []) ++ r) (sym e ∙ t.spelled ∙ ap (λ x. x ++ r) b))
]

pub numeral_head : (v s r : List ℕ) (c : ℕ) (more : List ℕ) → TokenThen (numeral v) s r → s ≡ c ∷ more → begins_number c ≡ true
numeral_head v s r c more t e = by_head (number_head v t.is_token.1)
  where
    by_head : (d : ℕ) × (ds : List ℕ) × (v ≡ d ∷ ds) × (begins_number d ≡ true) → begins_number c ≡ true
    by_head (d, ds, f, h) = subst (λ x. begins_number x ≡ true) (heads d c (ds ++ r) more
        (sym (sym e ∙ t.spelled ∙ ap (λ x. x ++ r) (t.is_token.0 ∙ f)))) h

pub then_head : (w s r : List ℕ) (c : ℕ) (more : List ℕ) → WordThen w s r → s ≡ c ∷ more → begins_run c ≡ true
then_head w s r c more t e = word_head w r c more t.shape (sym e ∙ t.spelled)

abbrev head_of : List ℕ → ℕ
head_of [] = 0
head_of (c ∷ s) = c

text_head : (a : Sign) (r : List ℕ) → head_of (sign_text a ++ r) ≡ head_of (sign_text a)
text_head Star r = refl
text_head Greater r = refl
text_head Smaller r = refl
text_head Tilde r = refl
text_head OpenNames r = refl
text_head CloseNames r = refl
text_head OpenPath r = refl
text_head ClosePath r = refl
text_head OpenIs r = refl
text_head OpenNot r = refl
text_head OpenTest r = refl
text_head Close r = refl
text_head Comma r = refl
text_head Bar r = refl
text_head IdNamespace r = refl
text_head IdName r = refl
text_head IdMember r = refl
text_head TraitBar r = refl
text_head (Op Equal) r = refl
text_head (Op Unequal) r = refl
text_head (Op Starts) r = refl
text_head (Op Ends) r = refl
text_head (Op holding) r = refl

-- but where a path is wanted no sign begins with a letter
moved_head : {p q : Place} {a : Sign} → Moves p (sign a) q → (wanted p ≡ a_path) ⊎ (begins_run (head_of (sign_text a)) ≡ false)
moved_head star = inr refl
moved_head greater = inr refl
moved_head smaller = inr refl
moved_head tilde = inr refl
moved_head opens_path = inr refl
moved_head opens_names = inr refl
moved_head opens_is = inr refl
moved_head opens_not = inr refl
moved_head opens_test = inr refl
moved_head closes = inr refl
moved_head (another several) = inr refl
moved_head at_namespace = inl refl
moved_head at_name = inl refl
moved_head at_member = inl refl
moved_head at_trait = inl refl
moved_head bar = inr refl
moved_head had = inr refl
moved_head (stands_to {op = Equal}) = inr refl
moved_head (stands_to {op = Unequal}) = inr refl
moved_head (stands_to {op = Starts}) = inr refl
moved_head (stands_to {op = Ends}) = inr refl
moved_head (stands_to {op = holding}) = inr refl
moved_head another_value = inr refl
moved_head compared = inr refl
moved_head compared_folded = inr refl
moved_head another_name = inr refl
moved_head closes_names = inr refl

-- what begins so is no sign, so nothing leads on by it
headless : (p : Place) (s : List ℕ) (c : ℕ) (more : List ℕ) → s ≡ c ∷ more → begins_run c ≡ false → begins_number c ≡ false → (c ≡ 34 → ⊥)
    → (c ≡ 39 → ⊥)
    → ((a : Sign) (q : Place) → Moves p (sign a) q → opens (sign_text a) s ≡ true → ⊥)
    → StopsAt p s
headless p s c more e no_letter no_digit no_quote no_apostrophe no_sign t r q h lead = by_piece lead.piece lead.read lead.moves
  where
    no_word_here : (w : List ℕ) → t ≡ word w → ⊥
    no_word_here w f = clash (begins_run c) (then_head w s r c more (then_word t w s r f h) e) no_letter

    no_quoted_here : (v : List ℕ) → t ≡ quoted v → ⊥
    no_quoted_here v f = elim (quoted_head v s r c more (subst (λ x. TokenThen x s r) f h) e) [
      | inl g ↦ no_quote g
      | inr g ↦
          no_apostrophe g
    ]

    no_numeral_here : (v : List ℕ) → t ≡ numeral v → ⊥
    no_numeral_here v f = clash (begins_number c) (numeral_head v s r c more (subst (λ x. TokenThen x s r) f h) e) no_digit

    by_piece : (x : Piece) → ReadAs x t → Moves p x q → ⊥
    by_piece (sign a) f m = no_sign a q m
        (subst (λ x. opens (sign_text a) x ≡ true) (sym (sign_spelled a s r (sign_then a t s r f h))) (opens_joined (sign_text a) r))
    by_piece (kind k) f m = no_word_here (type_word k) f
    by_piece id_word f m = no_word_here (codes "id") f
    by_piece fold_word f m = no_word_here (codes "i") f
    by_piece (relation k) f m = no_word_here (relation_name k) f
    by_piece (trait u) (w, f, means) m = no_word_here w f
    by_piece (key k) (inl (is, f)) m = no_word_here k f
    by_piece (key k) (inr f) m = no_quoted_here k f
    by_piece (value v) (inl f) m = no_quoted_here v f
    by_piece (value v) (inr (inl f)) m = no_numeral_here v f
    by_piece (value v) (inr (inr (is, f))) m = no_word_here v f

pub unlike : (a b : ℕ) → (a == b) ≡ false → a ≡ b → ⊥
unlike a b h e = absurd (clash (a == b) (subst (λ x. (a == x) ≡ true) e (same a)) h)
  where
    same : (c : ℕ) → (c == c) ≡ true
    same c = grind (arith, nat_tests)

pub dollar_dead : (p : Place) (r q : List ℕ) → DollarBehind r q → IsDead p r
dollar_dead p r q d = record {
  first = 36;
  more = d.first ∷ d.more;
  is = d.is;
  not_white = refl;
  stops = headless p r 36 (d.first ∷ d.more) d.is refl refl (unlike 36 34 refl) (unlike 36 39 refl) (λ a n m e. no_dollar_sign a d.first
      d.more d.begins
      (subst (λ x. opens (sign_text a) x ≡ true) d.is e));
}

no_bar_sign : {ss : List Step} {fs : List Frame} {q : Place} {a : Sign} → Moves (behind_path ss fs id_of) (sign a) q → (s : List ℕ)
    → opens (sign_text a) (124 ∷ s) ≡ true
    → ⊥
no_bar_sign had s e = absurd (let f : false ≡ true = e in cc)
no_bar_sign (stands_to {op = Equal}) s e = absurd (let f : false ≡ true = e in cc)
no_bar_sign (stands_to {op = Unequal}) s e = absurd (let f : false ≡ true = e in cc)
no_bar_sign (stands_to {op = Starts}) s e = absurd (let f : false ≡ true = e in cc)
no_bar_sign (stands_to {op = Ends}) s e = absurd (let f : false ≡ true = e in cc)
no_bar_sign (stands_to {op = holding}) s e = absurd (let f : false ≡ true = e in cc)

bar_dead : (ss : List Step) (fs : List Frame) (r s : List ℕ) → r ≡ 124 ∷ s → IsDead (behind_path ss fs id_of) r
bar_dead ss fs r s e = record {
  first = 124;
  more = s;
  is = e;
  not_white = refl;
  stops = headless (behind_path ss fs id_of) r 124 s e refl refl (unlike 124 34 refl) (unlike 124 39 refl)
      (λ a n m f. no_bar_sign m s (subst (λ x. opens (sign_text a) x ≡ true) e f));
}

number_stops : {ss : List Step} {fs : List Frame} {path : Attribute} {op : SelectorOp} {vs : List (List ℕ)} {x : Piece} {q : Place}
    → Moves (behind_value ss fs path op vs) x q
    → (t : Token) (s r : List ℕ) (c : ℕ) (more : List ℕ) → ReadAs x t
    → TokenThen t s r
    → s ≡ c ∷ more
    → is_number_byte c ≡ true
    → ⊥
number_stops another_value t s r c more f h e n =
    let k = heads c 44 more r (sym e ∙ sign_spelled Comma s r (sign_then Comma t s r f h)) in
    absurd (let g : false ≡ true = subst (λ x. is_number_byte x ≡ true) k n in cc)
number_stops compared t s r c more f h e n =
    let k = heads c 93 more r (sym e ∙ sign_spelled ClosePath s r (sign_then ClosePath t s r f h)) in
    absurd (let g : false ≡ true = subst (λ x. is_number_byte x ≡ true) k n in cc)
number_stops folds t s r c more f h e n =
    let k = heads c 105 more r (sym e ∙ (then_word t (codes "i") s r f h).spelled) in
    absurd (let g : false ≡ true = subst (λ x. is_number_byte x ≡ true) k n in cc)

number_white : (c : ℕ) → is_number_byte c ≡ true → is_selector_white c ≡ false
number_white c h = grind (arith, nat_tests)

pub number_dead : {p q : Place} {v : List ℕ} → Moves p (value v) q → (r : List ℕ) (c : ℕ) (s : List ℕ) → r ≡ c ∷ s → is_number_byte c ≡ true
    → IsDead q r
number_dead of_value r c s e n = record {
  first = c;
  more = s;
  is = e;
  not_white = number_white c n;
  stops = λ t b n' h lead. number_stops lead.moves t r b c s lead.read h e n;
}

-- what two tokens at one place are
pub data TwoTokens (t u : Token) (q n : Place) (r b : List ℕ) : Type 0 where
  one_token : t ≡ u → r ≡ b → TwoTokens t u q n r b
  first_dead : IsDead q r → length b < length r → TwoTokens t u q n r b
  second_dead : IsDead n b → length r < length b → TwoTokens t u q n r b

pub word_pair : (t u : Token) (q n : Place) (s r b v w : List ℕ) → t ≡ word v → u ≡ word w → TokenThen t s r → TokenThen u s b
    → TwoTokens t u q n r b
word_pair t u q n s r b v w e f h k = by_words (two_words v w s r b (then_word t v s r e h) (then_word u w s b f k))
  where
    by_words : TwoWords v w r b → TwoTokens t u q n r b
    by_words (same_word a c) = one_token (e ∙ ap word a ∙ sym f) c
    by_words (first_cut d) = first_dead (dollar_dead q r b d) d.shorter
    by_words (second_cut d) = second_dead (dollar_dead n b r d) d.shorter

pub some_same : {A : Type 0} (a b : A) → Some a ≡ Some b → a ≡ b
some_same a b e = cc

pub sign_pair_same : (p q n : Place) (a c : Sign) (t u : Token) (s r b : List ℕ) → Moves p (sign a) q → Moves p (sign c) n → ReadAs (sign
    a) t
    → ReadAs (sign c) u
    → TokenThen t s r
    → TokenThen u s b
    → (t ≡ u) × (r ≡ b)
sign_pair_same p q n a c t u s r b m o e f h k = by_same (some_same a c (sym (sign_found p q a s r m ha) ∙ sign_found p n c s b o kc))
  where
    ha : TokenThen (terminal (sign_text a)) s r
    ha = sign_then a t s r e h

    kc : TokenThen (terminal (sign_text c)) s b
    kc = sign_then c u s b f k

    by_same : a ≡ c → (t ≡ u) × (r ≡ b)
    by_same g = (
      e ∙ ap (λ x. terminal (sign_text x)) g ∙ sym f,
      sym (drop_joined (sign_text a) r) ∙ ap (drop (length (sign_text a))) (sym (sign_spelled a s r ha) ∙ sign_spelled c s b kc
          ∙ ap (λ x. sign_text x ++ b) (sym g)) ∙ drop_joined (sign_text a) b,
    )

pub sign_pair : (p q n : Place) (a c : Sign) (t u : Token) (s r b : List ℕ) → Moves p (sign a) q → Moves p (sign c) n → ReadAs (sign a) t
    → ReadAs (sign c) u
    → TokenThen t s r
    → TokenThen u s b
    → TwoTokens t u q n r b
sign_pair p q n a c t u s r b m o e f h k = let same = sign_pair_same p q n a c t u s r b m o e f h k in one_token same.0 same.1

-- a sign and a word
word_head_of : (w s r : List ℕ) → WordThen w s r → begins_run (head_of s) ≡ true
word_head_of w s r t =
    let whole : s ≡ ((t.shape.of_run.first ∷ t.shape.of_run.more) ++ member_text t.shape.member) ++ r =
    t.spelled ∙ ap (λ x. x ++ r) t.shape.is ∙ ap (λ x. (x ++ member_text t.shape.member) ++ r) t.shape.of_run.is in
    subst (λ x. begins_run (head_of x) ≡ true) (sym whole) t.shape.of_run.begins

pub sign_no_word : (p q : Place) (a : Sign) (t u : Token) (s r b w : List ℕ) → Moves p (sign a) q → (wanted p ≡ a_path → ⊥) → ReadAs
    (sign a) t
    → u ≡ word w
    → TokenThen t s r
    → TokenThen u s b
    → ⊥
sign_no_word p q a t u s r b w m no_path e f h k = elim (moved_head m) [
  | inl g ↦ no_path g
  | inr g ↦ clash (begins_run (head_of s)) (word_head_of w s b (then_word u w s b f k))
      (ap begins_run (ap head_of (sign_spelled a s r (sign_then a t s r e h)) ∙ text_head a r) ∙ g)
]

-- `id` and a sign that goes on with it
pub id_pair : {p q n : Place} {a : Sign} → Moves p id_word n → Moves p (sign a) q → (s r b : List ℕ) → s ≡ sign_text a ++ r → s ≡ codes
    "id" ++ b
    → IsDead n b × (length r < length b)
id_pair (at_id {ss} {fs}) at_namespace s r b e f =
    let g : b ≡ 124 ∷ (codes "namespace" ++ r) = ap (drop 2) (sym f ∙ e) in
    let l = ap length g in (bar_dead ss fs b (codes "namespace" ++ r) g, omega arith)
id_pair (at_id {ss} {fs}) at_name s r b e f =
    let g : b ≡ 124 ∷ (codes "name" ++ r) = ap (drop 2) (sym f ∙ e) in
    let l = ap length g in (bar_dead ss fs b (codes "name" ++ r) g, omega arith)
id_pair (at_id {ss} {fs}) at_member s r b e f =
    let g : b ≡ 124 ∷ (codes "member" ++ r) = ap (drop 2) (sym f ∙ e) in
    let l = ap length g in (bar_dead ss fs b (codes "member" ++ r) g, omega arith)
id_pair at_id at_trait s r b e f = absurd (unlike 116 105 refl (heads 116 105 (codes "rait|" ++ r) (100 ∷ b) (sym e ∙ f)))
