-- What leads from place to place, step by step: white space has one end, a token has bytes, and what stops there stops all cuts.
use Rattle.std.proofs.Common.{◌≡◌, ◌⊎◌, inl, inr, ℕ, ◌<◌, ◌≤◌, Bool, true, false, List, [], ◌∷◌, ◌++◌, length, refl, sym, ap, ◌∙◌, subst}
use Rattle.std.proofs.Common.{append_assoc, codes, arith, length-append}
use Rattle.std.specs.List.{list_all}
use Rattle.std.proofs.lemmas.Bool.Decides.{nat_tests}
use Rattle.std.proofs.lemmas.List.Sums.{list_all-from_AllPass, AllPass-from_list_all}
use Rattle.std.proofs.lemmas.List.Folds.{list_all-append}
use Rattle.sm_ids.specs.IdText.{member_text}
use Rattle.sm_ids.specs.steps.Ahead.{EndsRun}
use Rattle.sm_ids.proofs.Cutting.{one_cut, and_also}
use Rattle.sm_model.specs.Relations.{relation_name}
use Rattle.sm_select.specs.Grammar.{type_word}
use Rattle.sm_select.specs.declared.selector.SelectorOp.TheVariants.{Equal, Unequal, Starts, Ends, Contains as holding}
use Rattle.sm_select.specs.declared.tokens.Sign.{Sign}
use Rattle.sm_select.specs.declared.tokens.Sign.TheVariants.{Star, Greater, Smaller, Tilde, OpenNames, CloseNames, OpenPath, ClosePath}
use Rattle.sm_select.specs.declared.tokens.Sign.TheVariants.{OpenIs, OpenNot, OpenTest, Close, Comma, Bar, IdNamespace, IdName, IdMember}
use Rattle.sm_select.specs.declared.tokens.Sign.TheVariants.{TraitBar, Op}
use Rattle.sm_select.specs.Tokens.{Token, word, quoted, numeral, EndsWhite, SkipsWhite, TokenThen, TokensThen, is_selector_white}
use Rattle.sm_select.specs.Tokens.{begins_run}
use Rattle.sm_select.specs.steps.Signs.{sign_text}
use Rattle.sm_select.specs.steps.Places.{Piece, sign, kind, id_word, fold_word, relation, trait, key, value, ReadAs, Place, Leads, Runs}
use Rattle.sm_select.specs.steps.Standing.{IsDead, Reaches, Passes}
use Rattle.sm_select.proofs.NumberBytes.{begins_number, number_head}
use Rattle.sm_select.proofs.SignTexts.{sign_spelled}
use Rattle.sm_select.proofs.OneMove.{one_move, runs_joined}
use Rattle.sm_select.proofs.SignPairs.{one_token, first_dead, second_dead, sign_then, then_word}
use Rattle.sm_select.proofs.TwoTokens.{two_tokens}

-- white space has one end
run_of_white : (s : List ℕ) → EndsWhite s → EndsRun is_selector_white s
run_of_white [] h = tt
run_of_white (c ∷ s) h = h

pub one_white : (s f g : List ℕ) → SkipsWhite s f → SkipsWhite s g → EndsWhite f → EndsWhite g → f ≡ g
one_white s f g (w, e, all) (v, e', all') ef eg =
    (one_cut is_selector_white w v f g (list_all-from_AllPass is_selector_white w all) (list_all-from_AllPass is_selector_white v all')
    (run_of_white f ef) (run_of_white g eg) (sym e ∙ e')).1

pub white_shorter : (s f : List ℕ) → SkipsWhite s f → length f ≤ length s
white_shorter s f (w, e, all) = let l = ap length e in let k = length-append w f in omega arith

pub no_white : (s : List ℕ) → SkipsWhite s s
no_white s = ([], refl, λ k d lt. absurd (none k lt))
  where
    none : (k : ℕ) → k < 0 → ⊥
    none k lt = omega arith

-- what a token that leads on is made of: some bytes, of which the first isn't white
pub record Begins (s r : List ℕ) : Type 0 where
  pub first : ℕ
  pub more : List ℕ
  pub is : s ≡ first ∷ (more ++ r)
  pub not_white : is_selector_white first ≡ false

abbrev begins_dark : List ℕ → Bool
begins_dark [] = true
begins_dark (c ∷ s) = is_selector_white c

by_text : (t : List ℕ) → begins_dark t ≡ false → (s r : List ℕ) → s ≡ t ++ r → Begins s r
by_text [] h s r e = absurd (let f : true ≡ false = h in cc)
by_text (c ∷ t) h s r e = record { first = c; more = t; is = e; not_white = h }

sign_begins : (a : Sign) (s r : List ℕ) → s ≡ sign_text a ++ r → Begins s r
sign_begins Star s r e = by_text (sign_text Star) refl s r e
sign_begins Greater s r e = by_text (sign_text Greater) refl s r e
sign_begins Smaller s r e = by_text (sign_text Smaller) refl s r e
sign_begins Tilde s r e = by_text (sign_text Tilde) refl s r e
sign_begins OpenNames s r e = by_text (sign_text OpenNames) refl s r e
sign_begins CloseNames s r e = by_text (sign_text CloseNames) refl s r e
sign_begins OpenPath s r e = by_text (sign_text OpenPath) refl s r e
sign_begins ClosePath s r e = by_text (sign_text ClosePath) refl s r e
sign_begins OpenIs s r e = by_text (sign_text OpenIs) refl s r e
sign_begins OpenNot s r e = by_text (sign_text OpenNot) refl s r e
sign_begins OpenTest s r e = by_text (sign_text OpenTest) refl s r e
sign_begins Close s r e = by_text (sign_text Close) refl s r e
sign_begins Comma s r e = by_text (sign_text Comma) refl s r e
sign_begins Bar s r e = by_text (sign_text Bar) refl s r e
sign_begins IdNamespace s r e = by_text (sign_text IdNamespace) refl s r e
sign_begins IdName s r e = by_text (sign_text IdName) refl s r e
sign_begins IdMember s r e = by_text (sign_text IdMember) refl s r e
sign_begins TraitBar s r e = by_text (sign_text TraitBar) refl s r e
sign_begins (Op Equal) s r e = by_text (sign_text (Op Equal)) refl s r e
sign_begins (Op Unequal) s r e = by_text (sign_text (Op Unequal)) refl s r e
sign_begins (Op Starts) s r e = by_text (sign_text (Op Starts)) refl s r e
sign_begins (Op Ends) s r e = by_text (sign_text (Op Ends)) refl s r e
sign_begins (Op holding) s r e = by_text (sign_text (Op holding)) refl s r e

letter_white : (c : ℕ) → begins_run c ≡ true → is_selector_white c ≡ false
letter_white c h = grind (arith, nat_tests)

digit_white : (c : ℕ) → begins_number c ≡ true → is_selector_white c ≡ false
digit_white c h = grind (arith, nat_tests)

word_begins : (t : Token) (w s r : List ℕ) → t ≡ word w → TokenThen t s r → Begins s r
word_begins t w s r e h =
    let o = then_word t w s r e h in
    record {
      first = o.shape.of_run.first;
      more = o.shape.of_run.more ++ member_text o.shape.member;
      is = o.spelled ∙ ap (λ x. x ++ r) o.shape.is ∙ ap (λ x. (x ++ member_text o.shape.member) ++ r) o.shape.of_run.is;
      not_white = letter_white o.shape.of_run.first o.shape.of_run.begins;
    }

quoted_begins : (v s r : List ℕ) → TokenThen (quoted v) s r → Begins s r
quoted_begins v s r h = elim h.is_token [
  | inl (e, free) ↦ record { first = 34; more = v ++ 34 ∷ []; is = h.spelled ∙ ap (λ x. x ++ r) e; not_white = refl }
  | inr (e, free) ↦ record { first = 39; more = v ++ 39 ∷ []; is = h.spelled ∙ ap (λ x. x ++ r) e; not_white = refl }
]

numeral_begins : (v s r : List ℕ) → TokenThen (numeral v) s r → Begins s r
numeral_begins v s r h = by_head (number_head v h.is_token.1)
  where
    by_head : (c : ℕ) × (cs : List ℕ) × (v ≡ c ∷ cs) × (begins_number c ≡ true) → Begins s r
    by_head (c, cs, e, d) =
        record { first = c; more = cs; is = h.spelled ∙ ap (λ x. x ++ r) (h.is_token.0 ∙ e); not_white = digit_white c d }

pub token_begins : (t : Token) (s r : List ℕ) (x : Piece) → ReadAs x t → TokenThen t s r → Begins s r
token_begins t s r (sign a) e h = sign_begins a s r (sign_spelled a s r (sign_then a t s r e h))
token_begins t s r (kind k) e h = word_begins t (type_word k) s r e h
token_begins t s r id_word e h = word_begins t (codes "id") s r e h
token_begins t s r fold_word e h = word_begins t (codes "i") s r e h
token_begins t s r (relation k) e h = word_begins t (relation_name k) s r e h
token_begins t s r (trait u) (w, e, means) h = word_begins t w s r e h
token_begins t s r (key k) (inl (is, e)) h = word_begins t k s r e h
token_begins t s r (key k) (inr e) h = quoted_begins k s r (subst (λ x. TokenThen x s r) e h)
token_begins t s r (value v) (inl e) h = quoted_begins v s r (subst (λ x. TokenThen x s r) e h)
token_begins t s r (value v) (inr (inl e)) h = numeral_begins v s r (subst (λ x. TokenThen x s r) e h)
token_begins t s r (value v) (inr (inr (is, e))) h = word_begins t v s r e h

pub begun_dark : (s r : List ℕ) → Begins s r → EndsWhite s
begun_dark s r b = subst EndsWhite (sym b.is) b.not_white

pub begun_shorter : (s r : List ℕ) → Begins s r → length r < length s
begun_shorter s r b = let l = ap length b.is in let k = length-append b.more r in omega arith

pub lead_begins : (p q : Place) (t : Token) (s r : List ℕ) → Leads p t q → TokenThen t s r → Begins s r
lead_begins p q t s r l h = token_begins t s r l.piece l.read h

-- tokens that lead on leave no more than there was
pub tokens_shorter : (ts : List Token) (p q : Place) (s r : List ℕ) → TokensThen ts s r → Runs p ts q → length r ≤ length s
tokens_shorter [] p q s r e run = let l = ap length e in omega arith
tokens_shorter (t ∷ ts) p q s r (first, behind, white, then, rest) (n, lead, run) =
    let a = white_shorter s first white in
    let b = begun_shorter first behind (lead_begins p n t first behind lead then) in
    let c = tokens_shorter ts n q behind r rest run in omega arith

-- white space, and then more
pub white_joined : (a b c : List ℕ) → SkipsWhite a b → SkipsWhite b c → SkipsWhite a c
white_joined a b c (w, e, all) (v, f, other) = (
  w ++ v,
  e ∙ ap (λ x. w ++ x) f ∙ sym (append_assoc w v c),
  AllPass-from_list_all is_selector_white (w ++ v)
      (list_all-append is_selector_white w v ∙ and_also (list_all is_selector_white w) (list_all is_selector_white v)
      (list_all-from_AllPass is_selector_white w all) (list_all-from_AllPass is_selector_white v other)),
)

tokens_joined : (ts us : List Token) (s b r x : List ℕ) → TokensThen ts s b → SkipsWhite b r → Reaches us r x → Reaches (ts ++ us) s x
tokens_joined [] [] s b r x e gone (c, f, white) = (
  s,
  refl,
  subst (λ y. SkipsWhite y x) (sym e) (white_joined b r x gone (subst (λ y.
      SkipsWhite y x) (sym f) white)),
)
tokens_joined [] (u ∷ us) s b r x e gone (c, (first, behind, to, then, rest), white) =
    (c, (first, behind, subst (λ y. SkipsWhite y first) (sym e) (white_joined b r first gone to), then, rest), white)
tokens_joined (t ∷ ts) us s b r x (first, behind, to, then, rest) gone more =
    let later = tokens_joined ts us behind b r x rest gone more in (later.0, (first, behind, to, then, later.1), later.2)

pub reaches_joined : (ts us : List Token) (s r x : List ℕ) → Reaches ts s r → Reaches us r x → Reaches (ts ++ us) s x
reaches_joined ts us s r x (b, cut, white) more = tokens_joined ts us s b r x cut white more

-- behind white space that ends
pub after_white : (us : List Token) (q n : Place) (b r rest : List ℕ) → SkipsWhite b r → EndsWhite r → EndsWhite rest → Reaches us b rest
    → Runs q us n
    → Reaches us r rest
after_white [] q n b r rest white dark ends (c, e, gone) run =
    (r, refl, subst (SkipsWhite r) (one_white b r rest white (subst (λ y. SkipsWhite y rest) (sym e) gone) dark ends) (no_white r))
after_white (u ∷ us) q n b r rest white dark ends (c, (first, behind, to, then, more), gone) (m, lead, run) =
    let same = one_white b r first white to dark (begun_dark first behind (lead_begins q m u first behind lead then)) in
    (c, (first, behind, subst (SkipsWhite r) same (no_white r), then, more), gone)

-- behind what is dead nothing leads on
pub dead_ends : (us : List Token) (p n : Place) (s behind rest : List ℕ) → IsDead p s → TokensThen us s behind → SkipsWhite behind rest
    → EndsWhite rest
    → Runs p us n
    → rest ≡ s
dead_ends [] p n s behind rest d e white dark run =
    one_white s rest s (subst (λ x. SkipsWhite x rest) (sym e) white) (no_white s) dark (subst EndsWhite (sym d.is) d.not_white)
dead_ends (u ∷ us) p n s behind rest d (first, b, white', then, more) white dark (m, lead, run) =
    let same = one_white s first s white' (no_white s) (begun_dark first b (lead_begins p m u first b lead then))
    (subst EndsWhite (sym d.is) d.not_white) in
    absurd (d.stops u b m (subst (λ x. TokenThen u x b) same then) lead)

-- white space alone
pub passes_white : (p : Place) (s r : List ℕ) → SkipsWhite s r → EndsWhite r → Passes p s p r
passes_white p s r white dark = record {
  tokens = [];
  cut = (s, refl, white);
  run = refl;
  others = λ ts n rest reached ends run. inr (ts, after_white ts p n s r rest white dark ends reached run, run);
}

-- one token, the longest that leads on, and white space behind it
module _ (p q : Place) (t : Token) (s b r : List ℕ) (lead : Leads p t q) (then : TokenThen t s b)
    (longest : (u : Token) (n : Place) (c : List ℕ) → Leads p u n → TokenThen u s c → length b ≤ length c)
    (gone : SkipsWhite b r)
    (dark : EndsWhite r) where
  through : (ts : List Token) (n : Place) (rest : List ℕ) → Reaches ts s rest → EndsWhite rest → Runs p ts n
      → (length r < length rest) ⊎ ((us : List Token) × Reaches us r rest × Runs q us n)
  through [] n rest (c, e, white) ends run =
      let begins = lead_begins p q t s b lead then in
      let same = one_white s rest s (subst (λ x. SkipsWhite x rest) (sym e) white) (no_white s) ends (begun_dark s b begins) in
      let shorter = begun_shorter s b begins in
      let less = white_shorter b r gone in
      let sizes = ap length same in inl (omega arith)
  through (u ∷ us) n rest (end, (first, c, to, stands, more), white) ends (m, leads, run) =
      let same = one_white s first s to (no_white s) (begun_dark first c (lead_begins p m u first c leads stands))
      (begun_dark s b (lead_begins p q t s b lead then)) in
      by_two c m leads (subst (λ x. TokenThen u x c) same stands) (end, more, white) run
    where
      by_two : (c : List ℕ) (m : Place) → Leads p u m → TokenThen u s c → Reaches us c rest → Runs m us n
          → (length r < length rest) ⊎ ((vs : List Token) × Reaches vs r rest × Runs q vs n)
      by_two c m leads stands more run = elim (two_tokens p q m t u s b c lead leads then stands) [
        | one_token e f ↦ goes e (subst (λ x. Reaches us x rest) (sym f) more)
        | first_dead d short ↦ let long = longest u m c leads stands in absurd (omega arith)
        | second_dead d short ↦
            let sizes = ap length (dead_ends us m n c more.0 rest d more.1 more.2 ends run) in
            let less = white_shorter b r gone in inl (omega arith)
      ]
        where
          goes : t ≡ u → Reaches us b rest → (length r < length rest) ⊎ ((vs : List Token) × Reaches vs r rest × Runs q vs n)
          goes e reached =
              let moved : m ≡ q = one_move p m q t (subst (λ x. Leads p x m) (sym e) leads) lead in
              let onward : Runs q us n = subst (λ x. Runs x us n) moved run in
              inr (us, after_white us q n b r rest gone dark ends reached onward, onward)

  pub passes_token : Passes p s q r
  passes_token = record {
    tokens = t ∷ [];
    cut = (b, (s, b, no_white s, then, refl), gone);
    run = (q, lead, refl);
    others = through;
  }

pub passes_joined : (p q m : Place) (s r x : List ℕ) → Passes p s q r → Passes q r m x → Passes p s m x
passes_joined p q m s r x a b = record {
  tokens = a.tokens ++ b.tokens;
  cut = reaches_joined a.tokens b.tokens s r x a.cut b.cut;
  run = runs_joined p q m a.tokens b.tokens a.run b.run;
  others = λ ts n rest reached dark run. elim (a.others ts n rest reached dark run) [
    | inl l ↦ inl (shorter (length rest) l)
    | inr (us, more, goes) ↦ b.others us n rest more dark goes
  ];
}
  where
    shorter : (k : ℕ) → length r < k → length x < k
    shorter n l =
        let k = tokens_shorter b.tokens q m r b.cut.0 b.cut.1 b.run in let w = white_shorter b.cut.0 x b.cut.2 in omega arith

-- what leads from one place to another has bytes
pub passes_shorter : (p q : Place) (s r : List ℕ) → Passes p s q r → (p ≡ q → ⊥) → length r < length s
passes_shorter p q s r a other = by_tokens a.tokens a.cut.0 a.cut.1 a.cut.2 a.run
  where
    by_tokens : (ts : List Token) (b : List ℕ) → TokensThen ts s b → SkipsWhite b r → Runs p ts q → length r < length s
    by_tokens [] b cut gone run = absurd (other run)
    by_tokens (t ∷ ts) b (first, behind, to, then, rest) gone (n, lead, run) =
        let w = white_shorter s first to in
        let x = begun_shorter first behind (lead_begins p n t first behind lead then) in
        let y = tokens_shorter ts n q behind b rest run in
        let z = white_shorter b r gone in omega arith
