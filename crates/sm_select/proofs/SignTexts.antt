-- Which sign stands at the start of a text: where a sign's token stands it is found, and what is found is a token.
use Rattle.std.proofs.Common.{◌≡◌, inl, inr, ℕ, Bool, true, false, ◌==◌, ◌&&◌, List, [], ◌∷◌, ◌++◌, length, drop, refl, sym, ap, ◌∙◌, subst}
use Rattle.std.proofs.Common.{codes, arith}
use Rattle.std.specs.Prelude.{nat_eq, not}
use Rattle.std.specs.List.{Contains, list_all, starts_with}
use Rattle.std.proofs.lemmas.Bool.Decides.{nat_tests}
use Rattle.std.proofs.lemmas.List.Sums.{list_all-from_AllPass, AllPass-from_list_all}
use Rattle.sm_ids.proofs.Cutting.{both, and_also, clash}
use Rattle.sm_select.specs.declared.selector.SelectorOp.TheVariants.{Equal, Unequal, Starts, Ends, Contains as holding}
use Rattle.sm_select.specs.declared.tokens.Sign.{Sign}
use Rattle.sm_select.specs.declared.tokens.Sign.TheVariants.{Star, Greater, Smaller, Tilde, OpenNames, CloseNames, OpenPath, ClosePath}
use Rattle.sm_select.specs.declared.tokens.Sign.TheVariants.{OpenIs, OpenNot, OpenTest, Close, Comma, Bar, IdNamespace, IdName, IdMember}
use Rattle.sm_select.specs.declared.tokens.Sign.TheVariants.{TraitBar, Op}
use Rattle.sm_select.specs.Tokens.{BeginsOther, EndsInRun, GoesOnWithRun, TokenThen, terminal, terminals, is_run_byte}
use Rattle.sm_select.specs.steps.Signs.{sign_text, opens, goes_on_with_run, sign_ends, stands}
use Rattle.sm_select.proofs.WordBytes.{begin_is_run}

pub no_choice : (b : Bool) → b ≡ true → not b ≡ true → ⊥
no_choice true h k = absurd (let e : false ≡ true = k in cc)
no_choice false h k = absurd (let e : false ≡ true = h in cc)

pub not_of : (b : Bool) → (b ≡ true → ⊥) → not b ≡ true
not_of true h = absurd (h refl)
not_of false h = refl

pub false_of : (b : Bool) → (b ≡ true → ⊥) → b ≡ false
false_of true h = absurd (h refl)
false_of false h = refl

pub eq_of : (c d : ℕ) → (c == d) ≡ true → c ≡ d
eq_of c d h = grind (arith, nat_tests)

-- what begins with a text, cut
pub opens_cut : (t s : List ℕ) → opens t s ≡ true → s ≡ t ++ drop (length t) s
opens_cut [] s h = refl
opens_cut (c ∷ t) [] h = absurd (let e : false ≡ true = h in cc)
opens_cut (c ∷ t) (d ∷ s) h =
    let k = both (c == d) (opens t s) h in ap (λ x. x ∷ s) (sym (eq_of c d k.0)) ∙ ap (λ x. c ∷ x) (opens_cut t s k.1)

-- as `starts_with` of std says it
pub opens_is : (t s : List ℕ) → starts_with nat_eq s t ≡ opens t s
opens_is [] s = refl
opens_is (c ∷ t) [] = refl
opens_is (c ∷ t) (d ∷ s) = ap (λ b. (c == d) && b) (opens_is t s)

eq_same : (c : ℕ) → (c == c) ≡ true
eq_same c = grind (arith, nat_tests)

pub opens_joined : (t r : List ℕ) → opens t (t ++ r) ≡ true
opens_joined [] r = refl
opens_joined (c ∷ t) r = and_also (c == c) (opens t (t ++ r)) (eq_same c) (opens_joined t r)

pub drop_joined : (t r : List ℕ) → drop (length t) (t ++ r) ≡ r
drop_joined [] r = refl
drop_joined (c ∷ t) r = drop_joined t r

other_opens : (s : List ℕ) → (BeginsOther s → ⊥) → (opens (codes "<-[") s ≡ false) × (opens (codes "[@") s ≡ false)
other_opens s h = (
  false_of (opens (codes "<-[") s) (λ e. h (inl (drop 3 s, opens_cut (codes "<-[") s e))),
  false_of (opens (codes "[@") s) (λ e. h (inr (drop 2 s, opens_cut (codes "[@") s e))),
)

-- the last byte is of a run
abbrev last_in_run : List ℕ → Bool
last_in_run [] = false
last_in_run (c ∷ []) = is_run_byte c
last_in_run (c ∷ d ∷ s) = last_in_run (d ∷ s)

last_behind : (before s : List ℕ) (c : ℕ) → last_in_run (before ++ c ∷ s) ≡ last_in_run (c ∷ s)
last_behind [] s c = refl
last_behind (b ∷ []) s c = refl
last_behind (b ∷ d ∷ before) s c = last_behind (d ∷ before) s c

last_of_run : (c : ℕ) (s : List ℕ) → is_run_byte c ≡ true → list_all is_run_byte s ≡ true → last_in_run (c ∷ s) ≡ true
last_of_run c [] h k = h
last_of_run c (d ∷ s) h k = let l = both (is_run_byte d) (list_all is_run_byte s) k in last_of_run d s l.0 l.1

pub ends_in_none : (t : List ℕ) → last_in_run t ≡ false → EndsInRun t → ⊥
ends_in_none t h e = clash (last_in_run t)
    (ap last_in_run e.whole ∙ last_behind e.before e.run e.first
    ∙ last_of_run e.first e.run (begin_is_run e.first e.begins) (list_all-from_AllPass is_run_byte e.run e.goes_on)) h

no_run_behind : (r : List ℕ) → (GoesOnWithRun r → ⊥) → goes_on_with_run r ≡ false
no_run_behind [] h = refl
no_run_behind (c ∷ r) h = false_of (is_run_byte c) h

run_behind : (r : List ℕ) → not (goes_on_with_run r) ≡ true → GoesOnWithRun r → ⊥
run_behind [] h k = k
run_behind (c ∷ r) h k = no_choice (is_run_byte c) k h

pub sign_is_terminal : (a : Sign) → Contains terminals (sign_text a)
sign_is_terminal Star = (0, omega arith, refl)
sign_is_terminal Greater = (1, omega arith, refl)
sign_is_terminal Smaller = (2, omega arith, refl)
sign_is_terminal Tilde = (3, omega arith, refl)
sign_is_terminal OpenNames = (4, omega arith, refl)
sign_is_terminal CloseNames = (5, omega arith, refl)
sign_is_terminal OpenPath = (6, omega arith, refl)
sign_is_terminal ClosePath = (7, omega arith, refl)
sign_is_terminal OpenIs = (8, omega arith, refl)
sign_is_terminal OpenNot = (9, omega arith, refl)
sign_is_terminal OpenTest = (10, omega arith, refl)
sign_is_terminal Close = (11, omega arith, refl)
sign_is_terminal Comma = (12, omega arith, refl)
sign_is_terminal Bar = (13, omega arith, refl)
sign_is_terminal IdNamespace = (14, omega arith, refl)
sign_is_terminal IdName = (15, omega arith, refl)
sign_is_terminal IdMember = (16, omega arith, refl)
sign_is_terminal TraitBar = (17, omega arith, refl)
sign_is_terminal (Op Equal) = (18, omega arith, refl)
sign_is_terminal (Op Unequal) = (19, omega arith, refl)
sign_is_terminal (Op Starts) = (20, omega arith, refl)
sign_is_terminal (Op Ends) = (21, omega arith, refl)
sign_is_terminal (Op holding) = (22, omega arith, refl)

-- a sign that isn't `id|..` ends in no run; those three do
sign_in_no_run : (a : Sign) (r : List ℕ) → sign_ends a r ≡ true → EndsInRun (sign_text a) → GoesOnWithRun r → ⊥
sign_in_no_run Star r h e g = ends_in_none (sign_text Star) refl e
sign_in_no_run Greater r h e g = ends_in_none (sign_text Greater) refl e
sign_in_no_run Smaller r h e g = ends_in_none (sign_text Smaller) refl e
sign_in_no_run Tilde r h e g = ends_in_none (sign_text Tilde) refl e
sign_in_no_run OpenNames r h e g = ends_in_none (sign_text OpenNames) refl e
sign_in_no_run CloseNames r h e g = ends_in_none (sign_text CloseNames) refl e
sign_in_no_run OpenPath r h e g = ends_in_none (sign_text OpenPath) refl e
sign_in_no_run ClosePath r h e g = ends_in_none (sign_text ClosePath) refl e
sign_in_no_run OpenIs r h e g = ends_in_none (sign_text OpenIs) refl e
sign_in_no_run OpenNot r h e g = ends_in_none (sign_text OpenNot) refl e
sign_in_no_run OpenTest r h e g = ends_in_none (sign_text OpenTest) refl e
sign_in_no_run Close r h e g = ends_in_none (sign_text Close) refl e
sign_in_no_run Comma r h e g = ends_in_none (sign_text Comma) refl e
sign_in_no_run Bar r h e g = ends_in_none (sign_text Bar) refl e
sign_in_no_run IdNamespace r h e g = run_behind r h g
sign_in_no_run IdName r h e g = run_behind r h g
sign_in_no_run IdMember r h e g = run_behind r h g
sign_in_no_run TraitBar r h e g = ends_in_none (sign_text TraitBar) refl e
sign_in_no_run (Op Equal) r h e g = ends_in_none (sign_text (Op Equal)) refl e
sign_in_no_run (Op Unequal) r h e g = ends_in_none (sign_text (Op Unequal)) refl e
sign_in_no_run (Op Starts) r h e g = ends_in_none (sign_text (Op Starts)) refl e
sign_in_no_run (Op Ends) r h e g = ends_in_none (sign_text (Op Ends)) refl e
sign_in_no_run (Op holding) r h e g = ends_in_none (sign_text (Op holding)) refl e

-- no other form begins where a sign stands that may end
sign_no_other : (a : Sign) (r : List ℕ) → sign_ends a r ≡ true
    → (opens (codes "<-[") (sign_text a ++ r) ≡ false) × (opens (codes "[@") (sign_text a ++ r) ≡ false)
sign_no_other Star r h = (refl, refl)
sign_no_other Greater r h = (refl, refl)
sign_no_other Smaller r h = (false_of (opens (codes "-[") r) (λ e. no_choice (opens (codes "-[") r) e h), refl)
sign_no_other Tilde r h = (refl, refl)
sign_no_other OpenNames r h = (refl, refl)
sign_no_other CloseNames r h = (refl, refl)
sign_no_other OpenPath r h = (refl, false_of (opens (codes "@") r) (λ e. no_choice (opens (codes "@") r) e h))
sign_no_other ClosePath r h = (refl, refl)
sign_no_other OpenIs r h = (refl, refl)
sign_no_other OpenNot r h = (refl, refl)
sign_no_other OpenTest r h = (refl, refl)
sign_no_other Close r h = (refl, refl)
sign_no_other Comma r h = (refl, refl)
sign_no_other Bar r h = (refl, refl)
sign_no_other IdNamespace r h = (refl, refl)
sign_no_other IdName r h = (refl, refl)
sign_no_other IdMember r h = (refl, refl)
sign_no_other TraitBar r h = (refl, refl)
sign_no_other (Op Equal) r h = (refl, refl)
sign_no_other (Op Unequal) r h = (refl, refl)
sign_no_other (Op Starts) r h = (refl, refl)
sign_no_other (Op Ends) r h = (refl, refl)
sign_no_other (Op holding) r h = (refl, refl)

no_other : (s : List ℕ) → (opens (codes "<-[") s ≡ false) × (opens (codes "[@") s ≡ false) → BeginsOther s → ⊥
no_other s h (inl (more, e)) = clash (opens (codes "<-[") s) (ap (opens (codes "<-[")) e) h.0
no_other s h (inr (more, e)) = clash (opens (codes "[@") s) (ap (opens (codes "[@")) e) h.1

-- a sign that stands is a token
pub sign_token : (a : Sign) (s : List ℕ) → stands a s ≡ true → TokenThen (terminal (sign_text a)) s (drop (length (sign_text a)) s)
sign_token a s h =
    let k = both (opens (sign_text a) s) (sign_ends a (drop (length (sign_text a)) s)) h in
    let cut = opens_cut (sign_text a) s k.0 in
    record {
      bytes = sign_text a;
      is_token = (refl, sign_is_terminal a);
      spelled = cut;
      may_end = sign_in_no_run a (drop (length (sign_text a)) s) k.1;
      not_other = subst (λ x. BeginsOther x → ⊥) (sym cut)
          (no_other (sign_text a ++ drop (length (sign_text a)) s) (sign_no_other a (drop (length (sign_text a)) s) k.1));
    }

-- and a sign's token stands
id_ends : (before name r : List ℕ) → (EndsInRun (before ++ name) → GoesOnWithRun r → ⊥) → EndsInRun (before ++ name)
    → not (goes_on_with_run r) ≡ true
id_ends before name r h e = not_of (goes_on_with_run r) (λ g. clash (goes_on_with_run r) g (no_run_behind r (h e)))

sign_may_end : (a : Sign) (r : List ℕ) → (BeginsOther (sign_text a ++ r) → ⊥) → (EndsInRun (sign_text a) → GoesOnWithRun r → ⊥)
    → sign_ends a r ≡ true
sign_may_end Star r o e = refl
sign_may_end Greater r o e = refl
sign_may_end Smaller r o e = not_of (opens (codes "-[") r) (λ k. clash (opens (codes "-[") r) k (other_opens (sign_text Smaller ++ r) o).0)
sign_may_end Tilde r o e = refl
sign_may_end OpenNames r o e = refl
sign_may_end CloseNames r o e = refl
sign_may_end OpenPath r o e = not_of (opens (codes "@") r) (λ k. clash (opens (codes "@") r) k (other_opens (sign_text OpenPath ++ r) o).1)
sign_may_end ClosePath r o e = refl
sign_may_end OpenIs r o e = refl
sign_may_end OpenNot r o e = refl
sign_may_end OpenTest r o e = refl
sign_may_end Close r o e = refl
sign_may_end Comma r o e = refl
sign_may_end Bar r o e = refl
sign_may_end IdNamespace r o e = id_ends (codes "id|") (codes "namespace") r e (record {
  before = codes "id|";
  first = 110;
  run = codes
      "amespace";
  begins = refl;
  goes_on = AllPass-from_list_all is_run_byte (codes "amespace") refl;
  whole = refl;
})
sign_may_end IdName r o e = id_ends (codes "id|") (codes "name") r e (record {
  before = codes "id|";
  first = 110;
  run = codes "ame";
  begins = refl;
  goes_on = AllPass-from_list_all is_run_byte (codes "ame") refl;
  whole = refl;
})
sign_may_end IdMember r o e = id_ends (codes "id|") (codes "member") r e (record {
  before = codes "id|";
  first = 109;
  run = codes
      "ember";
  begins = refl;
  goes_on = AllPass-from_list_all is_run_byte (codes "ember") refl;
  whole = refl;
})
sign_may_end TraitBar r o e = refl
sign_may_end (Op Equal) r o e = refl
sign_may_end (Op Unequal) r o e = refl
sign_may_end (Op Starts) r o e = refl
sign_may_end (Op Ends) r o e = refl
sign_may_end (Op holding) r o e = refl

pub sign_spelled : (a : Sign) (s r : List ℕ) → TokenThen (terminal (sign_text a)) s r → s ≡ sign_text a ++ r
sign_spelled a s r t = t.spelled ∙ ap (λ x. x ++ r) t.is_token.0

pub sign_stands : (a : Sign) (s r : List ℕ) → TokenThen (terminal (sign_text a)) s r → sign_ends a r ≡ true
sign_stands a s r t = sign_may_end a r (subst (λ x. BeginsOther x → ⊥) (sign_spelled a s r t) t.not_other)
    (subst (λ x. EndsInRun x → GoesOnWithRun r → ⊥) t.is_token.0 t.may_end)
