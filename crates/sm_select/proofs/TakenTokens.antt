-- What is said of the token that stands first: two kinds together, and what a place says then.
use Rattle.std.proofs.Common.{◌⊎◌, inl, inr, ℕ, ◌≤◌, List, length, sym, ap, subst, Option, Some, None}
use Rattle.std.proofs.Common.{arith, length-append, Result, Ok, Err}
use Rattle.sm_select.specs.Selectors.{Steps}
use Rattle.sm_select.specs.Tokens.{Token, EndsWhite, SkipsWhite, TokenThen}
use Rattle.sm_select.specs.declared.parser_taken.Taken.{Taken}
use Rattle.sm_select.specs.declared.refusal.SelectorRefusal.{SelectorRefusal}
use Rattle.sm_select.specs.declared.refusal.SelectorRefusal.TheVariants.{Syntax, OutOfProfile, NoMemory}
use Rattle.sm_select.specs.steps.Places.{Place, stepping, path_wanted, trait_wanted, key_wanted, behind_path, value_wanted, behind_value}
use Rattle.sm_select.specs.steps.Places.{behind_fold, name_wanted, behind_name, IsStepping, IsWhole}
use Rattle.sm_select.specs.steps.Standing.{Passes, StopsAt}
use Rattle.sm_select.specs.steps.Reader.{IsPlaced, ReadsTo, Refuses}
use Rattle.sm_select.specs.steps.Taking.{IsCopy, IsIdToken, IsIdentifierToken, IsKeyToken, IsNumeralToken, IsQuotedToken, IsTaken}
use Rattle.sm_select.specs.steps.Taking.{IsValueToken}
use Rattle.sm_select.specs.steps.Taking.{LeadsBy, NoneAs, TakenAs}
use Rattle.sm_select.proofs.Passing.{passes_token}
use Rattle.sm_select.proofs.TwoTokens.{numeral_no_quoted, word_no_numeral, word_no_quoted}
use Rattle.sm_select.proofs.ReadNames.{flat_refused}

-- tokens of two kinds never stand at one place
abbrev Apart : (List ℕ → Token → Type 0) → (List ℕ → Token → Type 0) → Type 0
Apart K L = (v w : List ℕ) (t u : Token) (s r b : List ℕ) → K v t → L w u → TokenThen t s r → TokenThen u s b → ⊥

abbrev Either : (List ℕ → Token → Type 0) → (List ℕ → Token → Type 0) → List ℕ → Token → Type 0
Either K L v t = K v t ⊎ L v t

either_first : (K L : List ℕ → Token → Type 0) (v s b : List ℕ) → Apart K L → TakenAs K v s b → TakenAs (Either K L) v s b
either_first K L v s b apart h = record {
  token = h.token;
  kind = inl h.kind;
  then = h.then;
  longest = λ w u c k t. elim k [ inl i ↦ h.longest w u c i t | inr i ↦ absurd (apart v w h.token u s b c h.kind i h.then t) ];
}

either_second : (K L : List ℕ → Token → Type 0) (v s b : List ℕ) → NoneAs K s → TakenAs L v s b → TakenAs (Either K L) v s b
either_second K L v s b none h = record {
  token = h.token;
  kind = inr h.kind;
  then = h.then;
  longest = λ w u c k t. elim k [ inl i ↦ absurd (none w u c i t) | inr i ↦ h.longest w u c i t ];
}

either_none : (K L : List ℕ → Token → Type 0) (s : List ℕ) → NoneAs K s → NoneAs L s → NoneAs (Either K L) s
either_none K L s no_k no_l w u c k t = elim k [ inl i ↦ no_k w u c i t | inr i ↦ no_l w u c i t ]

-- the second kind is asked where none of the first stands
either_taken : (K L : List ℕ → Token → Type 0) (s : List ℕ) (r : Option Taken) → NoneAs K s → IsTaken L s r → IsTaken (Either K L) s r
either_taken K L s (Some taken) none h = either_second K L taken.text.now s taken.behind.now none h
either_taken K L s None none h = either_none K L s none h

quoted_apart : Apart IsQuotedToken (Either IsNumeralToken IsIdToken)
quoted_apart v w t u s r b e (inl f) h k = numeral_no_quoted u t s b r w v f e k h
quoted_apart v w t u s r b e (inr (is, f)) h k = word_no_quoted u t s b r w v f e k h

numeral_apart : Apart IsNumeralToken IsIdToken
numeral_apart v w t u s r b e (is, f) h k = word_no_numeral u t s b r w v f e k h

word_apart : Apart IsIdentifierToken IsQuotedToken
word_apart v w t u s r b (is, e) f h k = word_no_quoted t u s r b v w e f h k

pub value_quoted : (v s b : List ℕ) → TakenAs IsQuotedToken v s b → TakenAs IsValueToken v s b
value_quoted v s b h = either_first IsQuotedToken (Either IsNumeralToken IsIdToken) v s b quoted_apart h

pub value_number : (v s b : List ℕ) → NoneAs IsQuotedToken s → TakenAs IsNumeralToken v s b → TakenAs IsValueToken v s b
value_number v s b none h = either_second IsQuotedToken (Either IsNumeralToken IsIdToken) v s b none
    (either_first IsNumeralToken IsIdToken v s b numeral_apart h)

pub value_id : (s : List ℕ) (r : Option Taken) → NoneAs IsQuotedToken s → NoneAs IsNumeralToken s → IsTaken IsIdToken s r
    → IsTaken IsValueToken s r
value_id s r no_quotes no_number h = either_taken IsQuotedToken (Either IsNumeralToken IsIdToken) s r no_quotes
    (either_taken IsNumeralToken IsIdToken s r no_number h)

pub key_word : (v s b : List ℕ) → TakenAs IsIdentifierToken v s b → TakenAs IsKeyToken v s b
key_word v s b h = either_first IsIdentifierToken IsQuotedToken v s b word_apart h

pub key_quoted : (s : List ℕ) (r : Option Taken) → NoneAs IsIdentifierToken s → IsTaken IsQuotedToken s r → IsTaken IsKeyToken s r
key_quoted s r none h = either_taken IsIdentifierToken IsQuotedToken s r none h

-- what stands behind a token is no longer
pub taken_within : (K : List ℕ → Token → Type 0) (v s b : List ℕ) → TakenAs K v s b → length b ≤ length s
taken_within K v s b h = let e = ap length h.then.spelled in let sum = length-append h.then.bytes b in omega arith

-- a place where a selector is whole is one where a step may come
whole_steps : (q : Place) (steps : Steps) → IsWhole q steps → IsStepping q
whole_steps (stepping ss fs) steps w = tt
whole_steps (path_wanted ss fs) steps w = w
whole_steps (trait_wanted ss fs) steps w = w
whole_steps (key_wanted ss fs u ks) steps w = w
whole_steps (behind_path ss fs path) steps w = w
whole_steps (value_wanted ss fs path op vs) steps w = w
whole_steps (behind_value ss fs path op vs) steps w = w
whole_steps (behind_fold ss fs path op vs) steps w = w
whole_steps (name_wanted ss fs ns) steps w = w
whole_steps (behind_name ss fs ns) steps w = w

-- where the token leads, and that nothing leads on where none stands
module _ (K : List ℕ → Token → Type 0) (p : Place) (next : List ℕ → Place) (by : LeadsBy K p next) where
  taken_passes : (v s b r : List ℕ) → TakenAs K v s b → SkipsWhite b r → EndsWhite r → Passes p s (next v) r
  taken_passes v s b r h gone dark = passes_token p (next v) h.token s b r (by.leads v h.token h.kind) h.then
      (λ u n c l t. let w = by.only u n l in h.longest w.0 u c w.1 t) gone dark

  pub copy_read : (len : ℕ) (v s b r : List ℕ) (result : Result (List ℕ) SelectorRefusal) → TakenAs K v s b → IsCopy v b r result
      → EndsWhite r
      → ReadsTo len p s r next result
  copy_read len v s b r (Ok copy) h (e, gone) dark = subst (λ x. Passes p s (next x) r) (sym e) (taken_passes v s b r h gone dark)
  copy_read len v s b r (Err (Syntax at)) h refuted dark = absurd refuted
  copy_read len v s b r (Err (OutOfProfile at)) h refuted dark = absurd refuted
  copy_read len v s b r (Err NoMemory) h none dark = tt

  none_stops : (s : List ℕ) → NoneAs K s → StopsAt p s
  none_stops s none t r q h l = let w = by.only t q l in none w.0 t r w.1 h

  pub none_refused : (len : ℕ) (s : List ℕ) (e : SelectorRefusal) → NoneAs K s → EndsWhite s → IsPlaced len s e → Refuses len p s e
  none_refused len s e none dark placed = flat_refused len p s e by.flat (λ steps whole. by.flat (whole_steps p steps whole))
      (none_stops s none)
      dark placed
