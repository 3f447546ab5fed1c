-- What a text's end, or a place where nothing leads on, says of the whole text.
use Rattle.std.proofs.Common.{◌≡◌, inl, inr, ℕ, ◌+◌, ◌≤◌, List, [], ◌∷◌, length, sym, ap, subst, arith, Result, Ok, Err}
use Rattle.sm_select.specs.Selectors.{Steps}
use Rattle.sm_select.specs.Tokens.{Token, EndsWhite, SkipsWhite, TokenThen}
use Rattle.sm_select.specs.SelectorText.{SelectorText, IsSelectorText, Comes, Furthest, BreaksBy, LeavesProfile, OtherForm}
use Rattle.sm_select.specs.declared.refusal.SelectorRefusal.{SelectorRefusal}
use Rattle.sm_select.specs.declared.refusal.SelectorRefusal.TheVariants.{Syntax, OutOfProfile, NoMemory}
use Rattle.sm_select.specs.steps.Places.{Place, stepping, Runs, IsWhole, IsStepping}
use Rattle.sm_select.specs.steps.Standing.{Passes, Reaches, StopsAt}
use Rattle.sm_select.specs.steps.Reader.{Stuck, IsNotWhole, IsPlaced, ReadsTo, Refuses}
use Rattle.sm_select.proofs.RestsBefore.{run_spells}
use Rattle.sm_select.proofs.SpelledRuns.{spelled_runs}
use Rattle.sm_select.proofs.Closings.{run_begun, begun_run, step_comes, comes_step}
use Rattle.sm_select.proofs.Passing.{one_white, no_white, begun_dark, lead_begins, passes_joined}

-- nothing is left, and the selector is whole
pub read_whole : (q : Place) (text : List ℕ) (steps : Steps) → Passes (stepping [] []) text q [] → IsWhole q steps → SelectorText steps text
read_whole q text steps p whole = record {
  tokens = p.tokens;
  behind = p.cut.0;
  cut = p.cut.1;
  whole = p.cut.2;
  spelled = run_spells q p.tokens steps p.run whole;
}

-- where nothing leads on, the others that pass by there end there
ends_there : (us : List Token) (q n : Place) (s rest : List ℕ) → StopsAt q s → EndsWhite s → EndsWhite rest → Reaches us s rest → Runs q
    us n
    → (s ≡ rest) × (q ≡ n)
ends_there [] q n s rest stops dark ends (c, e, gone) run =
    (one_white s s rest (no_white s) (subst (λ y. SkipsWhite y rest) (sym e) gone) dark ends, run)
ends_there (u ∷ us) q n s rest stops dark ends (c, (first, behind, to, then, more), gone) (m, lead, run) =
    let same = one_white s first s to (no_white s) (begun_dark first behind (lead_begins q m u first behind lead then)) dark in
    absurd (stops u behind m (subst (λ y. TokenThen u y behind) same then) lead)

module _ (text : List ℕ) (q : Place) (rest : List ℕ) (stuck : Stuck (stepping [] []) text q rest) where
  comes : Comes stuck.passes.tokens text rest
  comes = record {
    behind = stuck.passes.cut.0;
    cut = stuck.passes.cut.1;
    white = stuck.passes.cut.2;
    ends = stuck.dark;
    begun = run_begun q stuck.passes.tokens stuck.passes.run;
  }

  no_further : (others : List Token) (other : List ℕ) → Comes others text other → length rest ≤ length other
  no_further others other c = by_run (begun_run others c.begun)
    where
      by_run : (n : Place) × Runs (stepping [] []) others n → length rest ≤ length other
      by_run (n, run) = elim (stuck.passes.others others n other (c.behind, c.cut, c.white) c.ends run) [
        | inl l ↦ omega arith
        | inr (us, reached, goes) ↦
            let same = ends_there us q n rest other stuck.stops stuck.dark c.ends reached goes in let size = ap length same.0 in omega arith
      ]

  furthest : Furthest stuck.passes.tokens text rest
  furthest = record { comes = comes; furthest = no_further }

  no_selector : IsNotWhole q rest → IsSelectorText text → ⊥
  no_selector never (steps, t) = by_run (spelled_runs steps t.tokens t.spelled)
    where
      by_run : (n : Place) × Runs (stepping [] []) t.tokens n × IsWhole n steps → ⊥
      by_run (n, run, whole) = elim (stuck.passes.others t.tokens n [] (t.behind, t.cut, t.whole) tt run) [
        | inl l ↦ omega arith
        | inr (us, reached, goes) ↦
            let same = ends_there us q n rest [] stuck.stops stuck.dark tt reached goes in
            never same.0 steps (subst (λ x. IsWhole x steps) (sym same.1) whole)
      ]

  pub breaks : (at : ℕ) → IsNotWhole q rest → (IsStepping q → OtherForm rest → ⊥) → IsPlaced (length text) rest (Syntax at) → BreaksBy
      text at
  breaks at never profile placed = record {
    tokens = stuck.passes.tokens;
    rest = rest;
    no_selector = no_selector never;
    comes = furthest;
    in_profile = λ may other. profile (comes_step q stuck.passes.tokens stuck.passes.run may) other;
    place = placed;
  }

  pub leaves : (at : ℕ) → IsStepping q → OtherForm rest → at + length rest ≡ length text → LeavesProfile text at
  leaves at steps other placed = record {
    tokens = stuck.passes.tokens;
    rest = rest;
    comes = furthest;
    step = step_comes q stuck.passes.tokens stuck.passes.run steps;
    other = other;
    place = placed;
  }

-- a part that is refused behind what was read
pub refused_behind : (len : ℕ) (p q : Place) (s r : List ℕ) (e : SelectorRefusal) → Passes p s q r → Refuses len q r e → Refuses len p s e
refused_behind len p q s r (Syntax at) passes (n, rest, stuck, never, profile, placed) = (
  n,
  rest,
  record { passes = passes_joined p q n s r rest passes stuck.passes; dark = stuck.dark; stops = stuck.stops },
  never,
  profile,
  placed,
)
refused_behind len p q s r (OutOfProfile at) passes (n, rest, stuck, steps, other, placed) = (
  n,
  rest,
  record { passes = passes_joined p q n s r rest passes stuck.passes; dark = stuck.dark; stops = stuck.stops },
  steps,
  other,
  placed,
)
refused_behind len p q s r NoMemory passes refused = tt

-- a part that is read behind what was read, or refused there
pub read_behind : {A : Type 0} (len n : ℕ) (p q : Place) (s r x : List ℕ) (next : A → Place) (result : Result A SelectorRefusal) → n ≡ len
    → Passes p s q r
    → ReadsTo n q r x next result
    → ReadsTo len p s x next result
read_behind len n p q s r x next (Ok v) e passes read = passes_joined p q (next v) s r x passes read
read_behind len n p q s r x next (Err refusal) e passes refused =
    refused_behind len p q s r refusal passes (subst (λ k. Refuses k q r refusal) e refused)
