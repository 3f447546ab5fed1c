-- It can't be that a text is no selector's, breaks nowhere and leaves the profile nowhere.
use Rattle.std.proofs.Common.{◌≡◌, ◌⊎◌, inl, inr, ℕ, zero, suc, ◌+◌, ◌-◌, ◌<◌, ◌≤◌, Bool, true, false, List, [], ◌∷◌, length, refl, ap}
use Rattle.std.proofs.Common.{arith}
use Rattle.std.specs.Prelude.{◌&&◌}
use Rattle.std.proofs.lemmas.List.Sums.{AllPass-from_list_all}
use Rattle.sm_select.specs.Laws.{SomeAnswer}
use Rattle.sm_select.specs.Tokens.{Token, EndsWhite, SkipsWhite, is_selector_white}
use Rattle.sm_select.specs.SelectorText.{BreaksBy, Comes, Furthest, IsSelectorText, IsUnclosed, LeavesProfile, OtherForm, StepMayCome}
use Rattle.sm_select.specs.steps.Places.{stepping}
use Rattle.sm_select.proofs.Closings.{begun_run, run_begun}
use Rattle.sm_select.proofs.Passing.{no_white, tokens_shorter, white_joined, white_shorter}

sides : (i k : ℕ) → (i ≤ k) ⊎ (k < i)
sides zero k = let h : 0 ≤ k = omega arith in inl h
sides (suc i) zero = let h : 0 < suc i = omega arith in inr h
sides (suc i) (suc k) = elim (sides i k) [
  | inl h ↦ let more : suc i ≤ suc k = omega (arith, h) in inl more
  | inr h ↦ let more : suc k < suc i = omega (arith, h) in inr more
]

-- of the cuts of a text one leads furthest
module _ (text : List ℕ) (none : (tokens : List Token) (rest : List ℕ) → Furthest tokens text rest → ⊥) where
  some_furthest : (n : ℕ) (tokens : List Token) (rest : List ℕ) → length rest ≤ n → Comes tokens text rest → ⊥
  some_furthest zero tokens rest small c =
      none tokens rest (record { comes = c; furthest = λ others other d. let h : length rest ≤ length other = omega (arith, small) in h })
  some_furthest (suc n) tokens rest small c = none tokens rest (record {
    comes = c;
    furthest = λ others other d. elim (sides (length rest) (length other)) [
      | inl h ↦ h
      | inr h ↦ let less : length other ≤ n = omega (arith, h, small) in absurd (some_furthest n others other less d)
    ];
  })

-- white space that stands first
record Dark (s : List ℕ) : Type 0 where
  rest : List ℕ
  white : SkipsWhite s rest
  ends : EndsWhite rest

one_white : (c : ℕ) (s : List ℕ) → is_selector_white c ≡ true → SkipsWhite (c ∷ s) s
one_white c s is =
    (c ∷ [], refl, AllPass-from_list_all is_selector_white (c ∷ []) (ap (λ b. b && true) is))

dark : (s : List ℕ) → Dark s
dark [] = record { rest = []; white = no_white []; ends = tt }
dark (c ∷ s) = by_test (dark s) (is_selector_white c) refl
  where
    by_test : Dark s → (b : Bool) → is_selector_white c ≡ b → Dark (c ∷ s)
    by_test later true is = record {
      rest = later.rest;
      white = white_joined (c ∷ s) s later.rest (one_white c s is) later.white;
      ends = later.ends;
    }
    by_test later false is = record { rest = c ∷ s; white = no_white (c ∷ s); ends = is }

begins : (text : List ℕ) → (d : Dark text) → Comes [] text d.rest
begins text d = record { behind = text; cut = refl; white = d.white; ends = d.ends; begun = run_begun (stepping [] []) [] refl }

within : (tokens : List Token) (text rest : List ℕ) → Comes tokens text rest → length rest ≤ length text
within tokens text rest c =
    let run = begun_run tokens c.begun in
    let a = tokens_shorter tokens (stepping [] []) run.0 text c.behind c.cut run.1 in
    let b = white_shorter c.behind rest c.white in
    omega (arith, a, b)

module _ (text : List ℕ) (no_selector : IsSelectorText text → ⊥) (no_break : (at : ℕ) → BreaksBy text at → ⊥)
    (no_other : (at : ℕ) → LeavesProfile text at → ⊥) (tokens : List Token) (rest : List ℕ) (f : Furthest tokens text rest) where
  abbrev place : ℕ
  place = length text - length rest

  is_place : place + length rest ≡ length text
  is_place = let small = within tokens text rest f.comes in omega (arith, small)

  in_profile : StepMayCome tokens → OtherForm rest → ⊥
  in_profile step other =
      no_other place (record { tokens = tokens; rest = rest; comes = f; step = step; other = other; place = is_place })

  closed : IsUnclosed rest → ⊥
  closed unclosed = no_break (length text) (record {
    tokens = tokens;
    rest = rest;
    no_selector = no_selector;
    comes = f;
    in_profile = in_profile;
    place = inl (unclosed, refl);
  })

  answered : ⊥
  answered = no_break place (record {
    tokens = tokens;
    rest = rest;
    no_selector = no_selector;
    comes = f;
    in_profile = in_profile;
    place = inr (closed, is_place);
  })

pub some_answer : SomeAnswer
some_answer text no_selector no_break no_other =
    let d = dark text in
    some_furthest text (answered text no_selector no_break no_other) (length text) [] d.rest (within [] text d.rest (begins text d))
    (begins text d)
