-- What the parts of the reader of selectors answer.
use Rattle.std.specs.Prelude.{◌≡◌, ◌⊎◌, ℕ, ◌+◌, Bool, false, List, [], ◌∷◌, ◌++◌, length, Option, Some, None, Result, Ok}
use Rattle.std.specs.Prelude.{Err}
use Rattle.sm_select.specs.Selectors.{Attribute, id_of, namespace_of, name_of, member_of, trait_of, Step, compares, Steps}
use Rattle.sm_select.specs.Tokens.{EndsWhite, begins_run, is_selector_white}
use Rattle.sm_select.specs.SelectorText.{IsRun, IsUnclosed, OtherForm}
use Rattle.sm_select.specs.declared.refusal.SelectorRefusal.{SelectorRefusal}
use Rattle.sm_select.specs.declared.refusal.SelectorRefusal.TheVariants.{Syntax, OutOfProfile, NoMemory}
use Rattle.sm_select.specs.declared.selector.SelectorOp.{SelectorOp}
use Rattle.sm_select.specs.declared.tokens.Sign.TheVariants.{Bar}
use Rattle.sm_select.specs.steps.Signs.{stands}
use Rattle.sm_select.specs.steps.Places.{Frame, Place, stepping, value_wanted, IsStepping, IsWhole}
use Rattle.sm_select.specs.steps.Standing.{Passes, StopsAt}

-- the first byte is white space, or begins a run
abbrev pub begins_white : List ℕ → Bool
begins_white [] = false
begins_white (c ∷ s) = is_selector_white c

abbrev pub begins_a_run : List ℕ → Bool
begins_a_run [] = false
begins_a_run (c ∷ s) = begins_run c

abbrev pub BeginsNoRun : List ℕ → Type 0
BeginsNoRun [] = Unit {0}
BeginsNoRun (c ∷ s) = begins_run c ≡ false

-- the run at the start of s, or nothing where none is
abbrev pub IsRunAt : List ℕ → List ℕ → Type 0
IsRunAt s run = (BeginsNoRun s × (run ≡ [])) ⊎ ((behind : List ℕ) × IsRun run s behind)

-- the place of what is left, or the length of the text where quoted text has no end there
abbrev pub IsPlaced : ℕ → List ℕ → SelectorRefusal → Type 0
IsPlaced len rest (Syntax at) = (IsUnclosed rest × (at ≡ len)) ⊎ ((IsUnclosed rest → ⊥) × (at + length rest ≡ len))
IsPlaced len rest (OutOfProfile at) = ⊥
IsPlaced len rest NoMemory = ⊥

-- s leads from a place to one from which nothing leads on, and then this rest stands
pub record Stuck (p : Place) (s : List ℕ) (q : Place) (rest : List ℕ) : Type 0 where
  pub passes : Passes p s q rest
  pub dark : EndsWhite rest
  pub stops : StopsAt q rest

abbrev pub IsNotWhole : Place → List ℕ → Type 0
IsNotWhole q rest = rest ≡ [] → (steps : Steps) → IsWhole q steps → ⊥

abbrev pub Refuses : ℕ → Place → List ℕ → SelectorRefusal → Type 0
Refuses len p s (Syntax at) =
    (q : Place) × (rest : List ℕ) × Stuck p s q rest × IsNotWhole q rest × (IsStepping q → OtherForm rest → ⊥)
    × IsPlaced len rest (Syntax at)
Refuses len p s (OutOfProfile at) =
    (q : Place) × (rest : List ℕ) × Stuck p s q rest × IsStepping q × OtherForm rest × (at + length rest ≡ len)
Refuses len p s NoMemory = Unit {0}

-- where a path may go on with a key, none follows
abbrev pub NoKeyFollows : Attribute → List ℕ → Type 0
NoKeyFollows id_of s = Unit {0}
NoKeyFollows namespace_of s = Unit {0}
NoKeyFollows name_of s = Unit {0}
NoKeyFollows member_of s = Unit {0}
NoKeyFollows (trait_of u ks) s = stands Bar s ≡ false

-- behind a value another is to come, or the attribute ends
abbrev pub behind_a_value : List Step → List Frame → Attribute → SelectorOp → List (List ℕ) → Option Bool → Place
behind_a_value ss fs path op vs None = value_wanted ss fs path op vs
behind_a_value ss fs path op vs (Some fold) = stepping (ss ++ compares path op vs fold ∷ []) fs

-- the text s is read as x from one place to another, and then r is left
abbrev pub ReadsTo : {A : Type 0} → ℕ → Place → List ℕ → List ℕ → (A → Place) → Result A SelectorRefusal → Type 0
ReadsTo len p s r next (Ok x) = Passes p s (next x) r
ReadsTo len p s r next (Err e) = Refuses len p s e
