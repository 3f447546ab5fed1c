-- The laws of the crate as statements, each the contract of a function in `laws`.
use Rattle.std.specs.Prelude.{◌≡◌, ℕ, List, [], ◌++◌}
use Rattle.sm_model.specs.Graphs.{GraphMaps}
use Rattle.sm_select.specs.Answers.{ArePicked}
use Rattle.sm_select.specs.Selectors.{Steps}
use Rattle.sm_select.specs.Tokens.{Token}
use Rattle.sm_select.specs.Grammar.{SpellsSteps}
use Rattle.sm_select.specs.SelectorText.{SelectorText, IsSelectorText, Begun, BreaksBy, LeavesProfile}

-- a text is that of one selector at most
abbrev pub OneSelector : Type 0
OneSelector = (text : List ℕ) (steps others : Steps) → SelectorText steps text → SelectorText others text → steps ≡ others

-- what a selector's tokens begin with is begun
abbrev pub PrefixesAreBegun : Type 0
PrefixesAreBegun = (steps : Steps) (ts us : List Token) → SpellsSteps steps (ts ++ us) [] → Begun ts

-- a text is a selector's, breaks at one place, or leaves the profile at one place, and never two of them
pub record OneAnswer : Type 0 where
  pub selector_or_break : (text : List ℕ) (at : ℕ) → IsSelectorText text → BreaksBy text at → ⊥
  pub selector_or_other : (text : List ℕ) (at : ℕ) → IsSelectorText text → LeavesProfile text at → ⊥
  pub break_or_other : (text : List ℕ) (at other : ℕ) → BreaksBy text at → LeavesProfile text other → ⊥
  pub one_break : (text : List ℕ) (at other : ℕ) → BreaksBy text at → BreaksBy text other → at ≡ other
  pub one_other : (text : List ℕ) (at other : ℕ) → LeavesProfile text at → LeavesProfile text other → at ≡ other

-- and it can't be that it is none of these
abbrev pub SomeAnswer : Type 0
SomeAnswer = (text : List ℕ) → (IsSelectorText text → ⊥) → ((at : ℕ) → BreaksBy text at → ⊥) → ((at : ℕ) → LeavesProfile text at → ⊥) → ⊥

-- a selector picks one list of ids of a graph, and it can't be that it picks none
abbrev pub OnePicked : Type 0
OnePicked = (g : GraphMaps) (steps : Steps) (ids others : List (List ℕ)) → ArePicked g steps ids → ArePicked g steps others → ids ≡ others

abbrev pub SomePicked : Type 0
SomePicked = (g : GraphMaps) (steps : Steps) → ((ids : List (List ℕ)) → ArePicked g steps ids → ⊥) → ⊥
