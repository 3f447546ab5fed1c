-- Which texts are selectors, and where a text that is none is refused (Smithy 2.0, "Selectors").
use Rattle.std.specs.Prelude.{◌≡◌, ◌≤◌, ◌⊎◌, ℕ, ◌+◌, true, List, [], ◌∷◌, ◌++◌, length, codes}
use Rattle.std.specs.List.{AllPass, Contains}
use Rattle.sm_bytes.specs.Ascii.{apostrophe, dollar, quote}
use Rattle.sm_select.specs.Selectors.{Steps}
use Rattle.sm_select.specs.Tokens.{Token, terminal, GoesOnWithRun, BeginsOther, EndsWhite, IsFree, SkipsWhite, TokensThen, begins_run}
use Rattle.sm_select.specs.Tokens.{is_run_byte}
use Rattle.sm_select.specs.Grammar.{SpellsSteps}

-- the text spells the selector
pub record SelectorText (steps : Steps) (text : List ℕ) : Type 0 where
  pub tokens : List Token
  pub behind : List ℕ
  pub cut : TokensThen tokens text behind
  pub whole : SkipsWhite behind []
  pub spelled : SpellsSteps steps tokens []

abbrev pub IsSelectorText : List ℕ → Type 0
IsSelectorText text = (steps : Steps) × SelectorText steps text

-- some selector begins with these tokens
abbrev pub Begun : List Token → Type 0
Begun tokens = (more : List Token) × (steps : Steps) × SpellsSteps steps (tokens ++ more) []

-- a step may stand behind them
abbrev pub StepMayCome : List Token → Type 0
StepMayCome tokens = Begun (tokens ++ terminal (codes "*") ∷ [])

-- a run of letters, digits, `_`, `.` and `#`, whole
pub record IsRun (run s behind : List ℕ) : Type 0 where
  pub first : ℕ
  pub more : List ℕ
  pub is : run ≡ first ∷ more
  pub begins : begins_run first ≡ true
  pub goes_on : AllPass is_run_byte more
  pub spelled : s ≡ run ++ behind
  pub ends : GoesOnWithRun behind → ⊥

-- the names behind `:` that are read, and the names of categories
abbrev pub read_names : List (List ℕ)
read_names = codes "is" ∷ codes "not" ∷ codes "test" ∷ []

abbrev pub categories : List (List ℕ)
categories = codes "simpleType" ∷ codes "number" ∷ codes "collection" ∷ []

-- forms of the standard that are not read begin here: `$`, `${`, `[@`, `<-[`, `:` with another name, a category
pub data OtherForm (s : List ℕ) : Type 0 where
  variable : (more : List ℕ) → s ≡ dollar ∷ more → OtherForm s
  scoped_or_back : BeginsOther s → OtherForm s
  function : (name more behind : List ℕ) → s ≡ codes ":" ++ more → IsRun name more behind → (Contains read_names name → ⊥) → OtherForm s
  category : (name behind : List ℕ) → IsRun name s behind → Contains categories name → OtherForm s

-- quoted text without its end
abbrev pub IsUnclosed : List ℕ → Type 0
IsUnclosed s = ((t : List ℕ) × (s ≡ quote ∷ t) × IsFree quote t) ⊎ ((t : List ℕ) × (s ≡ apostrophe ∷ t) × IsFree apostrophe t)

-- behind tokens that are begun, and white space, the text goes on with `rest`
pub record Comes (tokens : List Token) (text rest : List ℕ) : Type 0 where
  pub behind : List ℕ
  pub cut : TokensThen tokens text behind
  pub white : SkipsWhite behind rest
  pub ends : EndsWhite rest
  pub begun : Begun tokens

-- and no others lead further. Where tokens may be cut in two ways, as `id|name` and `id`, or a number and its first digits, the
-- cut that leads further counts
pub record Furthest (tokens : List Token) (text rest : List ℕ) : Type 0 where
  pub comes : Comes tokens text rest
  pub furthest : (others : List Token) (other : List ℕ) → Comes others text other → length rest ≤ length other

-- there stands no form that is out of profile, where a step may come
abbrev pub InProfile : List Token → List ℕ → Type 0
InProfile tokens rest = StepMayCome tokens → OtherForm rest → ⊥

-- the text is no selector's, and breaks at this place: behind the tokens that lead furthest, or at its length where quoted text has
-- no end there
pub record BreaksBy (text : List ℕ) (at : ℕ) : Type 0 where
  pub tokens : List Token
  pub rest : List ℕ
  pub no_selector : IsSelectorText text → ⊥
  pub comes : Furthest tokens text rest
  pub in_profile : InProfile tokens rest
  pub place : (IsUnclosed rest × (at ≡ length text)) ⊎ ((IsUnclosed rest → ⊥) × (at + length rest ≡ length text))

-- a form that is out of profile stands at this place
pub record LeavesProfile (text : List ℕ) (at : ℕ) : Type 0 where
  pub tokens : List Token
  pub rest : List ℕ
  pub comes : Furthest tokens text rest
  pub step : StepMayCome tokens
  pub other : OtherForm rest
  pub place : at + length rest ≡ length text
