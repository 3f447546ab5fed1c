-- What adding patterns to a store leaves there: of one, and of all that are carried.
use Rattle.std.specs.Prelude.{◌≡◌, ◌++◌, ◌+◌, ◌-◌, ◌^◌, ◌∷◌, [], ℕ, List, length, Some, Result, Ok, Err, min}
use Rattle.std.specs.Global.{Vec}
use Rattle.sm_model.specs.Reaching.{id_of_number}
use Rattle.sm_model.specs.declared.graph.Graph.{Graph}
use Rattle.sm_shapes.specs.declared.patterns.PatternRefusal.{PatternRefusal}
use Rattle.sm_shapes.specs.declared.patterns.PatternRefusal.TheVariants as store
use Rattle.sm_compile.specs.Answers.{IsLeftBehind, StoreSeen}
use Rattle.sm_compile.specs.Compiled.{AreNumberedFrom, PatternRows, texts_of}
use Rattle.sm_compile.specs.declared.compiled.CompileRefusal.{CompileRefusal}
use Rattle.sm_compile.specs.declared.compiled.CompileRefusal.TheVariants.{NoShape, Pattern, NoMemory}

-- a text is added, and has a row behind those before
pub record IsTextStored (text : List ℕ) (before now : StoreSeen) (rows rows_now : PatternRows) : Type 0 where
  pub row : rows_now ≡ rows ++ (length before.added, text) ∷ []
  pub added : now.added ≡ before.added ++ text ∷ []
  pub refused : now.refused ≡ before.refused
  pub refusals : now.refusals ≡ before.refusals

-- or it is refused
pub record IsTextRefused (text : List ℕ) (before now : StoreSeen) : Type 0 where
  pub added : now.added ≡ before.added
  pub refused : now.refused ≡ Some text
  pub refusals : now.refusals ≡ min (before.refusals + 1) (2 ^ 64 - 1)

abbrev pub StopsAt : List ℕ → List ℕ → StoreSeen → StoreSeen → CompileRefusal → Type 0
StopsAt id text before now NoShape = ⊥
StopsAt id text before now (Pattern carrier) = (carrier ≡ id) × IsTextRefused text before now
StopsAt id text before now NoMemory = IsLeftBehind before now

-- what a store's refusal comes to
abbrev pub stop_of : PatternRefusal → List ℕ → CompileRefusal
stop_of store.Refused id = Pattern id
stop_of store.NoMemory id = NoMemory

-- a text that this id carries is stored, or that stops
abbrev pub StoresText : List ℕ → List ℕ → StoreSeen → StoreSeen → PatternRows → PatternRows → Result (Unit {0}) CompileRefusal → Type 0
StoresText id text before now rows rows_now (Ok done) = IsTextStored text before now rows rows_now
StoresText id text before now rows rows_now (Err refusal) = StopsAt id text before now refusal

-- these texts are added, in order
pub record AreTextsStored (texts : List (List ℕ)) (before now : StoreSeen) (rows : PatternRows) : Type 0 where
  pub are : texts_of rows ≡ texts
  pub numbered : AreNumberedFrom (length before.added) rows
  pub added : now.added ≡ before.added ++ texts
  pub refused : now.refused ≡ before.refused
  pub refusals : now.refusals ≡ before.refusals

-- or one of them is refused, and those before it are added
pub record IsRefusedAmong (g : Graph) (all : PatternRows) (before now : StoreSeen) (id : List ℕ) : Type 0 where
  pub earlier : PatternRows
  pub number : ℕ
  pub text : List ℕ
  pub later : PatternRows
  pub parts : all ≡ earlier ++ (number, text) ∷ later
  pub carrier : id ≡ id_of_number g number
  pub added : now.added ≡ before.added ++ texts_of earlier
  pub refused : now.refused ≡ Some text
  pub refusals : now.refusals ≡ min (before.refusals + 1) (2 ^ 64 - 1)

abbrev pub StopsAmong : Graph → PatternRows → StoreSeen → StoreSeen → CompileRefusal → Type 0
StopsAmong g all before now NoShape = ⊥
StopsAmong g all before now (Pattern id) = IsRefusedAmong g all before now id
StopsAmong g all before now NoMemory = IsLeftBehind before now

abbrev pub StoresAll : Graph → PatternRows → StoreSeen → StoreSeen → Result (Vec (ℕ × List ℕ)) CompileRefusal → Type 0
StoresAll g all before now (Ok rows) = AreTextsStored (texts_of all) before now rows.items
StoresAll g all before now (Err refusal) = StopsAmong g all before now refusal
