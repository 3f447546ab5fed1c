-- What a look at the bytes held finds of a head, and what a call does that takes bytes up to an LF.
use Rattle.std.specs.Prelude.{◌≡◌, ℕ, List, ◌++◌, length, drop, Option, Some, None, Result, Ok, Err}
use Rattle.std.specs.Io.KnownBytes.{Consumes}
use Rattle.sm_http.specs.declared.message.Head.{Head}
use Rattle.sm_http.specs.declared.message.BodyLeft.{BodyLeft}
use Rattle.sm_http.specs.declared.message.MessageSide.{MessageSide}
use Rattle.sm_http.specs.declared.refusal.HttpRefusal.{HttpRefusal}
use Rattle.sm_http.specs.declared.head.HeadFound.{HeadFound}
use Rattle.sm_http.specs.declared.see.SeenHead.TheVariants.{Whole, Part}
use Rattle.sm_http.specs.declared.held.Unfilled.{Unfilled}
use Rattle.sm_http.specs.declared.held.Unfilled.TheVariants.{Failed, NoMemory}
use Rattle.sm_http.specs.steps.Holding.{Fills}
use Rattle.sm_http.specs.steps.Seeing.{SeesHead}

-- a whole head was found, and its bytes are no longer held
pub record FindsWhole (side : MessageSide) (before now : List ℕ) (pair : Head × BodyLeft) : Type 0 where
  pub found : HeadFound
  pub sees : SeesHead side before (Ok (Whole found pair.1))
  pub now_is : now ≡ drop found.len before
  pub head_is : pair.0 ≡ found.head

abbrev pub LooksAHead : MessageSide → List ℕ → List ℕ → Result (Option (Head × BodyLeft)) HttpRefusal → Type 0
LooksAHead side before now (Ok (Some pair)) = FindsWhole side before now pair
LooksAHead side before now (Ok None) = (now ≡ before) × SeesHead side before (Ok Part)
LooksAHead side before now (Err why) = SeesHead side before (Err why)

-- bytes were taken, so many where there was no fault
pub record HasTaken (left rest : Option (List ℕ)) (before now : List ℕ) (count : ℕ) : Type 0 where
  pub taken : List ℕ
  pub consumes : Consumes left rest taken
  pub now_is : now ≡ before ++ taken
  pub long : length taken ≡ count

abbrev pub FillsOn : Option (List ℕ) → Option (List ℕ) → List ℕ → List ℕ → Result ℕ Unfilled → Type 0
FillsOn left rest before now (Ok count) = Fills left rest before now (Ok count)
FillsOn left rest before now (Err Failed) = (count : ℕ) × HasTaken left rest before now count
FillsOn left rest before now (Err NoMemory) = (count : ℕ) × HasTaken left rest before now count
