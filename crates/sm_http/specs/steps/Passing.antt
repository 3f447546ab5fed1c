-- What is seen of the next place in a body, and what a call that goes there does.
use Rattle.std.specs.Prelude.{◌≡◌, ℕ, zero, suc, ◌+◌, ◌-◌, ◌<◌, ◌≤◌, List, [], ◌++◌, length, take, IfSome, Option, Result, Ok, Err, Vec}
use Rattle.std.specs.declared.alloc.Global.{Global}
use Rattle.std.specs.Io.KnownBytes.{Consumes}
use Rattle.sm_http.specs.declared.message.BodyLeft.{BodyLeft}
use Rattle.sm_http.specs.declared.message.BodyLeft.TheVariants.{Known, Size, Data, Done}
use Rattle.sm_http.specs.declared.refusal.HttpRefusal.{HttpRefusal}
use Rattle.sm_http.specs.declared.refusal.HttpRefusal.TheVariants.{ReadFault, Ended, HeadTooLarge, Coding, Length, TooLong, Chunk, NoMemory}
use Rattle.sm_http.specs.declared.refusal.HttpRefusal.TheVariants.{Head as BadHead}
use Rattle.sm_http.specs.declared.place.SeenPlace.{SeenPlace}
use Rattle.sm_http.specs.declared.place.SeenPlace.TheVariants.{Next, Part}
use Rattle.sm_http.specs.Limits.{head_limit, piece_limit}
use Rattle.sm_http.specs.Bodies.{BodyFramed, body_refused}
use Rattle.sm_http.specs.Calls.{IsWithinLimit, data_room, RefusedAs}
use Rattle.sm_http.specs.steps.Places.{Steps}

-- how many lines stand before data or the end may come
abbrev pub lines_before : BodyLeft → ℕ
lines_before (Known count) = 0
lines_before (Size sum) = 1
lines_before (Data zero total) = 2
lines_before (Data (suc k) total) = 0
lines_before Done = 0

-- so many of the bytes lead to the next place
pub record Leads (left : BodyLeft) (bytes : List ℕ) (used : ℕ) (next : BodyLeft) : Type 0 where
  pub inside : used ≤ length bytes
  pub steps : Steps left (take used bytes) [] next
  pub fewer : lines_before next ≤ lines_before left - 1
  pub within : IsWithinLimit next
  pub room : data_room next ≤ data_room left

-- so many bytes of data, with which the body goes on, are no longer ahead
abbrev pub Gives : ℕ → Option (List ℕ) → Option (List ℕ) → Option (List ℕ) → List ℕ → Result ℕ HttpRefusal → Type 0
Gives most ahead behind left buffer (Ok count) =
    (0 < count) × (count ≤ most) × (count ≤ piece_limit) × Consumes ahead behind (take count buffer)
Gives most ahead behind left buffer (Err ReadFault) = Consumes ahead left []
Gives most ahead behind left buffer (Err Ended) = IfSome ahead (λ bytes. bytes ≡ [])
Gives most ahead behind left buffer (Err BadHead) = ⊥
Gives most ahead behind left buffer (Err HeadTooLarge) = ⊥
Gives most ahead behind left buffer (Err Coding) = ⊥
Gives most ahead behind left buffer (Err Length) = ⊥
Gives most ahead behind left buffer (Err TooLong) = ⊥
Gives most ahead behind left buffer (Err Chunk) = ⊥
Gives most ahead behind left buffer (Err NoMemory) = ⊥

abbrev pub SeesPlace : BodyLeft → List ℕ → Result SeenPlace HttpRefusal → Type 0
SeesPlace left bytes (Ok (Next used next)) = Leads left bytes used next
SeesPlace left bytes (Ok Part) = (length bytes < head_limit) × BodyFramed left bytes (body_refused Ended)
SeesPlace left bytes (Err why) = (more : List ℕ) → BodyFramed left (bytes ++ more) (body_refused why)

-- a refusal of a body from a place on
abbrev pub RefusesBody : BodyLeft → Option (List ℕ) → Option (List ℕ) → HttpRefusal → Type 0
RefusesBody before ahead left why =
    RefusedAs ahead left (λ bytes word. BodyFramed before bytes (body_refused word))
    (λ taken. BodyFramed before taken (body_refused Ended)) why

-- the bytes ahead lose some, which are a step to the place now
pub record GoesTo (before now : BodyLeft) (ahead behind : Option (List ℕ)) (piece : List ℕ) : Type 0 where
  pub used : List ℕ
  pub consumes : Consumes ahead behind used
  pub steps : Steps before used piece now
  pub within : IsWithinLimit now

pub record PassesTo (before now : BodyLeft) (ahead behind : Option (List ℕ)) : Type 0 where
  pub goes : GoesTo before now ahead behind []
  pub fewer : lines_before now ≤ lines_before before - 1
  pub room : data_room now ≤ data_room before

abbrev pub Passes : BodyLeft → BodyLeft → Option (List ℕ) → Option (List ℕ) → Option (List ℕ) → Result (Unit {0}) HttpRefusal → Type 0
Passes before now ahead behind left (Ok u) = PassesTo before now ahead behind
Passes before now ahead behind left (Err why) = RefusesBody before ahead left why

-- data, or the end where no data came
pub record GivesPiece (before now : BodyLeft) (ahead behind : Option (List ℕ)) (buffer : List ℕ) (count : ℕ) : Type 0 where
  pub few : count ≤ piece_limit
  pub goes : GoesTo before now ahead behind (take count buffer)
  pub ends : count ≡ 0 → now ≡ Done
  pub room : data_room now + count ≤ data_room before

abbrev pub GivesBody : BodyLeft → BodyLeft → Option (List ℕ) → Option (List ℕ) → Option (List ℕ) → List ℕ → Result ℕ HttpRefusal → Type 0
GivesBody before now ahead behind left buffer (Ok count) = GivesPiece before now ahead behind buffer count
GivesBody before now ahead behind left buffer (Err why) = RefusesBody before ahead left why

-- the rest of a body, whole
abbrev pub TakesBody : BodyLeft → Option (List ℕ) → Option (List ℕ) → Option (List ℕ) → Result (Vec ℕ Global) HttpRefusal → Type 0
TakesBody before ahead behind left (Ok content) = GoesTo before Done ahead behind content.items
TakesBody before ahead behind left (Err why) = RefusesBody before ahead left why
