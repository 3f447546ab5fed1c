-- What is seen of a head in the bytes so far: a whole one, a part, or a refusal.
use Rattle.std.specs.Prelude.{◌≡◌, ℕ, ◌≤◌, ◌⊎◌, true, List, length, drop, Some, None, Result, Ok, Err}
use Rattle.sm_http.specs.declared.message.MessageSide.{MessageSide}
use Rattle.sm_http.specs.declared.refusal.HttpRefusal.{HttpRefusal}
use Rattle.sm_http.specs.declared.refusal.HttpRefusal.TheVariants.{ReadFault, Ended, HeadTooLarge, Coding, Length, TooLong, Chunk, NoMemory}
use Rattle.sm_http.specs.declared.refusal.HttpRefusal.TheVariants.{Head as BadHead}
use Rattle.sm_http.specs.declared.head.HeadFound.{HeadFound}
use Rattle.sm_http.specs.declared.head.Unfound.{Unfound}
use Rattle.sm_http.specs.declared.head.Unfound.TheVariants as unfound
use Rattle.sm_http.specs.declared.see.SeenHead.{SeenHead}
use Rattle.sm_http.specs.declared.see.SeenHead.TheVariants.{Whole, Part}
use Rattle.sm_http.specs.Heads.{HeadText, ReadsHead, HasNoHead, NeverHasHead, has_first_line}
use Rattle.sm_http.specs.BodyFields.{head_refusal, body_begin}
use Rattle.sm_http.specs.steps.Finding.{found_text, MayBecomeHead}

-- what is found where there is room for all fields
abbrev pub FindsAny : MessageSide → List ℕ → Result HeadFound Unfound → Type 0
FindsAny side bytes (Ok found) =
    ReadsHead side bytes (found_text found) (drop found.len bytes) × (found.len ≤ length bytes)
FindsAny side bytes (Err unfound.Part) = HasNoHead side bytes × MayBecomeHead side bytes
FindsAny side bytes (Err unfound.Never) = NeverHasHead side bytes
FindsAny side bytes (Err unfound.TooMany) = ⊥
FindsAny side bytes (Err unfound.NoMemory) = Unit {0}

-- a head stands that is refused so
abbrev pub RefusesRead : MessageSide → List ℕ → HttpRefusal → Type 0
RefusesRead side bytes why = (text : HeadText) × (rest : List ℕ) × ReadsHead side bytes text rest × (head_refusal text ≡ Some why)

-- the first line has ended, and no head can follow
abbrev pub IsLost : MessageSide → List ℕ → Type 0
IsLost side bytes = (has_first_line bytes ≡ true) × NeverHasHead side bytes

abbrev pub SeesHead : MessageSide → List ℕ → Result SeenHead HttpRefusal → Type 0
SeesHead side bytes (Ok (Whole found left)) =
    ReadsHead side bytes (found_text found) (drop found.len bytes) × (found.len ≤ length bytes)
    × (head_refusal (found_text found) ≡ None) × (left ≡ body_begin found.head)
SeesHead side bytes (Ok Part) = HasNoHead side bytes × (IsLost side bytes → ⊥)
SeesHead side bytes (Err BadHead) = IsLost side bytes ⊎ RefusesRead side bytes BadHead
SeesHead side bytes (Err ReadFault) = RefusesRead side bytes ReadFault
SeesHead side bytes (Err Ended) = RefusesRead side bytes Ended
SeesHead side bytes (Err HeadTooLarge) = RefusesRead side bytes HeadTooLarge
SeesHead side bytes (Err Coding) = RefusesRead side bytes Coding
SeesHead side bytes (Err Length) = RefusesRead side bytes Length
SeesHead side bytes (Err TooLong) = RefusesRead side bytes TooLong
SeesHead side bytes (Err Chunk) = RefusesRead side bytes Chunk
SeesHead side bytes (Err NoMemory) = Unit {0}
