-- What is found at the start of some bytes: a head, or why none.
use Rattle.std.specs.Prelude.{ℕ, ◌≤◌, List, length, drop, Result, Ok, Err}
use Rattle.httparse.specs.declared.borrowed.Header.{Header}
use Rattle.httparse.specs.Grammar.{MayBecomeRequest, MayBecomeResponse}
use Rattle.httparse.specs.Spans.{RequestExceeds, ResponseExceeds}
use Rattle.sm_http.specs.declared.message.Field.{Field}
use Rattle.sm_http.specs.declared.message.MessageSide.{MessageSide}
use Rattle.sm_http.specs.declared.message.MessageSide.TheVariants.{Request as of_requests, Response as of_responses}
use Rattle.sm_http.specs.declared.head.HeadFound.{HeadFound}
use Rattle.sm_http.specs.declared.head.Unfound.{Unfound}
use Rattle.sm_http.specs.declared.head.Unfound.TheVariants.{Part, Never, TooMany, NoMemory}
use Rattle.sm_http.specs.Heads.{HeadText, ReadsHead, HasNoHead, NeverHasHead}

abbrev pub header_field : Header → Field
header_field header = record { name = header.name.now; value = header.value.now }

abbrev pub found_text : HeadFound → HeadText
found_text found = record { head = found.head; minor = found.minor }

-- some bytes can follow that make a head, or a request's target hasn't ended
abbrev pub MayBecomeHead : MessageSide → List ℕ → Type 0
MayBecomeHead of_requests bytes = MayBecomeRequest bytes
MayBecomeHead of_responses bytes = MayBecomeResponse bytes

-- the bytes begin with more field lines than there is room for
abbrev pub HeadExceeds : MessageSide → ℕ → List ℕ → Type 0
HeadExceeds of_requests room bytes = RequestExceeds room bytes
HeadExceeds of_responses room bytes = ResponseExceeds room bytes

abbrev pub FindsHead : MessageSide → ℕ → List ℕ → Result HeadFound Unfound → Type 0
FindsHead side room bytes (Ok found) =
    ReadsHead side bytes (found_text found) (drop found.len bytes) × (found.len ≤ length bytes)
FindsHead side room bytes (Err Part) = HasNoHead side bytes × MayBecomeHead side bytes
FindsHead side room bytes (Err Never) = NeverHasHead side bytes
FindsHead side room bytes (Err TooMany) = HeadExceeds side room bytes
FindsHead side room bytes (Err NoMemory) = Unit {0}
