-- What the text reader answers, by what may still come of the string that it is in.
use Rattle.std.specs.Prelude.{◌≡◌, ◌+◌, ◌≤◌, ◌<◌, ℕ, List, [], ◌∷◌, length, take, string_bytes, Result, Ok, Err}
use Rattle.sm_bytes.specs.declared.no_memory.NoMemory.{NoMemory as OutOfMemory}
use Rattle.sm_json.specs.declared.spot.Spot.TheVariants.{Plain}
use Rattle.sm_json.specs.declared.text.TextReader.{TextReader}
use Rattle.sm_json.specs.declared.text.TextReading.{TextReading}
use Rattle.sm_json.specs.declared.text.TextReading.TheVariants.{Closed, Open}
use Rattle.sm_json.specs.declared.text.TextTaken.{TextTaken}
use Rattle.sm_json.specs.declared.text.TextTaken.TheVariants.{Open as GoesOn, Closed as HasClosed, Refused}
use Rattle.sm_json.specs.declared.text.TextRefusal.{TextRefusal}
use Rattle.sm_json.specs.declared.text.TextRefusal.TheVariants.{Bad, NoMemory}
use Rattle.sm_json.specs.steps.TextRest.{TextRest}
use Rattle.sm_json.specs.steps.StringRuns.{StringTakes, StringCloses, StringStops}

-- the characters so far, in UTF-8: those of the whole string where it has closed
abbrev pub string_so_far : TextReader → List ℕ
string_so_far reader = string_bytes reader.text

-- s spells the rest of the string that the reader is in, whose characters in UTF-8 are t, and r follows
abbrev pub StringRest : TextReader → List ℕ → List ℕ → List ℕ → Type 0
StringRest reader s t r = TextRest reader.spot (string_so_far reader) s t r

-- behind the opening quotation mark
abbrev pub IsAtStart : TextReader → Type 0
IsAtStart reader = (reader.spot ≡ Plain) × (string_so_far reader ≡ [])

-- what may come behind these bytes is what may come now
abbrev pub ReadsOn : TextReader → TextReader → List ℕ → Type 0
ReadsOn old new bs = StringTakes old.spot (string_so_far old) new.spot (string_so_far new) bs

-- the string closes with the last of these bytes, and its text is the reader's
abbrev pub ReadsWhole : TextReader → TextReader → List ℕ → Type 0
ReadsWhole old new bs = StringCloses old.spot (string_so_far old) (string_so_far new) bs

abbrev pub StringTakesRun : TextReader → TextReader → List ℕ → Result ℕ OutOfMemory → Type 0
StringTakesRun old new bs (Ok n) = (n ≤ length bs) × ReadsOn old new (take n bs)
StringTakesRun old new bs (Err refusal) = Unit {0}

abbrev pub StringTakesByte : TextReader → TextReader → ℕ → Result TextTaken OutOfMemory → Type 0
StringTakesByte old new x (Ok GoesOn) = ReadsOn old new (x ∷ [])
StringTakesByte old new x (Ok HasClosed) = ReadsWhole old new (x ∷ [])
StringTakesByte old new x (Ok Refused) = StringStops old.spot (string_so_far old) (x ∷ []) × ReadsOn old new []
StringTakesByte old new x (Err refusal) = Unit {0}

abbrev pub ReadsString : TextReader → TextReader → List ℕ → Result TextReading TextRefusal → Type 0
ReadsString old new bs (Ok (Closed count)) = (0 < count) × (count ≤ length bs) × ReadsWhole old new (take count bs)
ReadsString old new bs (Ok Open) = ReadsOn old new bs
ReadsString old new bs (Err (Bad at)) =
    (at < length bs) × StringStops old.spot (string_so_far old) (take (at + 1) bs) × ReadsOn old new (take at bs)
ReadsString old new bs (Err NoMemory) = Unit {0}
