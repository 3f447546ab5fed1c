-- What is put of what a command came to.
use Rattle.std.specs.Prelude.{◌≡◌, ℕ, ◌⊎◌, List, Result, Ok, Err}
use Rattle.std.specs.Global.{Vec}
use Rattle.std.specs.Io.KnownBytes.{Keeps, Appends}
use Rattle.sm_io.specs.Causes.{Rose}
use Rattle.sm_io.specs.Writing.{AppendsPrefix}
use Rattle.sm_io.specs.Seen.{Stream}
use Rattle.sm_asked.specs.Answer.{Answer, done, refused, pattern_refused, past}
use Rattle.sm_asked.specs.declared.stop.CommandStop.{CommandStop}
use Rattle.sm_asked.specs.declared.stop.CommandStop.TheVariants.{Refused, Pattern, Limit, ReadFault, NoMemory}
use Rattle.sm_asked.specs.declared.status.Status.{Status}
use Rattle.sm_asked.specs.declared.status.Status.TheVariants.{WriteFault, ReadFault as ends_by_read, NoMemory as ends_by_memory}

-- the text was put, and the status is this one; or the output failed, or memory ran out
abbrev pub PutEnds : Stream → Stream → List ℕ → Status → Status → Type 0
PutEnds before after text wanted status =
    ((status ≡ wanted) × Appends before.bytes after.bytes text)
    ⊎ (((status ≡ WriteFault) × Rose before.faults after.faults × AppendsPrefix before.bytes after.bytes text)
    ⊎ ((status ≡ ends_by_memory) × Keeps before.bytes after.bytes))

-- an answer is printed
abbrev pub PutsAnswer : Stream → Stream → Answer → Status → Type 0
PutsAnswer before after a status = PutEnds before after a.text a.status status

-- the line of a refusal is printed; after a failed read, and where memory ran out, the output is as it was
abbrev pub PrintsStop : Stream → Stream → CommandStop → Status → Type 0
PrintsStop before after (Refused line) status = PutsAnswer before after (refused line.items) status
PrintsStop before after (Pattern line) status = PutsAnswer before after (pattern_refused line.items) status
PrintsStop before after (Limit line) status = PutsAnswer before after (past line.items) status
PrintsStop before after ReadFault status = (status ≡ ends_by_read) × (after ≡ before)
PrintsStop before after NoMemory status = (status ≡ ends_by_memory) × (after ≡ before)

abbrev pub PrintsResult : Stream → Stream → Result (Vec ℕ) CommandStop → Status → Type 0
PrintsResult before after (Ok text) status = PutsAnswer before after (done text.items) status
PrintsResult before after (Err stop) status = PrintsStop before after stop status
