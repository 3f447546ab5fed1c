-- What the words of the command line ask for.
use Rattle.std.specs.Prelude.{◌≡◌, ℕ, List, codes, Option, Some, None}
use Rattle.sm_http.specs.declared.message.MessageSide.{MessageSide}
use Rattle.sm_http.specs.declared.message.MessageSide.TheVariants.{Request, Response}
use Rattle.speeds.specs.declared.http_messages.command.Work.{Work}
use Rattle.speeds.specs.declared.http_messages.command.Work.TheVariants.{Read, Pieces, Head, Write, Copy}
use Rattle.speeds.specs.declared.http_messages.command.Command.{Command}

abbrev pub AsksWork : List ℕ → Option Work → Type 0
AsksWork word (Some Read) = word ≡ codes "read"
AsksWork word (Some Pieces) = word ≡ codes "pieces"
AsksWork word (Some Head) = word ≡ codes "head"
AsksWork word (Some Write) = word ≡ codes "write"
AsksWork word (Some Copy) = word ≡ codes "copy"
AsksWork word None = Unit {0}

abbrev pub AsksSide : List ℕ → Option MessageSide → Type 0
AsksSide word (Some Request) = word ≡ codes "request"
AsksSide word (Some Response) = word ≡ codes "response"
AsksSide word None = Unit {0}

-- the work, the side, and the count as it is
abbrev pub AsksCommand : List ℕ → List ℕ → ℕ → Option Command → Type 0
AsksCommand work side count (Some command) =
    AsksWork work (Some command.work) × AsksSide side (Some command.side) × (command.count ≡ count)
AsksCommand work side count None = Unit {0}
