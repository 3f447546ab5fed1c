-- What the words of the command line ask for.
use Rattle.std.specs.Prelude.{◌≡◌, ℕ, List, codes, Option, Some, None}
use Rattle.speeds.specs.declared.formats.command.MeasuredFormat.{MeasuredFormat}
use Rattle.speeds.specs.declared.formats.command.MeasuredFormat.TheVariants.{Json, Cbor}
use Rattle.speeds.specs.declared.formats.command.Work.{Work}
use Rattle.speeds.specs.declared.formats.command.Work.TheVariants.{Read, Write, Copy}
use Rattle.speeds.specs.declared.formats.command.Command.{Command}
use Rattle.speeds.specs.declared.formats.command.Command.TheVariants.{Tree, Tokens, Events, Pieces, ItemEvents, ItemPieces}

-- json or cbor
abbrev pub AsksFormat : List ℕ → Option MeasuredFormat → Type 0
AsksFormat word (Some Json) = word ≡ codes "json"
AsksFormat word (Some Cbor) = word ≡ codes "cbor"
AsksFormat word None = Unit {0}

-- read N, write N, or copy
abbrev pub AsksWork : List ℕ → Option ℕ → Option Work → Type 0
AsksWork word count (Some (Read n)) = (word ≡ codes "read") × (count ≡ Some n)
AsksWork word count (Some (Write n)) = (word ≡ codes "write") × (count ≡ Some n)
AsksWork word count (Some Copy) = (word ≡ codes "copy") × (count ≡ None)
AsksWork word count None = Unit {0}

-- a format and what is done with it; or tokens, events or pieces of a text, or those of an item, read N
abbrev pub AsksCommand : List ℕ → List ℕ → Option ℕ → Option Command → Type 0
AsksCommand format work count (Some (Tree f w)) = AsksFormat format (Some f) × AsksWork work count (Some w)
AsksCommand format work count (Some (Tokens n)) = (format ≡ codes "tokens") × (work ≡ codes "read") × (count ≡ Some n)
AsksCommand format work count (Some (Events n)) = (format ≡ codes "events") × (work ≡ codes "read") × (count ≡ Some n)
AsksCommand format work count (Some (Pieces n)) = (format ≡ codes "pieces") × (work ≡ codes "read") × (count ≡ Some n)
AsksCommand format work count (Some (ItemEvents n)) = (format ≡ codes "item-events") × (work ≡ codes "read") × (count ≡ Some n)
AsksCommand format work count (Some (ItemPieces n)) = (format ≡ codes "item-pieces") × (work ≡ codes "read") × (count ≡ Some n)
AsksCommand format work count None = Unit {0}

-- the text is read so many times
abbrev pub reads_asked : Work → ℕ
reads_asked (Read n) = n
reads_asked (Write n) = 1
reads_asked Copy = 1
