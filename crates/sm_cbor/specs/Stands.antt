-- What a `CborReader` has read, and so what it stands for: the bytes of all its pieces.
use Rattle.std.specs.Prelude.{◌≡◌, ◌≤◌, ℕ, List, length, Option, Result}
use Rattle.sm_tree.specs.Limits.{most_levels}
use Rattle.sm_tree.specs.Events.{NodeEvent}
use Rattle.sm_tree.specs.Streams.{StandsFor}
use Rattle.sm_tree.specs.Timing.{Completes}
use Rattle.sm_tree.specs.Sources.{SourceOf, SourceStands, SourceFeeds, EndsWith}
use Rattle.sm_tree.specs.declared.refusal.SyntaxRefusal.{SyntaxRefusal}
use Rattle.sm_cbor.specs.Timing.{cbor_timing}
use Rattle.sm_cbor.specs.Refusals.{cbor_syntax}
use Rattle.sm_cbor.specs.steps.Marks.{Keys}
use Rattle.sm_cbor.specs.steps.Rest.{CborLeads, first_state}
use Rattle.sm_cbor.specs.steps.Machine.{cbor_state_of, IsSoundReader}
use Rattle.sm_cbor.specs.declared.read.Reader.{Reader}
use Rattle.sm_cbor.specs.declared.pieces.CborReader.{CborReader}

-- the bytes lead there from the first state, and hand on these events
pub record CborRuns (bs : List ℕ) (out : List NodeEvent) (r : Reader) : Type 0 where
  pub leads : (w : Keys) (limit : ℕ) → most_levels ≤ limit → CborLeads w limit first_state bs out (cbor_state_of r)
  pub sound : IsSoundReader r

-- none of these bytes is refused, and they were counted
abbrev pub CborHasRead : CborReader → List ℕ → Type 0
CborHasRead r bs = (out : List NodeEvent) × CborRuns bs out r.reader × (r.taken ≡ length bs)

-- what is said of it. More bytes may always come
abbrev pub cbor_source : SourceOf CborReader
cbor_source =
    record { syntax = cbor_syntax; timing = cbor_timing; has_read = CborHasRead; refusal = λ r. r.refused; may_grow = λ r. Unit {0} }

-- the refusal that it has given
abbrev pub refusal_of : CborReader → Option SyntaxRefusal
refusal_of r = r.refused

-- these bytes have come: none of them is refused, or they are refused so
abbrev pub CborStands : CborReader → List ℕ → Type 0
CborStands r bs = SourceStands cbor_source r bs

-- what a reader that has refused nothing makes of a piece, beside a sink that stood for S and then stands for T
abbrev pub CborFeeds : StandsFor → CborReader → List ℕ → StandsFor → CborReader → Result (Unit {0}) SyntaxRefusal → Type 0
CborFeeds S before piece T behind result = SourceFeeds cbor_source S before piece T behind result

-- what it answers where the bytes end: they are an item, and complete a whole stream of its tree; or they are refused
abbrev pub CborEndsWith : CborReader → List ℕ → Result (Unit {0}) SyntaxRefusal → Type 0
CborEndsWith r bs result = EndsWith cbor_source (Completes cbor_timing) r bs result
