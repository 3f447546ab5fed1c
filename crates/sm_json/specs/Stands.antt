-- What a `JsonReader` has read, and so what it stands for: the bytes of all its pieces. And what it makes of the last number.
use Rattle.std.specs.Prelude.{cond, ◌≡◌, ℕ, true, false, List, [], ◌∷◌, length, Option, None, Some, Result, Ok, Err}
use Rattle.sm_tree.specs.Events.{NodeEvent}
use Rattle.sm_tree.specs.Streams.{StandsFor}
use Rattle.sm_tree.specs.Timing.{Completes, CompletesAll, Follows}
use Rattle.sm_tree.specs.Syntax.{IsUnread}
use Rattle.sm_tree.specs.Sources.{SourceOf, HasCome, SourceStands, SourceFeeds, EndsWith}
use Rattle.sm_tree.specs.declared.refusal.SyntaxRefusal.{SyntaxRefusal}
use Rattle.sm_tree.specs.declared.refusal.SyntaxRefusal.TheVariants.{Bad, Ended, TooDeep, KeyKind, NoMemory}
use Rattle.sm_json.specs.Strings.{is_whitespace}
use Rattle.sm_json.specs.JsonText.{JsonText, json_syntax}
use Rattle.sm_json.specs.Timing.{json_timing}
use Rattle.sm_json.specs.steps.Rest.{json_start}
use Rattle.sm_json.specs.steps.Machine.{json_state, JsonGoes}
use Rattle.sm_json.specs.declared.read.Reader.{Reader}
use Rattle.sm_json.specs.declared.pieces.JsonReader.{JsonReader}

-- the first byte that is no whitespace, of some bytes, and of those behind others that had one or none
abbrev pub first_black : List ℕ → Option ℕ
first_black [] = None
first_black (c ∷ bytes) = cond (is_whitespace c) (first_black bytes) (Some c)

abbrev pub first_of : Option ℕ → List ℕ → Option ℕ
first_of None bytes = first_black bytes
first_of (Some c) bytes = Some c

-- none of these bytes is refused: they lead a reader that has read none to where it stands
pub record JsonHasRead (r : JsonReader) (bytes : List ℕ) : Type 0 where
  pub first : Reader
  pub begins : json_state first ≡ json_start
  pub out : List NodeEvent
  pub goes : JsonGoes first bytes out r.reader
  pub taken : r.taken ≡ length bytes
  pub black : r.first ≡ first_black bytes

-- what is said of it
abbrev pub json_source : SourceOf JsonReader
json_source = record {
  syntax = json_syntax;
  timing = json_timing;
  has_read = λ r bytes. JsonHasRead r bytes;
  refusal = λ r. r.refused;
  may_grow = λ r. r.flushed ≡ false;
}

-- the refusal that it has given
abbrev pub refusal_of : JsonReader → Option SyntaxRefusal
refusal_of r = r.refused

-- these bytes have come: none of them is refused, or they are refused so
abbrev pub JsonHasCome : JsonReader → List ℕ → Type 0
JsonHasCome r bytes = HasCome json_source r bytes

-- these bytes have come, and more may
abbrev pub JsonStands : JsonReader → List ℕ → Type 0
JsonStands r bytes = SourceStands json_source r bytes

-- these bytes have come, and a number at their end was handed on: no more may come
abbrev pub JsonFlushed : JsonReader → List ℕ → Type 0
JsonFlushed r bytes = (r.flushed ≡ true) × JsonHasCome r bytes

-- what a reader that has refused nothing makes of a piece, beside a sink that stood for S and then stands for T
abbrev pub JsonFeeds : StandsFor → JsonReader → List ℕ → StandsFor → JsonReader → Result (Unit {0}) SyntaxRefusal → Type 0
JsonFeeds S before piece T behind result = SourceFeeds json_source S before piece T behind result

-- what stands for all the events of the text that the bytes are, and where they are none, for those that they complete
abbrev pub FollowsAll : StandsFor → List ℕ → Type 0
FollowsAll S bytes =
    ((es : List NodeEvent) → CompletesAll json_timing bytes es → S es) × (IsUnread JsonText bytes → Follows json_timing S bytes)

-- what it makes of a number with which the bytes end
abbrev pub JsonFlushes : StandsFor → JsonReader → StandsFor → JsonReader → Result (Unit {0}) SyntaxRefusal → Type 0
JsonFlushes S before T behind (Ok x) =
    (refusal_of behind ≡ None)
    × ((bytes : List ℕ) → JsonStands before bytes → JsonFlushed behind bytes × (Follows json_timing S bytes → FollowsAll T bytes))
JsonFlushes S before T behind (Err NoMemory) = refusal_of behind ≡ Some NoMemory
JsonFlushes S before T behind (Err Ended) = ⊥
JsonFlushes S before T behind (Err (Bad at)) = ⊥
JsonFlushes S before T behind (Err (TooDeep at)) = ⊥
JsonFlushes S before T behind (Err (KeyKind at)) = ⊥

-- what it answers where the bytes end: they are a text, of which these are all events, a stream of its tree; or they are refused
abbrev pub JsonEndsWith : JsonReader → List ℕ → Result (Unit {0}) SyntaxRefusal → Type 0
JsonEndsWith r bytes result = EndsWith json_source (CompletesAll json_timing) r bytes result

-- whatever has come and wasn't refused completes some events
abbrev pub StandingCompletes : Type 0
StandingCompletes =
    (r : JsonReader) (bytes : List ℕ) → JsonHasCome r bytes → refusal_of r ≡ None
    → (es : List NodeEvent) × Completes json_timing bytes es
