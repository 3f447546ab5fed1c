-- What the written text and its definition are worth, as statements that the functions of src/laws.rt prove.
use Rattle.std.specs.Prelude.{◌≡◌, ◌≤◌, ℕ, List, [], ◌∷◌, ◌++◌, length, codes, IsUtf8, Result, Ok}
use Rattle.sm_bytes.specs.Ascii.{backspace, tab, line_feed, form_feed, carriage_return, quote, delete}
use Rattle.sm_tree.specs.Node.{Node}
use Rattle.sm_tree.specs.Json.{IsJson}
use Rattle.sm_tree.specs.Levels.{levels}
use Rattle.sm_tree.specs.Events.{NodeEvent, events}
use Rattle.sm_tree.specs.Timing.{TimedEvent, untimed, Completes}
use Rattle.sm_tree.specs.Syntax.{ComesTo, most_levels}
use Rattle.sm_tree.specs.SyntaxLaws.{HasOneReading, HasOneAnswer, HasSomeAnswer}
use Rattle.sm_tree.specs.declared.refusal.SyntaxRefusal.{SyntaxRefusal}
use Rattle.sm_json.specs.Strings.{SpellsText}
use Rattle.sm_json.specs.JsonText.{SpellsValue, JsonText, json_syntax}
use Rattle.sm_json.specs.Timing.{json_timing}
use Rattle.sm_json.specs.Written.{written, written_text}

-- what is written for a tree is a JSON text of that tree
abbrev pub WrittenIsText : Type 0
WrittenIsText = (n : Node) → IsJson n → JsonText n (written n)

-- what is written for a tree spells it, whatever follows (a digit behind a number makes another reading beside it)
abbrev pub WrittenSpells : Type 0
WrittenSpells = (n : Node) (rest : List ℕ) → IsJson n → SpellsValue n (written n ++ rest) rest

-- a tree of at most 100 levels is read again as itself: what is written for it is read as it, and comes to nothing else
abbrev pub WrittenIsRead : Type 0
WrittenIsRead =
    (n : Node) → IsJson n → (levels n ≤ most_levels)
    → ComesTo json_syntax (written n) (Ok n) × ((a : Result Node SyntaxRefusal) → ComesTo json_syntax (written n) a → a ≡ Ok n)

-- the written text of a string is a string of RFC 8259, section 7, for every UTF-8 text
abbrev pub WrittenTextSpells : Type 0
WrittenTextSpells = (t rest : List ℕ) → IsUtf8 t → SpellsText t (written_text t ++ rest) rest

-- the escapes byte by byte: a letter stands for itself, `"` and `\` are escaped, of the control characters
-- some have a letter and the others four digits, and DEL and `/` are left as they are
pub record EscapesAreMeant : Type 0 where
  pub marks : written_text (codes "a\"\\") ≡ codes "\"a\\\"\\\\\""
  pub letters : written_text (backspace ∷ tab ∷ line_feed ∷ form_feed ∷ carriage_return ∷ []) ≡ codes "\"\\b\\t\\n\\f\\r\""
  pub first_control : written_text (0x00 ∷ []) ≡ codes "\"\\u0000\""
  pub last_control : written_text (0x1F ∷ []) ≡ codes "\"\\u001f\""
  pub other : written_text (delete ∷ []) ≡ quote ∷ delete ∷ quote ∷ []
  pub solidus : written_text (codes "/") ≡ codes "\"/\""

-- each text has its times, and a text with times is a text, whose events are those of its tree
pub record TextsAreTimed : Type 0 where
  pub timed : (n : Node) (bs : List ℕ) → JsonText n bs → (ts : List TimedEvent) × json_timing n bs ts
  pub spelt : (n : Node) (bs : List ℕ) (ts : List TimedEvent) → json_timing n bs ts → JsonText n bs × (untimed ts ≡ events n [])

-- a text has at most one event a byte
abbrev pub FewEvents : Type 0
FewEvents = (n : Node) (bs : List ℕ) (ts : List TimedEvent) → json_timing n bs ts → length ts ≤ length bs

-- before the first byte no event is complete
abbrev pub NoEventYet : Type 0
NoEventYet = (es : List NodeEvent) → Completes json_timing [] es → es ≡ []

-- bytes are a text of at most one tree
abbrev pub OneReading : Type 0
OneReading = HasOneReading json_syntax

-- bytes are read as at most one tree, or refused by one word at one place, and never both
abbrev pub OneAnswer : Type 0
OneAnswer = HasOneAnswer json_syntax

-- and no bytes are without an answer
abbrev pub SomeAnswer : Type 0
SomeAnswer = HasSomeAnswer json_syntax
