-- What is read and written, whatever the number of turns.
use Rattle.std.specs.Prelude.{ℕ, zero, suc, List, [], Result, Ok, Err, ◌≡◌, length}
use Rattle.sm_tree.specs.Node.{Node}
use Rattle.sm_tree.specs.Syntax.{Syntax}
use Rattle.sm_tree.specs.Json.{IsJson, IsCbor}
use Rattle.sm_tree.specs.Events.{NodeEvent}
use Rattle.sm_tree.specs.Timing.{CompletesAll}
use Rattle.sm_tree.specs.declared.refusal.SyntaxRefusal.{SyntaxRefusal}
use Rattle.sm_json.specs.JsonText.{json_syntax}
use Rattle.sm_json.specs.Timing.{json_timing}
use Rattle.sm_json.specs.Written.{written as json_written}
use Rattle.sm_cbor.specs.Refusals.{cbor_syntax}
use Rattle.sm_cbor.specs.Written.{written_item as cbor_written}
use Rattle.sm_lex.specs.Tokens.{Lexeme, TokensSpell}
use Rattle.sm_lex.specs.declared.token.LexRefusal.{LexRefusal}
use Rattle.speeds.specs.declared.formats.command.MeasuredFormat.{MeasuredFormat}
use Rattle.speeds.specs.declared.formats.command.MeasuredFormat.TheVariants.{Json, Cbor}

abbrev pub syntax_of : MeasuredFormat → Syntax
syntax_of Json = json_syntax
syntax_of Cbor = cbor_syntax

abbrev pub CanWrite : MeasuredFormat → Node → Type 0
CanWrite Json n = IsJson n
CanWrite Cbor n = IsCbor n

-- nothing before the first turn, and the tree's text after each
abbrev pub text_of : MeasuredFormat → ℕ → Node → List ℕ
text_of f zero n = []
text_of Json (suc k) n = json_written n
text_of Cbor (suc k) n = cbor_written n

-- so many tokens spell the text
abbrev pub Counts : List ℕ → Result ℕ LexRefusal → Type 0
Counts text (Ok n) = (xs : List Lexeme) × TokensSpell xs text × (length xs ≡ n)
Counts text (Err refusal) = Unit {0}

-- the text has so many events
abbrev pub CountsEvents : List ℕ → Result ℕ SyntaxRefusal → Type 0
CountsEvents text (Ok n) = (es : List NodeEvent) × CompletesAll json_timing text es × (length es ≡ n)
CountsEvents text (Err refusal) = Unit {0}
