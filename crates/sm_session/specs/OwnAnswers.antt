-- The answers that a session gives by itself, where bytes are no message. Each has one line as its body.
use Rattle.std.specs.Prelude.{ℕ, List, [], ◌∷◌, ◌++◌, length, codes, decimal}
use Rattle.sm_bytes.specs.Ascii.{line_feed}
use Rattle.sm_http.specs.declared.message.Field.{Field}
use Rattle.sm_http.specs.declared.message.Message.{Message}
use Rattle.sm_http.specs.declared.message.Start.TheVariants.{Response}
use Rattle.sm_http.specs.declared.refusal.HttpRefusal.{HttpRefusal}
use Rattle.sm_http.specs.declared.refusal.HttpRefusal.TheVariants.{ReadFault, Ended, HeadTooLarge, Coding, Length, TooLong, Chunk, NoMemory}
use Rattle.sm_http.specs.declared.refusal.HttpRefusal.TheVariants.{Head as BadHead}
use Rattle.sm_http.specs.Connections.{with_close}
use Rattle.sm_http.specs.Written.{written}

abbrev pub text_field : Field
text_field = record { name = codes "content-type"; value = codes "text/plain" }

abbrev pub length_field : ℕ → Field
length_field count = record { name = codes "content-length"; value = decimal count }

-- an answer of one line
abbrev pub line_answer : ℕ → List ℕ → Message
line_answer status line =
    record { head = record { start = Response status; fields = text_field ∷ length_field (length line) ∷ [] }; body = line }

-- the word of a refusal of framing; the last two are refusals of no bytes, and are never answered
abbrev pub framing_word : HttpRefusal → List ℕ
framing_word BadHead = codes "Head"
framing_word HeadTooLarge = codes "HeadTooLarge"
framing_word Coding = codes "Coding"
framing_word Length = codes "Length"
framing_word TooLong = codes "TooLong"
framing_word Chunk = codes "Chunk"
framing_word Ended = codes "Ended"
framing_word ReadFault = codes "ReadFault"
framing_word NoMemory = codes "NoMemory"

abbrev pub framing_line : HttpRefusal → List ℕ
framing_line why = framing_word why ++ line_feed ∷ []

-- 431 Request Header Fields Too Large (RFC 6585, section 5), 413 Content Too Large and 400 Bad Request (RFC 9110, section 15.5)
abbrev pub framing_status : HttpRefusal → ℕ
framing_status BadHead = 400
framing_status HeadTooLarge = 431
framing_status Coding = 400
framing_status Length = 400
framing_status TooLong = 413
framing_status Chunk = 400
framing_status Ended = 400
framing_status ReadFault = 400
framing_status NoMemory = 400

-- the answer to bytes of the front that are no request
abbrev pub framing_answer : HttpRefusal → Message
framing_answer why = line_answer (framing_status why) (framing_line why)

-- behind it the session ends. There is no request that could ask for a head alone, so it has its body
abbrev pub framing_text : HttpRefusal → List ℕ
framing_text why = written (with_close (framing_answer why))

-- a line that tells of the back
abbrev pub back_line : List ℕ → List ℕ
back_line line = codes "back " ++ line

-- the answer to a request where the bytes of the back are no response: 502 Bad Gateway (RFC 9110, section 15.6.3)
abbrev pub back_answer : HttpRefusal → Message
back_answer why = line_answer 502 (back_line (framing_line why))
