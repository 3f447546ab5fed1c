-- How messages that are refused are answered: a status and one line. A request is at fault itself (RFC 9110, section 15.5), or its
-- operation isn't served here (15.6.2). Where the back's answer is refused, the back is (15.6.3).
use Rattle.std.specs.Prelude.{ℕ, Bool, List, [], ◌∷◌, ◌++◌, codes, if◌then◌else◌}
use Rattle.sm_bytes.specs.Ascii.{line_feed}
use Rattle.sm_http.specs.Connections.{with_close}
use Rattle.sm_http.specs.declared.message.Message.{Message}
use Rattle.sm_lines.specs.Lines.{fault_line, syntax_line, unserved_line}
use Rattle.sm_session.specs.OwnAnswers.{back_line, line_answer}
use Rattle.sm_protocols.specs.messages.HeadAnswers.{HeadRefusal, not_served, unknown_error, unknown_operation, wrong_media_type, wrong_protocol}
use Rattle.sm_protocols.specs.messages.MessageAnswers.{Refusal, by_fault, by_head, by_syntax}

abbrev pub word_line : List ℕ → List ℕ
word_line word = word ++ line_feed ∷ []

abbrev pub head_line : HeadRefusal → List ℕ
head_line wrong_protocol = word_line (codes "Protocol")
head_line unknown_operation = word_line (codes "UnknownOperation")
head_line (not_served path) = unserved_line path
head_line wrong_media_type = word_line (codes "MediaType")
head_line unknown_error = word_line (codes "UnknownError")

abbrev pub refusal_line : Refusal → List ℕ
refusal_line (by_head r) = head_line r
refusal_line (by_syntax r) = syntax_line r
refusal_line (by_fault path kind) = fault_line path kind

-- 400 Bad Request, 404 Not Found, 415 Unsupported Media Type, 501 Not Implemented; no request is refused for an error that it names
abbrev pub head_status : HeadRefusal → ℕ
head_status wrong_protocol = 400
head_status unknown_operation = 404
head_status (not_served path) = 501
head_status wrong_media_type = 415
head_status unknown_error = 400

abbrev pub refusal_status : Refusal → ℕ
refusal_status (by_head r) = head_status r
refusal_status (by_syntax r) = 400
refusal_status (by_fault path kind) = 400

-- the answer to a request that is refused
abbrev pub refusal_answer : Refusal → Message
refusal_answer r = line_answer (refusal_status r) (refusal_line r)

-- the answer to a request where the back's answer to it is refused: 502 Bad Gateway
abbrev pub back_refusal_answer : Refusal → Message
back_refusal_answer r = line_answer 502 (back_line (refusal_line r))

-- behind an answer that says so the session ends
abbrev pub closing : Bool → Message → Message
closing close answer = if close then with_close answer else answer
