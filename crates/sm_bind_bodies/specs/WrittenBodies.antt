-- The bytes of a body.
use Rattle.std.specs.Prelude.{ℕ, List, []}
use Rattle.sm_json.specs.Written as json
use Rattle.sm_bind_write.specs.messages.MessageForm.{Content, a_tree, nothing, raw_bytes}

abbrev pub content_bytes : Content → List ℕ
content_bytes (a_tree n) = json.written n
content_bytes (raw_bytes u) = u
content_bytes nothing = []
