-- The one text that is written for a tree: no whitespace, pairs in their order. In strings `"`, `\` and
-- the control bytes are escaped, these by the short form where there is one, else as `\u00xx`.
use Rattle.std.specs.Prelude.{ℕ, ◌+◌, ◌-◌, ◌/◌, ◌%◌, ◌==◌, nat_lt, cond, List, [], ◌∷◌, ◌++◌, codes}
use Rattle.std.specs.Fmt.{signed_decimal}
use Rattle.sm_bytes.specs.Ascii.{backspace, tab, line_feed, form_feed, carriage_return, space, quote, comma, digit_zero, colon}
use Rattle.sm_bytes.specs.Ascii.{left_bracket, backslash, right_bracket, small_a, left_brace, right_brace}
use Rattle.sm_tree.specs.Node.{Node, Nodes, Members, null, bool, int, number, text, bytes, tag, opaque, list, object, no_nodes, node}
use Rattle.sm_tree.specs.Node.{no_members, member}
use Rattle.sm_json.specs.JsonText.{bool_word}

-- a hexadecimal digit in lower case
abbrev pub hex_digit : ℕ → ℕ
hex_digit d = cond (nat_lt d 10) (digit_zero + d) (small_a - 10 + d)

-- a byte of a string's UTF-8
abbrev pub written_byte : ℕ → List ℕ
written_byte b =
    cond (b == quote)
    (codes "\\\"") (cond (b == backslash) (codes "\\\\") (cond (b == backspace) (codes "\\b") (cond (b == form_feed) (codes "\\f")
    (cond (b == line_feed) (codes "\\n") (cond (b == carriage_return) (codes "\\r") (cond (b == tab) (codes "\\t")
    (cond (nat_lt b space) (codes "\\u00" ++ hex_digit (b / 16) ∷ hex_digit (b % 16) ∷ []) (b ∷ []))))))))

abbrev pub written_bytes : List ℕ → List ℕ
written_bytes [] = []
written_bytes (b ∷ bs) = written_byte b ++ written_bytes bs

abbrev pub written_text : List ℕ → List ℕ
written_text t = quote ∷ (written_bytes t ++ quote ∷ [])

abbrev mutual
  -- bytes, tags and opaque leaves aren't written: they stand in no tree that JSON can spell
  pub written : Node → List ℕ
  written null = codes "null"
  written (bool b) = bool_word b
  written (int z) = signed_decimal z
  written (number t) = t
  written (text t) = written_text t
  written (bytes t) = []
  written (tag k n) = []
  written (opaque b) = []
  written (list ns) = left_bracket ∷ written_entries ns
  written (object ms) = left_brace ∷ written_pairs ms

  -- the entries and the closing bracket
  pub written_entries : Nodes → List ℕ
  written_entries no_nodes = right_bracket ∷ []
  written_entries (node n ns) = written n ++ more_written_entries ns

  pub more_written_entries : Nodes → List ℕ
  more_written_entries no_nodes = right_bracket ∷ []
  more_written_entries (node n ns) = comma ∷ (written n ++ more_written_entries ns)

  -- the pairs and the closing brace
  pub written_pairs : Members → List ℕ
  written_pairs no_members = right_brace ∷ []
  written_pairs (member k n ms) = written_text k ++ colon ∷ (written n ++ more_written_pairs ms)

  pub more_written_pairs : Members → List ℕ
  more_written_pairs no_members = right_brace ∷ []
  more_written_pairs (member k n ms) = comma ∷ (written_text k ++ colon ∷ (written n ++ more_written_pairs ms))
