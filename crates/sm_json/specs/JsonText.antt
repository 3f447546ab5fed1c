-- The texts of JSON (RFC 8259): which bytes spell which tree. By cases on the tree, in the form "s begins
-- with a spelling of n, and r is what follows it". Levels aren't limited here. The bytes are UTF-8, and a
-- byte order mark begins no text.
use Rattle.std.specs.Prelude.{◌≡◌, ℕ, Bool, true, false, List, [], ◌∷◌, ◌++◌, codes}
use Rattle.sm_bytes.specs.Ascii.{comma, colon, left_bracket, right_bracket, left_brace, right_brace}
use Rattle.sm_tree.specs.Node.{Node, Nodes, Members, null, bool, int, number, text, bytes, tag, opaque, list, object, no_nodes, node}
use Rattle.sm_tree.specs.Node.{no_members, member}
use Rattle.sm_tree.specs.Numbers.{NumberText}
use Rattle.sm_tree.specs.Syntax.{Syntax}
use Rattle.sm_json.specs.Strings.{Whitespace, SpellsText}

-- the literal names of section 3
abbrev pub bool_word : Bool → List ℕ
bool_word true = codes "true"
bool_word false = codes "false"

-- a number, section 6
abbrev pub SpellsNumber : Node → List ℕ → List ℕ → Type 0
SpellsNumber n s r = (t : List ℕ) × (s ≡ t ++ r) × NumberText n t

-- value-separator = ws %x2C ws, and name-separator = ws %x3A ws
abbrev pub Separator : ℕ → List ℕ → List ℕ → Type 0
Separator c s r = (s1 : List ℕ) × Whitespace s (c ∷ s1) × Whitespace s1 r

abbrev mutual
  -- value = false / null / true / object / array / number / string
  pub SpellsValue : Node → List ℕ → List ℕ → Type 0
  SpellsValue null s r = s ≡ codes "null" ++ r
  SpellsValue (bool b) s r = s ≡ bool_word b ++ r
  SpellsValue (int z) s r = SpellsNumber (int z) s r
  SpellsValue (number t) s r = SpellsNumber (number t) s r
  SpellsValue (text t) s r = SpellsText t s r
  SpellsValue (bytes t) s r = ⊥
  SpellsValue (tag k n) s r = ⊥
  SpellsValue (opaque b) s r = ⊥
  SpellsValue (list ns) s r = (s1 : List ℕ) × (s ≡ left_bracket ∷ s1) × Entries ns s1 r
  SpellsValue (object ms) s r = (s1 : List ℕ) × (s ≡ left_brace ∷ s1) × Pairs ms s1 r

  -- behind `[`: [ value *( value-separator value ) ] end-array
  pub Entries : Nodes → List ℕ → List ℕ → Type 0
  Entries no_nodes s r = Whitespace s (right_bracket ∷ r)
  Entries (node n ns) s r = (s1 s2 : List ℕ) × Whitespace s s1 × SpellsValue n s1 s2 × MoreEntries ns s2 r

  -- *( value-separator value ) end-array
  pub MoreEntries : Nodes → List ℕ → List ℕ → Type 0
  MoreEntries no_nodes s r = Whitespace s (right_bracket ∷ r)
  MoreEntries (node n ns) s r = (s1 s2 : List ℕ) × Separator comma s s1 × SpellsValue n s1 s2 × MoreEntries ns s2 r

  -- behind `{`: [ member *( value-separator member ) ] end-object
  pub Pairs : Members → List ℕ → List ℕ → Type 0
  Pairs no_members s r = Whitespace s (right_brace ∷ r)
  Pairs (member k n ms) s r =
      (s1 s2 s3 s4 : List ℕ) × Whitespace s s1 × SpellsText k s1 s2 × Separator colon s2 s3 × SpellsValue n s3 s4 × MorePairs ms s4 r

  -- *( value-separator member ) end-object, where member = string name-separator value
  pub MorePairs : Members → List ℕ → List ℕ → Type 0
  MorePairs no_members s r = Whitespace s (right_brace ∷ r)
  MorePairs (member k n ms) s r =
      (s1 s2 s3 s4 : List ℕ) × Separator comma s s1 × SpellsText k s1 s2 × Separator colon s2 s3 × SpellsValue n s3 s4 × MorePairs ms s4 r

-- JSON-text = ws value ws
abbrev pub JsonText : Node → List ℕ → Type 0
JsonText n bs = (s r : List ℕ) × Whitespace bs s × SpellsValue n s r × Whitespace r []

-- what bytes come to as JSON: a key that is no string is a bad byte as any other, so no key has a word of its own
abbrev pub json_syntax : Syntax
json_syntax = record { text = JsonText; wrong_key = λ bs c. ⊥ }
