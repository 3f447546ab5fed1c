-- Nodes (Smithy 2.0, "Smithy IDL", "Node values"): what their tokens say in a file. A word in a node, but `true`, `false` and
-- `null`, is the id of a shape.
use Rattle.std.specs.Prelude.{◌≡◌, ◌⊎◌, ℕ, zero, suc, Bool, true, false, ◌||◌, if◌then◌else◌, List, map, Option, Some, None}
use Rattle.std.specs.Prelude.{Ok, codes}
use Rattle.std.specs.Str.{bytes_eq}
use Rattle.sm_ids.specs.TextParts.{shape_part}
use Rattle.sm_lex.specs.Tokens.{Lexeme}
use Rattle.sm_lex.specs.declared.token.TokenKind.{TokenKind}
use Rattle.sm_lex.specs.declared.token.TokenKind.TheVariants.{Word, Number, Text, Block, Mark}
use Rattle.sm_lex.specs.Values.{string_value, block_value}
use Rattle.sm_tree.specs.Node.{Node, null, bool, text}
use Rattle.sm_tree.specs.Numbers.{NumberText}
use Rattle.sm_model.specs.PreludeShapes.{api_id, is_prelude_id}
use Rattle.sm_model.specs.Raw.{Raw, raw_leaf, raw_id, raw_list, raw_object, raws_of, raw_members_of}
use Rattle.sm_model.specs.declared.reference.Ref.{Ref}
use Rattle.sm_idl.specs.Productions.{Production, one, gives, ◌>>=◌, ◌>>◌, ◌or◌, each, many}
use Rattle.sm_idl.specs.Words.{mark, key, IsWordId}

-- what the words of a file are relative to: its namespace, and the ids that it uses
pub record Home : Type 0 where
  pub namespace : List ℕ
  pub uses : List (List ℕ)

-- a reference, as the file writes it
abbrev pub written : Home → List ℕ → Bool → Ref
written home w in_trait = record { text = w; namespace = Some home.namespace; uses = home.uses; in_trait = in_trait }

-- a word where a file has no namespace: the shape of the prelude, else the text itself
abbrev pub of_prelude : List ℕ → List ℕ
of_prelude w = if is_prelude_id (api_id (shape_part w)) then api_id w else w

-- the text of the id that a word means
abbrev pub word_meant : Option Home → List ℕ → Raw
word_meant None w = raw_leaf (text (of_prelude w))
word_meant (Some home) w = raw_id (written home w false)

-- these are never ids in a node
abbrev pub is_literal : List ℕ → Bool
is_literal w = bytes_eq w (codes "true") || (bytes_eq w (codes "false") || bytes_eq w (codes "null"))

abbrev pub IsNodeId : List ℕ → Type 0
IsNodeId w = (is_literal w ≡ false) × IsWordId w

-- "true" | "false" | "null" | word
abbrev pub WordSays : Option Home → List ℕ → Raw → Type 0
WordSays home w n = ((w ≡ codes "true") × (n ≡ raw_leaf (bool true)))
    ⊎ ((w ≡ codes "false") × (n ≡ raw_leaf (bool false)))
    ⊎ ((w ≡ codes "null") × (n ≡ raw_leaf null))
    ⊎ (IsNodeId w × (n ≡ word_meant home w))

-- string | block | number | "true" | "false" | "null" | word, by the kind of the token
abbrev pub LeafSaid : Option Home → TokenKind → Lexeme → Raw → Type 0
LeafSaid home Text t n = (v : List ℕ) × (string_value t.start t.text ≡ Ok v) × (n ≡ raw_leaf (text v))
LeafSaid home Block t n = (v : List ℕ) × (block_value t.start t.text ≡ Ok v) × (n ≡ raw_leaf (text v))
LeafSaid home Number t n = (v : Node) × NumberText v t.text × (n ≡ raw_leaf v)
LeafSaid home Word t n = WordSays home t.text n
LeafSaid home Mark t n = ⊥

abbrev pub LeafSays : Option Home → Lexeme → Raw → Type 0
LeafSays home t n = LeafSaid home t.kind t n

abbrev pub leaf : Option Home → Production Raw
leaf home = one (LeafSays home)

-- a name with a node
abbrev pub Pair : Type 0
Pair = List ℕ × Raw

abbrev pub pair_names : List Pair → List (List ℕ)
pair_names ps = map (λ p. p.0) ps

abbrev pub as_object : List Pair → Raw
as_object ps = raw_object (raw_members_of ps)

-- pair = key ":" node
abbrev pub pair_of : Production Raw → List Pair → Production Pair
pair_of value before = do
  k ← key (pair_names before)
  mark (codes ":")
  n ← value
  gives (k, n)

-- "{" pair* "}"
abbrev pub object_of : Production Raw → Production Raw
object_of value = do
  mark (codes "{")
  ps ← each (pair_of value)
  mark (codes "}")
  gives (as_object ps)

-- "[" node* "]"
abbrev pub list_of : Production Raw → Production Raw
list_of value = do
  mark (codes "[")
  ns ← many value
  mark (codes "]")
  gives (raw_list (raws_of ns))

-- node = "{" pair* "}" | "[" node* "]" | string | block | number | "true" | "false" | "null" | word
abbrev pub node_over : Option Home → Production Raw → Production Raw
node_over home inner = leaf home or (object_of inner or list_of inner)

-- a node that nests this many levels at most: with none left, no bracket opens
unfoldable pub node : Option Home → ℕ → Production Raw
node home zero = leaf home
node home (suc levels) = node_over home (node home levels)
