-- The canonical form of a node: a list of words, equal for two nodes exactly where they are the same. The pairs of an
-- object come in the order of their own forms, and each form once.
use Rattle.std.specs.Prelude.{ℕ, ℤ, pos, Bool, cond, List, [], ◌∷◌, ◌++◌}
use Rattle.std.specs.declared.cmp.Ordering.{Ordering}
use Rattle.std.specs.Ordering.{ordering_then, int_cmp, nat_cmp}
use Rattle.std.specs.Cmp.Lexicographic.{slice_cmp}
use Rattle.std.specs.BTreeSet.{insert_key}
use Rattle.sm_tree.specs.Node.{Node, Nodes, Members, null, bool, int, number, text, bytes, tag, opaque, list, object, no_nodes, node}
use Rattle.sm_tree.specs.Node.{no_members, member}

-- a number, which says what follows or is one of the tree's, and the bytes of a text
abbrev pub Word : Type 0
Word = ℤ × List ℕ

abbrev pub word_cmp : Word → Word → Ordering
word_cmp v w = ordering_then (int_cmp v.0 w.0) (slice_cmp nat_cmp v.1 w.1)

abbrev pub form_cmp : List Word → List Word → Ordering
form_cmp = slice_cmp word_cmp

-- the words that say what follows, or where a list or an object ends
abbrev pub null_word : Word
null_word = (pos 0, [])

abbrev pub bool_word : Word
bool_word = (pos 1, [])

abbrev pub int_word : Word
int_word = (pos 2, [])

abbrev pub tag_word : Word
tag_word = (pos 6, [])

abbrev pub opaque_word : Word
opaque_word = (pos 7, [])

abbrev pub list_word : Word
list_word = (pos 8, [])

abbrev pub object_word : Word
object_word = (pos 9, [])

abbrev pub end_word : Word
end_word = (pos 10, [])

-- those that hold the bytes of a part, or the name of a pair
abbrev pub number_word : List ℕ → Word
number_word t = (pos 3, t)

abbrev pub text_word : List ℕ → Word
text_word t = (pos 4, t)

abbrev pub bytes_word : List ℕ → Word
bytes_word t = (pos 5, t)

abbrev pub name_word : List ℕ → Word
name_word k = (pos 11, k)

abbrev pub bit : Bool → ℤ
bit b = cond b (pos 1) (pos 0)

-- forms one after the other
abbrev pub joined : List (List Word) → List Word
joined [] = []
joined (f ∷ fs) = f ++ joined fs

abbrev mutual
  pub form : Node → List Word
  form null = null_word ∷ []
  form (bool b) = bool_word ∷ (bit b, []) ∷ []
  form (int z) = int_word ∷ (z, []) ∷ []
  form (number t) = number_word t ∷ []
  form (text t) = text_word t ∷ []
  form (bytes t) = bytes_word t ∷ []
  form (tag k n) = tag_word ∷ (pos k, []) ∷ form n
  form (opaque b) = opaque_word ∷ (pos b, []) ∷ []
  form (list ns) = list_word ∷ entries_form ns
  form (object ms) = object_word ∷ (joined (pair_forms [] ms) ++ (end_word ∷ []))

  pub entries_form : Nodes → List Word
  entries_form no_nodes = end_word ∷ []
  entries_form (node n ns) = form n ++ entries_form ns

  -- the forms of pairs, put into their places among forms that are in order
  pub pair_forms : List (List Word) → Members → List (List Word)
  pair_forms fs no_members = fs
  pair_forms fs (member k n ms) = pair_forms (insert_key form_cmp fs (name_word k ∷ form n)) ms

-- the form of a pair
abbrev pub pair_form : List ℕ → Node → List Word
pair_form k n = name_word k ∷ form n
