-- What is written spells the tree: by recursion on the tree, for any bytes behind it.
use Rattle.std.proofs.Common.{◌≡◌, ◌≤◌, ℕ, List, [], ◌∷◌, ◌++◌, Ok, IsUtf8, drop, length, inl, refl, sym, ap, ◌∙◌, subst, arith}
use Rattle.std.proofs.Common.{append_assoc, append-nil}
use Rattle.std.proofs.Math.Seq.{drop-append_seam}
use Rattle.std.specs.Fmt.{signed_decimal}
use Rattle.sm_tree.specs.Node.{Node, Nodes, Members, null, bool, int, number, text, bytes, tag, opaque, list, object, no_nodes, node}
use Rattle.sm_tree.specs.Node.{no_members, member}
use Rattle.sm_tree.specs.Levels.{levels}
use Rattle.sm_tree.specs.Syntax.{BeginsRead, ComesTo, IsRead, most_levels}
use Rattle.sm_tree.specs.Json.{IsJson, AreJson, AreJsonMembers}
use Rattle.sm_json.specs.Strings.{SpellsText}
use Rattle.sm_json.specs.JsonText.{SpellsValue, Entries, MoreEntries, Pairs, MorePairs, JsonText, json_syntax}
use Rattle.sm_json.specs.Written.{written_text, written, written_entries, more_written_entries, written_pairs, more_written_pairs}
use Rattle.sm_json.proofs.Starts.{skips_none}
use Rattle.sm_json.proofs.WrittenStrings.{text_spelt}
use Rattle.sm_json.proofs.WrittenNumbers.{int_spelt}

-- a name, with its colon and what comes behind it
name_spelt : (k rest r : List ℕ) → IsUtf8 k → SpellsText k ((written_text k ++ 58 ∷ rest) ++ r) (58 ∷ (rest ++ r))
name_spelt k rest r utf8 = subst (λ s. SpellsText k s (58 ∷ (rest ++ r))) (sym (append_assoc (written_text k) (58 ∷ rest) r))
    (text_spelt k (58 ∷ (rest ++ r)) utf8)

-- a tree with something behind it
followed : (n : Node) (rest r : List ℕ) → SpellsValue n (written n ++ (rest ++ r)) (rest ++ r)
    → SpellsValue n ((written n ++ rest) ++ r) (rest ++ r)
followed n rest r spelt = subst (λ s. SpellsValue n s (rest ++ r)) (sym (append_assoc (written n) rest r)) spelt

mutual
  -- the written text of a tree begins with a spelling of it, and what follows is left
  pub tree_spelt : (n : Node) (r : List ℕ) → IsJson n → SpellsValue n (written n ++ r) r
  tree_spelt null r json = refl
  tree_spelt (bool b) r json = refl
  tree_spelt (int z) r json = (signed_decimal z, refl, int_spelt z json)
  tree_spelt (number t) r json = (t, refl, json)
  tree_spelt (text t) r json = text_spelt t r json
  tree_spelt (bytes t) r json = absurd json
  tree_spelt (tag k n) r json = absurd json
  tree_spelt (opaque b) r json = absurd json
  tree_spelt (list ns) r json = (written_entries ns ++ r, refl, entries_spelt ns r json)
  tree_spelt (object ms) r json = (written_pairs ms ++ r, refl, pairs_spelt ms r json)

  entries_spelt : (ns : Nodes) (r : List ℕ) → AreJson ns → Entries ns (written_entries ns ++ r) r
  entries_spelt no_nodes r json = inl refl
  entries_spelt (node n ns) r json = (
    _,
    _,
    skips_none _,
    followed n (more_written_entries ns) r (tree_spelt n (more_written_entries ns ++ r) json.0),
    more_entries_spelt
        ns r json.1,
  )

  more_entries_spelt : (ns : Nodes) (r : List ℕ) → AreJson ns → MoreEntries ns (more_written_entries ns ++ r) r
  more_entries_spelt no_nodes r json = inl refl
  more_entries_spelt (node n ns) r json = (
    _,
    _,
    (_, inl refl, skips_none _),
    followed n (more_written_entries ns) r (tree_spelt n (more_written_entries ns ++ r) json.0),
    more_entries_spelt ns r json.1,
  )

  pairs_spelt : (ms : Members) (r : List ℕ) → AreJsonMembers ms → Pairs ms (written_pairs ms ++ r) r
  pairs_spelt no_members r json = inl refl
  pairs_spelt (member k n ms) r json = (
    _,
    _,
    _,
    _,
    skips_none (written_pairs (member k n ms) ++ r),
    name_spelt k (written n ++ more_written_pairs ms) r json.0,
    (_, inl refl, skips_none _),
    followed n (more_written_pairs ms) r (tree_spelt n (more_written_pairs ms ++ r) json.1),
    more_pairs_spelt ms r json.2,
  )

  more_pairs_spelt : (ms : Members) (r : List ℕ) → AreJsonMembers ms → MorePairs ms (more_written_pairs ms ++ r) r
  more_pairs_spelt no_members r json = inl refl
  more_pairs_spelt (member k n ms) r json = (
    _,
    _,
    _,
    _,
    (_, inl refl, skips_none ((written_text k ++ 58 ∷ (written n ++ more_written_pairs ms)) ++ r)),
    name_spelt k (written n ++ more_written_pairs ms) r json.0,
    (_, inl refl, skips_none _),
    followed n (more_written_pairs ms) r (tree_spelt n (more_written_pairs ms ++ r) json.1),
    more_pairs_spelt ms r json.2,
  )

-- what is written is a JSON text of the tree
pub text_of_tree : (n : Node) → IsJson n → JsonText n (written n)
text_of_tree n json =
    (written n, [], skips_none (written n), subst (λ s. SpellsValue n s []) (append-nil (written n)) (tree_spelt n [] json), refl)

-- what is appended is read again
pub read_again : (old new : List ℕ) (n : Node) → IsJson n → new ≡ old ++ written n → levels n ≤ most_levels
    → ComesTo json_syntax (drop (length old) new) (Ok n)
read_again old new n json appended few =
    subst (λ s. IsRead JsonText n s) (sym (ap (drop (length old)) appended ∙ drop-append_seam old (written n))) (text_of_tree n json, few)

-- some text is read: `null`
pub null_begins : BeginsRead JsonText []
null_begins = (written null, null, (text_of_tree null tt, omega arith))
