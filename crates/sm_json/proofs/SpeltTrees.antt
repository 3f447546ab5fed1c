-- What a JSON text spells can be written as JSON: by recursion on the tree.
use Rattle.std.proofs.Common.{ℕ, List, [], ◌∷◌, IsUtf8, encode_utf8_all, FitsSigned, sym, subst}
use Rattle.std.specs.Int.{w64}
use Rattle.std.specs.Char.{encode_utf8}
use Rattle.std.proofs.lemmas.Str.{IsUtf8-nil, IsUtf8-append, IsUtf8-encode}
use Rattle.sm_tree.specs.Node.{Node, Nodes, Members, null, bool, int, number, text, bytes, tag, opaque, list, object, no_nodes, node}
use Rattle.sm_tree.specs.Node.{no_members, member}
use Rattle.sm_tree.specs.Json.{IsJson, AreJson, AreJsonMembers}
use Rattle.sm_tree.specs.Numbers.{NumberText}
use Rattle.sm_json.specs.Strings.{Characters, SpellsText}
use Rattle.sm_json.specs.JsonText.{SpellsValue, Entries, MoreEntries, Pairs, MorePairs, JsonText}

-- the characters of a string are scalars
characters_utf8 : (cs s r : List ℕ) → Characters cs s r → IsUtf8 (encode_utf8_all cs)
characters_utf8 [] s r spelt = IsUtf8-nil
characters_utf8 (c ∷ cs) s r spelt =
    IsUtf8-append (encode_utf8 c) (encode_utf8_all cs) (IsUtf8-encode c spelt.1.0) (characters_utf8 cs spelt.0 r spelt.2)

text_utf8 : (t s r : List ℕ) → SpellsText t s r → IsUtf8 t
text_utf8 t s r (cs, inside, same, opens, spelt) = subst IsUtf8 (sym same) (characters_utf8 cs inside r spelt)

mutual
  pub spelt_json : (n : Node) (s r : List ℕ) → SpellsValue n s r → IsJson n
  spelt_json null s r spelt = tt
  spelt_json (bool b) s r spelt = tt
  spelt_json (int z) s r (t, begins, spelt) = subst (FitsSigned w64) spelt.2 spelt.1.in_range
  spelt_json (number t) s r (u, begins, spelt) = subst (λ v. NumberText (number t) v) spelt.2 spelt
  spelt_json (text t) s r spelt = text_utf8 t s r spelt
  spelt_json (bytes t) s r spelt = absurd spelt
  spelt_json (tag k n) s r spelt = absurd spelt
  spelt_json (opaque b) s r spelt = absurd spelt
  spelt_json (list ns) s r spelt = entries_json ns spelt.0 r spelt.2
  spelt_json (object ms) s r spelt = pairs_json ms spelt.0 r spelt.2

  entries_json : (ns : Nodes) (s r : List ℕ) → Entries ns s r → AreJson ns
  entries_json no_nodes s r spelt = tt
  entries_json (node n ns) s r (s1, s2, white, first, more) = (spelt_json n s1 s2 first, more_entries_json ns s2 r more)

  more_entries_json : (ns : Nodes) (s r : List ℕ) → MoreEntries ns s r → AreJson ns
  more_entries_json no_nodes s r spelt = tt
  more_entries_json (node n ns) s r (s1, s2, comma, first, more) = (spelt_json n s1 s2 first, more_entries_json ns s2 r more)

  pairs_json : (ms : Members) (s r : List ℕ) → Pairs ms s r → AreJsonMembers ms
  pairs_json no_members s r spelt = tt
  pairs_json (member k n ms) s r (s1, s2, s3, s4, white, name, colon, value, more) =
      (text_utf8 k s1 s2 name, spelt_json n s3 s4 value, more_pairs_json ms s4 r more)

  more_pairs_json : (ms : Members) (s r : List ℕ) → MorePairs ms s r → AreJsonMembers ms
  more_pairs_json no_members s r spelt = tt
  more_pairs_json (member k n ms) s r (s1, s2, s3, s4, comma, name, colon, value, more) =
      (text_utf8 k s1 s2 name, spelt_json n s3 s4 value, more_pairs_json ms s4 r more)

-- what is read can be written
pub text_json : (n : Node) (bs : List ℕ) → JsonText n bs → IsJson n
text_json n bs spelt = spelt_json n spelt.0 spelt.1 spelt.3
