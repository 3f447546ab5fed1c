-- Trees of whole numbers, of texts and of what is written for stamps can be written as JSON; such trees are put together to such trees.
use Rattle.std.proofs.Common.{◌≡◌, ℕ, ℤ, Bool, true, false, ◌&&◌, not, cond, List, [], ◌∷◌, ◌++◌, Option, Some, None, refl, sym, ap, ◌∙◌}
use Rattle.std.proofs.Common.{subst, arith, if◌then◌else◌}
use Rattle.std.specs.Prelude.{pos, negsuc, FitsSigned, IsUtf8, int_div}
use Rattle.std.specs.Int.{w64}
use Rattle.std.specs.Str.{bytes_eq, is_utf8}
use Rattle.std.proofs.lemmas.Bool.Decides.{nat_tests}
use Rattle.std.proofs.lemmas.Int.{ints}
use Rattle.std.proofs.lemmas.Str.{IsUtf8-from_is_utf8, is_utf8-from_IsUtf8}
use Rattle.std.proofs.lemmas.Slice.Eq.{bytes_eq-Decides}
use Rattle.sm_time.specs.declared.format.Format.TheVariants.{EpochSeconds}
use Rattle.sm_time.specs.StampTexts.{stamp_of}
use Rattle.sm_time.specs.Written.{written_stamp}
use Rattle.sm_time.proofs.StampForms.{and_first, and_second}
use Rattle.sm_tree.specs.Json.{IsJson, AreJson, AreJsonMembers}
use Rattle.sm_tree.specs.Node.{Node, Nodes, Members, null, bool, int, number, text, bytes, tag, opaque, list, object, no_nodes, node}
use Rattle.sm_tree.specs.Node.{no_members, member, nodes_of, members_of}
use Rattle.sm_tree.specs.View.{node_of, nodes_view, members_view}
use Rattle.sm_tree.specs.declared.tree.Tree.{Tree}
use Rattle.sm_tree.specs.declared.tree.Tree.TheVariants as trees
use Rattle.sm_tree.proofs.Views.{node_int, node_bool, node_text}
use Rattle.sm_shapes.specs.Values.{time_val}
use Rattle.sm_shapes.specs.declared.fault.FaultKind.TheVariants.{Time}
use Rattle.sm_codec.specs.Convention.{fits_bits}
use Rattle.sm_codec.specs.Conventions.{is_whole_second, or_fault, stamp_val}
use Rattle.sm_codec.specs.declared.simple.Simple.TheVariants as the
use Rattle.sm_codec.proofs.CborWrites.{width_fits}
use Rattle.sm_codec.proofs.JsonLaws.{json_laws}
use Rattle.sm_codec.proofs.JsonWrites.{json_writes}
use Rattle.sm_schema.specs.steps.Plain.{is_plain, are_plain, are_plain_under, is_written_stamp}

-- the number that is written for a stamp of no whole second
stamp_json : (o : Option ℤ) (t : List ℕ) → stamp_of EpochSeconds t ≡ o → is_written_stamp o t ≡ true → IsJson (number t)
stamp_json None t e h = absurd cc
stamp_json (Some ms) t e h =
    let u = written_stamp EpochSeconds ms in
    let whole = is_whole_second ms in
    let part : whole ≡ false = not_whole whole (and_first (not whole) (bytes_eq t u) h) in
    let same : t ≡ u = (bytes_eq-Decides t u).0 (and_second (not whole) (bytes_eq t u) h) in
    let stamp = (json_laws false).of_type (the.Time EpochSeconds) (number t) (time_val ms) (ap (λ x. or_fault Time (stamp_val x)) e) in
    let json = (json_writes false).leaves (the.Time EpochSeconds) (time_val ms) tt (ap (λ b. b && true) stamp) in
    subst (λ x. IsJson (number x)) (sym same)
    (subst (λ b. IsJson (cond b (int (int_div ms (pos 1000))) (number u))) part json)
  where
    not_whole : (b : Bool) → not b ≡ true → b ≡ false
    not_whole true e = cc
    not_whole false e = refl

mutual
  pub plain_json : (n : Node) → is_plain n ≡ true → IsJson n
  plain_json null h = tt
  plain_json (bool b) h = tt
  plain_json (int z) h = width_fits 64 z (omega arith) h
  plain_json (number t) h = stamp_json (stamp_of EpochSeconds t) t refl h
  plain_json (text t) h = IsUtf8-from_is_utf8 t h
  plain_json (bytes t) h = absurd cc
  plain_json (tag k n) h = absurd cc
  plain_json (opaque b) h = absurd cc
  plain_json (list ns) h = plain_entries ns h
  plain_json (object ms) h = plain_pairs ms h

  plain_entries : (ns : Nodes) → are_plain ns ≡ true → AreJson ns
  plain_entries no_nodes h = tt
  plain_entries (node n ns) h =
      (plain_json n (and_first (is_plain n) (are_plain ns) h), plain_entries ns (and_second (is_plain n) (are_plain ns) h))

  plain_pairs : (ms : Members) → are_plain_under ms ≡ true → AreJsonMembers ms
  plain_pairs no_members h = tt
  plain_pairs (member k n ms) h =
      let later = and_second (is_utf8 k) (is_plain n && are_plain_under ms) h in (
        IsUtf8-from_is_utf8 k (and_first (is_utf8 k) (is_plain n && are_plain_under ms) h),
        plain_json n (and_first (is_plain n) (are_plain_under ms) later),
        plain_pairs ms (and_second (is_plain n) (are_plain_under ms) later),
      )

-- leaves
pub word_fits : (z : ℤ) → FitsSigned w64 z → fits_bits 64 z ≡ true
word_fits (pos n) h = grind (arith, nat_tests, ints, h.sfits)
word_fits (negsuc n) h = grind (arith, nat_tests, ints, h.sfits)

pub plain_int : (z : ℤ) → FitsSigned w64 z → is_plain (node_of (trees.Int z)) ≡ true
plain_int z h = ap is_plain (node_int z) ∙ word_fits z h

pub plain_bool : (b : Bool) → is_plain (node_of (trees.Bool b)) ≡ true
plain_bool b = ap is_plain (node_bool b)

pub plain_text : (t : List ℕ) → IsUtf8 t → is_plain (node_of (trees.Text t)) ≡ true
plain_text t h = ap is_plain (node_text t) ∙ is_utf8-from_IsUtf8 t h

-- what is put behind others
pub both : (a b : Bool) → a ≡ true → b ≡ true → (a && b) ≡ true
both a b h i = ap (λ x. x && b) h ∙ i

pub pair_plain : (ps : List (List ℕ × Tree)) (x : List ℕ × Tree) → are_plain_under (members_of (members_view ps)) ≡ true
    → IsUtf8 x.0 → is_plain (node_of x.1) ≡ true → are_plain_under (members_of (members_view (ps ++ x ∷ []))) ≡ true
pair_plain [] x h name tree = both (is_utf8 x.0) (is_plain (node_of x.1) && true) (is_utf8-from_IsUtf8 x.0 name)
    (both (is_plain (node_of x.1)) true tree refl)
pair_plain (p ∷ ps) x h name tree =
    let rest = are_plain_under (members_of (members_view ps)) in
    let later = and_second (is_utf8 p.0) (is_plain (node_of p.1) && rest) h in
    both (is_utf8 p.0) (is_plain (node_of p.1) && are_plain_under (members_of (members_view (ps ++ x ∷ []))))
    (and_first (is_utf8 p.0) (is_plain (node_of p.1) && rest) h)
    (both (is_plain (node_of p.1)) (are_plain_under (members_of (members_view (ps ++ x ∷ []))))
    (and_first (is_plain (node_of p.1)) rest later) (pair_plain ps x (and_second (is_plain (node_of p.1)) rest later) name tree))

pub entry_plain : (ts : List Tree) (t : Tree) → are_plain (nodes_of (nodes_view ts)) ≡ true → is_plain (node_of t) ≡ true
    → are_plain (nodes_of (nodes_view (ts ++ t ∷ []))) ≡ true
entry_plain [] t h tree = both (is_plain (node_of t)) true tree refl
entry_plain (s ∷ ts) t h tree =
    let rest = are_plain (nodes_of (nodes_view ts)) in
    both (is_plain (node_of s)) (are_plain (nodes_of (nodes_view (ts ++ t ∷ [])))) (and_first (is_plain (node_of s)) rest h)
    (entry_plain ts t (and_second (is_plain (node_of s)) rest h) tree)

-- and pushed, if there is memory
pub pairs_pushed : (before after : List (List ℕ × Tree)) (x : List ℕ × Tree) (b : Bool) → after ≡ (if b then before ++ x ∷ [] else before)
    → are_plain_under (members_of (members_view before)) ≡ true → IsUtf8 x.0 → is_plain (node_of x.1) ≡ true
    → are_plain_under (members_of (members_view after)) ≡ true
pairs_pushed before after x true e h name tree =
    subst (λ ps. are_plain_under (members_of (members_view ps)) ≡ true) (sym e) (pair_plain before x h name tree)
pairs_pushed before after x false e h name tree = subst (λ ps. are_plain_under (members_of (members_view ps)) ≡ true) (sym e) h

pub entries_pushed : (before after : List Tree) (t : Tree) (b : Bool) → after ≡ (if b then before ++ t ∷ [] else before)
    → are_plain (nodes_of (nodes_view before)) ≡ true → is_plain (node_of t) ≡ true → are_plain (nodes_of (nodes_view after)) ≡ true
entries_pushed before after t true e h tree = subst (λ ts. are_plain (nodes_of (nodes_view ts)) ≡ true) (sym e) (entry_plain before t h tree)
entries_pushed before after t false e h tree = subst (λ ts. are_plain (nodes_of (nodes_view ts)) ≡ true) (sym e) h
