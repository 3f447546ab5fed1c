-- The target that is written for a pattern matches it.
use Rattle.std.proofs.Common.{◌≡◌, ◌<◌, ℕ, ◌+◌, List, [], ◌∷◌, ◌++◌, length, drop, map, Bool, true, false, ◌&&◌, refl, ap, ◌∙◌, arith}
use Rattle.std.proofs.Common.{length-append}
use Rattle.std.specs.Prelude.{◌||◌, IsTrue, nat_lt}
use Rattle.std.specs.List.{AllByRecursion, list_all, list_any, slice_split}
use Rattle.std.specs.Str.{bytes_eq}
use Rattle.std.proofs.lemmas.Bool.Decides.{nat_tests}
use Rattle.std.proofs.lemmas.List.Splits.{join_with_byte-slice_split}
use Rattle.std.proofs.lemmas.Slice.Eq.{bytes_eq-Decides}
use Rattle.percent_encoding.specs.Percent.{percent_decode}
use Rattle.sm_bytes.specs.Ascii.{slash}
use Rattle.sm_time.proofs.StampForms.{and_first, and_second}
use Rattle.sm_uri.specs.UriPattern.{IsGreedyLast, IsUri, QueryLiteral, UriSaid, is_segment, label_names}
use Rattle.sm_uri.specs.declared.pattern.Segment.{Segment}
use Rattle.sm_uri.specs.declared.pattern.Segment.TheVariants.{Literal, Label, Greedy}
use Rattle.sm_parts.specs.HeaderLists.{is_filled}
use Rattle.sm_parts.specs.Targets.{QueryPair, escaped, escaped_path, is_slash, path_of, query_of, query_pairs, segments_of, written_literal}
use Rattle.sm_parts.specs.Targets.{written_pair, written_query}
use Rattle.sm_routes.specs.KeptOrder.{literal_bytes}
use Rattle.sm_routes.specs.Routes.{greedy_count, greedy_text, is_pair, literal_pair, literals_stand, path_matches, segments_match}
use Rattle.sm_routes.specs.Routes.{uri_matches}
use Rattle.sm_routes.specs.WrittenTargets.{LabelText, label_text, written_path, written_target}
use Rattle.sm_bind_laws.specs.WrittenLabels.{AreAllBytes, AreAllLabelled, CanBeWritten, IsLabelled}
use Rattle.sm_bind_laws.proofs.EscapedTexts.{decoded_again, escaped_filled, escaped_path_filled}
use Rattle.sm_bind_laws.proofs.WrittenPairs.{all_pieces, itself, query_again}
use Rattle.sm_bind_laws.proofs.WrittenPaths.{HasParts, drop_first, first_filled, literals_alone, one_piece, path_before, path_no, pieces_of}
use Rattle.sm_bind_laws.proofs.WrittenPaths.{segments_again, some_before, some_parts, take_first}

both_true : (a b : Bool) → a ≡ true → b ≡ true → (a && b) ≡ true
both_true a b x y = ap (λ t. t && b) x ∙ y

-- the texts of literals are bytes
abbrev pub AreSegmentBytes : List Segment → Type 0
AreSegmentBytes ss = AllByRecursion (λ s. AreAllBytes (literal_bytes s)) ss

same_text : (u : List ℕ) → AreAllBytes u → bytes_eq (percent_decode (escaped u)) u ≡ true
same_text u bytes = (bytes_eq-Decides (percent_decode (escaped u)) u).1 (decoded_again u bytes)

some_length : (xs : List (List ℕ)) → HasParts xs → 0 < length xs
some_length [] h = absurd h
some_length (x ∷ xs) h = omega arith

more_by : (a b n : ℕ) → 0 < a → b ≡ n → nat_lt n (a + b) ≡ true
more_by a b n some same = grind (arith, nat_tests)

-- a greedy label takes what isn't literals behind it
greedy_matches : (name : List ℕ) (ss : List Segment) (xs : List (List ℕ)) → HasParts xs
    → segments_match (Greedy name ∷ ss) xs
    ≡ (nat_lt (length ss) (length xs) && (is_filled (greedy_text ss xs) && segments_match ss (drop (greedy_count ss xs) xs)))
greedy_matches name ss [] h = absurd h
greedy_matches name ss (x ∷ xs) h = refl

module _ (labels : List LabelText) where
  literals_match : (ss : List Segment) → label_names ss ≡ [] → AreSegmentBytes ss → segments_match ss (pieces_of labels ss) ≡ true
  literals_match [] h bytes = refl
  literals_match (Literal text ∷ ss) h bytes =
      ap (λ ps. segments_match (Literal text ∷ ss) (ps ++ pieces_of labels ss)) (one_piece text)
      ∙ both_true (bytes_eq (percent_decode (escaped text)) text) (segments_match ss (pieces_of labels ss)) (same_text text bytes.0)
      (literals_match ss h bytes.1)
  literals_match (Label name ∷ ss) h bytes = absurd cc
  literals_match (Greedy name ∷ ss) h bytes = absurd cc

  greedy_again : (name : List ℕ) (ss : List Segment) → label_names ss ≡ [] → IsLabelled labels name → AreSegmentBytes ss
      → segments_match (Greedy name ∷ ss) (pieces_of labels (Greedy name ∷ ss)) ≡ true
  greedy_again name ss last has bytes =
      let text = label_text name labels in
      let own = slice_split is_slash (escaped_path text) in
      let rest = pieces_of labels ss in
      let same = literals_alone labels ss last in
      let parts = some_parts is_slash (escaped_path text) in
      let more = ap (λ n. nat_lt (length ss) n) (length-append own rest)
      ∙ more_by (length own) (length rest) (length ss) (some_length own parts) same in
      let filled = ap is_filled (take_first ss own rest same ∙ join_with_byte-slice_split slash (escaped_path text))
      ∙ escaped_path_filled text has.0 in
      let behind = ap (segments_match ss) (drop_first ss own rest same) ∙ literals_match ss last bytes in
      greedy_matches name ss (own ++ rest) (some_before own rest parts)
      ∙ both_true (nat_lt (length ss) (length (own ++ rest)))
      (is_filled (greedy_text ss (own ++ rest)) && segments_match ss (drop (greedy_count ss (own ++ rest)) (own ++ rest))) more
      (both_true (is_filled (greedy_text ss (own ++ rest))) (segments_match ss (drop (greedy_count ss (own ++ rest)) (own ++ rest))) filled
      behind)

  pieces_match : (ss : List Segment) → IsGreedyLast ss → AreAllLabelled labels (label_names ss) → AreSegmentBytes ss
      → segments_match ss (pieces_of labels ss) ≡ true
  pieces_match [] last has bytes = refl
  pieces_match (Literal text ∷ ss) last has bytes =
      ap (λ ps. segments_match (Literal text ∷ ss) (ps ++ pieces_of labels ss)) (one_piece text)
      ∙ both_true (bytes_eq (percent_decode (escaped text)) text) (segments_match ss (pieces_of labels ss)) (same_text text bytes.0)
      (pieces_match ss last has bytes.1)
  pieces_match (Label name ∷ ss) last has bytes =
      let text = label_text name labels in
      ap (λ ps. segments_match (Label name ∷ ss) (ps ++ pieces_of labels ss)) (one_piece text)
      ∙ both_true (is_filled (escaped text)) (segments_match ss (pieces_of labels ss)) (escaped_filled text has.0.0)
      (pieces_match ss last has.1 bytes.1)
  pieces_match (Greedy name ∷ ss) last has bytes = greedy_again name ss last has.0 bytes.1

  path_again : (ss : List Segment) → IsTrue (list_all is_segment ss) → IsGreedyLast ss → AreAllLabelled labels (label_names ss)
      → AreSegmentBytes ss → path_matches ss (segments_of (written_path ss labels)) ≡ true
  path_again [] are last has bytes = refl
  path_again (s ∷ ss) are last has bytes =
      ap (path_matches (s ∷ ss)) (segments_again labels s ss (first_filled labels s ss (first_of s ss are) has))
      ∙ pieces_match (s ∷ ss) last has bytes
    where
      first_of : (s : Segment) (ss : List Segment) → IsTrue (list_all is_segment (s ∷ ss)) → is_segment s ≡ true
      first_of s ss h = and_first (is_segment s) (list_all is_segment ss) h

-- each literal stands among the pairs
here_or_behind : (wanted pair : QueryPair) (pairs : List QueryPair) → list_any (is_pair wanted) pairs ≡ true
    → list_any (is_pair wanted) (pair ∷ pairs) ≡ true
here_or_behind wanted pair pairs h = by (is_pair wanted pair) (list_any (is_pair wanted) pairs) h
  where
    by : (a b : Bool) → b ≡ true → (a || b) ≡ true
    by true b e = refl
    by false b e = e

literals_behind : (pair : QueryPair) (pairs : List QueryPair) (ls : List QueryLiteral) → literals_stand ls pairs ≡ true
    → literals_stand ls (pair ∷ pairs) ≡ true
literals_behind pair pairs [] h = refl
literals_behind pair pairs (l ∷ ls) h =
    both_true (list_any (is_pair (literal_pair l)) (pair ∷ pairs)) (literals_stand ls (pair ∷ pairs))
    (here_or_behind (literal_pair l) pair pairs (and_first (list_any (is_pair (literal_pair l)) pairs) (literals_stand ls pairs) h))
    (literals_behind pair pairs ls (and_second (list_any (is_pair (literal_pair l)) pairs) (literals_stand ls pairs) h))

own_stand : (ls : List QueryLiteral) (pairs : List QueryPair) → literals_stand ls (map literal_pair ls ++ pairs) ≡ true
own_stand [] pairs = refl
own_stand (l ∷ ls) pairs =
    let rest = map literal_pair ls ++ pairs in
    both_true (list_any (is_pair (literal_pair l)) (literal_pair l ∷ rest)) (literals_stand ls (literal_pair l ∷ rest))
    (ap (λ t. t || list_any (is_pair (literal_pair l)) rest) (itself (literal_pair l)))
    (literals_behind (literal_pair l) rest ls (own_stand ls pairs))

pub target_matches : (u : UriSaid) (labels : List LabelText) (pairs : List QueryPair) → IsUri u → CanBeWritten u labels pairs
    → AreSegmentBytes u.segments → uri_matches u (written_target u labels pairs) ≡ true
target_matches u labels pairs is can bytes =
    let pieces = map written_literal u.literals ++ map written_pair pairs in
    let path = written_path u.segments labels in
    both_true (path_matches u.segments (segments_of (path_of (path ++ written_query pieces))))
    (literals_stand u.literals (query_pairs (query_of (path ++ written_query pieces))))
    (ap (λ p. path_matches u.segments (segments_of p)) (path_before labels u.segments pieces)
    ∙ path_again labels u.segments is.segments is.greedy can.labelled bytes)
    (ap (literals_stand u.literals)
    (query_again path pieces (map literal_pair u.literals ++ pairs) (path_no labels u.segments)
    (all_pieces pairs can.bytes u.literals is.literals can.literals))
    ∙ own_stand u.literals pairs)
