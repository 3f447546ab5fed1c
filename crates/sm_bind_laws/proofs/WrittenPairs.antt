-- The query of a target that is written: its pieces are the pairs of its literals and then the others, which are left where the literals
-- took theirs.
use Rattle.std.proofs.Common.{◌≡◌, ◌<◌, ℕ, List, [], ◌∷◌, ◌++◌, map, true, false, ◌&&◌, cond, refl, sym, ap, ◌∙◌, subst, append-nil}
use Rattle.std.specs.Prelude.{◌==◌, All, IfSome, IsTrue, None, Option, Some}
use Rattle.std.specs.List.{AllByRecursion, filter, join_with_byte, list_all, slice_split}
use Rattle.std.specs.Str.{bytes_eq}
use Rattle.std.proofs.lemmas.List.Elements.{All-append, All-cons}
use Rattle.std.proofs.lemmas.List.Splits.{slice_split_at, slice_split_none}
use Rattle.std.proofs.lemmas.Slice.Eq.{bytes_eq-Decides}
use Rattle.percent_encoding.specs.Percent.{percent_decode}
use Rattle.percent_encoding.proofs.PercentLemmas.{percent_decode-nil}
use Rattle.sm_bytes.specs.Ascii.{equals}
use Rattle.sm_time.proofs.StampForms.{and_first, and_second}
use Rattle.sm_uri.specs.UriPattern.{QueryLiteral, ampersand, is_key_byte, is_query_literal, is_text_of, is_value, question_mark}
use Rattle.sm_parts.specs.HeaderLists.{is_filled}
use Rattle.sm_parts.specs.Laws.{AreBytesOf}
use Rattle.sm_parts.specs.Targets.{QueryPair, escaped, is_ampersand, is_equals, is_question_mark, pair_of, pairs_of, query_of, query_pairs}
use Rattle.sm_parts.specs.Targets.{written_literal, written_pair, written_query}
use Rattle.sm_routes.specs.Routes.{is_pair, literal_pair, without_first, without_literals}
use Rattle.sm_bind_laws.specs.WrittenLabels.{IsLiteralOfBytes}
use Rattle.sm_bind_laws.proofs.EscapedTexts.{HasNo, cut_before, cut_behind, decoded_again, escaped_filled, escaped_no, no_ampersand}
use Rattle.sm_bind_laws.proofs.EscapedTexts.{no_equals}
use Rattle.sm_bind_laws.proofs.EscapedTexts.{none_behind, whole_before}

-- a piece of a query, and its pair
pub record IsPieceOf (piece : List ℕ) (pair : QueryPair) : Type 0 where
  pub whole : HasNo ampersand piece
  pub some : is_filled piece ≡ true
  pub told : Path QueryPair (pair_of piece) pair

abbrev ArePiecesOf : List (List ℕ) → List QueryPair → Type 0
ArePiecesOf [] [] = Unit {0}
ArePiecesOf [] (pair ∷ pairs) = ⊥
ArePiecesOf (piece ∷ pieces) [] = ⊥
ArePiecesOf (piece ∷ pieces) (pair ∷ pairs) = IsPieceOf piece pair × ArePiecesOf pieces pairs

filled_before : (u : List ℕ) (b : ℕ) (v : List ℕ) → is_filled (u ++ b ∷ v) ≡ true
filled_before [] b v = refl
filled_before (c ∷ u) b v = refl

-- a key with its value, and one without
with_value : (key value : List ℕ) → All (λ b. b < 256) key → All (λ b. b < 256) value
    → IsPieceOf (escaped key ++ equals ∷ escaped value) (key, value)
with_value key value keys values =
    let none = escaped_no equals refl no_equals key in
    let first = ap percent_decode (cut_before is_equals (escaped key) equals (escaped value) none refl) ∙ decoded_again key keys in
    let second = ap percent_decode (cut_behind is_equals (escaped key) equals (escaped value) none refl) ∙ decoded_again value values in
    record {
      whole = All-append (λ c. (c == ampersand) ≡ false) (escaped key) (equals ∷ escaped value) (escaped_no ampersand refl no_ampersand key)
          (All-cons (λ c. (c == ampersand) ≡ false) equals (escaped value) refl (escaped_no ampersand refl no_ampersand value));
      some = filled_before (escaped key) equals (escaped value);
      told = λ i. (first i, second i);
    }

without_value : (key : List ℕ) → All (λ b. b < 256) key → is_filled key ≡ true → IsPieceOf (escaped key) (key, [])
without_value key keys filled =
    let none = escaped_no equals refl no_equals key in
    let first = ap percent_decode (whole_before is_equals (escaped key) none) ∙ decoded_again key keys in
    let second = ap percent_decode (none_behind is_equals (escaped key) none) ∙ percent_decode-nil in
    record {
      whole = escaped_no ampersand refl no_ampersand key;
      some = escaped_filled key filled;
      told = λ i. (first i, second i);
    }

key_filled : (key : List ℕ) → is_text_of is_key_byte key ≡ true → is_filled key ≡ true
key_filled [] h = h
key_filled (b ∷ key) h = refl

literal_piece : (key : List ℕ) (value : Option (List ℕ)) → is_filled key ≡ true → All (λ b. b < 256) key
    → IfSome value (All (λ b. b < 256)) → IsPieceOf (written_literal (key, value)) (literal_pair (key, value))
literal_piece key None filled keys values = subst_piece (without_value key keys filled)
  where
    subst_piece : IsPieceOf (escaped key) (key, []) → IsPieceOf (escaped key ++ []) (key, [])
    subst_piece h = subst (λ u. IsPieceOf u (key, [])) (sym (append-nil (escaped key))) h
literal_piece key (Some value) filled keys values = with_value key value keys values

module _ (pairs : List QueryPair) (bytes : AllByRecursion AreBytesOf pairs) where
  pairs_pieces : (ps : List QueryPair) → AllByRecursion AreBytesOf ps → ArePiecesOf (map written_pair ps) ps
  pairs_pieces [] h = tt
  pairs_pieces (p ∷ ps) h = (with_value p.0 p.1 h.0.0 h.0.1, pairs_pieces ps h.1)

  pub all_pieces : (ls : List QueryLiteral) → IsTrue (list_all is_query_literal ls) → AllByRecursion IsLiteralOfBytes ls
      → ArePiecesOf (map written_literal ls ++ map written_pair pairs) (map literal_pair ls ++ pairs)
  all_pieces [] are h = pairs_pieces pairs bytes
  all_pieces (l ∷ ls) are h =
      let here = and_first (is_query_literal l) (list_all is_query_literal ls) are in
      let filled = key_filled l.0 (and_first (is_text_of is_key_byte l.0) (is_value l.1) here) in (
        literal_piece l.0 l.1 filled h.0.0 h.0.1,
        all_pieces ls (and_second (is_query_literal l) (list_all is_query_literal ls) are) h.1,
      )

-- what is joined is cut again
pieces_again : (piece : List ℕ) (pieces : List (List ℕ)) (pairs : List QueryPair) → ArePiecesOf (piece ∷ pieces) pairs
    → slice_split is_ampersand (join_with_byte ampersand (piece ∷ pieces)) ≡ piece ∷ pieces
pieces_again piece pieces [] h = absurd h
pieces_again piece [] (pair ∷ pairs) h = slice_split_none is_ampersand piece h.0.whole
pieces_again piece (next ∷ pieces) (pair ∷ pairs) h =
    slice_split_at is_ampersand piece ampersand (join_with_byte ampersand (next ∷ pieces)) h.0.whole refl
    ∙ ap (λ ps. piece ∷ ps) (pieces_again next pieces pairs h.1)

each_again : (pieces : List (List ℕ)) (pairs : List QueryPair) → ArePiecesOf pieces pairs → pairs_of pieces ≡ pairs
each_again [] [] h = refl
each_again [] (pair ∷ pairs) h = absurd h
each_again (piece ∷ pieces) [] h = absurd h
each_again (piece ∷ pieces) (pair ∷ pairs) h =
    ap (λ t. map pair_of (cond t (piece ∷ filter is_filled pieces) (filter is_filled pieces))) h.0.some
    ∙ ap (λ p. p ∷ pairs_of pieces) h.0.told ∙ ap (λ ps. pair ∷ ps) (each_again pieces pairs h.1)

no_pieces : (pairs : List QueryPair) → ArePiecesOf [] pairs → [] ≡ pairs
no_pieces [] h = refl
no_pieces (pair ∷ pairs) h = absurd h

-- a query behind a path
pub query_again : (path : List ℕ) (pieces : List (List ℕ)) (pairs : List QueryPair) → HasNo question_mark path → ArePiecesOf pieces pairs
    → query_pairs (query_of (path ++ written_query pieces)) ≡ pairs
query_again path [] pairs none h =
    ap (λ u. query_pairs (query_of u)) (append-nil path) ∙ ap query_pairs (none_behind is_question_mark path none) ∙ no_pieces pairs h
query_again path (piece ∷ pieces) pairs none h =
    ap query_pairs (cut_behind is_question_mark path question_mark (join_with_byte ampersand (piece ∷ pieces)) none refl)
    ∙ ap pairs_of (pieces_again piece pieces pairs h) ∙ each_again (piece ∷ pieces) pairs h

-- each literal takes its own pair
pub itself : (pair : QueryPair) → is_pair pair pair ≡ true
itself pair =
    ap (λ t. t && bytes_eq pair.1 pair.1) ((bytes_eq-Decides pair.0 pair.0).1 refl) ∙ (bytes_eq-Decides pair.1 pair.1).1 refl

literals_take : (ls : List QueryLiteral) (pairs : List QueryPair) → without_literals ls (map literal_pair ls ++ pairs) ≡ pairs
literals_take [] pairs = refl
literals_take (l ∷ ls) pairs =
    let wanted = literal_pair l in
    let rest = map literal_pair ls ++ pairs in
    ap (λ t. without_literals ls (cond t rest (wanted ∷ without_first wanted rest))) (itself wanted) ∙ literals_take ls pairs

pub pairs_read : (path : List ℕ) (ls : List QueryLiteral) (pairs : List QueryPair) → HasNo question_mark path
    → IsTrue (list_all is_query_literal ls) → AllByRecursion IsLiteralOfBytes ls → AllByRecursion AreBytesOf pairs
    → without_literals ls (query_pairs (query_of (path ++ written_query (map written_literal ls ++ map written_pair pairs)))) ≡ pairs
pairs_read path ls pairs none are literals bytes =
    ap (without_literals ls)
    (query_again path (map written_literal ls ++ map written_pair pairs) (map literal_pair ls ++ pairs) none
    (all_pieces pairs bytes ls are literals))
    ∙ literals_take ls pairs
