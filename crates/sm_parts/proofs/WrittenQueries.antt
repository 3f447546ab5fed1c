-- Queries that are written have their pairs.
use Rattle.std.proofs.Common.{◌≡◌, ◌≢◌, ℕ, zero, suc, ◌+◌, ◌<◌, ◌≤◌, ◌⊎◌, List, [], ◌∷◌, ◌++◌, length, take, drop, map, Bool, true, false, cond}
use Rattle.std.proofs.Common.{refl, sym, ap, ◌∙◌, subst, inl, inr, arith}
use Rattle.std.specs.Prelude.{All, ◌==◌, if◌then◌else◌, not}
use Rattle.std.specs.List.{AllByRecursion, after_first, before_first, filter, flat_map, join_with_byte, position_or_len, slice_split}
use Rattle.std.proofs.Math.Seq.{drop-append-add, take-append_seam}
use Rattle.std.proofs.lemmas.Bool.{false_from_ne_true}
use Rattle.std.proofs.lemmas.Bool.Decides.{Decides-eqb, nat_tests}
use Rattle.std.proofs.lemmas.List.Elements.{All-append, All-cons, All-head, All-nil, All-tail, All-weaker}
use Rattle.std.proofs.lemmas.List.Splits.{slice_split_at, slice_split_none}
use Rattle.percent_encoding.specs.Percent.{percent_decode, percent_encode_byte}
use Rattle.percent_encoding.proofs.PercentLemmas.{All-percent_encode_byte, IsByte, IsEscapeByte, percent_decode-nil, percent_decode-percent_encode_byte}
use Rattle.percent_encoding.proofs.PercentLemmas.{percent_decode_not_percent}
use Rattle.sm_bytes.specs.Ascii.{equals}
use Rattle.sm_uri.specs.UriPattern.{ampersand}
use Rattle.sm_parts.specs.HeaderLists.{is_filled}
use Rattle.sm_parts.specs.Laws.{AreBytesOf}
use Rattle.sm_parts.specs.Targets.{QueryPair, escaped, escaped_byte, is_ampersand, is_equals, is_unreserved, pair_of, pairs_of, query_pairs}
use Rattle.sm_parts.specs.Targets.{written_pair}

-- a mark of a query stands in no text that is escaped
kept_no : (mark b : ℕ) → is_unreserved mark ≡ false → is_unreserved b ≡ true → (b == mark) ≡ false
kept_no mark b misses hits =
    false_from_ne_true (b == mark) (λ e. clash (is_unreserved mark) misses (subst (λ c. is_unreserved c ≡ true) ((Decides-eqb b mark).0 e) hits))
  where
    clash : (t : Bool) → t ≡ false → t ≡ true → ⊥
    clash t p q = cc

escape_no_equals : (b : ℕ) → IsEscapeByte b → (b == equals) ≡ false
escape_no_equals b h = grind (arith, nat_tests)

escape_no_ampersand : (b : ℕ) → IsEscapeByte b → (b == ampersand) ≡ false
escape_no_ampersand b h = grind (arith, nat_tests)

module _ (mark : ℕ) (free : is_unreserved mark ≡ false) (no_escape : (b : ℕ) → IsEscapeByte b → (b == mark) ≡ false) where
  byte_no : (b : ℕ) (t : Bool) → is_unreserved b ≡ t → All (λ c. (c == mark) ≡ false) (if t then b ∷ [] else percent_encode_byte b)
  byte_no b true e = All-cons (λ c. (c == mark) ≡ false) b [] (kept_no mark b free e) (All-nil (λ c. (c == mark) ≡ false))
  byte_no b false e = All-weaker IsEscapeByte (λ c. (c == mark) ≡ false) no_escape (percent_encode_byte b) (All-percent_encode_byte b)

  escaped_no : (u : List ℕ) → All (λ c. (c == mark) ≡ false) (escaped u)
  escaped_no [] = All-nil (λ c. (c == mark) ≡ false)
  escaped_no (b ∷ u) =
      All-append (λ c. (c == mark) ≡ false) (escaped_byte b) (escaped u) (byte_no b (is_unreserved b) refl) (escaped_no u)

-- what is escaped is decoded again
kept_byte : (b : ℕ) → is_unreserved b ≡ true → b ≢ 37
kept_byte b h e = clash (is_unreserved 37) refl (subst (λ c. is_unreserved c ≡ true) e h)
  where
    clash : (t : Bool) → t ≡ false → t ≡ true → ⊥
    clash t p q = cc

byte_again : (b : ℕ) (u : List ℕ) (t : Bool) → is_unreserved b ≡ t → b < 256
    → percent_decode ((if t then b ∷ [] else percent_encode_byte b) ++ u) ≡ b ∷ percent_decode u
byte_again b u true e small = percent_decode_not_percent b u (kept_byte b e)
byte_again b u false e small = percent_decode-percent_encode_byte b u small

pub decoded_again : (u : List ℕ) → All IsByte u → percent_decode (escaped u) ≡ u
decoded_again [] h = percent_decode-nil
decoded_again (b ∷ u) h =
    byte_again b (escaped u) (is_unreserved b) refl (All-head IsByte b u h) ∙ ap (λ v. b ∷ v) (decoded_again u (All-tail IsByte b u h))

-- a text cut at the first byte of a class
place_by : (p : ℕ → Bool) (b : ℕ) (n : ℕ) → p b ≡ false → cond (not (p b)) (1 + n) 0 ≡ suc n
place_by p b n h = ap (λ t. cond (not t) (1 + n) 0) h ∙ omega arith

first_place : (p : ℕ → Bool) (u : List ℕ) (mark : ℕ) (v : List ℕ) → All (λ b. p b ≡ false) u → p mark ≡ true
    → position_or_len p (u ++ mark ∷ v) ≡ length u
first_place p [] mark v h e = ap (λ t. cond (not t) (1 + position_or_len p v) 0) e
first_place p (b ∷ u) mark v h e =
    place_by p b (position_or_len p (u ++ mark ∷ v)) (All-head (λ b. p b ≡ false) b u h)
    ∙ ap suc (first_place p u mark v (All-tail (λ b. p b ≡ false) b u h) e)

cut_at_first : (p : ℕ → Bool) (u : List ℕ) (mark : ℕ) (v : List ℕ) → All (λ b. p b ≡ false) u → p mark ≡ true
    → before_first p (u ++ mark ∷ v) ≡ u
cut_at_first p u mark v h e = ap (λ n. take n (u ++ mark ∷ v)) (first_place p u mark v h e) ∙ take-append_seam u (mark ∷ v)

behind_first : (p : ℕ → Bool) (u : List ℕ) (mark : ℕ) (v : List ℕ) → All (λ b. p b ≡ false) u → p mark ≡ true
    → after_first p (u ++ mark ∷ v) ≡ v
behind_first p u mark v h e = ap (λ n. drop (n + 1) (u ++ mark ∷ v)) (first_place p u mark v h e) ∙ drop-append-add u (mark ∷ v) 1

-- one pair
pair_again : (pair : QueryPair) → AreBytesOf pair → Path QueryPair (pair_of (written_pair pair)) pair
pair_again pair h =
    let none = escaped_no equals refl escape_no_equals (pair.0) in
    let key = ap percent_decode (cut_at_first is_equals (escaped pair.0) equals (escaped pair.1) none refl) ∙ decoded_again pair.0 h.0 in
    let value = ap percent_decode (behind_first is_equals (escaped pair.0) equals (escaped pair.1) none refl) ∙ decoded_again pair.1 h.1 in
    λ i. (key i, value i)

written_no : (pair : QueryPair) → All (λ c. (c == ampersand) ≡ false) (written_pair pair)
written_no pair =
    let misses = escaped_no ampersand refl escape_no_ampersand in
    All-append (λ c. (c == ampersand) ≡ false) (escaped pair.0) (equals ∷ escaped pair.1) (misses pair.0)
    (All-cons (λ c. (c == ampersand) ≡ false) equals (escaped pair.1) refl (misses pair.1))

written_filled : (u v : List ℕ) → is_filled (u ++ equals ∷ v) ≡ true
written_filled [] v = refl
written_filled (b ∷ u) v = refl

-- pairs, one after the other
pieces_again : (pair : QueryPair) (pairs : List QueryPair)
    → slice_split is_ampersand (join_with_byte ampersand (map written_pair (pair ∷ pairs))) ≡ map written_pair (pair ∷ pairs)
pieces_again pair [] = slice_split_none is_ampersand (written_pair pair) (written_no pair)
pieces_again pair (next ∷ pairs) =
    slice_split_at is_ampersand (written_pair pair) ampersand (join_with_byte ampersand (map written_pair (next ∷ pairs))) (written_no pair) refl
    ∙ ap (λ ps. written_pair pair ∷ ps) (pieces_again next pairs)

each_again : (pairs : List QueryPair) → AllByRecursion AreBytesOf pairs → pairs_of (map written_pair pairs) ≡ pairs
each_again [] h = refl
each_again (pair ∷ pairs) h =
    ap (λ t. map pair_of (cond t (written_pair pair ∷ filter is_filled (map written_pair pairs)) (filter is_filled (map written_pair pairs))))
    (written_filled (escaped pair.0) (escaped pair.1))
    ∙ ap (λ p. p ∷ pairs_of (map written_pair pairs)) (pair_again pair h.0) ∙ ap (λ ps. pair ∷ ps) (each_again pairs h.1)

pub pairs_again : (pairs : List QueryPair) → AllByRecursion AreBytesOf pairs
    → query_pairs (join_with_byte ampersand (map written_pair pairs)) ≡ pairs
pairs_again [] h = refl
pairs_again (pair ∷ pairs) h = ap pairs_of (pieces_again pair pairs) ∙ each_again (pair ∷ pairs) h
