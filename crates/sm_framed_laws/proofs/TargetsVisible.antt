-- All that is written into a target is visible.
use Rattle.std.proofs.Common.{◌≡◌, ℕ, ◌+◌, ◌<◌, ◌≤◌, ◌/◌, ◌%◌, Bool, true, false, ◌&&◌, List, [], ◌∷◌, ◌++◌, length, map}
use Rattle.std.proofs.Common.{refl, ap, ◌∙◌, arith}
use Rattle.std.specs.Prelude.{None, Some, if◌then◌else◌, nat_lt}
use Rattle.std.specs.List.{AllByRecursion, flat_map, join_with_byte, list_all}
use Rattle.std.specs.Fmt.{digit_glyph}
use Rattle.std.proofs.lemmas.Bool.Decides.{nat_tests}
use Rattle.percent_encoding.specs.Percent.{percent_encode_byte}
use Rattle.sm_bytes.specs.Ascii.{equals}
use Rattle.sm_uri.specs.UriPattern.{QueryLiteral, UriSaid, ampersand}
use Rattle.sm_uri.specs.declared.pattern.Segment.{Segment}
use Rattle.sm_uri.specs.declared.pattern.Segment.TheVariants.{Literal, Label, Greedy}
use Rattle.sm_parts.specs.Targets.{QueryPair, escaped, escaped_byte, escaped_path_byte, is_slash, is_unreserved, written_literal}
use Rattle.sm_parts.specs.Targets.{written_pair, written_query}
use Rattle.sm_routes.specs.WrittenTargets.{LabelText, label_text, written_path, written_segment, written_target}
use Rattle.sm_gateway.specs.GatewayData.{is_visible}
use Rattle.sm_framed_laws.proofs.PlainTexts.{joined}

visible_from : (c : ℕ) → 33 ≤ c → c ≤ 126 → is_visible c ≡ true
visible_from c low high = grind (arith, nat_tests)

glyph_visible : (n : ℕ) → n < 16 → is_visible (digit_glyph true n) ≡ true
glyph_visible n few = by (nat_lt n 10)
  where
    by : (t : Bool) → is_visible (if t then 48 + n else 55 + n) ≡ true
    by true = visible_from (48 + n) (omega arith) (omega (arith, few))
    by false = visible_from (55 + n) (omega arith) (omega (arith, few))

escape_visible : (b : ℕ) → list_all is_visible (percent_encode_byte b) ≡ true
unfolding percent_encode_byte
escape_visible b =
    ap (λ t. t && (is_visible (digit_glyph true (b % 16)) && true)) (glyph_visible (b / 16 % 16) (omega arith))
    ∙ ap (λ t. t && true) (glyph_visible (b % 16) (omega arith))

unreserved_visible : (b : ℕ) → is_unreserved b ≡ true → is_visible b ≡ true
unreserved_visible b h = grind (arith, nat_tests)

byte_visible : (b : ℕ) → list_all is_visible (escaped_byte b) ≡ true
byte_visible b = by (is_unreserved b) refl
  where
    by : (t : Bool) → is_unreserved b ≡ t → list_all is_visible (if t then b ∷ [] else percent_encode_byte b) ≡ true
    by true e = ap (λ t. t && true) (unreserved_visible b e)
    by false e = escape_visible b

path_byte_visible : (b : ℕ) → list_all is_visible (escaped_path_byte b) ≡ true
path_byte_visible b = by (is_slash b) refl
  where
    by : (t : Bool) → is_slash b ≡ t → list_all is_visible (if t then b ∷ [] else escaped_byte b) ≡ true
    by true e = ap (λ t. t && true) (slash_visible b e)
      where
        slash_visible : (b : ℕ) → is_slash b ≡ true → is_visible b ≡ true
        slash_visible b e = grind (arith, nat_tests)
    by false e = byte_visible b

pub over_visible : {X : Type 0} (f : X → List ℕ) → ((x : X) → list_all is_visible (f x) ≡ true) → (xs : List X)
    → list_all is_visible (flat_map f xs) ≡ true
over_visible f each [] = refl
over_visible f each (x ∷ xs) = joined is_visible (f x) (flat_map f xs) (each x) (over_visible f each xs)

escaped_visible : (u : List ℕ) → list_all is_visible (escaped u) ≡ true
escaped_visible u = over_visible escaped_byte byte_visible u

segment_visible : (labels : List LabelText) (segment : Segment) → list_all is_visible (written_segment labels segment) ≡ true
segment_visible labels (Literal text) = escaped_visible text
segment_visible labels (Label name) = escaped_visible (label_text name labels)
segment_visible labels (Greedy name) = over_visible escaped_path_byte path_byte_visible (label_text name labels)

path_visible : (segments : List Segment) (labels : List LabelText) → list_all is_visible (written_path segments labels) ≡ true
path_visible [] labels = refl
path_visible (segment ∷ segments) labels = over_visible (written_segment labels) (segment_visible labels) (segment ∷ segments)

pair_visible : (pair : QueryPair) → list_all is_visible (written_pair pair) ≡ true
pair_visible pair = joined is_visible (escaped pair.0) (equals ∷ escaped pair.1) (escaped_visible pair.0) (escaped_visible pair.1)

literal_visible : (l : QueryLiteral) → list_all is_visible (written_literal l) ≡ true
literal_visible (key, None) = joined is_visible (escaped key) [] (escaped_visible key) refl
literal_visible (key, Some value) = joined is_visible (escaped key) (equals ∷ escaped value) (escaped_visible key) (escaped_visible value)

-- pieces of a query
abbrev AreVisible : List (List ℕ) → Type 0
AreVisible us = AllByRecursion (λ u. list_all is_visible u ≡ true) us

all_pairs : (pairs : List QueryPair) → AreVisible (map written_pair pairs)
all_pairs [] = tt
all_pairs (pair ∷ pairs) = (pair_visible pair, all_pairs pairs)

all_literals : (ls : List QueryLiteral) (us : List (List ℕ)) → AreVisible us → AreVisible (map written_literal ls ++ us)
all_literals [] us h = h
all_literals (l ∷ ls) us h = (literal_visible l, all_literals ls us h)

joined_visible : (u : List ℕ) (us : List (List ℕ)) → AreVisible (u ∷ us) → list_all is_visible (join_with_byte ampersand (u ∷ us)) ≡ true
joined_visible u [] h = h.0
joined_visible u (v ∷ us) h = joined is_visible u (ampersand ∷ join_with_byte ampersand (v ∷ us)) h.0 (joined_visible v us h.1)

query_visible : (us : List (List ℕ)) → AreVisible us → list_all is_visible (written_query us) ≡ true
query_visible [] h = refl
query_visible (u ∷ us) h = joined_visible u us h

pub target_visible : (u : UriSaid) (labels : List LabelText) (pairs : List QueryPair)
    → list_all is_visible (written_target u labels pairs) ≡ true
target_visible u labels pairs =
    let pieces = map written_literal u.literals ++ map written_pair pairs in
    joined is_visible (written_path u.segments labels) (written_query pieces) (path_visible u.segments labels)
    (query_visible pieces (all_literals u.literals (map written_pair pairs) (all_pairs pairs)))

-- and a path has its slash
pub target_filled : (u : UriSaid) (labels : List LabelText) (pairs : List QueryPair) → 0 < length (written_target u labels pairs)
target_filled u labels pairs = by u.segments
  where
    by : (segments : List Segment) → 0 < length (written_path segments labels ++ written_query (map written_literal u.literals ++ map written_pair pairs))
    by [] = omega arith
    by (Literal text ∷ segments) = omega arith
    by (Label name ∷ segments) = omega arith
    by (Greedy name ∷ segments) = omega arith
