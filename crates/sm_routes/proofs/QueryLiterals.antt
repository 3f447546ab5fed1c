-- The literals of a query among the pairs of a target, piece by piece.
use Rattle.std.proofs.Common.{◌≡◌, ℕ, List, [], ◌∷◌, length, Bool, true, false, ◌||◌, ◌&&◌, cond, map, refl, sym, ap, ◌∙◌}
use Rattle.std.specs.Prelude.{Option, Some, None}
use Rattle.std.specs.List.{filter, list_any, slice_split}
use Rattle.std.specs.Str.{bytes_eq}
use denote.Ref.{Bor}
use Rattle.percent_encoding.specs.Percent.{percent_decode}
use Rattle.sm_bytes.specs.Ascii.{equals}
use Rattle.sm_uri.specs.UriPattern.{QueryLiteral, ampersand}
use Rattle.sm_parts.specs.Cuts.{IsCutBy, IsFirstPiece, IsWhole, bytes_behind}
use Rattle.sm_parts.specs.HeaderLists.{is_filled}
use Rattle.sm_parts.specs.Targets.{QueryPair, is_ampersand, pair_of, pairs_of, query_pairs}
use Rattle.sm_parts.proofs.MarkCuts.{cut_before, cut_behind}
use Rattle.sm_routes.specs.Routes.{is_pair, literal_pair}
use Rattle.sm_routes.proofs.PathPieces.{filled_is}

or_none : (a : Bool) → (a || false) ≡ a
or_none true = refl
or_none false = refl

-- one piece before others
any_by : (test : QueryPair → Bool) (t : Bool) (piece : List ℕ) (pieces : List (List ℕ))
    → list_any test (map pair_of (cond t (piece ∷ pieces) pieces))
    ≡ (list_any test (map pair_of (cond t (piece ∷ []) [])) || list_any test (map pair_of pieces))
any_by test true piece pieces = ap (λ t. t || list_any test (map pair_of pieces)) (sym (or_none (test (pair_of piece))))
any_by test false piece pieces = refl

pub any_more : (test : QueryPair → Bool) (piece : List ℕ) (pieces : List (List ℕ))
    → list_any test (pairs_of (piece ∷ pieces)) ≡ (list_any test (pairs_of (piece ∷ [])) || list_any test (pairs_of pieces))
any_more test piece pieces = any_by test (is_filled piece) piece (filter is_filled pieces)

module _ (test : QueryPair → Bool) (query rest piece : List ℕ)
    (same : list_any test (query_pairs rest) ≡ list_any test (query_pairs query)) where
  first_by : (b : Bool) (more : List (List ℕ)) → slice_split is_ampersand rest ≡ piece ∷ more
      → list_any test (pairs_of (piece ∷ [])) ≡ b → (b || list_any test (pairs_of more)) ≡ list_any test (query_pairs query)
  first_by b more e h =
      ap (λ t. t || list_any test (pairs_of more)) (sym h) ∙ sym (any_more test piece more)
      ∙ ap (λ ps. list_any test (pairs_of ps)) (sym e) ∙ same

  pub pair_found : (behind : Option (Bor (List ℕ))) → IsCutBy ampersand rest piece behind → list_any test (pairs_of (piece ∷ [])) ≡ true
      → true ≡ list_any test (query_pairs query)
  pair_found None cut h = first_by true [] cut.split h
  pair_found (Some behind) cut h = first_by true (slice_split is_ampersand behind.now) cut.split h

  pub none_left : IsWhole ampersand rest piece → list_any test (pairs_of (piece ∷ [])) ≡ false → false ≡ list_any test (query_pairs query)
  none_left cut h = first_by false [] cut.split h

  pub pairs_on : (behind : List ℕ) → IsFirstPiece ampersand rest piece behind → list_any test (pairs_of (piece ∷ [])) ≡ false
      → list_any test (query_pairs behind) ≡ list_any test (query_pairs query)
  pairs_on behind cut h = first_by false (slice_split is_ampersand behind) cut.split h

-- a piece that is a pair, and the literal
pub literal_is : (l : QueryLiteral) (piece taken : List ℕ) (behind : Option (Bor (List ℕ))) → IsCutBy equals piece taken behind
    → (length piece ≡ 0 → ⊥)
    → (bytes_eq (percent_decode taken) l.0 && bytes_eq (percent_decode (bytes_behind behind)) (literal_pair l).1)
    ≡ list_any (is_pair (literal_pair l)) (pairs_of (piece ∷ []))
literal_is l piece taken behind cut h =
    ap (λ u. bytes_eq (percent_decode u) l.0 && bytes_eq (percent_decode (bytes_behind behind)) (literal_pair l).1)
    (sym (cut_before equals piece taken behind cut))
    ∙ ap (λ u. bytes_eq (pair_of piece).0 l.0 && bytes_eq (percent_decode u) (literal_pair l).1) (sym (cut_behind equals piece taken behind cut))
    ∙ sym (or_none (is_pair (literal_pair l) (pair_of piece)))
    ∙ sym (ap (λ t. list_any (is_pair (literal_pair l)) (map pair_of (cond t (piece ∷ []) []))) (filled_is piece h))
