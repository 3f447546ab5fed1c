-- Pieces of a query as they are written one by one, and the pair that a literal takes.
use Rattle.std.proofs.Common.{◌≡◌, ℕ, suc, ◌+◌, ◌<◌, ◌≤◌, List, [], ◌∷◌, ◌++◌, length, take, drop, map, get_or, Bool, true, false, ◌&&◌, cond, refl}
use Rattle.std.proofs.Common.{sym, ap, ◌∙◌, append_assoc, append-nil, take_all, drop_of_length-le, arith}
use Rattle.std.specs.List.{join_with_byte}
use Rattle.std.proofs.lemmas.List.{drop_more, take_more}
use Rattle.std.specs.Prelude.{◌==◌}
use Rattle.std.proofs.lemmas.Bool.{ne_eqb}
use Rattle.sm_uri.specs.UriPattern.{QueryLiteral, ampersand, question_mark}
use Rattle.sm_parts.specs.Targets.{QueryPair, written_literal, written_query}
use Rattle.sm_routes.specs.Routes.{is_pair, without_first}
use Rattle.sm_routes.specs.steps.Writing.{is_none_of, mark, marked}

joined : (piece : List ℕ) (pieces : List (List ℕ)) → piece ++ marked false pieces ≡ join_with_byte ampersand (piece ∷ pieces)
joined piece [] = append-nil piece
joined piece (next ∷ pieces) = ap (λ u. piece ++ ampersand ∷ u) (joined next pieces)

pub marked_query : (pieces : List (List ℕ)) → marked true pieces ≡ written_query pieces
marked_query [] = refl
marked_query (piece ∷ pieces) = ap (λ u. question_mark ∷ u) (joined piece pieces)

same_first : (first : Bool) → first ≡ (first && true)
same_first true = refl
same_first false = refl

not_first : (first : Bool) → false ≡ (first && false)
not_first true = refl
not_first false = refl

pub marked_both : (first : Bool) (xs ys : List (List ℕ)) → marked first (xs ++ ys) ≡ marked first xs ++ marked (first && is_none_of xs) ys
marked_both first [] ys = ap (λ b. marked b ys) (same_first first)
marked_both first (x ∷ xs) ys =
    ap (λ u. mark first ∷ (x ++ u)) (marked_both false xs ys) ∙ ap (λ u. mark first ∷ u) (sym (append_assoc x (marked false xs) (marked false ys)))
    ∙ ap (λ b. (mark first ∷ (x ++ marked false xs)) ++ marked b ys) (not_first first)

-- a piece more
pub next_piece : (out piece : List ℕ) (first : Bool) (pieces : List (List ℕ))
    → ((out ++ mark first ∷ []) ++ piece) ++ marked false pieces ≡ out ++ marked first (piece ∷ pieces)
next_piece out piece first pieces =
    append_assoc (out ++ mark first ∷ []) piece (marked false pieces) ∙ append_assoc out (mark first ∷ []) (piece ++ marked false pieces)

-- the literals, and then the pairs
none_by_len : (literals : List QueryLiteral) → (length literals == 0) ≡ is_none_of (map written_literal literals)
none_by_len [] = refl
none_by_len (l ∷ literals) = ne_eqb (suc (length literals)) 0 (λ e. omega (arith, e))

pub query_done : (out mid : List ℕ) (literals : List QueryLiteral) (pairs : List (List ℕ)) (empty : Bool)
    → mid ≡ out ++ marked true (map written_literal literals) → empty ≡ (length literals == 0)
    → mid ++ marked empty pairs ≡ out ++ written_query (map written_literal literals ++ pairs)
query_done out mid literals pairs empty h k =
    let texts = map written_literal literals in
    ap (λ m. m ++ marked empty pairs) h ∙ append_assoc out (marked true texts) (marked empty pairs)
    ∙ ap (λ b. out ++ (marked true texts ++ marked b pairs)) (k ∙ none_by_len literals)
    ∙ ap (λ u. out ++ u) (sym (marked_both true texts pairs) ∙ marked_query (texts ++ pairs))

-- none of the first so many pairs is the literal's
abbrev pub NoneTaken : QueryPair → List QueryPair → ℕ → Type 0
NoneTaken wanted pairs i = without_first wanted pairs ≡ take i pairs ++ without_first wanted (drop i pairs)

module _ (wanted : QueryPair) (pairs : List QueryPair) (i : ℕ) (pair : QueryPair) (inside : i < length pairs)
    (stood : get_or pairs i pair ≡ pair) (none : NoneTaken wanted pairs i) where
  left : drop i pairs ≡ pair ∷ drop (i + 1) pairs
  left = drop_more pairs i pair inside ∙ ap (λ p. p ∷ drop (i + 1) pairs) stood

  pub none_taken_more : is_pair wanted pair ≡ false → NoneTaken wanted pairs (i + 1)
  none_taken_more other =
      none ∙ ap (λ ps. take i pairs ++ without_first wanted ps) left
      ∙ ap (λ b. take i pairs ++ cond b (drop (i + 1) pairs) (pair ∷ without_first wanted (drop (i + 1) pairs))) other
      ∙ sym (append_assoc (take i pairs) (pair ∷ []) (without_first wanted (drop (i + 1) pairs)))
      ∙ ap (λ ps. ps ++ without_first wanted (drop (i + 1) pairs))
      (sym (take_more pairs i pair inside ∙ ap (λ p. take i pairs ++ p ∷ []) stood))

  pub taken_here : is_pair wanted pair ≡ true → without_first wanted pairs ≡ take i pairs ++ drop (i + 1) pairs
  taken_here same =
      none ∙ ap (λ ps. take i pairs ++ without_first wanted ps) left
      ∙ ap (λ b. take i pairs ++ cond b (drop (i + 1) pairs) (pair ∷ without_first wanted (drop (i + 1) pairs))) same

pub none_taken : (wanted : QueryPair) (pairs : List QueryPair) (i : ℕ) → length pairs ≤ i → NoneTaken wanted pairs i
    → without_first wanted pairs ≡ pairs
none_taken wanted pairs i h none =
    none ∙ ap (λ ps. take i pairs ++ without_first wanted ps) (drop_of_length-le pairs h) ∙ append-nil (take i pairs) ∙ take_all i pairs h
